use Rattle.std.specs.Int.{w128}
use Rattle.std.proofs.lemmas.Int.{to_z-of_z}
use Rattle.path_numbers.proofs.Nodes.{numbered_constant}
use Rattle.path_numbers.proofs.conversions.constant.Goals as goal

pub returns : goal.returns
returns c =
    let e = to_z-of_z w128 c.args.value c.ranges.value in
    numbered_constant c.args.bank.now c.word.new.self c.word_type_for-word.result c.in_ok-node.node c.wrap.result c.args.value
    (rw e at c.word_type_for-word.ensures) (rw e at c.wrap.ensures.value) c.in_ok-node.ensures
