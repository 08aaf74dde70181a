use Rattle.std.proofs.Common.{ap}
use Rattle.core_tree.specs.declared.types.WordType.{WordType}
use Rattle.path_states.specs.declared.state.Number.{Number}
use Rattle.path_summaries.proofs.Walked.{enters_one}
use Rattle.path_summaries.proofs.walking.enter_one.Goals as goal

pub returns : goal.returns
returns c =
    let number : WordType → Number = λ w. record { node = c.in_ok-node.node; word = w } in
    enters_one c.args.bank.now _ c.args.stored c.args.number c.in_ok-node.node (number c.word_type_of-word.result)
    (c.is_scalar.ensures c.if-not-is_scalar.false) (rw c.word_type_of-word.ensures at c.in_ok-node.ensures)
    (ap number c.word_type_of-word.ensures)
