use Rattle.std.proofs.Common.{take, get_or}
use Rattle.std.proofs.lemmas.List.{take_more}
use Rattle.term_bank.specs.declared.sort.Node.{Node}
use Rattle.term_bank.specs.declared.sort.Sort.TheVariants.{Truth}
use Rattle.term_bank.specs.Under.{numbers_of}
use Rattle.term_bank.proofs.UnderLemmas.{adds_more, numbers_more}
use Rattle.term_bank.proofs.under.add_nodes.Goals as goal

pub loop-node-preserved : goal.loop-node-preserved
loop-node-preserved c =
    let i = c.loop-node.node-index in
    let xs = c.args.nodes.now in
    let d : Node = record { index = 0; sort = Truth } in
    rw (take_more xs i d c.loop-node-test.true, numbers_more (take i xs) (get_or xs i d)) (adds_more c.args.set.now c.loop-node.set c.insert.new.self (numbers_of (take i xs)) (get_or xs i d).index c.loop-node.invariant c.in_ok-insert.ensures.updates)
