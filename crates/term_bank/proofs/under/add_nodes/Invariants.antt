use Rattle.std.proofs.Common.{take}
use Rattle.term_bank.specs.Under.{Adds, numbers_of}
use Rattle.term_bank.proofs.under.add_nodes.Given as goal

abbrev pub invariant-loop-node : goal.invariant-loop-node
invariant-loop-node l = Adds l.fn.set l.set (numbers_of (take l.node-index l.nodes))
