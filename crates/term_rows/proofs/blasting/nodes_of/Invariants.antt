use Rattle.term_bank.specs.Shapes.{Each, IsNode}
use Rattle.term_rows.proofs.blasting.nodes_of.Given as goal

abbrev pub invariant-numbers : goal.invariant-numbers
invariant-numbers l = Each (IsNode l.bank) l.nodes
