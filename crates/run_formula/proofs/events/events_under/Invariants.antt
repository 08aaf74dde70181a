use Rattle.std.proofs.Common.{length}
use Rattle.term_bank.specs.Shapes.{Each, IsNode}
use Rattle.run_formula.proofs.events.events_under.Given as goal

abbrev pub invariant-loop-state : goal.invariant-loop-state
invariant-loop-state l = Each (IsNode l.bank) l.roots

abbrev pub invariant-numbers : goal.invariant-numbers
invariant-numbers l = Unit {0}

abbrev pub decreases-numbers : goal.decreases-numbers
decreases-numbers l = length l.under
