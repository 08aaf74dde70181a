use Rattle.std.proofs.Common.{take}
use Rattle.run_formula.specs.Whole.{Guards}
use Rattle.run_formula.proofs.entering.under_guard.Given as goal

abbrev pub invariant-loop-state : goal.invariant-loop-state
invariant-loop-state l = Guards l.fn.bank l.bank l.guard (take l.state-index l.states) l.all
