use Rattle.std.proofs.Common.{take}
use Rattle.c_means.specs.Units.{limits_of}
use Rattle.run_formula.specs.Whole.{EntersAll}
use Rattle.run_formula.proofs.entering.enter_all.Given as goal

abbrev pub invariant-loop-state : goal.invariant-loop-state
invariant-loop-state l = EntersAll l.core.has_arguments (limits_of l.bounds) l.fn.bank l.bank l.summary l.place (take l.state-index l.states) l.all
