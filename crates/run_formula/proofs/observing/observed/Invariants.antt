use Rattle.std.proofs.Common.{take}
use Rattle.run_formula.specs.Sighted.{AreObserved}
use Rattle.run_formula.proofs.observing.observed.Given as goal

abbrev pub invariant-lists : goal.invariant-lists
invariant-lists l = AreObserved l.bank l.place (take l.index l.lists) (take l.index l.truths) l.all
