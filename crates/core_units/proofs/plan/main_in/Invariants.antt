use Rattle.std.proofs.Common.{◌≡◌, drop}
use Rattle.core_units.specs.Overviews.{main_takes_two}
use Rattle.core_units.proofs.plan.main_in.Given as goal

abbrev pub invariant-loop-outer : goal.invariant-loop-outer
invariant-loop-outer l = main_takes_two (drop l.outer-index l.outers) ≡ main_takes_two l.outers
