use Rattle.std.proofs.Common.{◌≡◌, drop}
use Rattle.core_units.specs.Overviews.{count_noted}
use Rattle.core_units.proofs.plan.count_in.Given as goal

abbrev pub invariant-loop-outer : goal.invariant-loop-outer
invariant-loop-outer l =
    count_noted l.overview.reached l.count (drop l.outer-index l.outers) ≡ count_noted l.overview.reached 0 l.outers
