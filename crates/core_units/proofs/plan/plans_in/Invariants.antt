use Rattle.std.proofs.Common.{◌≡◌, ◌++◌, drop, map}
use Rattle.core_units.specs.Overviews.{plan_noted}
use Rattle.core_units.proofs.plan.plans_in.Given as goal

abbrev pub invariant-loop-outer : goal.invariant-loop-outer
invariant-loop-outer l =
    l.plans ++ map (plan_noted l.overview) (drop l.outer-index l.outers) ≡ map (plan_noted l.overview) l.outers
