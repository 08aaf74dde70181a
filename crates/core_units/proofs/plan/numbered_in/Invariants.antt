use Rattle.std.proofs.Common.{◌≡◌, ◌++◌, drop}
use Rattle.core_units.specs.Overviews.{numbers_noted}
use Rattle.core_units.proofs.plan.numbered_in.Given as goal

abbrev pub invariant-loop-outer : goal.invariant-loop-outer
invariant-loop-outer l =
    l.numbering.functions
    ++ numbers_noted l.overview.reached l.numbering.next l.numbering.other (drop l.outer-index l.outers)
    ≡ numbers_noted l.overview.reached 0 l.other l.outers
