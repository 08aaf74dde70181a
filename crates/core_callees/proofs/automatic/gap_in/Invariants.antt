use Rattle.std.proofs.Common.{◌≡◌, drop}
use Rattle.core_callees.specs.Watching.{gap_from}
use Rattle.core_callees.proofs.automatic.gap_in.Given as goal

abbrev pub invariant-loop-entry : goal.invariant-loop-entry
invariant-loop-entry l =
    (l.index ≡ l.entry-index) × (gap_from l.index l.at (drop l.entry-index l.found) ≡ gap_from 0 l.at l.found)
