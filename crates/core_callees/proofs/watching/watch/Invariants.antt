use Rattle.std.proofs.Common.{◌≡◌, ◌++◌, drop}
use Rattle.c_means.specs.Runs.{place_in}
use Rattle.core_callees.specs.Watching.{all_watched}
use Rattle.core_callees.proofs.watching.watch.Given as goal

abbrev pub invariant-loop-entry : goal.invariant-loop-entry
invariant-loop-entry l =
    l.all ++ all_watched (place_in l.places) (drop l.entry-index l.entries)
    ≡ l.fn.all ++ all_watched (place_in l.places) l.fn.entries
