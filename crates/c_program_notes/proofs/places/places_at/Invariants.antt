use Rattle.std.proofs.Common.{◌≡◌, ◌++◌, drop, map}
use Rattle.c_means.specs.Runs.{place_in}
use Rattle.c_program_notes.proofs.places.places_at.Given as goal

abbrev pub invariant-loop-offset : goal.invariant-loop-offset
invariant-loop-offset l =
    l.places ++ map (place_in l.table) (drop l.offset-index l.offsets) ≡ map (place_in l.table) l.offsets
