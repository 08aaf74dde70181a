use Rattle.std.proofs.Common.{◌≡◌, drop}
use Rattle.core_programs.specs.Offsets.{offsets_from, offsets_in}
use Rattle.c_program_notes.proofs.places.gathered.Given as goal

abbrev pub invariant-loop-offset : goal.invariant-loop-offset
invariant-loop-offset l =
    offsets_from l.set.keys (drop l.offset-index l.offsets) ≡ offsets_in l.fn.offsets
