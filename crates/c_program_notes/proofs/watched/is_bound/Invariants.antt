use Rattle.std.proofs.Common.{◌≡◌, drop}
use Rattle.c_means.specs.Programs.{is_bound}
use Rattle.c_program_notes.proofs.watched.is_bound.Given as goal

abbrev pub invariant-loop-offset : goal.invariant-loop-offset
invariant-loop-offset l =
    is_bound l.at (drop l.offset-index l.offsets) ≡ is_bound l.at l.offsets
