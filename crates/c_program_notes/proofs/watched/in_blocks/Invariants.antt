use Rattle.std.proofs.Common.{◌≡◌, ◌≤◌, drop, length}
use Rattle.c_program_notes.specs.Watched.{in_blocks}
use Rattle.c_program_notes.proofs.watched.in_blocks.Given as goal

abbrev pub invariant-notes : goal.invariant-notes
invariant-notes l =
    (l.left ≤ length l.notes) × (l.entries ≡ in_blocks (drop l.left l.notes) l.bound l.fn.entries)

abbrev pub decreases-notes : goal.decreases-notes
decreases-notes l = l.left
