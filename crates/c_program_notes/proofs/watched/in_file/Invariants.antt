use Rattle.std.proofs.Common.{◌≡◌, ◌≤◌, drop, length}
use Rattle.c_means.specs.Programs.{in_file}
use Rattle.c_program_notes.proofs.watched.in_file.Given as goal

abbrev pub invariant-words : goal.invariant-words
invariant-words l =
    (l.left ≤ length l.words) × (l.entries ≡ in_file l.scope (drop l.left l.words))

abbrev pub decreases-words : goal.decreases-words
decreases-words l = l.left
