use Rattle.std.proofs.Common.{◌≡◌, ◌≤◌, drop, length}
use Rattle.c_program_notes.specs.Refused.{lasting_least}
use Rattle.c_program_notes.proofs.accepting.lasting_breach.Given as goal

abbrev pub invariant-notes : goal.invariant-notes
invariant-notes l =
    (l.left ≤ length l.notes) × (l.least ≡ lasting_least l.scope (drop l.left l.notes))

abbrev pub decreases-notes : goal.decreases-notes
decreases-notes l = l.left
