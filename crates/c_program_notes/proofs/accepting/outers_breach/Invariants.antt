use Rattle.std.proofs.Common.{◌≡◌, ◌≤◌, drop, length}
use Rattle.c_program_notes.specs.Refused.{outers_least}
use Rattle.c_program_notes.proofs.accepting.outers_breach.Given as goal

abbrev pub invariant-outers : goal.invariant-outers
invariant-outers l =
    (l.left ≤ length l.outers) × (l.least ≡ outers_least l.named l.scope l.words (drop l.left l.outers))

abbrev pub decreases-outers : goal.decreases-outers
decreases-outers l = l.left
