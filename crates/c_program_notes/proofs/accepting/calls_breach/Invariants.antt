use Rattle.std.proofs.Common.{◌≡◌, ◌≤◌, drop, length}
use Rattle.c_program_notes.specs.Refused.{calls_least}
use Rattle.c_program_notes.proofs.accepting.calls_breach.Given as goal

abbrev pub invariant-calls : goal.invariant-calls
invariant-calls l =
    (l.left ≤ length l.calls) × (l.least ≡ calls_least l.named (drop l.left l.calls))

abbrev pub decreases-calls : goal.decreases-calls
decreases-calls l = l.left
