use Rattle.std.proofs.Common.{◌≡◌, ◌≤◌, drop, length}
use Rattle.c_program_notes.specs.Refused.{functions_least}
use Rattle.c_program_notes.proofs.accepting.functions_breach.Given as goal

abbrev pub invariant-functions : goal.invariant-functions
invariant-functions l =
    (l.left ≤ length l.functions) × (l.least ≡ functions_least l.named (drop l.left l.functions))

abbrev pub decreases-functions : goal.decreases-functions
decreases-functions l = l.left
