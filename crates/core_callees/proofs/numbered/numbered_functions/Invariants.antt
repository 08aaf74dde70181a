use Rattle.std.proofs.Common.{◌≡◌, ◌≤◌, drop, length, reverse}
use Rattle.core_callees.proofs.numbered.numbered_functions.Given as goal

abbrev pub invariant-named : goal.invariant-named
invariant-named l = (l.left ≤ length l.functions) × (l.named ≡ reverse (drop l.left l.functions))

abbrev pub decreases-named : goal.decreases-named
decreases-named l = l.left
