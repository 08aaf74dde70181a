use Rattle.std.proofs.Common.{◌≡◌, ◌≤◌, drop, length, reverse}
use Rattle.c_reach.proofs.search.named_functions.Given as goal

abbrev pub invariant-named : goal.invariant-named
invariant-named l = (l.left ≤ length l.functions) × (l.named ≡ reverse (drop l.left l.functions))

abbrev pub decreases-named : goal.decreases-named
decreases-named l = l.left
