use Rattle.std.proofs.Common.{◌≡◌, ◌≤◌, ◌++◌, drop, length}
use Rattle.c_names.proofs.offsets.put_on.Given as goal

abbrev pub invariant-put : goal.invariant-put
invariant-put l = (l.left ≤ length l.offsets) × (l.stack ≡ drop l.left l.offsets ++ l.fn.stack)

abbrev pub decreases-put : goal.decreases-put
decreases-put l = l.left
