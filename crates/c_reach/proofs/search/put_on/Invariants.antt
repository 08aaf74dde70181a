use Rattle.std.proofs.Common.{◌≡◌, ◌≤◌, ◌++◌, drop, length}
use Rattle.c_reach.proofs.search.put_on.Given as goal

abbrev pub invariant-put : goal.invariant-put
invariant-put l = (l.left ≤ length l.names) × (l.todo ≡ drop l.left l.names ++ l.fn.todo)

abbrev pub decreases-put : goal.decreases-put
decreases-put l = l.left
