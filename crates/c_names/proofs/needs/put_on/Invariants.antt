use Rattle.std.proofs.Common.{◌≡◌, ◌≤◌, ◌++◌, drop, length}
use Rattle.c_names.proofs.needs.put_on.Given as goal

abbrev pub invariant-put : goal.invariant-put
invariant-put l = (l.left ≤ length l.words) × (l.todo ≡ drop l.left l.words ++ l.fn.todo)

abbrev pub decreases-put : goal.decreases-put
decreases-put l = l.left
