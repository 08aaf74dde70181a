use Rattle.std.proofs.Common.{◌≡◌, ◌≤◌, drop, length}
use Rattle.c_names.specs.Needs.{with_all_uses}
use Rattle.c_names.proofs.needs.put_uses.Given as goal

abbrev pub invariant-outers : goal.invariant-outers
invariant-outers l = (l.left ≤ length l.outers) × (l.todo ≡ with_all_uses l.word (drop l.left l.outers) l.fn.todo)

abbrev pub decreases-outers : goal.decreases-outers
decreases-outers l = l.left
