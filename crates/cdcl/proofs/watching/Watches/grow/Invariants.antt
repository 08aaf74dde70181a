use Rattle.std.proofs.Common.{◌≡◌, ◌≤◌, ◌*◌, ℕ, vec_len}
use Rattle.cdcl.specs.Watches.{waiting}
use Rattle.cdcl.proofs.watching.Watches.grow.Given as goal

abbrev pub invariant-loop-list : goal.invariant-loop-list
invariant-loop-list l = record {
  lists : vec_len l.self.lists ≡ l._list;
  within : l._list ≤ 2 * l.room;
  waits : (k : ℕ) → waiting l.self k ≡ waiting l.fn.self k;
  given : l.self.given ≡ l.fn.self.given;
  learnt : l.self.learnt ≡ l.fn.self.learnt;
}
