use Rattle.std.proofs.Common.{◌≡◌, ◌≤◌, ◌<◌, ℕ, get_or}
use Rattle.proof_check.specs.declared.marks.Stamps.{Stamps}
use Rattle.proof_check.proofs.marks.Marks.wipe.Given as goal

abbrev pub invariant-loop-index : goal.invariant-loop-index
invariant-loop-index l = record {
  room : l.self.variables.items ≡ l.fn.self.variables.items;
  wiped : (k : ℕ) (d : Stamps) → k < l.index → ((get_or l.self.stamps.items k d).positive ≤ 0) × ((get_or l.self.stamps.items k d).negative ≤ 0);
}
