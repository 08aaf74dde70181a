use Rattle.std.proofs.Common.{◌≡◌, ◌<◌, ℕ, vec_len, get_or}
use Rattle.cdcl.proofs.tally.Tally.renumber.Given as goal

abbrev pub invariant-loop-index : goal.invariant-loop-index
invariant-loop-index l = record {
  none : (v : ℕ) → v < l.index → get_or l.self.last.items v 0 ≡ 0;
  size : vec_len l.self.last ≡ vec_len l.fn.self.last;
  marks : l.self.marks ≡ l.fn.self.marks;
}
