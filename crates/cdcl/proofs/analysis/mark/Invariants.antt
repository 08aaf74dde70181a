use Rattle.std.proofs.Common.{◌≡◌, ℕ, take, vec_len, ◌||◌}
use Rattle.cdcl.specs.Trails.{seen_at, names}
use Rattle.cdcl.proofs.analysis.mark.Given as goal

abbrev pub invariant-loop-literal : goal.invariant-loop-literal
invariant-loop-literal l = record {
  room : vec_len l.seen ≡ vec_len l.fn.seen;
  marks : (v : ℕ) → seen_at l.seen.items v ≡ (seen_at l.fn.seen.items v || names v (take l.literal-index l.clause));
}
