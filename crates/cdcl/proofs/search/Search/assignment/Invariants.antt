use Rattle.std.proofs.Common.{◌≡◌, ◌<◌, ◌*◌, ℕ, vec_len, get_or, false}
use Rattle.cdcl.proofs.search.Search.assignment.Given as goal

abbrev pub invariant-loop-variable : goal.invariant-loop-variable
invariant-loop-variable l = record {
  size : vec_len l.values ≡ l.variable;
  same : (v : ℕ) → v < l.variable → get_or l.values.items v false ≡ get_or l.self.trail.taken.items (2 * v) false;
}
