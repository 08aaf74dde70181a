use Rattle.std.proofs.Common.{◌≡◌, ◌<◌, ℕ, true}
use Rattle.positions.specs.Sets.{has}
use Rattle.log_expr.specs.Flows.{Wider}
use Rattle.log_expr.proofs.calls.put_all_positions.Given as goal

abbrev pub invariant-positions : goal.invariant-positions
invariant-positions l = record {
  old : Wider l.fn.to l.to;
  here : has l.to l.from ≡ true;
  below : (y : ℕ) → y < l.position → has l.to y ≡ true;
}
