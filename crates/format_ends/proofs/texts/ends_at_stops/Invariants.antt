use Rattle.std.proofs.Common.{◌≡◌, ◌≤◌, ◌↔◌, ℕ, true, length, take, drop}
use Rattle.positions.specs.Sets.{has}
use Rattle.format_ends.specs.Reached.{EndsAtStop}
use Rattle.format_ends.proofs.texts.ends_at_stops.Given as goal

abbrev pub invariant-stops : goal.invariant-stops
invariant-stops l = record {
  within : l.passed ≤ length l.before;
  below : (q : ℕ) → has (drop l.stop-index l.stops) q ≡ true → (y : ℕ) → has (take l.passed l.before) y ≡ true → y ≤ q;
  ends : (y : ℕ) → (has l.ends y ≡ true) ↔ EndsAtStop l.log l.before (take l.stop-index l.stops) l.len y;
}
