use Rattle.std.proofs.Common.{◌≡◌, ◌-◌, ◌≤◌, ℕ, true, length, take}
use Rattle.positions.specs.Sets.{has}
use Rattle.format_ends.proofs.texts.passed_at.Given as goal

abbrev pub invariant-passed : goal.invariant-passed
invariant-passed l = record {
  within : l.passed ≤ length l.before;
  below : (y : ℕ) → has (take l.passed l.before) y ≡ true → y ≤ l.stop;
}

abbrev pub decreases-passed : goal.decreases-passed
decreases-passed l = length l.before - l.passed
