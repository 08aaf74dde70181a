use Rattle.std.proofs.Common.{◌≡◌, ◌≤◌, ℕ, true, drop, length}
use Rattle.positions.specs.Sets.{has}
use Rattle.positions.proofs.merging.index_of.Given as goal

abbrev pub invariant-back : goal.invariant-back
invariant-back l = record {
  within : l.index ≤ length l.xs;
  behind : (y : ℕ) → has (drop l.index l.xs) y ≡ true → l.position ≤ y;
}

abbrev pub decreases-back : goal.decreases-back
decreases-back l = l.index
