use Rattle.std.proofs.Common.{◌≡◌, ◌&&◌, ℕ, true, ltb}
use Rattle.positions.specs.Sets.{has, are_before}
use Rattle.format_match.specs.Beginning.{is_marked}
use Rattle.format_match.proofs.starting.marked.Given as goal

abbrev pub invariant-positions : goal.invariant-positions
invariant-positions l = record {
  below : are_before l.at l.positions ≡ true;
  has_are : (y : ℕ) → has l.positions y ≡ (ltb y l.at && is_marked l.marks y);
}
