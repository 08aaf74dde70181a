use Rattle.std.proofs.Common.{◌≡◌, ◌&&◌, ℕ, true, ltb}
use Rattle.positions.specs.Sets.{has, are_before}
use Rattle.format_match.specs.Spelled.{goes_on, may_end}
use Rattle.format_match.proofs.ending.texts_behind.Given as goal

abbrev pub invariant-positions : goal.invariant-positions
invariant-positions l = record {
  goes : l.goes_on ≡ goes_on l.before l.log l.at;
  below : are_before l.at l.ends ≡ true;
  ends : (y : ℕ) → has l.ends y ≡ (ltb y l.at && may_end l.before l.log y);
}
