use Rattle.std.proofs.Common.{◌≡◌, ◌&&◌, ℕ, ltb, drop}
use Rattle.positions.specs.Sets.{has}
use Rattle.format_match.specs.Splits.{begins}
use Rattle.format_ends.proofs.literals.stops_of.Given as goal

abbrev pub invariant-positions : goal.invariant-positions
invariant-positions l = (y : ℕ) → has l.stops y ≡ (ltb y l.at && begins l.bytes (drop y l.log))
