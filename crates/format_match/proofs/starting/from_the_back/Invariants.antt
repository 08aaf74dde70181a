use Rattle.std.proofs.Common.{drop, ◌≤◌, length}
use Rattle.format_match.specs.Beginning.{AreOnward}
use Rattle.format_match.proofs.starting.from_the_back.Given as goal

abbrev pub invariant-pieces : goal.invariant-pieces
invariant-pieces l = record {
  within : l.index ≤ length l.pieces;
  are : AreOnward (drop l.index l.pieces) l.log l.onward.any.items l.onward.some.items;
}

abbrev pub decreases-pieces : goal.decreases-pieces
decreases-pieces l = l.index
