use Rattle.std.proofs.Common.{take}
use Rattle.format_ends.specs.Found.{AreParts}
use Rattle.format_ends.proofs.parts.parts_of.Given as goal

abbrev pub invariant-pieces : goal.invariant-pieces
invariant-pieces l = AreParts (take l.piece-index l.pieces) l.log l.parts.items
