use Rattle.std.proofs.Common.{◌≡◌, take}
use Rattle.log_language.proofs.told.copy_pieces.Given as goal

abbrev pub invariant-pieces : goal.invariant-pieces
invariant-pieces l = l.copies ≡ take l.piece-index l.pieces
