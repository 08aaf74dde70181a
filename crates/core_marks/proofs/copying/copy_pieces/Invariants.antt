use Rattle.std.proofs.Common.{◌≡◌, take}
use Rattle.core_marks.proofs.copying.copy_pieces.Given as goal

abbrev pub invariant-pieces : goal.invariant-pieces
invariant-pieces l = l.copy ≡ take l.piece-index l.pieces
