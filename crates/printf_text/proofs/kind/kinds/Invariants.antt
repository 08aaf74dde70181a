use Rattle.std.proofs.Common.{◌≡◌, ◌++◌, drop}
use Rattle.printf_text.specs.Texts.{kinds}
use Rattle.printf_text.proofs.kind.kinds.Given as goal

abbrev pub invariant-loop-piece : goal.invariant-loop-piece
invariant-loop-piece l = l.all ++ kinds (drop l.piece-index l.piece-items) ≡ kinds l.fn.pieces
