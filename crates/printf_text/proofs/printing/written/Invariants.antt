use Rattle.std.proofs.Common.{drop}
use Rattle.printf_text.specs.Texts.{text_of}
use Rattle.printf_text.proofs.Writing.{IsWritten}
use Rattle.printf_text.proofs.printing.written.Given as goal

abbrev pub invariant-loop-piece : goal.invariant-loop-piece
invariant-loop-piece l = IsWritten (text_of l.fn.pieces l.fn.args) (drop l.piece-index l.piece-items) l.out l.rest
