use Rattle.std.proofs.Common.{length}
use Rattle.printf_text.specs.Pieces.{pieces_of}
use Rattle.printf_text.proofs.Parsing.{IsReading}
use Rattle.printf_text.proofs.parse.parse_format.Given as goal

abbrev pub invariant-pieces : goal.invariant-pieces
invariant-pieces l = IsReading (length l.text) (pieces_of l.fn.bytes) l.pieces l.left l.rest

abbrev pub decreases-pieces : goal.decreases-pieces
decreases-pieces l = length l.rest
