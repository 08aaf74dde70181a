use Rattle.std.proofs.Common.{take}
use Rattle.printf_text.specs.declared.piece.Piece.TheVariants.{Literal}
use Rattle.format_match.specs.Spelled.{EndsBehind}
use Rattle.format_ends.proofs.literals.literal_ends.Given as goal

abbrev pub invariant-starts : goal.invariant-starts
invariant-starts l = EndsBehind (Literal l.bytes) l.log (take l.from-index l.before) l.ends
