use Rattle.std.proofs.Common.{take}
use Rattle.printf_text.specs.declared.piece.Piece.TheVariants.{Converted}
use Rattle.format_match.specs.Spelled.{EndsBehind}
use Rattle.format_ends.specs.Found.{KnowsEnds}
use Rattle.format_ends.proofs.parts.converted_ends.Given as goal

abbrev pub invariant-starts : goal.invariant-starts
invariant-starts l = record {
  ends : EndsBehind (Converted l.c) l.log (take l.from-index l.before) l.ends;
  known : KnowsEnds l.c l.log l.known;
}
