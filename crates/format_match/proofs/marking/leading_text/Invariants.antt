use Rattle.std.proofs.Common.{◌≡◌, ◌≤◌, ◌+◌, length, vec_len}
use Rattle.printf_text.specs.declared.piece.Flags.{Flags}
use Rattle.printf_text.specs.declared.piece.Piece.TheVariants.{Converted}
use Rattle.format_match.specs.Beginning.{Leads}
use Rattle.format_match.specs.Spelled.{plain_text}
use Rattle.format_match.proofs.Markings.{AreFrom}
use Rattle.format_match.proofs.marking.leading_text.Given as goal

abbrev pub invariant-positions : goal.invariant-positions
invariant-positions l = record {
  within : l.at ≤ length l.log + 1;
  vec : vec_len l.before ≡ length l.log + 1;
  are : (flags : Flags) → AreFrom (λ y. Leads (Converted (plain_text flags)) l.log l.marks 0 y) l.at (length l.log + 1) l.before.items;
}

abbrev pub decreases-positions : goal.decreases-positions
decreases-positions l = l.at
