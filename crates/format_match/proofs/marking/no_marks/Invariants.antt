use Rattle.std.proofs.Common.{◌≡◌, ℕ, false, length, vec_len}
use Rattle.format_match.specs.Beginning.{is_marked}
use Rattle.format_match.proofs.marking.no_marks.Given as goal

abbrev pub invariant-positions : goal.invariant-positions
invariant-positions l = record {
  len : length l.marks.items ≡ l._position;
  vec : vec_len l.marks ≡ l._position;
  none : (y : ℕ) → is_marked l.marks.items y ≡ false;
}
