use Rattle.std.proofs.Common.{◌≡◌, ℕ, false, length, take, get_or, vec_len}
use Rattle.positions.specs.Sets.{has}
use Rattle.format_match.proofs.ending.marks_of.Given as goal

abbrev pub invariant-positions : goal.invariant-positions
invariant-positions l = record {
  len : length l.marks.items ≡ l._position;
  vec : vec_len l.marks ≡ l._position;
  none : (y : ℕ) → get_or l.marks.items y false ≡ false;
}

abbrev pub invariant-marked : goal.invariant-marked
invariant-marked l = record {
  len : length l.marks.items ≡ l.len;
  vec : vec_len l.marks ≡ l.len;
  marks : (y : ℕ) → get_or l.marks.items y false ≡ has (take l.position-index l.before) y;
}
