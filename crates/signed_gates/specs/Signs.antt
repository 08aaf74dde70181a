-- Signs and magnitudes of machine words (C99 6.2.6.2).
use Rattle.std.specs.Prelude.{◌≡◌, ℕ, ◌-◌, ◌/◌, ◌%◌, ◌^◌, Bool, cond, nat_le, nat_lt, nat_eq, ℤ, pos, neg_ℤ, unsigned_abs, List, length}
use Rattle.plain_data.specs.Words.{bits, signed}
use Rattle.plain_data.specs.declared.width.Width.{Width}
use Rattle.cnf_core.specs.Truth.{Valuation}
use Rattle.gates.specs.declared.bit.Bit.{Bit}
use Rattle.gates.specs.Nets.{Net, IsModel, Grows}
use Rattle.word_gates.specs.declared.quotients.Division.{Division}
use Rattle.word_gates.specs.Spelling.{AreBits, spelled}

-- the word's sign bit is set
abbrev pub is_negative : Width → ℕ → Bool
is_negative w a = nat_le (2 ^ (bits w - 1)) a

-- how far the signed number is from 0
abbrev pub magnitude : Width → ℕ → ℕ
magnitude w a = unsigned_abs (signed w a)

-- the number, or its opposite
abbrev pub with_sign : Bool → ℕ → ℤ
with_sign b x = cond b (neg_ℤ (pos x)) (pos x)

-- 0 by 0
abbrev pub divided : ℕ → ℕ → ℕ
divided b q = cond (nat_eq b 0) 0 q

-- 0 where the shift is by the width or more
abbrev pub near : Width → ℕ → ℕ → ℕ
near w by x = cond (nat_lt by (bits w)) x 0

-- the magnitudes' quotient and remainder, both 0 by 0
pub record IsDivided (old new : Net) (w : Width) (a b : List Bit) (division : Division) : Type 0 where
  pub grows : Grows old new
  pub quotient_width : length division.quotient ≡ bits w
  pub remainder_width : length division.remainder ≡ bits w
  pub quotient_stands : AreBits new division.quotient
  pub remainder_stands : AreBits new division.remainder
  pub quotient_is : (v : Valuation) → IsModel new v → spelled v division.quotient ≡ divided (magnitude w (spelled v b)) (magnitude w (spelled v a) / magnitude w (spelled v b))
  pub remainder_is : (v : Valuation) → IsModel new v → spelled v division.remainder ≡ divided (magnitude w (spelled v b)) (magnitude w (spelled v a) % magnitude w (spelled v b))
