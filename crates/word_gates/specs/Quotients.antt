-- Division of words.
use Rattle.std.specs.Prelude.{◌≡◌, ◌<◌, ◌+◌, ◌*◌, ◌/◌, ◌%◌, ℕ, cond, length, nat_eq, List}
use Rattle.cnf_core.specs.Truth.{Valuation}
use Rattle.gates.specs.declared.bit.Bit.{Bit}
use Rattle.gates.specs.Nets.{Net, IsModel, Grows, bit_holds}
use Rattle.word_gates.specs.declared.quotients.Division.{Division}
use Rattle.word_gates.specs.Spelling.{AreBits, number, spelled}

-- x is q times d and r, which is less than d
pub record Divides (x d q r : ℕ) : Type 0 where
  pub whole : x ≡ q * d + r
  pub less : r < d

-- the new division is of a number with one more bit below
pub record DividesOn (old new : Net) (before : Division) (bit : Bit) (divisor : List Bit) (after : Division) : Type 0 where
  pub grows : Grows old new
  pub quotient_width : length after.quotient ≡ length before.quotient + 1
  pub remainder_width : length after.remainder ≡ length divisor
  pub quotient_stands : AreBits new after.quotient
  pub remainder_stands : AreBits new after.remainder
  pub means : (v : Valuation) → IsModel new v → (x : ℕ) → Divides x (spelled v divisor) (spelled v before.quotient) (spelled v before.remainder) → Divides (number (bit_holds v bit) + 2 * x) (spelled v divisor) (spelled v after.quotient) (spelled v after.remainder)

-- a quotient and a remainder where the divisor isn't 0
pub record IsQuotient (old new : Net) (a b : List Bit) (division : Division) : Type 0 where
  pub grows : Grows old new
  pub quotient_width : length division.quotient ≡ length a
  pub remainder_width : length division.remainder ≡ length a
  pub quotient_stands : AreBits new division.quotient
  pub remainder_stands : AreBits new division.remainder
  pub means : (v : Valuation) → IsModel new v → 0 < spelled v b → Divides (spelled v a) (spelled v b) (spelled v division.quotient) (spelled v division.remainder)

-- a quotient and a remainder, both 0 where the divisor is 0
pub record IsDivision (old new : Net) (a b : List Bit) (division : Division) : Type 0 where
  pub grows : Grows old new
  pub quotient_width : length division.quotient ≡ length a
  pub remainder_width : length division.remainder ≡ length a
  pub quotient_stands : AreBits new division.quotient
  pub remainder_stands : AreBits new division.remainder
  pub quotient_is : (v : Valuation) → IsModel new v → spelled v division.quotient ≡ cond (nat_eq (spelled v b) 0) 0 (spelled v a / spelled v b)
  pub remainder_is : (v : Valuation) → IsModel new v → spelled v division.remainder ≡ cond (nat_eq (spelled v b) 0) 0 (spelled v a % spelled v b)
