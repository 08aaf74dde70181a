-- Words xs lists of bits, the lowest first.
use Rattle.std.specs.Prelude.{◌≡◌, ◌<◌, ◌+◌, ◌-◌, ◌*◌, ◌^◌, ℕ, Bool, cond, ◌&&◌, ◌||◌, List, [], ◌∷◌, map, length}
use Rattle.std.specs.List.{All}
use Rattle.cnf_core.specs.Truth.{Valuation}
use Rattle.gates.specs.declared.bit.Bit.{Bit}
use Rattle.gates.specs.Nets.{Net, IsModel, Extension, Grows, IsBit, bit_holds, exclusive}
use Rattle.word_gates.specs.declared.operators.BitOperator.{BitOperator}
use Rattle.word_gates.specs.declared.operators.BitOperator.TheVariants.{And, Or, Xor}

abbrev pub number : Bool → ℕ
number b = cond b 1 0

-- the number that truth values spell
abbrev pub number_of : List Bool → ℕ
number_of [] = 0
number_of (b ∷ bs) = number b + 2 * number_of bs

abbrev pub truths : Valuation → List Bit → List Bool
truths v word = map (bit_holds v) word

-- the number that a word's bits spell
abbrev pub spelled : Valuation → List Bit → ℕ
spelled v word = number_of (truths v word)

abbrev pub AreBits : Net → List Bit → Type 0
AreBits net word = All (IsBit net) word

-- so many bits have these truth values in each model
pub record HasTruths (old new : Net) (n : ℕ) (f : Valuation → List Bool) (word : List Bit) : Type 0 where
  pub width : length word ≡ n
  pub grows : Grows old new
  pub stand : AreBits new word
  pub means : (v : Valuation) → IsModel new v → truths v word ≡ f v

-- so many bits spell this number in each model
pub record IsWord (old new : Net) (n : ℕ) (f : Valuation → ℕ) (word : List Bit) : Type 0 where
  pub width : length word ≡ n
  pub grows : Grows old new
  pub stand : AreBits new word
  pub means : (v : Valuation) → IsModel new v → spelled v word ≡ f v

-- the bits are free: each model extends to one in which they spell any number that fits
pub record IsInputWord (old new : Net) (n : ℕ) (word : List Bit) : Type 0 where
  pub width : length word ≡ n
  pub grows : Grows old new
  pub stand : AreBits new word
  pub free : (v : Valuation) (x : ℕ) → IsModel old v → x < 2 ^ n → (e : Extension new (old.count + 1) v) × (spelled e.model word ≡ x)

-- ---- bitwise operators

abbrev pub connected : BitOperator → Bool → Bool → Bool
connected And a b = a && b
connected Or a b = a || b
connected Xor a b = exclusive a b

-- the operator on each two truth values
abbrev pub each_two : BitOperator → List Bool → List Bool → List Bool
each_two op [] ys = []
each_two op (a ∷ xs) [] = []
each_two op (a ∷ xs) (b ∷ ys) = connected op a b ∷ each_two op xs ys

-- ---- shifts

-- a number of n bits, or the number that their opposites spell
abbrev pub flipped : ℕ → Bool → ℕ → ℕ
flipped n b x = cond b (2 ^ n - 1 - x) x
