-- Rows of a table of inputs: a key, and the inputs that stand for what is found there.
use Rattle.std.specs.Prelude.{◌≡◌, ◌*◌, ◌%◌, ◌^◌, ℕ, Bool, true, cond, List, [], ◌∷◌, Some, ◌⊎◌, length, nat_eq}
use Rattle.std.specs.List.{list_all}
use Rattle.std.specs.HashMap.{HashMap, get}
use Rattle.std.specs.declared.hash.FoldHasher.{FoldHasher}
use Rattle.std.specs.declared.hash.BuildHasherDefault.{BuildHasherDefault}
use Rattle.cnf_core.specs.Truth.{Valuation}
use Rattle.gates.specs.declared.bit.Bit.{Bit}
use Rattle.gates.specs.Nets.{Net, IsModel, Grows, bit_holds}
use Rattle.word_gates.specs.Spelling.{AreBits, IsInputWord, number, spelled}
use Rattle.input_tables.specs.declared.row.Row.{Row}

abbrev pub Member : Row → List Row → Type 0
Member x [] = ⊥
Member x (y ∷ ys) = (x ≡ y) ⊎ Member x ys

-- the key has 64 bits and the value n, all of the net
pub record IsRow (net : Net) (n : ℕ) (row : Row) : Type 0 where
  pub key_width : length row.key ≡ 64
  pub value_width : length row.value ≡ n
  pub key_stands : AreBits net row.key
  pub value_stands : AreBits net row.value

-- the row has what the function gives at its key, modulo 2^n
pub record Follows (v : Valuation) (n : ℕ) (f : ℕ → ℕ) (row : Row) : Type 0 where
  pub is : f (spelled v row.key) % 2 ^ n ≡ spelled v row.value

abbrev pub AllFollow : Valuation → ℕ → (ℕ → ℕ) → List Row → Type 0
AllFollow v n f rows = (row : Row) → Member row rows → Follows v n f row

-- two rows have one value where they have one key
pub record AreAlike (v : Valuation) (x y : Row) : Type 0 where
  pub same : spelled v x.key ≡ spelled v y.key → spelled v x.value ≡ spelled v y.value

-- each bit is true
abbrev pub all_hold : Valuation → List Bit → Bool
all_hold v bits = list_all (bit_holds v) bits

-- new inputs at the key
pub record IsNewRow (old new : Net) (key : List Bit) (n : ℕ) (row : Row) : Type 0 where
  pub at : row.key ≡ key
  pub inputs : IsInputWord old new n row.value

-- Conditions are added that are true where the row and each of others have one value if they have one key.
pub record Constrains (old new : Net) (rows : List Row) (row : Row) (before after : List Bit) : Type 0 where
  pub grows : Grows old new
  pub stand : AreBits new after
  pub hold : (v : Valuation) → IsModel new v → all_hold v before ≡ true → ((x : Row) → Member x rows → AreAlike v x row) → all_hold v after ≡ true
  pub held : (v : Valuation) → IsModel new v → all_hold v after ≡ true → all_hold v before ≡ true
  pub alike : (v : Valuation) → IsModel new v → all_hold v after ≡ true → (x : Row) → Member x rows → AreAlike v x row

-- ---- known keys

-- the word is this number in each valuation
pub record IsKnownAs (word : List Bit) (k : ℕ) : Type 0 where
  pub is : (v : Valuation) → spelled v word ≡ k

-- the bit at this place is worth this in each valuation
pub record IsPart (bit : Bit) (place k : ℕ) : Type 0 where
  pub is : (v : Valuation) → k ≡ 2 ^ place * number (bit_holds v bit)

abbrev pub Index : Type 0
Index = HashMap ℕ ℕ (BuildHasherDefault FoldHasher)

-- a key is now met at a place
abbrev pub Puts : Index → Index → ℕ → ℕ → Type 0
Puts old new key place = (q : ℕ) → get nat_eq new q ≡ cond (nat_eq key q) (Some place) (get nat_eq old q)
