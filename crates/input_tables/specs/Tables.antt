-- Tables of inputs, and what it is to look a key up.
use Rattle.std.specs.Prelude.{◌≡◌, ◌+◌, ◌%◌, ◌^◌, ◌++◌, ℕ, true, List, [], Some, length, nat_eq, slice_get}
use Rattle.std.specs.HashMap.{get}
use Rattle.cnf_core.specs.Truth.{Valuation}
use Rattle.gates.specs.declared.bit.Bit.{Bit}
use Rattle.gates.specs.Nets.{Net, IsModel, Extension, Grows}
use Rattle.word_gates.specs.Spelling.{AreBits, spelled}
use Rattle.input_tables.specs.declared.row.Row.{Row}
use Rattle.input_tables.specs.declared.table.Table.{Table}
use Rattle.input_tables.specs.Rows.{Index, Member, IsRow, AllFollow, AreAlike, IsKnownAs, all_hold}

abbrev pub rows_of : Table → List Row
rows_of t = t.fixed ++ t.free

-- no row
pub record IsEmpty (bits : ℕ) (t : Table) : Type 0 where
  pub width : t.bits ≡ bits
  pub fixed : t.fixed ≡ []
  pub free : t.free ≡ []
  pub conditions : t.conditions ≡ []
  pub index : t.index.entries ≡ []

-- the row's key is known, and met at this place
pub record IsFixedAt (index : Index) (place : ℕ) (row : Row) : Type 0 where
  pub key : ℕ
  pub known : IsKnownAs row.key key
  pub found : get nat_eq index key ≡ Some place

-- the row at this place has this known key
pub record HasKnown (rows : List Row) (key place : ℕ) : Type 0 where
  pub row : Row
  pub at : slice_get rows place ≡ Some row
  pub known : IsKnownAs row.key key

-- The conditions are true where the rows are those of one function, and where they are true, rows with one key have one
-- value.
pub record IsTable (net : Net) (t : Table) : Type 0 where
  pub rows : (row : Row) → Member row (rows_of t) → IsRow net t.bits row
  pub fixed : (i : ℕ) (row : Row) → slice_get t.fixed i ≡ Some row → IsFixedAt t.index i row
  pub found : (key place : ℕ) → get nat_eq t.index key ≡ Some place → HasKnown t.fixed key place
  pub conditions_stand : AreBits net t.conditions
  pub hold : (v : Valuation) (f : ℕ → ℕ) → IsModel net v → AllFollow v t.bits f (rows_of t) → all_hold v t.conditions ≡ true
  pub alike : (v : Valuation) → IsModel net v → all_hold v t.conditions ≡ true → (x y : Row) → Member x (rows_of t) → Member y (rows_of t) → AreAlike v x y

-- each key is met where it was
abbrev pub HasSame : Index → Index → Type 0
HasSame old new = (key : ℕ) → get nat_eq new key ≡ get nat_eq old key

-- the same rows without their conditions
pub record IsSettled (t s : Table) : Type 0 where
  pub bits : s.bits ≡ t.bits
  pub fixed : s.fixed ≡ t.fixed
  pub free : s.free ≡ t.free
  pub conditions : s.conditions ≡ []
  pub index : HasSame t.index s.index

-- a model of the net that agrees on the old variables, in which the rows are those of the function
pub record FollowsOn (net : Net) (n : ℕ) (v : Valuation) (bits : ℕ) (f : ℕ → ℕ) (rows : List Row) : Type 0 where
  pub extension : Extension net n v
  pub follow : AllFollow extension.model bits f rows

-- The value is what the rows' function gives at the key. Whatever that function is, each model in which the old rows are
-- its rows extends to one in which the new rows are.
pub record Asked (old new : Net) (before after : Table) (key value : List Bit) : Type 0 where
  pub grows : Grows old new
  pub table : IsTable new after
  pub same_width : after.bits ≡ before.bits
  pub kept : (row : Row) → Member row (rows_of before) → Member row (rows_of after)
  pub width : length value ≡ after.bits
  pub stands : AreBits new value
  pub is : (v : Valuation) (f : ℕ → ℕ) → IsModel new v → AllFollow v after.bits f (rows_of after) → f (spelled v key) % 2 ^ after.bits ≡ spelled v value
  pub extends : (v : Valuation) (f : ℕ → ℕ) → IsModel old v → AllFollow v before.bits f (rows_of before) → FollowsOn new (old.count + 1) v after.bits f (rows_of after)
