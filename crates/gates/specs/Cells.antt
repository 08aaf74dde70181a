-- The table of gates, by the functions that define them.
use Rattle.std.specs.Prelude.{◌≡◌, ◌<◌, ◌≤◌, ◌+◌, ℕ, Bool, cond, ◌&&◌, Option, Some}
use Rattle.std.specs.HashMap.{HashMap, get}
use Rattle.std.specs.declared.hash.FoldHasher.{FoldHasher}
use Rattle.std.specs.declared.hash.BuildHasherDefault.{BuildHasherDefault}
use Rattle.cnf_core.specs.Literal.{literal_of}
use Rattle.cnf_core.specs.Truth.{Valuation, literal_holds}
use Rattle.gates.specs.contracts.cell.CellPartialEq.TheImpl.{ghosts}
use Rattle.gates.specs.declared.cell.Cell.{Cell}
use Rattle.gates.specs.declared.cell.Cell.TheVariants.{And, Xor, Majority, Choose}
use Rattle.gates.specs.Nets.{Net, IsModel, exclusive, majority}

abbrev pub code_holds : Valuation → ℕ → Bool
code_holds v c = literal_holds v (literal_of c)

abbrev pub cell_value : Valuation → Cell → Bool
cell_value v (And a b) = code_holds v a && code_holds v b
cell_value v (Xor a b) = exclusive (code_holds v a) (code_holds v b)
cell_value v (Majority a b c) = majority (code_holds v a) (code_holds v b) (code_holds v c)
cell_value v (Choose c a b) = cond (code_holds v c) (code_holds v a) (code_holds v b)

-- a literal of the net has this code
pub record IsCode (net : Net) (c : ℕ) : Type 0 where
  pub from_two : 2 ≤ c
  pub within : (literal_of c).variable < net.count + 1

-- the cell's inputs are literals of the net
abbrev pub IsCell : Net → Cell → Type 0
IsCell net (And a b) = IsCode net a × IsCode net b
IsCell net (Xor a b) = IsCode net a × IsCode net b
IsCell net (Majority a b c) = IsCode net a × (IsCode net b × IsCode net c)
IsCell net (Choose c a b) = IsCode net c × (IsCode net a × IsCode net b)

abbrev pub Table : Type 0
Table = HashMap Cell ℕ (BuildHasherDefault FoldHasher)

abbrev pub met_in : Table → Cell → Option ℕ
met_in table cell = get ghosts.eq table cell

-- the variable has the cell's value in each model
pub record IsMet (net : Net) (cell : Cell) (x : ℕ) : Type 0 where
  pub from_one : 1 ≤ x
  pub within : x < net.count + 1
  pub means : (v : Valuation) → IsModel net v → v x ≡ cell_value v cell

pub record AreMet (net : Net) (table : Table) : Type 0 where
  pub are : (cell : Cell) (x : ℕ) → met_in table cell ≡ Some x → IsMet net cell x

-- a cell is now met as this variable
abbrev pub Puts : Table → Table → Cell → ℕ → Type 0
Puts old new cell x = (q : Cell) → met_in new q ≡ cond (ghosts.eq cell q) (Some x) (met_in old q)

-- each cell is met as it was
abbrev pub HasSame : Table → Table → Type 0
HasSame old new = (q : Cell) → met_in new q ≡ met_in old q
