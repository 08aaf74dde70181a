-- A formula for the values of roots.
use Rattle.std.specs.Prelude.{◌≡◌, ◌<◌, ◌+◌, ◌^◌, ◌++◌, ℕ, true, false, List, [], ◌∷◌, length}
use Rattle.plain_data.specs.Worlds.{WorldTables, value_at}
use Rattle.cnf_core.specs.Literal.{Literal}
use Rattle.cnf_core.specs.Truth.{Valuation, formula_holds}
use Rattle.gates.specs.declared.bit.Bit.{Bit}
use Rattle.gates.specs.declared.bit.Bit.TheVariants.{Known, Unknown}
use Rattle.gates.specs.Nets.{Net, Agree, AllBelow}
use Rattle.word_gates.specs.Spelling.{spelled}
use Rattle.input_tables.specs.declared.row.Row.{Row}
use Rattle.input_tables.specs.declared.table.Table.{Table}
use Rattle.input_tables.specs.Rows.{AreAlike, Member}
use Rattle.input_tables.specs.Tables.{rows_of}
use Rattle.term_bank.specs.declared.sort.Node.{Node}
use Rattle.term_bank.specs.declared.shape.Shape.{Shape}
use Rattle.term_bank.specs.Shapes.{Each}
use Rattle.term_bank.specs.Values.{Environment, Values, Models, Grows}
use Rattle.flat_reads.specs.Flats.{IsHonest}
use Rattle.bitvectors.specs.declared.inputs.Inputs.{Inputs}
use Rattle.bitvectors.specs.declared.blasting.Blasted.{Blasted}
use Rattle.bitvectors.specs.declared.more.More.{More}
use Rattle.bitvectors.specs.Amounts.{Signals, amount, bits_at}
use Rattle.bitvectors.specs.Signals.{AreInputs, AreKnown, AreOf, Extends, IsSignalled}

-- ---- the walk

abbrev pub words_of : Signals → List Node → List (List Bit)
words_of signals [] = []
words_of signals (r ∷ rs) = bits_at signals r.index ∷ words_of signals rs

-- each root has bits
pub record Walked (shapes : List Shape) (roots : List Node) (old new : Net) (before after : Inputs) (signals : Signals) : Type 0 where
  pub steps : Extends old new before after
  pub known : AreKnown shapes new after signals
  pub rooted : Each (λ r. IsSignalled shapes new after signals r.index) roots

-- ---- conditions

-- The clauses that say that a bit is true: the one of its literal alone; none where it is known to be true, and the
-- empty one where it is known not to be.
abbrev pub asserted : Bit → List (List Literal)
asserted (Known true) = []
asserted (Known false) = [] ∷ []
asserted (Unknown l) = (l ∷ []) ∷ []

abbrev pub all_asserted : List Bit → List (List Literal)
all_asserted [] = []
all_asserted (b ∷ bs) = asserted b ++ all_asserted bs

-- ---- the theorem

-- each root's bits spell its value
abbrev pub HaveValues : Valuation → Values → List Node → List (List Bit) → Type 0
HaveValues v values [] [] = Unit {0}
HaveValues v values [] (w ∷ ws) = ⊥
HaveValues v values (r ∷ rs) [] = ⊥
HaveValues v values (r ∷ rs) (w ∷ ws) = (spelled v w ≡ amount r.sort (values r.index)) × HaveValues v values rs ws

-- a model in which the inputs are the environment's, and each root's bits spell its value
pub record HasModel (e : Environment) (values : Values) (roots : List Node) (blasted : Blasted) : Type 0 where
  pub model : Valuation
  pub holds : formula_holds model blasted.formula ≡ true
  pub given : AreOf model blasted.inputs e
  pub are : HaveValues model values roots blasted.roots

-- rows with one key have one value
abbrev pub AllAlike : Valuation → List Row → Type 0
AllAlike v rows = (x y : Row) → Member x rows → Member y rows → AreAlike v x y

-- keys have 64 bits, and values n
pub record HasWidths (n : ℕ) (row : Row) : Type 0 where
  pub key : length row.key ≡ 64
  pub value : length row.value ≡ n

pub record HasWidth (n : ℕ) (table : Table) : Type 0 where
  pub bits : table.bits ≡ n
  pub rows : (row : Row) → Member row (rows_of table) → HasWidths n row

-- Every environment has a model in which each root's bits spell its value. In each model the inputs are those of a
-- world, and in whatever honest environment they are the inputs, the roots have the values that their bits spell.
pub record IsBlasted (shapes : List Shape) (roots : List Node) (blasted : Blasted) : Type 0 where
  pub models : (e : Environment) (values : Values) → IsHonest e → Models shapes e values → HasModel e values roots blasted
  pub values : (v : Valuation) (e : Environment) (values : Values) → formula_holds v blasted.formula ≡ true → AreOf v blasted.inputs e → IsHonest e → Models shapes e values → HaveValues v values roots blasted.roots
  pub words : HasWidth 64 blasted.inputs.words
  pub bytes : HasWidth 8 blasted.inputs.bytes
  pub words_alike : (v : Valuation) → formula_holds v blasted.formula ≡ true → AllAlike v (rows_of blasted.inputs.words)
  pub bytes_alike : (v : Valuation) → formula_holds v blasted.formula ≡ true → AllAlike v (rows_of blasted.inputs.bytes)

-- ---- more roots

-- the clauses of a formula, over its variables
abbrev pub net_of : Blasted → Net
net_of b = record { clauses = b.formula; count = b.count }

-- a table's rows without their conditions
abbrev pub settled : Table → Table
settled t = record { bits = t.bits; fixed = t.fixed; free = t.free; conditions = []; index = t.index }

abbrev pub settled_inputs : Inputs → Inputs
settled_inputs i = record { words = settled i.words; bytes = settled i.bytes }

-- What it takes to put clauses for more roots behind a formula: its variables are counted, its inputs can be looked up,
-- and of whatever node the bits are known they spell its value.
pub record IsReady (shapes : List Shape) (b : Blasted) : Type 0 where
  pub below : AllBelow (b.count + 1) b.formula
  pub within : b.count < 2 ^ 31
  pub inputs : AreInputs (net_of b) (settled_inputs b.inputs)
  pub known : AreKnown shapes (net_of b) b.inputs b.signals

-- a formula, with the clauses, roots and inputs that were put behind
abbrev pub joined : Blasted → More → Blasted
joined b m = record {
  formula = b.formula ++ m.formula;
  roots = b.roots ++ m.roots;
  inputs = m.inputs;
  signals = b.signals;
  count = b.count;
}

-- a model of the longer formula that agrees on the variables of the shorter one, in which the inputs are the environment's
pub record GoesOnAs (b : Blasted) (m : More) (v : Valuation) (e : Environment) : Type 0 where
  pub model : Valuation
  pub agrees : Agree (b.count + 1) v model
  pub holds : formula_holds model (b.formula ++ m.formula) ≡ true
  pub given : AreOf model m.inputs e

-- Clauses behind those of a formula, for more roots. Whatever the formula's roots are, the longer one is for both; its
-- inputs are the formula's, and more; and each model of the formula, in whatever environment, goes on as one of the longer.
pub record IsMore (shapes : List Shape) (roots : List Node) (b : Blasted) (m : More) : Type 0 where
  pub is : (old : List Shape) (rs : List Node) → Grows old shapes → IsBlasted old rs b → IsBlasted shapes (rs ++ roots) (joined b m)
  pub kept : (v : Valuation) (e : Environment) → AreOf v m.inputs e → AreOf v b.inputs e
  pub extends : (v : Valuation) (e : Environment) → formula_holds v b.formula ≡ true → AreOf v b.inputs e → GoesOnAs b m v e

-- ---- decoding

-- the environment's words and initial bytes are the world's
pub record IsOfWorld (world : WorldTables) (e : Environment) : Type 0 where
  pub words : (place : ℕ) → e.words place ≡ value_at world.words place
  pub bytes : (address : ℕ) → e.bytes address ≡ value_at world.bytes address
  pub honest : IsHonest e

-- on the world the roots have the values that their bits spell
pub record Shows (shapes : List Shape) (roots : List Node) (blasted : Blasted) (v : Valuation) (world : WorldTables) : Type 0 where
  pub are : (e : Environment) (values : Values) → IsOfWorld world e → Models shapes e values → HaveValues v values roots blasted.roots

-- what a table gives at a row's key is the row's value
pub record IsAt (v : Valuation) (table : List (ℕ × ℕ)) (row : Row) : Type 0 where
  pub is : value_at table (spelled v row.key) ≡ spelled v row.value

-- Rows were set: each has its value, and what had its own before has it still, where rows with one key have one value.
pub record SetsRows (v : Valuation) (old new : List (ℕ × ℕ)) (rows : List Row) : Type 0 where
  pub set : AllAlike v rows → (x : Row) → Member x rows → IsAt v new x
  pub kept : (x : Row) → IsAt v old x → ((y : Row) → Member y rows → AreAlike v x y) → IsAt v new x
