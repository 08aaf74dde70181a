-- Bits that have the values of terms, in each environment that gives the inputs.
use Rattle.std.specs.Prelude.{◌≡◌, ◌+◌, ℕ, Bool, true, false, List, length, nat_eq, cond, Some}
use Rattle.std.specs.HashMap.{get}
use Rattle.cnf_core.specs.Truth.{Valuation}
use Rattle.gates.specs.declared.bit.Bit.{Bit}
use Rattle.gates.specs.Nets.{Net, IsModel, Extension, Grows}
use Rattle.word_gates.specs.Spelling.{AreBits, spelled}
use Rattle.input_tables.specs.Rows.{AllFollow}
use Rattle.input_tables.specs.Tables.{IsTable, rows_of}
use Rattle.term_bank.specs.declared.sort.Sort.{Sort}
use Rattle.term_bank.specs.declared.sort.Sort.TheVariants.{Truth, Word}
use Rattle.term_bank.specs.declared.sort.Node.{Node}
use Rattle.term_bank.specs.declared.shape.Shape.{Shape}
use Rattle.term_bank.specs.declared.shape.Shape.TheVariants.{Flag, Constant, WorldWord, InitialByte, Binary, Test, Convert, Not, Connect, Choose}
use Rattle.term_bank.specs.Shapes.{Each, parts, sort_of, sort_at}
use Rattle.term_bank.specs.Values.{Environment, Values, Models, worth}
use Rattle.flat_reads.specs.Flats.{IsHonest}
use Rattle.bitvectors.specs.declared.inputs.Inputs.{Inputs}
use Rattle.bitvectors.specs.Amounts.{Signals, amount, bits_at, size}

-- truths and words are spelled by bits
abbrev pub is_of_bits : Sort → Bool
is_of_bits Truth = true
is_of_bits (Word w) = true
is_of_bits _ = false

-- whether a shape is of truths and words alone, and depends on the world alone: on its words and its initial bytes
abbrev pub is_plain : Shape → Bool
is_plain (Flag b) = true
is_plain (Constant x w) = true
is_plain (WorldWord w p) = true
is_plain (InitialByte r a) = true
is_plain (Binary op w x y) = true
is_plain (Test t w x y) = true
is_plain (Convert x from to a) = true
is_plain (Not a) = true
is_plain (Connect c a b) = true
is_plain (Choose s c a b) = is_of_bits s
is_plain _ = false

-- ---- inputs

-- the inputs are the environment's words and initial bytes
pub record AreOf (v : Valuation) (inputs : Inputs) (e : Environment) : Type 0 where
  pub words : AllFollow v inputs.words.bits e.words (rows_of inputs.words)
  pub bytes : AllFollow v inputs.bytes.bits e.bytes (rows_of inputs.bytes)

pub record AreInputs (net : Net) (inputs : Inputs) : Type 0 where
  pub words : IsTable net inputs.words
  pub bytes : IsTable net inputs.bytes
  pub words_bits : inputs.words.bits ≡ 64
  pub bytes_bits : inputs.bytes.bits ≡ 8

-- a model that agrees on the old variables, in which the inputs are the environment's
pub record GoesOn (net : Net) (n : ℕ) (v : Valuation) (inputs : Inputs) (e : Environment) : Type 0 where
  pub extension : Extension net n v
  pub are_of : AreOf extension.model inputs e

-- Clauses and inputs were added. Whatever the environment, each model in which the old inputs are its own extends to one
-- in which the new inputs are.
pub record Extends (old new : Net) (before after : Inputs) : Type 0 where
  pub grows : Grows old new
  pub inputs : AreInputs new after
  pub kept : (v : Valuation) (e : Environment) → AreOf v after e → AreOf v before e
  pub extends : (v : Valuation) (e : Environment) → IsModel old v → AreOf v before e → GoesOn new (old.count + 1) v after e

-- ---- signals

-- the part has bits, as many as its sort asks for
pub record HasBits (net : Net) (signals : Signals) (part : Node) : Type 0 where
  pub width : length (bits_at signals part.index) ≡ size part.sort
  pub stand : AreBits net (bits_at signals part.index)

-- the part's bits spell its value
pub record IsSpelled (v : Valuation) (values : Values) (signals : Signals) (part : Node) : Type 0 where
  pub is : spelled v (bits_at signals part.index) ≡ amount part.sort (values part.index)

-- Where the parts' bits spell their values, the word spells the shape's.
pub record IsSignal (old new : Net) (before after : Inputs) (signals : Signals) (shape : Shape) (word : List Bit) : Type 0 where
  pub steps : Extends old new before after
  pub width : length word ≡ size (sort_of shape)
  pub stands : AreBits new word
  pub means : (v : Valuation) (e : Environment) (values : Values) → IsModel new v → AreOf v after e → IsHonest e → Each (IsSpelled v values signals) (parts shape) → spelled v word ≡ amount (sort_of shape) (worth e values shape)

-- the word spells the value of the node of this number in each environment that gives the inputs
pub record IsWordOf (shapes : List Shape) (net : Net) (inputs : Inputs) (n : ℕ) (word : List Bit) : Type 0 where
  pub sort : Sort
  pub sorted : sort_at shapes n ≡ Some sort
  pub width : length word ≡ size sort
  pub stands : AreBits net word
  pub means : (v : Valuation) (e : Environment) (values : Values) → IsModel net v → AreOf v inputs e → IsHonest e → Models shapes e values → spelled v word ≡ amount sort (values n)

-- the node of this number has bits, which spell its value
pub record IsSignalled (shapes : List Shape) (net : Net) (inputs : Inputs) (signals : Signals) (n : ℕ) : Type 0 where
  pub word : List Bit
  pub found : get nat_eq signals n ≡ Some word
  pub is : IsWordOf shapes net inputs n word

-- whatever node has bits, they spell its value
pub record AreKnown (shapes : List Shape) (net : Net) (inputs : Inputs) (signals : Signals) : Type 0 where
  pub are : (n : ℕ) (word : List Bit) → get nat_eq signals n ≡ Some word → IsWordOf shapes net inputs n word

-- clauses and inputs were added, and the word spells the value of the node of this number
pub record Spells (shapes : List Shape) (old new : Net) (before after : Inputs) (n : ℕ) (word : List Bit) : Type 0 where
  pub steps : Extends old new before after
  pub is : IsWordOf shapes new after n word

-- a node now has bits
abbrev pub Puts : Signals → Signals → ℕ → List Bit → Type 0
Puts old new number word = (q : ℕ) → get nat_eq new q ≡ cond (nat_eq number q) (Some word) (get nat_eq old q)
