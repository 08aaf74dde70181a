-- The table of initial bytes that terms without reads ask for, and what makes it that of one memory.
use Rattle.std.specs.Prelude.{◌≡◌, ◌<◌, ◌&&◌, ◌||◌, ℕ, List, [], ◌∷◌, Bool, true, false, Some, nat_eq, cond, slice_get}
use Rattle.plain_data.specs.declared.width.Width.TheVariants.{W8}
use Rattle.term_bank.specs.declared.sort.Sort.TheVariants.{Truth}
use Rattle.term_bank.specs.declared.sort.Node.{Node}
use Rattle.term_bank.specs.declared.shape.Shape.{Shape}
use Rattle.term_bank.specs.declared.shape.Shape.TheVariants.{InitialByte}
use Rattle.term_bank.specs.Shapes.{Each, word}
use Rattle.term_bank.specs.Values.{Environment, Values, Models}
use Rattle.term_bank.specs.Under.{IsOnly}
use Rattle.term_bank.specs.Terms.{IsTerm}
use Rattle.term_bank.specs.Images.{AreImages}
use Rattle.flat_reads.specs.declared.table.Row.{Row}
use Rattle.flat_reads.specs.declared.table.Flat.{Flat}
use Rattle.flat_reads.specs.Flats.{IsHonest, IsFlatOver}
use Rattle.flat_reads.specs.Flattened.{HasFlat}

-- the row's node is the byte at its address
abbrev pub Stands : List Shape → Row → Type 0
Stands shapes row = slice_get shapes row.byte ≡ Some (InitialByte row.row row.address)

-- a row over some nodes
pub record IsRow (shapes : List Shape) (ps : List Node) (row : Row) : Type 0 where
  pub stands : Stands shapes row
  pub flat : IsFlatOver shapes ps row.byte

-- the node says that two rows have one byte if they have one address; it is flat over their bytes
pub record IsAgreement (shapes : List Shape) (one other : Row) (node : Node) : Type 0 where
  pub term : IsTerm shapes Truth node
  pub value : (e : Environment) (v : Values) → Models shapes e v → (v node.index).truth ≡ cond (nat_eq (v one.address).word (v other.address).word) (nat_eq (v one.byte).word (v other.byte).word) true
  pub flat : IsFlatOver shapes (word W8 one.byte ∷ (word W8 other.byte ∷ [])) node.index

-- the nodes are true
abbrev pub AreTrue : Values → List Node → Type 0
AreTrue v nodes = Each (λ n. (v n.index).truth ≡ true) nodes

-- a truth over some nodes that each honest environment has
pub record IsConstraint (shapes : List Shape) (ps : List Node) (node : Node) : Type 0 where
  pub term : IsTerm shapes Truth node
  pub honest : (e : Environment) (v : Values) → IsHonest e → Models shapes e v → (v node.index).truth ≡ true
  pub flat : IsFlatOver shapes ps node.index

-- in each environment that has the constraints, two rows have one byte where they have one address
pub record IsAgreed (shapes : List Shape) (constraints : List Node) (one other : Row) : Type 0 where
  pub agreed : (e : Environment) (v : Values) → Models shapes e v → AreTrue v constraints → (v one.address).word ≡ (v other.address).word → (v one.byte).word ≡ (v other.byte).word

-- Rows and constraints over some nodes: each two rows agree.
pub record IsTable (shapes : List Shape) (ps : List Node) (table : List Row) (constraints : List Node) : Type 0 where
  pub rows : (i : ℕ) (row : Row) → slice_get table i ≡ Some row → IsRow shapes ps row
  pub constraints_are : Each (IsConstraint shapes ps) constraints
  pub agreed : (i j : ℕ) (one other : Row) → i < j → slice_get table i ≡ Some one → slice_get table j ≡ Some other → IsAgreed shapes constraints one other

-- whether the table has the byte of a row at an address
abbrev pub has_row : List Row → ℕ → ℕ → Bool
has_row [] r a = false
has_row (x ∷ xs) r a = (nat_eq x.row r && nat_eq x.address a) || has_row xs r a

-- whether a shape is no byte of the initial memory, or one of the table's
abbrev pub is_listed : List Row → Shape → Bool
is_listed table (InitialByte r a) = has_row table r a
is_listed table _ = true

-- the new table has the old one's bytes, and the node of this number if it is one
pub record Lists (shapes : List Shape) (number : ℕ) (old new : List Row) : Type 0 where
  pub kept : (r a : ℕ) → has_row old r a ≡ true → has_row new r a ≡ true
  pub here : (r a : ℕ) → slice_get shapes number ≡ Some (InitialByte r a) → has_row new r a ≡ true

-- Nodes without reads that stand for the roots, the table of all initial bytes that stand under them, and constraints
-- on the rows of equal addresses.
pub record IsFlat (shapes : List Shape) (roots : List Node) (flat : Flat) : Type 0 where
  pub roots_are : AreImages (HasFlat shapes) roots flat.roots
  pub table_is : IsTable shapes flat.roots flat.table flat.constraints
  pub listed : Each (λ n. IsOnly (is_listed flat.table) shapes n.index) flat.roots
