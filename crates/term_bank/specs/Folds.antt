-- What has a shape's value without being it.
use Rattle.std.specs.Prelude.{◌≡◌, ◌<◌, ◌^◌, ℕ, List, Some, Bool, true, false, slice_get}
use Rattle.plain_data.specs.Words.{bits}
use Rattle.plain_data.specs.declared.width.Width.{Width}
use Rattle.term_bank.specs.declared.sort.Node.{Node}
use Rattle.term_bank.specs.declared.shape.Connective.{Connective}
use Rattle.term_bank.specs.declared.shape.Connective.TheVariants as connective
use Rattle.term_bank.specs.declared.shape.Shape.{Shape}
use Rattle.term_bank.specs.declared.shape.Shape.TheVariants.{Flag, Constant}
use Rattle.term_bank.specs.Shapes.{IsNode, IsWell, sort_of}
use Rattle.term_bank.specs.Values.{Environment, Values, Models, worth}
use Rattle.term_bank.specs.Under.{IsOver}

-- the node of this number is a constant of this width
pub record IsConstant (shapes : List Shape) (n : ℕ) (w : Width) (x : ℕ) : Type 0 where
  pub is : slice_get shapes n ≡ Some (Constant x w)
  pub below : x < 2 ^ bits w

abbrev pub IsFixed : Shape → Type 0
IsFixed (Flag b) = Unit {0}
IsFixed (Constant x w) = Unit {0}
IsFixed _ = ⊥

-- a constant of the shape's sort and value
pub record IsSame (shapes : List Shape) (shape other : Shape) : Type 0 where
  pub fixed : IsFixed other
  pub well : IsWell shapes other
  pub sort : sort_of other ≡ sort_of shape
  pub value : (e : Environment) (v : Values) → Models shapes e v → worth e v other ≡ worth e v shape

-- a node of the shape's sort and value
pub record IsSamePart (shapes : List Shape) (shape : Shape) (node : Node) : Type 0 where
  pub stands : IsNode shapes node
  pub sort : node.sort ≡ sort_of shape
  pub value : (e : Environment) (v : Values) → Models shapes e v → v node.index ≡ worth e v shape
  pub over : IsOver shapes shape node

-- what decides a connective, and what leaves it to the other side
abbrev pub deciding : Connective → Bool
deciding connective.And = false
deciding connective.Or = true

abbrev pub leaving : Connective → Bool
leaving connective.And = true
leaving connective.Or = false
