-- What a bank's list of shapes keeps.
use Rattle.std.specs.Prelude.{◌≡◌, ◌<◌, ℕ, List, length, Some, slice_get}
use Rattle.term_bank.specs.declared.sort.Node.{Node}
use Rattle.term_bank.specs.declared.shape.Shape.{Shape}
use Rattle.term_bank.specs.Shapes.{Each, IsInWidth, IsNode, parts, sort_of}
use Rattle.term_bank.specs.Values.{Environment, Values, Models, IsOfSort}

-- a part of the node of this number: it has a smaller number, and stands under its sort
pub record IsPart (shapes : List Shape) (number : ℕ) (part : Node) : Type 0 where
  pub before : part.index < number
  pub stands : IsNode shapes part

-- the shape of the node of this number names smaller nodes alone, of the sorts that its operator asks for
pub record IsWellAt (shapes : List Shape) (number : ℕ) (shape : Shape) : Type 0 where
  pub each_part : Each (IsPart shapes number) (parts shape)
  pub in_width : IsInWidth shape

pub record IsBank (shapes : List Shape) : Type 0 where
  pub well : (n : ℕ) (shape : Shape) → slice_get shapes n ≡ Some shape → IsWellAt shapes n shape
  -- no shape stands twice
  pub shared : (m n : ℕ) (shape : Shape) → slice_get shapes m ≡ Some shape → slice_get shapes n ≡ Some shape → m ≡ n
  -- each environment has a valuation
  pub valued : (e : Environment) → (v : Values) × Models shapes e v
  -- and one only
  pub unique : (e : Environment) (v w : Values) → Models shapes e v → Models shapes e w → (n : ℕ) → n < length shapes → v n ≡ w n
  -- each node's value is of its sort
  pub sorted : (e : Environment) (v : Values) → Models shapes e v → (n : ℕ) (shape : Shape) → slice_get shapes n ≡ Some shape → IsOfSort (sort_of shape) (v n)
