-- What it is to be the core of items in turn, and of what stands in the block that a statement is.
use Rattle.std.specs.Prelude.{◌≡◌, ℤ, Bool, true, false, List, [], ◌∷◌, map, Option, Some, None}
use Rattle.c_means.specs.Items.{Item, Case, node}
use Rattle.core_tree.specs.declared.code.Code.{Code}
use Rattle.core_tree.specs.Codes.{code, in_turn}
use Rattle.core_marks.specs.Marks.{items_marks}
use Rattle.elaborate.specs.Means.{Numbering, SameMarks, Acts}
use Rattle.code_forms.specs.declared.blocks.Content.{Content}

-- the cores of items, one behind the other
abbrev pub AreCodesOf : Numbering → List Code → Item → Type 0
AreCodesOf numbering xs i = Acts numbering (in_turn (map code xs)) i

-- a compound statement is one node more
abbrev pub noded : Bool → Item → Item
noded true i = node i
noded false i = i

-- the values of the cases of a `switch`, in order
abbrev pub value_if : Option ℤ → List ℤ → List ℤ
value_if None zs = zs
value_if (Some z) zs = z ∷ zs

abbrev pub case_values : List Case → List ℤ
case_values [] = []
case_values (x ∷ xs) = value_if x.value (case_values xs)

-- the core of what stands in the block that a statement is, with what stands at its tokens
pub record IsContentOf (numbering : Numbering) (x : Content) (i : Item) : Type 0 where
  pub inside : Item
  pub is : i ≡ noded x.is_compound inside
  pub items : AreCodesOf numbering x.items inside
  pub cases : x.cases ≡ case_values i.cases
  pub marks : SameMarks numbering (items_marks x.items) i.marks
