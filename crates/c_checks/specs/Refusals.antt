-- Which of several broken rules is the refusal: the first in the source, and at one offset the first in the order of
-- refusals.
use Rattle.std.specs.Prelude.{◌≡◌, ℕ, Bool, false, cond, ◌&&◌, ◌||◌, nat_eq, nat_lt, List, [], ◌∷◌, Option, Some, None}
use Rattle.std.specs.Prelude.{◌⊎◌, ⊤}
use Rattle.c_language.specs.declared.scope.Rule.{Rule}
use Rattle.c_language.specs.declared.scope.Rule.TheVariants as rule
use Rattle.c_means.specs.declared.breach.Breach.{Breach}
use Rattle.c_means.specs.declared.breach.BrokenRule.{BrokenRule}
use Rattle.c_means.specs.declared.breach.BrokenRule.TheVariants as broken

-- the number of a rule in the order of refusals; that there is no `main` is the first
abbrev pub typing_number : Rule → ℕ
typing_number rule.Undeclared = 3
typing_number rule.TypeMismatch = 4
typing_number rule.NotModifiable = 5
typing_number rule.FloatUsed = 6
typing_number rule.IndirectCall = 7
typing_number rule.StructByValue = 8
typing_number rule.BitField = 9
typing_number (rule.Layout r) = 14
typing_number rule.DuplicateDefinition = 15

abbrev pub number_of : BrokenRule → ℕ
number_of broken.UnreadBody = 2
number_of (broken.Typing r) = typing_number r
number_of broken.BadGoto = 10
number_of broken.FormatNotLiteral = 11
number_of (broken.Format fault) = 12
number_of broken.FormatArgument = 13

abbrev pub comes_before : Breach → Breach → Bool
comes_before x y = nat_lt x.at y.at || (nat_eq x.at y.at && nat_lt (number_of x.rule) (number_of y.rule))

-- of two that stand alike the first
abbrev pub lesser_of : Breach → Option Breach → Breach
lesser_of x None = x
lesser_of x (Some y) = cond (comes_before y x) y x

abbrev pub lesser : Option Breach → Option Breach → Option Breach
lesser None y = y
lesser (Some x) y = Some (lesser_of x y)

abbrev pub least_of : List Breach → Option Breach
least_of [] = None
least_of (x ∷ xs) = Some (lesser_of x (least_of xs))

-- ---- one of them, and none comes before it

abbrev pub Among : Breach → List Breach → Type 0
Among x [] = ⊥
Among x (y ∷ ys) = (x ≡ y) ⊎ Among x ys

abbrev pub NoneBefore : Breach → List Breach → Type 0
NoneBefore x [] = ⊤
NoneBefore x (y ∷ ys) = (comes_before y x ≡ false) × NoneBefore x ys

pub record IsLeast (x : Breach) (xs : List Breach) : Type 0 where
  pub among : Among x xs
  pub first : NoneBefore x xs
