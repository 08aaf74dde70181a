-- The objects that code gives to its block, by their places behind the base.
use Rattle.std.specs.Prelude.{◌≡◌, ℕ, ◌+◌, List, [], ◌∷◌, ◌++◌}
use Rattle.core_tree.specs.States.{Measures}
use Rattle.core_tree.specs.Codes.{Item}
use Rattle.path_arrows.specs.declared.objects.Object.{Object}
use Rattle.path_arrows.specs.Objects.{made_at}
use Rattle.path_forms.specs.declared.frame.Placed.{Placed}

-- these objects and, behind them, those that an item gives to its block, whose first place is so many behind the base
pub record Gives (m : Measures) (x : Item ℕ) (place : ℕ) (old now : List Object) : Type 0 where
  pub is : (base : ℕ) → made_at base now ≡ made_at base old ++ x.objects m (base + place)

abbrev pub placed : Object → Placed
placed x = record { at = x.at; offset = x.offset }

abbrev pub placed_all : List Object → List Placed
placed_all [] = []
placed_all (x ∷ xs) = placed x ∷ placed_all xs
