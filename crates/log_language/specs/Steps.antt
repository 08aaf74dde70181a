-- Steps of going through code.
use Rattle.std.specs.Prelude.{◌≡◌, ◌++◌, ◌∷◌, [], List}
use Rattle.log_language.specs.declared.told.Told.{Told}
use Rattle.log_language.specs.declared.tree.LogExpr.{LogExpr}
use Rattle.log_language.specs.declared.tree.LogExpr.TheVariants as tree

pub record MayPrint (texts : LogExpr) (old now : Told) : Type 0 where
  pub aside : now.aside ≡ old.aside
  pub so_far : now.so_far ≡ tree.Sequence old.so_far (tree.Choice tree.Silent texts)

pub record Saves (old now : Told) : Type 0 where
  pub so_far : now.so_far ≡ old.so_far
  pub aside : now.aside ≡ old.aside ++ old.so_far ∷ []

pub record Switches (old now : Told) : Type 0 where
  pub turned : (front : List LogExpr) (last : LogExpr) → old.aside ≡ front ++ last ∷ [] → (now.so_far ≡ last) × (now.aside ≡ front ++ old.so_far ∷ [])

pub record Joins (old now : Told) : Type 0 where
  pub joined : (front : List LogExpr) (last : LogExpr) → old.aside ≡ front ++ last ∷ [] → (now.so_far ≡ tree.Choice last old.so_far) × (now.aside ≡ front)

pub record EntersLoop (old now : Told) : Type 0 where
  pub so_far : now.so_far ≡ tree.Silent
  pub aside : now.aside ≡ old.aside ++ old.so_far ∷ []

pub record LeavesLoop (old now : Told) : Type 0 where
  pub left : (front : List LogExpr) (last : LogExpr) → old.aside ≡ front ++ last ∷ [] → (now.so_far ≡ tree.Sequence last (tree.Repetition old.so_far)) × (now.aside ≡ front)
