-- Steps of a walk of an expression.
use Rattle.std.specs.Prelude.{◌≡◌, ◌||◌, ◌++◌, ◌∷◌, [], ℕ, List}
use Rattle.positions.specs.Sets.{has}
use Rattle.log_expr.specs.declared.trail.Trail.{Trail}

-- one set was put into another
abbrev pub IsPut : List ℕ → List ℕ → List ℕ → Type 0
IsPut old more now = (y : ℕ) → has now y ≡ (has old y || has more y)

pub record Stops (old now : Trail) : Type 0 where
  pub at : now.at ≡ old.at
  pub aside : now.aside ≡ old.aside
  pub ended : IsPut old.ended old.at now.ended

pub record Saves (old now : Trail) : Type 0 where
  pub at : now.at ≡ old.at
  pub aside : now.aside ≡ old.aside ++ old.at ∷ []
  pub ended : now.ended ≡ old.ended

pub record Switches (old now : Trail) : Type 0 where
  pub turned : (front : List (List ℕ)) (last : List ℕ) → old.aside ≡ front ++ last ∷ [] → (now.at ≡ last) × (now.aside ≡ front ++ old.at ∷ [])
  pub ended : now.ended ≡ old.ended

pub record Joins (old now : Trail) : Type 0 where
  pub joined : (front : List (List ℕ)) (last : List ℕ) → old.aside ≡ front ++ last ∷ [] → (IsPut old.at last now.at) × (now.aside ≡ front)
  pub ended : now.ended ≡ old.ended
