-- Names of trees on a stack, the last put on first: what a step leaves there.
use Rattle.std.specs.Prelude.{ℕ, zero, suc, List, [], ◌∷◌}
use Rattle.c_means.specs.Names.{Names, none, ◌then◌, derived, function_names}

abbrev pub last_of : List Names → Names
last_of [] = none
last_of (x ∷ xs) = x

abbrev pub with_last : (Names → Names) → List Names → List Names
with_last f [] = []
with_last f (x ∷ xs) = f x ∷ xs

abbrev pub with_two : (Names → Names → Names) → List Names → List Names
with_two f [] = []
with_two f (y ∷ []) = y ∷ []
with_two f (y ∷ x ∷ xs) = f x y ∷ xs

abbrev pub joined : List Names → List Names
joined xs = with_two (λ x y. x then y) xs

abbrev pub derived_from : List Names → List Names
derived_from xs = with_two derived xs

abbrev pub function_from : List Names → List Names
function_from xs = with_two function_names xs

abbrev pub joined_times : ℕ → List Names → List Names
joined_times zero xs = xs
joined_times (suc n) xs = joined_times n (joined xs)

-- the names of each, put on one after the other
abbrev pub put_each : {A : Type 0} → (A → Names) → List A → List Names → List Names
put_each f [] xs = xs
put_each f (y ∷ ys) xs = put_each f ys (f y ∷ xs)
