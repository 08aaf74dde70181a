-- What was set aside last.
use Rattle.std.proofs.Common.{◌≡◌, ℕ, List, [], ◌∷◌, ◌++◌, refl, sym, ◌∙◌}

-- the last of a list, and those before it
last_of : {A : Type 0} (xs ys : List A) (x y : A) → xs ++ x ∷ [] ≡ ys ++ y ∷ [] → (xs ≡ ys) × (x ≡ y)
last_of {A} [] [] x y e = (refl, cc)
last_of {A} [] (b ∷ []) x y e = absurd cc
last_of {A} [] (b ∷ c ∷ ys) x y e = absurd cc
last_of {A} (a ∷ []) [] x y e = absurd cc
last_of {A} (a ∷ d ∷ xs) [] x y e = absurd cc
last_of {A} (a ∷ xs) (b ∷ ys) x y e =
    let t : xs ++ x ∷ [] ≡ ys ++ y ∷ [] = cc in
    let h : a ≡ b = cc in
    let r = last_of xs ys x y t in ((λ i. h i ∷ r.0 i), r.1)

pub same_last : (whole front now : List (List ℕ)) (last got : List ℕ) → whole ≡ now ++ got ∷ [] → whole ≡ front ++ last ∷ [] → (now ≡ front) × (got ≡ last)
same_last whole front now last got p q = last_of now front got last (sym p ∙ q)

pub none_last : (whole front : List (List ℕ)) (last : List ℕ) → whole ≡ [] → whole ≡ front ++ last ∷ [] → ⊥
none_last whole [] last p q = cc
none_last whole (a ∷ front) last p q = cc
