-- Lists that are gone through from the front.
use Rattle.std.proofs.Common.{◌≡◌, ℕ, suc, add-one, ◌+◌, ◌<◌, List, [], ◌∷◌, ◌++◌, length, drop, get_or, drop-cons}
use Rattle.std.proofs.Common.{refl, sym, ap, ◌∙◌}

pub grouped : {A : Type 0} (xs ys zs : List A) → xs ++ (ys ++ zs) ≡ (xs ++ ys) ++ zs
grouped [] ys zs = refl
grouped (x ∷ xs) ys zs = ap (λ l. x ∷ l) (grouped xs ys zs)

pub ended : {A : Type 0} (xs : List A) → xs ++ [] ≡ xs
ended [] = refl
ended (x ∷ xs) = ap (λ l. x ∷ l) (ended xs)

pub cut : {A : Type 0} (xs : List A) (i : ℕ) (x : A) → i < length xs → x ≡ get_or xs i x
    → drop i xs ≡ x ∷ drop (i + 1) xs
cut {A} xs i x within is =
    drop-cons xs i x within
    ∙ ap (λ (z : A). z ∷ drop (suc i) xs) (sym is)
    ∙ ap (λ (k : ℕ). x ∷ drop k xs) (sym (add-one i))
