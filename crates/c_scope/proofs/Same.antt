-- Names are the same if their bytes are.
use Rattle.std.proofs.Common.{◌≡◌, refl, ap, ℕ, List, [], ◌∷◌, Bool, ◌&&◌, ◌==◌, nat_eq}
use Rattle.std.specs.Cmp.Lexicographic.{pointwise}
use Rattle.c_grammar.specs.Parts.{same_name}

pub same_name_is : (a b : List ℕ) → pointwise nat_eq a b ≡ same_name a b
same_name_is [] [] = refl
same_name_is [] (y ∷ ys) = refl
same_name_is (x ∷ xs) [] = refl
same_name_is (x ∷ xs) (y ∷ ys) = ap (λ (b : Bool). (x == y) && b) (same_name_is xs ys)
