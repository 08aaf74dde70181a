-- A stack is kept with its first last.
use Rattle.std.proofs.Common.{◌≡◌, List, [], ◌∷◌, ◌++◌, reverse, refl, sym, ap, ◌∙◌}
use Rattle.std.proofs.lemmas.List.{reverse-append, reverse-reverse}

pub reverse_snoc : {A : Type 0} (xs : List A) (x : A) → reverse (xs ++ x ∷ []) ≡ x ∷ reverse xs
reverse_snoc xs x = rw reverse-append refl

pub reverse_empty : {A : Type 0} (xs : List A) → reverse xs ≡ [] → xs ≡ []
reverse_empty xs is = sym (reverse-reverse xs) ∙ ap reverse is
