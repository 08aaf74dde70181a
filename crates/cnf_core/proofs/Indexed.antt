-- A test of each element of a list, read element by element.
use Rattle.std.proofs.Common.{◌≡◌, ◌+◌, ℕ, List, Some, Bool, true, false, take, get_or, ap, ◌∙◌}
use Rattle.std.specs.List.{slice_get, list_all}
use Rattle.std.proofs.lemmas.Option.{slice_get_within, get_or_from_slice_get}
use Rattle.std.proofs.lemmas.List.Folds.{list_all_more, list_all_at}

pub list_all-next : {X : Type 0} (p : X → Bool) (xs : List X) (i : ℕ) (x : X) → slice_get xs i ≡ Some x → p x ≡ true → list_all p (take i xs) ≡ true → list_all p (take (i + 1) xs) ≡ true
list_all-next p xs i x at passes before =
    let read : p (get_or xs i x) ≡ true = ap p (get_or_from_slice_get xs i x x at) ∙ passes in
    rw (list_all_more p xs i x (slice_get_within xs i x at), before, read)

pub list_all-fails : {X : Type 0} (p : X → Bool) (xs : List X) (i : ℕ) (x : X) → slice_get xs i ≡ Some x → p x ≡ false → list_all p xs ≡ false
list_all-fails p xs i x at fails =
    list_all_at p xs i x (slice_get_within xs i x at) (ap p (get_or_from_slice_get xs i x x at) ∙ fails)
