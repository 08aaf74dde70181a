-- A set of names, seen as the list of their bytes.
use Rattle.std.proofs.Common.{◌≡◌, ◌<◌, ◌+◌, ℕ, List, [], ◌∷◌, length, drop, get_or, refl, ap, add-one, drop-cons, Ordering, Less, Equal, Greater, Vec, Global}
use Rattle.std.specs.Prelude.{map, fold}
use Rattle.std.specs.Ordering.{nat_cmp, match_ordering}
use Rattle.std.specs.Cmp.Lexicographic.{slice_cmp}
use Rattle.std.specs.BTreeSet.{insert_key}

abbrev Name : Type 0
Name = Vec ℕ Global

abbrev by_bytes : Name → Name → Ordering
by_bytes x y = slice_cmp nat_cmp x.items y.items

abbrev spelled : List Name → List (List ℕ)
spelled names = map (λ name. name.items) names

abbrev with_name : List (List ℕ) → List ℕ → List (List ℕ)
with_name = insert_key (slice_cmp nat_cmp)

placed : (o : Ordering) (first name : Name) (rest : List Name) (more : List Name) (others : List (List ℕ)) → spelled more ≡ others
    → spelled (match_ordering o (name ∷ first ∷ rest) (first ∷ rest) (first ∷ more)) ≡ match_ordering o (name.items ∷ first.items ∷ spelled rest) (first.items ∷ spelled rest) (first.items ∷ others)
placed Less first name rest more others e = refl
placed Equal first name rest more others e = refl
placed Greater first name rest more others e = ap (λ names. first.items ∷ names) e

spelled-insert : (names : List Name) (name : Name) → spelled (insert_key by_bytes names name) ≡ with_name (spelled names) name.items
spelled-insert [] name = refl
spelled-insert (first ∷ rest) name = placed (by_bytes name first) first name rest _ _ (spelled-insert rest name)

pub one_more : (old new : List Name) (key : Name) (name : List ℕ) (names : List (List ℕ)) (i : ℕ) (whole : List (List ℕ)) → i < length names → get_or names i name ≡ name → key.items ≡ name → new ≡ insert_key by_bytes old key
    → fold with_name (spelled old) (drop i names) ≡ whole → fold with_name (spelled new) (drop (i + 1) names) ≡ whole
one_more old new key name names i whole below is bytes put so =
    let before = rw (drop-cons names i name, is) at so in
    rw (put, spelled-insert old key, bytes, add-one) before
