-- Places in a rising list of variables.
use Rattle.std.proofs.Common.{◌≡◌, ◌<◌, ◌≤◌, ℕ, zero, suc, List, [], ◌∷◌, Ok, Err, Result, true, false, cond, eqb, length, get_or, refl, sym, ap, ◌∙◌, arith, inl, inr}
use Rattle.std.specs.Prelude.{Contains}
use Rattle.std.specs.List.Sorted.{IsStrictlyIncreasing, IsBinarySearchResult}
use Rattle.std.specs.Ordering.{nat_cmp}
use Rattle.std.proofs.lemmas.Bool.{eqb-true, eq-eqb, false_from_ne_true, cases_eq, cases_lt}
use Rattle.std.proofs.lemmas.List.{get_or_read}
use Rattle.std.proofs.lemmas.List.Kept.{AllPairs-from_increasing}
use Rattle.std.proofs.lemmas.List.Sorted.{searched}
use Rattle.proof_check.specs.Places.{place_of}

at-place : (xs : List ℕ) (i : ℕ) → ((i j d : ℕ) → i < j → j < length xs → get_or xs i d < get_or xs j d) → i < length xs → place_of xs (get_or xs i 0) ≡ i
at-place [] i rises h = absurd (omega arith)
at-place (x ∷ xs) zero rises h = rw (eq-eqb x x refl) refl
at-place (x ∷ xs) (suc i) rises h =
    let less : x < get_or xs i 0 = rises 0 (suc i) 0 (omega arith) h in
    let apart : eqb x (get_or xs i 0) ≡ false = false_from_ne_true (eqb x (get_or xs i 0)) (λ e. let same : x ≡ get_or xs i 0 = eqb-true x (get_or xs i 0) e in omega arith) in
    rw apart (ap (λ n. suc n) (at-place xs i (λ a b d l k. rises (suc a) (suc b) d (omega arith) (omega arith)) (omega arith)))

-- a variable that stands at an index has its place there
pub place_of-at : (xs : List ℕ) (i v : ℕ) → IsStrictlyIncreasing xs → i < length xs → get_or xs i 0 ≡ v → place_of xs v ≡ i
place_of-at xs i v rising h e = ap (place_of xs) (sym e) ∙ at-place xs i (AllPairs-from_increasing xs rising) h

-- what stands at a variable's place
pub at-place_of : (xs : List ℕ) (v : ℕ) → place_of xs v < length xs → get_or xs (place_of xs v) 0 ≡ v
at-place_of [] v h = absurd (omega arith)
at-place_of (x ∷ xs) v h =
    elim (eqb x v) as (λ b. eqb x v ≡ b → cond b zero (suc (place_of xs v)) < suc (length xs) → get_or (x ∷ xs) (cond b zero (suc (place_of xs v))) 0 ≡ v) [
      | true ↦ λ e _. eqb-true x v e
      | false ↦ λ _ less. at-place_of xs v (omega arith)
    ] refl h

ascending : (xs : List ℕ) → IsStrictlyIncreasing xs → (i j : ℕ) → i ≤ j → j < length xs → get_or xs i 0 ≤ get_or xs j 0
ascending xs rising i j le h =
    elim (cases_eq i j) [
      | inl e ↦ let same : get_or xs i 0 ≡ get_or xs j 0 = ap (λ k. get_or xs k 0) e in omega arith
      | inr n ↦ let less : get_or xs i 0 < get_or xs j 0 = AllPairs-from_increasing xs rising i j 0 (omega arith) h in omega arith
    ]

-- a binary search finds the place
pub found-place : (xs : List ℕ) (v : ℕ) (r : Result ℕ ℕ) (i : ℕ) → IsStrictlyIncreasing xs → IsBinarySearchResult (λ y. nat_cmp y v) xs r → r ≡ Ok i → (place_of xs v ≡ i) × (i < length xs)
found-place xs v r i rising found e =
    let all = rw e at (searched xs v r found (ascending xs rising)) in
    (place_of-at xs i v rising all.0 all.1, all.0)

pub search-finds : (xs : List ℕ) (v : ℕ) (r : Result ℕ ℕ) (i : ℕ) → IsStrictlyIncreasing xs → IsBinarySearchResult (λ y. nat_cmp y v) xs r → Contains xs v → r ≡ Err i → ⊥
search-finds xs v r i rising found (k, h, at) e =
    let all = rw e at (searched xs v r found (ascending xs rising)) in
    let here : get_or xs k 0 ≡ v = sym (get_or_read xs k v h (sym at) 0) in
    elim (cases_lt k i) [
      | inl l ↦ let less : get_or xs k 0 < v = all.1 k l in omega arith
      | inr l ↦ let more : v < get_or xs k 0 = all.2 k l h in omega arith
    ]
