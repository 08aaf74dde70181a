-- Ascending lists, and how many of one stand up to a stop.
use Rattle.std.proofs.Common.{◌≡◌, ℕ, zero, suc, ◌+◌, ◌<◌, ◌≤◌, Bool, true, false, ◌||◌, eqb, ltb, List, [], ◌∷◌, length, get_or, take, drop, refl, sym, ap, subst, ◌∙◌, arith, inl, inr}
use Rattle.std.specs.List.{list_all}
use Rattle.std.proofs.lemmas.List.{drop_all}
use Rattle.std.proofs.lemmas.Bool.{and_parts, or_cases, or_left, eqb-true, eq-eqb, ltb-true}
use Rattle.positions.specs.Sets.{has, ascends}
use Rattle.positions.proofs.Order.{has_drop, above_drop}
use Rattle.format_match.proofs.Reached.{stands, taken}
use Rattle.format_ends.specs.Reached.{IsPassed}

pub both_ways : (b : Bool) → b ≡ false → b ≡ true → ⊥
both_ways b e f = cc

-- ---- one list

from_first : (xs : List ℕ) (i y : ℕ) → ascends xs ≡ true → i < length xs → has (drop i xs) y ≡ true → get_or xs i 0 ≤ y
from_first xs i y a h m = elim (or_cases (eqb (get_or xs i 0) y) (has (drop (i + 1) xs) y) (sym (has_drop xs i y h) ∙ m)) [
  | inl e ↦ (let s : get_or xs i 0 ≡ y = eqb-true (get_or xs i 0) y e in omega arith)
  | inr r ↦ (let s : get_or xs i 0 < y = above_drop xs i y a h r in omega arith)
]

first_before : (x : ℕ) (xs : List ℕ) (y : ℕ) → list_all (λ z. ltb x z) xs ≡ true → has xs y ≡ true → x < y
first_before x [] y a h = absurd cc
first_before x (z ∷ xs) y a h =
    let p = and_parts (ltb x z) (list_all (λ z. ltb x z) xs) a in
    elim (or_cases (eqb z y) (has xs y) h) [
      | inl e ↦ subst (λ w. x < w) (eqb-true z y e) (ltb-true x z p.0)
      | inr r ↦ first_before x xs y p.1 r
    ]

-- none of the first ones stands behind the last of them
pub take_last : (xs : List ℕ) (i y : ℕ) → ascends xs ≡ true → i < length xs → has (take (suc i) xs) y ≡ true → y ≤ get_or xs i 0
take_last [] i y a h m = absurd (omega arith)
take_last (x ∷ xs) zero y a h m = elim (or_cases (eqb x y) false m) [
  | inl e ↦ (let s : x ≡ y = eqb-true x y e in omega arith)
  | inr r ↦ absurd cc
]
take_last (x ∷ xs) (suc i) y a h m =
    let p = and_parts (list_all (λ z. ltb x z) xs) (ascends xs) a in
    let at : i < length xs = omega arith in
    elim (or_cases (eqb x y) (has (take (suc i) xs) y) m) [
      | inl e ↦ (let s : x ≡ y = eqb-true x y e in let l : x < get_or xs i 0 = first_before x xs (get_or xs i 0) p.0 (stands xs i at) in omega arith)
      | inr r ↦ take_last xs i y p.1 at r
    ]

pub has_parts : (xs : List ℕ) (i y : ℕ) → has xs y ≡ (has (take i xs) y || has (drop i xs) y)
has_parts xs zero y = refl
has_parts [] (suc i) y = refl
has_parts (x ∷ xs) (suc i) y = by (eqb x y) _ _ _ (has_parts xs i y)
  where
    by : (b p q r : Bool) → p ≡ (q || r) → (b || p) ≡ (b || q || r)
    by true p q r e = refl
    by false p q r e = e

-- an item is what is left from its index on
pub first_left : (xs : List ℕ) (i : ℕ) → i < length xs → has (drop i xs) (get_or xs i 0) ≡ true
first_left xs i h =
    has_drop xs i (get_or xs i 0) h ∙ or_left (eqb (get_or xs i 0) (get_or xs i 0)) (has (drop (i + 1) xs) (get_or xs i 0)) (eq-eqb (get_or xs i 0) (get_or xs i 0) refl)

-- ---- what stands up to a stop

pub passed_more : (xs : List ℕ) (i stop : ℕ) → i < length xs → ((y : ℕ) → has (take i xs) y ≡ true → y ≤ stop) → get_or xs i 0 ≤ stop
    → (y : ℕ) → has (take (i + 1) xs) y ≡ true → y ≤ stop
passed_more xs i stop h b l y m = elim (or_cases (has (take i xs) y) (eqb (get_or xs i 0) y) (sym (taken xs i y h) ∙ m)) [
  | inl r ↦ b y r
  | inr e ↦ (let s : get_or xs i 0 ≡ y = eqb-true (get_or xs i 0) y e in omega arith)
]

pub passed_some : (xs : List ℕ) (i stop : ℕ) → ascends xs ≡ true → i < length xs → ((y : ℕ) → has (take i xs) y ≡ true → y ≤ stop) → stop < get_or xs i 0
    → IsPassed xs stop i
passed_some xs i stop a h b l = record {
  within = omega arith;
  below = b;
  above = λ y m. (let s : get_or xs i 0 ≤ y = from_first xs i y a h m in omega arith);
}

pub passed_all : (xs : List ℕ) (i stop : ℕ) → i ≤ length xs → length xs ≤ i → ((y : ℕ) → has (take i xs) y ≡ true → y ≤ stop) → IsPassed xs stop i
passed_all xs i stop w h b = record {
  within = w;
  below = b;
  above = λ y m. absurd (both_ways (has (drop i xs) y) (ap (λ l. has l y) (drop_all i xs h)) m);
}

-- what stands up to a stop stands up to the later ones
pub passed_on : (before stops : List ℕ) (i passed : ℕ) → ascends stops ≡ true → i < length stops → IsPassed before (get_or stops i 0) passed
    → (q : ℕ) → has (drop (i + 1) stops) q ≡ true → (y : ℕ) → has (take passed before) y ≡ true → y ≤ q
passed_on before stops i passed a h p q m y t =
    let s : get_or stops i 0 < q = above_drop stops i q a h m in
    let u : y ≤ get_or stops i 0 = p.below y t in
    omega arith
