-- Marks of positions, put one after another.
use Rattle.std.proofs.Common.{◌≡◌, ℕ, zero, suc, ◌+◌, ◌<◌, ◌≤◌, ◌↔◌, Bool, true, false, List, [], ◌∷◌, ◌++◌, length, set, refl, sym, ap, subst, ◌∙◌, arith, inl, inr}
use Rattle.std.proofs.Math.Nat.{eq-or-lt_of_le}
use Rattle.std.proofs.Math.ListN.{length-set}
use Rattle.std.proofs.lemmas.Bool.{cases_lt, cases_eq}
use Rattle.std.proofs.lemmas.List.{length-append, get_or_append_left, get_or_push, get_or-set_same, get_or-set_other}
use Rattle.format_match.specs.Beginning.{is_marked}

unmarked_not : (b : Bool) → b ≡ false → b ≡ true → ⊥
unmarked_not b e f = cc

pub beyond : (marks : List Bool) (y : ℕ) → length marks ≤ y → is_marked marks y ≡ false
beyond [] y h = refl
beyond (b ∷ marks) zero h = absurd (omega arith)
beyond (b ∷ marks) (suc y) h = beyond marks y (omega arith)

-- there are so many marks, and they stand exactly where this holds
pub record AreBelow (P : ℕ → Type 0) (n : ℕ) (marks : List Bool) : Type 0 where
  pub len : length marks ≡ n
  pub are : (y : ℕ) → y < n → (is_marked marks y ≡ true) ↔ P y

pub below_none : (P : ℕ → Type 0) → AreBelow P 0 []
below_none P = record { len = refl; are = λ y h. absurd (omega (arith, h)) }

pub below_more : (P : ℕ → Type 0) (n : ℕ) (marks : List Bool) (b : Bool) → ((b ≡ true) ↔ P n) → AreBelow P n marks → AreBelow P (n + 1) (marks ++ b ∷ [])
below_more P n marks b p m = record {
  len = omega (arith, length-append marks (b ∷ []), m.len);
  are = λ y h. elim (eq-or-lt_of_le (within y h)) [
    | inl e ↦ (let here : is_marked (marks ++ b ∷ []) y ≡ b = get_or_push marks b false y (m.len ∙ sym e) in
        (λ t. subst P (sym e) (p.0 (sym here ∙ t)), λ q. here ∙ p.1 (subst P e q)))
    | inr l ↦ (let there : is_marked (marks ++ b ∷ []) y ≡ is_marked marks y = get_or_append_left marks (b ∷ []) false y (subst (λ k. y < k) (sym m.len) l) in
        (λ t. (m.are y l).0 (sym there ∙ t), λ q. there ∙ (m.are y l).1 q))
  ];
}
  where
    within : (y : ℕ) → y < n + 1 → y ≤ n
    within y h = omega arith

-- it holds nowhere else
pub below_all : (P : ℕ → Type 0) (n k : ℕ) (marks : List Bool) → n ≤ k → AreBelow P k marks → ((y : ℕ) → P y → y < n) → (y : ℕ) → (is_marked marks y ≡ true) ↔ P y
below_all P n k marks h m w y = (
  λ t. elim (cases_lt y k) [
    | inl l ↦ (m.are y l).0 t
    | inr g ↦ absurd (unmarked_not (is_marked marks y) (beyond marks y (subst (λ j. j ≤ y) (sym m.len) g)) t)
  ],
  λ p. (m.are y (omega (arith, w y p))).1 p,
)

-- the same from a position on, where marks are set from the back
pub record AreFrom (P : ℕ → Type 0) (at n : ℕ) (marks : List Bool) : Type 0 where
  pub len : length marks ≡ n
  pub are : (y : ℕ) → at ≤ y → y < n → (is_marked marks y ≡ true) ↔ P y

pub from_more : (P : ℕ → Type 0) (at k n : ℕ) (marks : List Bool) (b : Bool) → at ≡ k + 1 → k < n → ((b ≡ true) ↔ P k) → AreFrom P at n marks → AreFrom P k n (set marks k b)
from_more P at k n marks b e l p m = record {
  len = length-set marks k b ∙ m.len;
  are = λ y h j. elim (cases_eq y k) [
    | inl s ↦ (let here : is_marked (set marks k b) y ≡ b = ap (λ i. is_marked (set marks k b) i) s ∙ get_or-set_same marks k b false (subst (λ i. k < i) (sym m.len) l) in
        (λ t. subst P (sym s) (p.0 (sym here ∙ t)), λ q. here ∙ p.1 (subst P s q)))
    | inr d ↦ (let there : is_marked (set marks k b) y ≡ is_marked marks y = get_or-set_other marks k y b false d in
        let on : at ≤ y = after y h d in
        (λ t. (m.are y on j).0 (sym there ∙ t), λ q. there ∙ (m.are y on j).1 q))
  ];
}
  where
    after : (y : ℕ) → k ≤ y → (y ≡ k → ⊥) → at ≤ y
    after y h d = omega arith

-- the position behind those that are set
pub from_next : (P : ℕ → Type 0) (at n : ℕ) (marks : List Bool) → AreFrom P at n marks → ((y : ℕ) → P y → y < n) → (is_marked marks at ≡ true) ↔ P at
from_next P at n marks m w = elim (cases_lt at n) [
  | inl l ↦ m.are at (omega arith) l
  | inr g ↦ (λ t. absurd (unmarked_not (is_marked marks at) (beyond marks at (subst (λ j. j ≤ at) (sym m.len) g)) t), λ p. absurd (omega (arith, w at p)))
]

pub from_all : (P : ℕ → Type 0) (at n : ℕ) (marks : List Bool) → at ≡ 0 → AreFrom P at n marks → ((y : ℕ) → P y → y < n) → (y : ℕ) → (is_marked marks y ≡ true) ↔ P y
from_all P at n marks e m w = below_all P n n marks (omega arith) (record { len = m.len; are = λ y h. m.are y (omega arith) h }) w

-- ---- marks alike

pub no_more : (marks : List Bool) → ((y : ℕ) → is_marked marks y ≡ false) → (y : ℕ) → is_marked (marks ++ false ∷ []) y ≡ false
no_more [] h zero = refl
no_more [] h (suc y) = refl
no_more (b ∷ marks) h zero = h 0
no_more (b ∷ marks) h (suc y) = no_more marks (λ k. h (suc k)) y
