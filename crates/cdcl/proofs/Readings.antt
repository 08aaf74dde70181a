-- What was read of a clause, literal by literal.
use Rattle.std.proofs.Common.{◌≡◌, ◌<◌, ◌≤◌, ◌⊎◌, ◌+◌, ◌++◌, ◌∷◌, [], ℕ, zero, suc, List, Option, Some, None, Bool, true, false, not, take, take_all, length, get_or, refl, sym, ap, ◌∙◌, inl, inr, arith}
use Rattle.std.specs.List.{slice_get}
use Rattle.std.proofs.lemmas.Option.{slice_get-get_or}
use Rattle.std.proofs.lemmas.List.{take_more}
use Rattle.cnf_core.specs.Literal.{Literal, negated, same}
use Rattle.cnf_core.specs.Equality.{same-self}
use Rattle.std.proofs.lemmas.Bool.{both_ways, not-true}
use Rattle.proof_check.specs.Propagation.{Known}
use Rattle.cdcl.specs.Known.{Member, IsOpen, IsUnit, AllFalse, HasTrue}

-- all literals read so far are false, or all but this one, which has no value
abbrev pub SoFar : Known → List Literal → Option Literal → Type 0
SoFar known read None = AllFalse known read
SoFar known read (Some p) = IsUnit known p read

pub slice-cases : {X : Type 0} (xs : List X) (x y : X) (k : ℕ) → slice_get (xs ++ x ∷ []) k ≡ Some y → (slice_get xs k ≡ Some y) ⊎ ((k ≡ length xs) × (y ≡ x))
slice-cases [] x y zero e = let s : x ≡ y = cc in inr (refl, sym s)
slice-cases [] x y (suc k) e = absurd (cc)
slice-cases (z ∷ zs) x y zero e = inl e
slice-cases (z ∷ zs) x y (suc k) e = elim (slice-cases zs x y k e) [ inl h ↦ inl h | inr h ↦ inr (omega (arith, h.0), h.1) ]

pub slice-left : {X : Type 0} (xs : List X) (x y : X) (k : ℕ) → slice_get xs k ≡ Some y → slice_get (xs ++ x ∷ []) k ≡ Some y
slice-left [] x y k e = absurd (cc)
slice-left (z ∷ zs) x y zero e = e
slice-left (z ∷ zs) x y (suc k) e = slice-left zs x y k e

pub slice-last : {X : Type 0} (xs : List X) (x : X) → slice_get (xs ++ x ∷ []) (length xs) ≡ Some x
slice-last [] x = refl
slice-last (y ∷ ys) x = slice-last ys x

pub member-cases : (xs : List Literal) (x l : Literal) → Member l (xs ++ x ∷ []) → Member l xs ⊎ (l ≡ x)
member-cases xs x l (k, e) = elim (slice-cases xs x l k e) [ inl h ↦ inl (k, h) | inr h ↦ inr h.1 ]

false-push : (known : Known) (xs : List Literal) (x : Literal) → AllFalse known xs → known (negated x) ≡ true → AllFalse known (xs ++ x ∷ [])
false-push known xs x all f l m = elim (member-cases xs x l m) [
  | inl b ↦ all l b
  | inr s ↦ ap (λ k. known (negated k)) s ∙ f
]

unit-first : (known : Known) (xs : List Literal) (x : Literal) → AllFalse known xs → known x ≡ false → known (negated x) ≡ false → IsUnit known x (xs ++ x ∷ [])
unit-first known xs x all f o = record {
  has = (length xs, slice-last xs x);
  others = λ l m. elim (member-cases xs x l m) [ inl b ↦ inr (all l b) | inr s ↦ inl s ];
  is_open = record { fresh = f; opposite = o };
}

unit-false : (known : Known) (xs : List Literal) (p x : Literal) → IsUnit known p xs → known (negated x) ≡ true → IsUnit known p (xs ++ x ∷ [])
unit-false known xs p x u f = record {
  has = (u.has.0, slice-left xs x p u.has.0 u.has.1);
  others = λ l m. elim (member-cases xs x l m) [ inl b ↦ u.others l b | inr s ↦ inr (ap (λ k. known (negated k)) s ∙ f) ];
  is_open = u.is_open;
}

unit-again : (known : Known) (xs : List Literal) (p x : Literal) → IsUnit known p xs → p ≡ x → IsUnit known p (xs ++ x ∷ [])
unit-again known xs p x u s = record {
  has = (u.has.0, slice-left xs x p u.has.0 u.has.1);
  others = λ l m. elim (member-cases xs x l m) [ inl b ↦ u.others l b | inr t ↦ inl (t ∙ sym s) ];
  is_open = u.is_open;
}

more : (clause : List Literal) (i : ℕ) (l : Literal) → i < length clause → l ≡ get_or clause i l → take (i + 1) clause ≡ take i clause ++ l ∷ []
more clause i l h at = take_more clause i l h ∙ ap (λ t. take i clause ++ t ∷ []) (sym at)

pub read-false : (known : Known) (clause : List Literal) (i : ℕ) (l n : Literal) (candidate : Option Literal) (r : Bool) → i < length clause → l ≡ get_or clause i l → SoFar known (take i clause) candidate → r ≡ true → r ≡ known n → n ≡ negated l → SoFar known (take (i + 1) clause) candidate
read-false known clause i l n candidate r h at s is_t is back =
    let f : known (negated l) ≡ true = rw (← back, ← is) is_t in
    rw (more clause i l h at) (elim candidate as (λ o. SoFar known (take i clause) o → SoFar known (take i clause ++ l ∷ []) o) [
      | None ↦ λ t. false-push known (take i clause) l t f
      | Some p ↦ λ t. unit-false known (take i clause) p l t f
    ] s)

pub read-first : (known : Known) (clause : List Literal) (i : ℕ) (l n : Literal) (q r : Bool) → i < length clause → l ≡ get_or clause i l → SoFar known (take i clause) None → q ≡ false → q ≡ known l → r ≡ false → r ≡ known n → n ≡ negated l → SoFar known (take (i + 1) clause) (Some l)
read-first known clause i l n q r h at s q_f q_is r_f is back =
    let o : known (negated l) ≡ false = rw (← back, ← is) r_f in
    rw (more clause i l h at) (unit-first known (take i clause) l s (sym q_is ∙ q_f) o)

pub read-again : (known : Known) (clause : List Literal) (i : ℕ) (l first : Literal) → i < length clause → l ≡ get_or clause i l → SoFar known (take i clause) (Some first) → first ≡ l → SoFar known (take (i + 1) clause) (Some first)
read-again known clause i l first h at s e = rw (more clause i l h at) (unit-again known (take i clause) first l s e)

pub read-true : (known : Known) (clause : List Literal) (i : ℕ) (l : Literal) (q : Bool) → i < length clause → l ≡ get_or clause i l → q ≡ true → q ≡ known l → HasTrue known clause
read-true known clause i l q h at q_t is = (l, (i, slice_get-get_or clause i l h ∙ ap (λ t. Some t) (sym at)), sym is ∙ q_t)

pub read-whole : (known : Known) (clause : List Literal) (i : ℕ) (candidate : Option Literal) → length clause ≤ i → SoFar known (take i clause) candidate → SoFar known clause candidate
read-whole known clause i candidate h s = rw (take_all i clause h) at s

pub member-taken : (xs : List Literal) (i : ℕ) (l : Literal) → Member l (take i xs) → Member l xs
member-taken xs i l m = (m.0, go xs i m.0 m.1)
  where
    go : (ys : List Literal) (n k : ℕ) → slice_get (take n ys) k ≡ Some l → slice_get ys k ≡ Some l
    go [] zero k e = absurd (cc)
    go [] (suc n) k e = absurd (cc)
    go (y ∷ ys) zero k e = absurd (cc)
    go (y ∷ ys) (suc n) zero e = e
    go (y ∷ ys) (suc n) (suc k) e = go ys n k e

pub read-undecided : (known : Known) (clause : List Literal) (i : ℕ) (candidate : Option Literal) (p l n : Literal) (q r u : Bool) → candidate ≡ Some p → SoFar known (take i clause) candidate → i < length clause → l ≡ get_or clause i l → q ≡ false → q ≡ known l → r ≡ false → r ≡ known n → n ≡ negated l → u ≡ not (same p l) → u ≡ true → Member p clause × IsOpen known p × Member l clause × IsOpen known l × (p ≡ l → ⊥)
read-undecided known clause i candidate p l n q r u is s h at q_f q_is r_f r_is back ne ne_t =
    let w : IsUnit known p (take i clause) = rw is at s in
    let o : known (negated l) ≡ false = rw (← back, ← r_is) r_f in (
      member-taken clause i p w.has,
      w.is_open,
      (i, slice_get-get_or clause i l h ∙ ap (λ t. Some t) (sym at)),
      record { fresh = sym q_is ∙ q_f; opposite = o },
      λ e. let one : same p l ≡ true = ap (λ t. same p t) (sym e) ∙ same-self p in let off : not (same p l) ≡ true = sym ne ∙ ne_t in both_ways (same p l) (not-true (same p l) off) one,
    )
