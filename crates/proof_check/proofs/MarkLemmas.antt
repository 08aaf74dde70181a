-- A stamp that is written marks one literal more.
use Rattle.std.proofs.Common.{◌≡◌, ◌<◌, ℕ, zero, suc, List, [], ◌∷◌, Some, Bool, true, false, cond, ◌||◌, eqb, length, refl, sym, ap, ◌∙◌, arith, inl, inr, set, get_or}
use Rattle.std.specs.List.{slice_get}
use Rattle.std.proofs.lemmas.Bool.{eqb-true, eq-eqb, false_from_ne_true, cases_eq}
use mathlib.Core.Bool.{beq}
use Rattle.cnf_core.specs.Literal.{Literal}
use Rattle.proof_check.specs.Propagation.{taking}
use Rattle.proof_check.specs.Places.{place_of}
use Rattle.proof_check.specs.Marked.{stamped}
use Rattle.proof_check.specs.declared.marks.Stamps.{Stamps}
use Rattle.proof_check.proofs.PlaceLemmas.{at-place_of}

slice_get-set_same : {X : Type 0} (xs : List X) (i : ℕ) (x : X) → i < length xs → slice_get (set xs i x) i ≡ Some x
slice_get-set_same [] i x h = absurd (omega arith)
slice_get-set_same (y ∷ ys) zero x h = refl
slice_get-set_same (y ∷ ys) (suc i) x h = slice_get-set_same ys i x (omega arith)

slice_get-set_other : {X : Type 0} (xs : List X) (i j : ℕ) (x : X) → (j ≡ i → ⊥) → slice_get (set xs i x) j ≡ slice_get xs j
slice_get-set_other [] i j x n = refl
slice_get-set_other (y ∷ ys) zero zero x n = absurd (n refl)
slice_get-set_other (y ∷ ys) zero (suc j) x n = refl
slice_get-set_other (y ∷ ys) (suc i) zero x n = refl
slice_get-set_other (y ∷ ys) (suc i) (suc j) x n = slice_get-set_other ys i j x (λ e. n (ap (λ k. suc k) e))

-- the round is written for one sign
written : (round a b : ℕ) (sign other : Bool) (e : eqb round round ≡ true) → eqb (cond other (cond sign round a) (cond sign b round)) round ≡ (beq sign other || eqb (cond other a b) round)
written round a b true true e = e
written round a b true false e = refl
written round a b false true e = refl
written round a b false false e = e

abbrev pub in_set : ℕ → List ℕ → List Stamps → Literal → Bool
in_set round variables stamps l = stamped round l.positive (slice_get stamps (place_of variables l.variable))

taken-at : (variables : List ℕ) (stamps : List Stamps) (round p : ℕ) (l : Literal) (old new : Stamps) → p ≡ place_of variables l.variable → p < length variables → p < length stamps → slice_get stamps p ≡ Some old → new.positive ≡ cond l.positive round old.positive → new.negative ≡ cond l.positive old.negative round → (k : Literal) → in_set round variables (set stamps p new) k ≡ taking l (in_set round variables stamps) k
taken-at variables stamps round p l old new is in_variables in_stamps read pos neg k =
    let here : get_or variables p 0 ≡ l.variable = rw is (at-place_of variables l.variable (rw is at in_variables)) in
    elim (cases_eq (place_of variables k.variable) p) [
      | inl e ↦
          let there : get_or variables (place_of variables k.variable) 0 ≡ k.variable = at-place_of variables k.variable (rw e in_variables) in
          let one : l.variable ≡ k.variable = sym here ∙ ap (λ i. get_or variables i 0) (sym e) ∙ there in
          rw (e, slice_get-set_same stamps p new in_stamps, read, pos, neg, eq-eqb l.variable k.variable one) (written round old.positive old.negative l.positive k.positive (eq-eqb round round refl))
      | inr n ↦
          let apart : eqb l.variable k.variable ≡ false = false_from_ne_true (eqb l.variable k.variable) (λ t. n (ap (place_of variables) (sym (eqb-true l.variable k.variable t)) ∙ sym is)) in
          rw (slice_get-set_other stamps p (place_of variables k.variable) new n, apart) refl
    ]

-- so the set has the literal beside what it had
pub taken : (variables : List ℕ) (stamps : List Stamps) (round p : ℕ) (l : Literal) (old new : Stamps) → p ≡ place_of variables l.variable → p < length variables → p < length stamps → slice_get stamps p ≡ Some old → new.positive ≡ cond l.positive round old.positive → new.negative ≡ cond l.positive old.negative round → in_set round variables (set stamps p new) ≡ taking l (in_set round variables stamps)
taken variables stamps round p l old new is in_variables in_stamps read pos neg =
    let at = taken-at variables stamps round p l old new is in_variables in_stamps read pos neg in λ i k. at k i
