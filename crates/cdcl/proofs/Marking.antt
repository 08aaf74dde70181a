-- Marks of variables, clause by clause.
use Rattle.std.proofs.Common.{◌≡◌, ◌<◌, ◌+◌, ◌||◌, ℕ, List, Bool, true, false, eqb, take, length, get_or, sym, ap, ◌∙◌, inl, inr, subst}
use Rattle.std.proofs.Math.ListN.{set}
use Rattle.std.proofs.lemmas.List.{get_or-set_same, get_or-set_other}
use Rattle.std.proofs.lemmas.List.Folds.{list_any_more}
use Rattle.std.proofs.lemmas.Bool.{cases_eq, or_right, eq-eqb, ne_eqb}
use Rattle.std.proofs.Math.Bool.{or-false}
use Rattle.std.proofs.lemmas.Option.{slice_get-get_or}
use Rattle.cnf_core.specs.Literal.{Literal}
use Rattle.cdcl.specs.Fits.{Fits}
use Rattle.cdcl.specs.Trails.{seen_at, names}

pub fits-read : (room size : ℕ) (clause : List Literal) (i x : ℕ) (l : Literal) → Fits room clause → size ≡ room → i < length clause → l ≡ get_or clause i l → x ≡ l.variable → x < size
fits-read room size clause i x l f s h at e =
    let b = f (get_or clause i l) (i, slice_get-get_or clause i l h) in
    let v : x ≡ (get_or clause i l).variable = e ∙ ap (λ k. k.variable) at in
    rw (s, v) b

names-next : (clause : List Literal) (i v : ℕ) (l : Literal) → i < length clause → l ≡ get_or clause i l → names v (take (i + 1) clause) ≡ (names v (take i clause) || eqb l.variable v)
names-next clause i v l h at = list_any_more (λ k. eqb k.variable v) clause i l h ∙ ap (λ k. names v (take i clause) || eqb k.variable v) (sym at)

or-twice : (a b : Bool) → b ≡ true → (a || b) ≡ true
or-twice a b e = or_right a b e

pub mark-more : (seen before : List Bool) (clause : List Literal) (i x : ℕ) (l : Literal) → i < length clause → l ≡ get_or clause i l → x ≡ l.variable → x < length seen → ((v : ℕ) → seen_at seen v ≡ (seen_at before v || names v (take i clause))) → (v : ℕ) → seen_at (set seen x true) v ≡ (seen_at before v || names v (take (i + 1) clause))
mark-more seen before clause i x l h at e in_seen marks v =
    let next = names-next clause i v l h at in
    elim (cases_eq v x) [
      | inl s ↦
          let here : eqb l.variable v ≡ true = eq-eqb l.variable v (sym (s ∙ e)) in
          let all : (seen_at before v || names v (take (i + 1) clause)) ≡ true = or_right (seen_at before v) (names v (take (i + 1) clause)) (next ∙ or_right (names v (take i clause)) (eqb l.variable v) here) in
          let P : ℕ → Type 0 = λ k. get_or (set seen x true) k false ≡ true in
          subst P (sym s) (get_or-set_same seen x true false in_seen) ∙ sym all
      | inr n ↦
          let other : eqb l.variable v ≡ false = ne_eqb l.variable v (λ u. n (sym u ∙ sym e)) in
          get_or-set_other seen x v true false n ∙ marks v ∙ ap (λ t. seen_at before v || t) (sym (next ∙ ap (λ t. names v (take i clause) || t) other ∙ or-false (names v (take i clause))))
    ]
