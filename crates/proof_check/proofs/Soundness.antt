-- A refutation that is accepted leaves no valuation that makes each clause hold.
use Rattle.std.proofs.Common.{◌≡◌, ◌++◌, ◌∷◌, [], ℕ, zero, suc, List, Some, None, Ok, Err, Result, Bool, true, false, not, cond, ◌&&◌, refl, sym, ap, ◌∙◌, inl, inr}
use Rattle.std.specs.Prelude.{⊤, OnOk}
use Rattle.std.specs.List.{list_any, list_all, filter, slice_get}
use Rattle.std.proofs.lemmas.Bool.{or_cases, or_parts, or_right, and_parts, cases_Bool, both_ways}
use Rattle.std.proofs.lemmas.List.Folds.{list_all-append}
use Rattle.cnf_core.specs.Literal.{Literal, negated, same}
use Rattle.cnf_core.specs.Equality.{same-true}
use Rattle.cnf_core.specs.Truth.{Valuation, literal_holds, clause_holds, formula_holds, Unsatisfiable, clause_at}
use Rattle.proof_check.specs.declared.propagation.Reading.{Reading}
use Rattle.proof_check.specs.declared.propagation.Reading.TheVariants.{Falsified, Implied, Neither}
use Rattle.proof_check.specs.declared.propagation.Outcome.TheVariants.{Conflict}
use Rattle.proof_check.specs.Steps.{Step}
use Rattle.proof_check.specs.Propagation.{Known, taking, negations, isnt_false, reading_of, reading, after, if_found, propagated}
use Rattle.proof_check.specs.Refutations.{IsValid, AreValid, IsRefutation, is_empty, ends_empty, checked}
use Rattle.proof_check.specs.declared.fault.StepFault.{StepFault}
use Rattle.proof_check.proofs.FaultLemmas.{checked-refutation}

-- each literal that is taken as true holds
abbrev pub Knows : Valuation → Known → Type 0
Knows v known = (l : Literal) → known l ≡ true → literal_holds v l ≡ true

negated-holds : (v : Valuation) (l : Literal) → literal_holds v (negated l) ≡ not (literal_holds v l)
negated-holds v l = go (v l.variable) l.positive
  where
    go : (b p : Bool) → cond (not p) b (not b) ≡ not (cond p b (not b))
    go true true = refl
    go true false = refl
    go false true = refl
    go false false = refl

-- a literal that holds isn't false
held-isnt_false : (v : Valuation) (known : Known) (l : Literal) → Knows v known → literal_holds v l ≡ true → isnt_false known l ≡ true
held-isnt_false v known l k h =
    elim (cases_Bool (known (negated l))) [
      | inl e ↦ absurd (both_ways (literal_holds v (negated l)) (negated-holds v l ∙ rw h refl) (k (negated l) e))
      | inr e ↦ rw e refl
    ]

any-filter : (v : Valuation) (known : Known) (clause : List Literal) → Knows v known → clause_holds v clause ≡ true → list_any (literal_holds v) (filter (isnt_false known) clause) ≡ true
any-filter v known [] k e = e
any-filter v known (l ∷ ls) k e =
    elim (or_cases (literal_holds v l) (list_any (literal_holds v) ls) e) [
      | inl h ↦ rw (held-isnt_false v known l k h, h) refl
      | inr t ↦ elim (isnt_false known l) as (λ b. list_any (literal_holds v) (cond b (l ∷ filter (isnt_false known) ls) (filter (isnt_false known) ls)) ≡ true) [
        | true ↦ or_right (literal_holds v l) _ (any-filter v known ls k t)
        | false ↦ any-filter v known ls k t
      ]
    ]

any-same : (v : Valuation) (x : Literal) (more : List Literal) → list_all (same x) more ≡ true → list_any (literal_holds v) more ≡ true → literal_holds v x ≡ true
any-same v x [] a e = absurd (cc)
any-same v x (y ∷ ys) a e =
    let p = and_parts (same x y) (list_all (same x) ys) a in
    elim (or_cases (literal_holds v y) (list_any (literal_holds v) ys) e) [
      | inl h ↦ ap (literal_holds v) (same-true x y p.0) ∙ h
      | inr t ↦ any-same v x ys p.1 t
    ]

-- what a clause that holds reads as
abbrev pub ReadsTrue : Valuation → Reading → Type 0
ReadsTrue v Falsified = ⊥
ReadsTrue v (Implied l) = literal_holds v l ≡ true
ReadsTrue v Neither = Unit {0}

reads-head : (v : Valuation) (known : Known) (xs : List Literal) → list_any (literal_holds v) xs ≡ true → ReadsTrue v (reading_of known xs)
reads-head v known [] e = absurd (cc)
reads-head v known (x ∷ more) e =
    elim (cases_Bool (list_all (same x) more && not (known x))) [
      | inl b ↦ rw b (elim (or_cases (literal_holds v x) (list_any (literal_holds v) more) e) [
        | inl h ↦ h
        | inr t ↦ any-same v x more (and_parts (list_all (same x) more) (not (known x)) b).0 t
      ])
      | inr b ↦ rw b tt
    ]

pub reads-true : (v : Valuation) (known : Known) (clause : List Literal) → Knows v known → clause_holds v clause ≡ true → ReadsTrue v (reading known clause)
reads-true v known clause k e = reads-head v known (filter (isnt_false known) clause) (any-filter v known clause k e)

Knows-taking : (v : Valuation) (known : Known) (l : Literal) → Knows v known → literal_holds v l ≡ true → Knows v (taking l known)
Knows-taking v known l k h m e =
    elim (or_cases (same l m) (known m) e) [
      | inl s ↦ ap (literal_holds v) (sym (same-true l m s)) ∙ h
      | inr t ↦ k m t
    ]

held-at : (v : Valuation) (clauses : List (List Literal)) (i : ℕ) (c : List Literal) → formula_holds v clauses ≡ true → slice_get clauses i ≡ Some c → clause_holds v c ≡ true
held-at v [] i c f e = absurd (cc)
held-at v (d ∷ ds) zero c f e = let s : d ≡ c = cc in ap (clause_holds v) (sym s) ∙ (and_parts (clause_holds v d) (formula_holds v ds) f).0
held-at v (d ∷ ds) (suc i) c f e = held-at v ds i c (and_parts (clause_holds v d) (formula_holds v ds) f).1 e

pub held-numbered : (v : Valuation) (clauses : List (List Literal)) (number : ℕ) (c : List Literal) → formula_holds v clauses ≡ true → clause_at clauses number ≡ Some c → clause_holds v c ≡ true
held-numbered v clauses zero c f e = absurd (cc)
held-numbered v clauses (suc n) c f e = held-at v clauses n c f e

-- hints that end in a conflict refute what is known
pub hints-sound : (v : Valuation) (clauses : List (List Literal)) (known : Known) (hints : List ℕ) → formula_holds v clauses ≡ true → Knows v known → propagated clauses known hints ≡ Conflict → ⊥
hints-sound v clauses known [] f k e = cc
hints-sound v clauses known (hint ∷ hints) f k e =
    elim (clause_at clauses hint) as (λ o. clause_at clauses hint ≡ o → if_found o (λ clause. after (reading known clause) (λ l. propagated clauses (taking l known) hints)) ≡ Conflict → ⊥) [
      | None ↦ λ _ bad. cc
      | Some clause ↦ λ is good.
          let held = reads-true v known clause k (held-numbered v clauses hint clause f is) in
          elim (reading known clause) as (λ r. ReadsTrue v r → after r (λ l. propagated clauses (taking l known) hints) ≡ Conflict → ⊥) [
            | Falsified ↦ λ never _. never
            | Implied l ↦ λ h rest. hints-sound v clauses (taking l known) hints f (Knows-taking v known l k h) rest
            | Neither ↦ λ _ bad. cc
          ] held good
    ] refl e

Knows-negations : (v : Valuation) (clause : List Literal) → clause_holds v clause ≡ false → Knows v (negations clause)
Knows-negations v [] e m h = absurd (cc)
Knows-negations v (l ∷ ls) e m h =
    let p = or_parts (literal_holds v l) (list_any (literal_holds v) ls) e in
    elim (or_cases (same (negated l) m) (negations ls m) h) [
      | inl s ↦ ap (literal_holds v) (sym (same-true (negated l) m s)) ∙ negated-holds v l ∙ rw p.0 refl
      | inr t ↦ Knows-negations v ls p.1 m t
    ]

-- a valid step's clause holds wherever the clauses hold
pub step-sound : (v : Valuation) (clauses : List (List Literal)) (step : Step) → formula_holds v clauses ≡ true → IsValid clauses step → clause_holds v step.clause ≡ true
step-sound v clauses step f e =
    elim (cases_Bool (clause_holds v step.clause)) [
      | inl h ↦ h
      | inr h ↦ absurd (hints-sound v clauses (negations step.clause) step.hints f (Knows-negations v step.clause h) e)
    ]

empty-false : (v : Valuation) (clause : List Literal) → clause_holds v clause ≡ true → is_empty clause ≡ true → ⊥
empty-false v [] h e = cc
empty-false v (l ∷ ls) h e = cc

-- where the clauses hold, the last of valid steps isn't empty
steps-sound : (v : Valuation) (clauses : List (List Literal)) (steps : List Step) → formula_holds v clauses ≡ true → AreValid clauses steps → ends_empty steps ≡ true → ⊥
steps-sound v clauses [] f valid e = cc
steps-sound v clauses (step ∷ []) f valid e = empty-false v step.clause (step-sound v clauses step f valid.0) e
steps-sound v clauses (step ∷ next ∷ steps) f valid e =
    let h = step-sound v clauses step f valid.0 in
    steps-sound v (clauses ++ step.clause ∷ []) (next ∷ steps) (list_all-append (clause_holds v) clauses (step.clause ∷ []) ∙ rw (f, h) refl) valid.1 e

pub refutation-sound : (formula : List (List Literal)) (steps : List Step) → IsRefutation formula steps → Unsatisfiable formula
refutation-sound formula steps refutes v f = steps-sound v formula steps f refutes.0 refutes.1

pub checked-sound : (formula : List (List Literal)) (steps : List Step) (r : Result ⊤ StepFault) → r ≡ checked formula steps → OnOk r (Unsatisfiable formula)
checked-sound formula steps (Ok u) e = refutation-sound formula steps (checked-refutation formula steps (sym e))
checked-sound formula steps (Err fault) e = tt
