-- The first fault of a list of steps, step by step, and what no fault means.
use Rattle.std.proofs.Common.{◌≡◌, ◌<◌, ◌+◌, ◌++◌, ◌∷◌, [], ℕ, zero, suc, List, Some, None, Ok, Option, Bool, true, false, map, take, drop, length, get_or, arith, refl, sym, ap, ◌∙◌, append_assoc, eqb, add-one}
use Rattle.std.specs.List.{slice_get}
use Rattle.std.proofs.lemmas.Bool.{eqb-true, false_from_ne_true}
use Rattle.std.proofs.lemmas.List.{map-append}
use Rattle.std.proofs.lemmas.Option.{slice_get-get_or}
use Rattle.std.proofs.Math.Seq.{drop-cons, take-suc}
use Rattle.cnf_core.specs.Literal.{Literal}
use Rattle.proof_check.specs.declared.propagation.Outcome.{Outcome}
use Rattle.proof_check.specs.declared.propagation.Outcome.TheVariants.{Conflict, BadHint, NoConflict}
use Rattle.proof_check.specs.declared.fault.StepFault.{StepFault}
use Rattle.proof_check.specs.Steps.{Step, clause_of}
use Rattle.proof_check.specs.Refutations.{outcome_of, AreValid, is_empty, ends_empty, IsRefutation, fault_at, or_else, first_fault, verdict, checked}

abbrev no_step : Step
no_step = record { clause = []; hints = [] }

-- the clauses before a step, and those before the next
next-clauses : (formula : List (List Literal)) (steps : List Step) (i : ℕ) → i < length steps → (formula ++ map clause_of (take i steps)) ++ (get_or steps i no_step).clause ∷ [] ≡ formula ++ map clause_of (take (i + 1) steps)
next-clauses formula steps i h =
    append_assoc formula (map clause_of (take i steps)) ((get_or steps i no_step).clause ∷ []) ∙ ap (λ t. formula ++ t) (sym (rw (add-one i, take-suc steps i no_step h) (map-append clause_of (take i steps) (get_or steps i no_step ∷ []))))

pub fault-step : (formula : List (List Literal)) (steps : List Step) (i : ℕ) (o : Outcome) → i < length steps → ((step : Step) → slice_get steps i ≡ Some step → o ≡ outcome_of (formula ++ map clause_of (take i steps)) step) → first_fault (formula ++ map clause_of (take i steps)) (i + 1) (drop i steps) ≡ or_else (fault_at (i + 1) o) (first_fault (formula ++ map clause_of (take (i + 1) steps)) (i + 1 + 1) (drop (i + 1) steps))
fault-step formula steps i o h is =
    let clauses = formula ++ map clause_of (take i steps) in
    let step = get_or steps i no_step in
    let rest = drop (suc i) steps in
    let here = is step (slice_get-get_or steps i no_step h) in
    ap (first_fault clauses (i + 1)) (drop-cons steps i no_step h)
    ∙ ap (λ t. or_else (fault_at (i + 1) t) (first_fault (clauses ++ step.clause ∷ []) (i + 1 + 1) rest)) (sym here)
    ∙ ap (λ t. or_else (fault_at (i + 1) o) (first_fault t (i + 1 + 1) rest)) (next-clauses formula steps i h)
    ∙ ap (λ n. or_else (fault_at (i + 1) o) (first_fault (formula ++ map clause_of (take (i + 1) steps)) (i + 1 + 1) (drop n steps))) (sym (add-one i))

-- the last step's clause
pub ends_empty-last : (steps : List Step) (i : ℕ) (s : Step) → slice_get steps i ≡ Some s → length steps ≡ i + 1 → ends_empty steps ≡ is_empty s.clause
ends_empty-last [] i s at n = absurd (cc)
ends_empty-last (x ∷ []) zero s at n = let e : x ≡ s = cc in ap (λ t. is_empty t.clause) e
ends_empty-last (x ∷ []) (suc i) s at n = absurd (cc)
ends_empty-last (x ∷ y ∷ ys) zero s at n = absurd (omega arith)
ends_empty-last (x ∷ y ∷ ys) (suc i) s at n = ends_empty-last (y ∷ ys) i s at (omega arith)

pub is_empty-length : (clause : List Literal) → eqb (length clause) 0 ≡ is_empty clause
is_empty-length [] = refl
is_empty-length (l ∷ ls) = false_from_ne_true (eqb (suc (length ls)) 0) (λ e. let z : suc (length ls) ≡ 0 = eqb-true (suc (length ls)) 0 e in omega arith)

fault_at-none : (number : ℕ) (o : Outcome) (rest : Option StepFault) → or_else (fault_at number o) rest ≡ None → (o ≡ Conflict) × (rest ≡ None)
fault_at-none number Conflict rest e = (refl, e)
fault_at-none number BadHint rest e = absurd (cc)
fault_at-none number NoConflict rest e = absurd (cc)

valid-from_none : (clauses : List (List Literal)) (number : ℕ) (steps : List Step) → first_fault clauses number steps ≡ None → AreValid clauses steps
valid-from_none clauses number [] e = tt
valid-from_none clauses number (step ∷ steps) e =
    let p = fault_at-none number (outcome_of clauses step) (first_fault (clauses ++ step.clause ∷ []) (number + 1) steps) e in
    (p.0, valid-from_none (clauses ++ step.clause ∷ []) (number + 1) steps p.1)

none-from_valid : (clauses : List (List Literal)) (number : ℕ) (steps : List Step) → AreValid clauses steps → first_fault clauses number steps ≡ None
none-from_valid clauses number [] v = refl
none-from_valid clauses number (step ∷ steps) v = rw v.0 (none-from_valid (clauses ++ step.clause ∷ []) (number + 1) steps v.1)

verdict-ok : (fault : Option StepFault) (empty : Bool) → verdict fault empty ≡ Ok tt → (fault ≡ None) × (empty ≡ true)
verdict-ok (Some fault) empty e = absurd (cc)
verdict-ok None true e = (refl, refl)
verdict-ok None false e = absurd (cc)

-- what is checked is a refutation, and no other list of steps
pub checked-refutation : (formula : List (List Literal)) (steps : List Step) → checked formula steps ≡ Ok tt → IsRefutation formula steps
checked-refutation formula steps e =
    let p = verdict-ok (first_fault formula 1 steps) (ends_empty steps) e in
    (valid-from_none formula 1 steps p.0, p.1)

pub refutation-checked : (formula : List (List Literal)) (steps : List Step) → IsRefutation formula steps → checked formula steps ≡ Ok tt
refutation-checked formula steps r = rw (none-from_valid formula 1 steps r.0, r.1) refl
