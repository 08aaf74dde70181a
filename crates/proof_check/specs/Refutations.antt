-- Valid steps, refutations and trails, and the first fault of a list of steps.
use Rattle.std.specs.Prelude.{◌≡◌, ◌+◌, ℕ, Bool, true, false, List, [], ◌∷◌, ◌++◌, map, Option, Some, None, Result, Ok, Err, ⊤}
use Rattle.cnf_core.specs.Literal.{Literal}
use Rattle.proof_check.specs.Steps.{Step, clause_of}
use Rattle.proof_check.specs.Propagation.{negations, propagated}
use Rattle.proof_check.specs.declared.propagation.Outcome.{Outcome}
use Rattle.proof_check.specs.declared.propagation.Outcome.TheVariants.{Conflict, BadHint, NoConflict}
use Rattle.proof_check.specs.declared.fault.StepFault.{StepFault}
use Rattle.proof_check.specs.declared.fault.StepFault.TheVariants.{BadHint as BadHintAt, NoConflict as NoConflictAt, NoEmptyClause}

-- what comes of a step over clauses: its literals are taken as false, and its hints are read
abbrev pub outcome_of : List (List Literal) → Step → Outcome
outcome_of clauses step = propagated clauses (negations step.clause) step.hints

abbrev pub IsValid : List (List Literal) → Step → Type 0
IsValid clauses step = outcome_of clauses step ≡ Conflict

-- each step is valid over the clauses and those of the steps before it
abbrev pub AreValid : List (List Literal) → List Step → Type 0
AreValid clauses [] = Unit {0}
AreValid clauses (step ∷ steps) = IsValid clauses step × AreValid (clauses ++ step.clause ∷ []) steps

abbrev pub is_empty : List Literal → Bool
is_empty [] = true
is_empty (l ∷ more) = false

-- the last step's clause is the empty one
abbrev pub ends_empty : List Step → Bool
ends_empty [] = false
ends_empty (step ∷ []) = is_empty step.clause
ends_empty (step ∷ next ∷ steps) = ends_empty (next ∷ steps)

-- valid steps, the last of them the empty clause
abbrev pub IsRefutation : List (List Literal) → List Step → Type 0
IsRefutation formula steps = AreValid formula steps × (ends_empty steps ≡ true)

-- steps that are valid over a formula and over kept steps, which are valid over the formula
abbrev pub IsTrail : List (List Literal) → List Step → List Step → Type 0
IsTrail formula kept steps = AreValid formula kept × AreValid (formula ++ map clause_of kept) steps

-- the fault of the step with this number
abbrev pub fault_at : ℕ → Outcome → Option StepFault
fault_at number Conflict = None
fault_at number BadHint = Some (BadHintAt number)
fault_at number NoConflict = Some (NoConflictAt number)

abbrev pub or_else : Option StepFault → Option StepFault → Option StepFault
or_else None next = next
or_else (Some fault) next = Some fault

-- the fault of the first step that isn't valid, where the first of these steps has this number
abbrev pub first_fault : List (List Literal) → ℕ → List Step → Option StepFault
first_fault clauses number [] = None
first_fault clauses number (step ∷ steps) = or_else (fault_at number (outcome_of clauses step)) (first_fault (clauses ++ step.clause ∷ []) (number + 1) steps)

abbrev pub verdict : Option StepFault → Bool → Result ⊤ StepFault
verdict (Some fault) empty = Err fault
verdict None true = Ok tt
verdict None false = Err NoEmptyClause

-- the first invalid step, counted from 1, then the end
abbrev pub checked : List (List Literal) → List Step → Result ⊤ StepFault
checked formula steps = verdict (first_fault formula 1 steps) (ends_empty steps)
