-- The definition computes the worked examples.
use Rattle.std.proofs.Common.{◌≡◌, ◌∷◌, [], List, Ok, Err, true, false, refl, ℕ}
use Rattle.cnf_core.specs.Literal.{Literal}
use Rattle.proof_check.specs.Steps.{Step}
use Rattle.proof_check.specs.declared.fault.StepFault.TheVariants.{BadHint, NoConflict, NoEmptyClause}
use Rattle.proof_check.specs.Refutations.{checked}

abbrev one : Literal
one = record { variable = 1; positive = true }

abbrev minus_one : Literal
minus_one = record { variable = 1; positive = false }

abbrev far : Literal
far = record { variable = 2000000000; positive = true }

abbrev units : List (List Literal)
units = (one ∷ []) ∷ (minus_one ∷ []) ∷ []

abbrev step : List Literal → List ℕ → Step
step clause hints = record { clause = clause; hints = hints }

row_accepted : checked units (step [] (1 ∷ 2 ∷ []) ∷ []) ≡ Ok tt
row_accepted = refl

row_repeated_hint : checked units (step [] (1 ∷ 1 ∷ []) ∷ []) ≡ Err (BadHint 1)
row_repeated_hint = refl

row_short : checked units (step [] (1 ∷ []) ∷ []) ≡ Err (NoConflict 1)
row_short = refl

row_none : checked units [] ≡ Err NoEmptyClause
row_none = refl

row_far : checked units (step (far ∷ []) (4294967295 ∷ []) ∷ []) ≡ Err (BadHint 1)
row_far = refl

row_later_hint : checked units (step (far ∷ []) (4 ∷ []) ∷ step [] (1 ∷ 2 ∷ []) ∷ []) ≡ Err (BadHint 1)
row_later_hint = refl

row_own_hint : checked units (step (far ∷ []) (3 ∷ []) ∷ []) ≡ Err (BadHint 1)
row_own_hint = refl

row_after_empty : checked units (step [] (1 ∷ 2 ∷ []) ∷ step (far ∷ []) (3 ∷ []) ∷ []) ≡ Err NoEmptyClause
row_after_empty = refl

row_tautology : checked ((one ∷ minus_one ∷ []) ∷ units) (step (one ∷ minus_one ∷ []) (1 ∷ []) ∷ step [] (2 ∷ 3 ∷ []) ∷ []) ≡ Ok tt
row_tautology = refl

row_repeated_literal : checked ((one ∷ one ∷ []) ∷ (minus_one ∷ []) ∷ []) (step [] (1 ∷ 2 ∷ []) ∷ []) ≡ Ok tt
row_repeated_literal = refl
