-- Steps of a proof.
use Rattle.std.specs.Prelude.{ℕ, List, [], ◌∷◌}
use Rattle.cnf_core.specs.Literal.{Literal}

-- a clause, and the numbers of the clauses from which it follows
pub record Step : Type 0 where
  pub clause : List Literal
  pub hints : List ℕ

abbrev pub clause_of : Step → List Literal
clause_of step = step.clause

-- each clause beside the hints at its index
abbrev pub steps_of : List (List Literal) → List (List ℕ) → List Step
steps_of [] hints = []
steps_of (clause ∷ clauses) [] = []
steps_of (clause ∷ clauses) (numbers ∷ hints) = record { clause = clause; hints = numbers } ∷ steps_of clauses hints
