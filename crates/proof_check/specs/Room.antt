-- Which formulas and refutations a checker has room for.
use Rattle.std.specs.Prelude.{ℕ, List, ◌++◌, map, Contains}
use Rattle.std.specs.List.{All, flat_map}
use Rattle.cnf_core.specs.Literal.{Literal}
use Rattle.proof_check.specs.Steps.{Step, clause_of}

-- the room has the variable of each literal
abbrev pub Within : List ℕ → List Literal → Type 0
Within room clause = All (λ l. Contains room l.variable) clause

abbrev pub AllWithin : List ℕ → List (List Literal) → Type 0
AllWithin room clauses = All (Within room) clauses

-- the room is enough for a formula and steps
pub record Covers (room : List ℕ) (formula : List (List Literal)) (steps : List Step) : Type 0 where
  pub formula_within : AllWithin room formula
  pub steps_within : AllWithin room (map clause_of steps)

abbrev pub variables_of : List (List Literal) → List ℕ
variables_of clauses = map (λ l. l.variable) (flat_map (λ clause. clause) clauses)

-- some literal of the formula or of a step has the variable
abbrev pub Occurs : List (List Literal) → List Step → ℕ → Type 0
Occurs formula steps variable = Contains (variables_of formula ++ variables_of (map clause_of steps)) variable
