-- What contracts see of a solver.
use Rattle.std.specs.Prelude.{◌≡◌, ◌+◌, ◌++◌, ◌-◌, ℕ, zero, suc, List, map, length}
use Rattle.cnf_core.specs.Literal.{Literal}
use Rattle.proof_check.specs.Steps.{Step}
use Rattle.proof_check.specs.Refutations.{AreValid}
use Rattle.cdcl.specs.Tidy.{AreTidy}
use Rattle.cdcl.specs.Sources.{shifted_step}

-- the clauses that were added to it, and the steps over them that it keeps
pub record Store : Type 0 where
  pub clauses : List (List Literal)
  pub kept : List Step

-- a step over so many clauses, once one more stands behind these: each hint that names a kept step rises by one
abbrev pub raised_step : ℕ → Step → Step
raised_step given = shifted_step given 1

-- steps over the first so many clauses, once so many more stand behind these
abbrev pub raised_by : ℕ → ℕ → List Step → List Step
raised_by zero given steps = steps
raised_by (suc more) given steps = map (raised_step (given + more)) (raised_by more given steps)

-- steps over the first so many of these clauses, as steps over all of them
abbrev pub over_all : List (List Literal) → ℕ → List Step → List Step
over_all clauses given steps = raised_by (length clauses - given) given steps

-- the kept steps are valid over the clauses; none has a literal twice, or one and its negation, and each of their variables is
-- one of the clauses'
pub record AreKept (s : Store) : Type 0 where
  pub valid : AreValid s.clauses s.kept
  pub tidy : AreTidy s.clauses s.kept

-- more steps stand behind those that were kept
pub record KeepsMore (old new : List Step) : Type 0 where
  pub more : List Step
  pub kept : new ≡ old ++ more
