-- Steps without repeated or opposite literals, of a formula's variables alone.
use Rattle.std.specs.Prelude.{◌≡◌, false, List, [], ◌∷◌, map}
use Rattle.std.specs.List.{All}
use Rattle.cnf_core.specs.Literal.{Literal}
use Rattle.proof_check.specs.Steps.{Step}
use Rattle.proof_check.specs.Room.{Within, variables_of}
use Rattle.cdcl.specs.Trails.{names}

-- no two literals have one variable
abbrev pub AreApart : List Literal → Type 0
AreApart [] = Unit {0}
AreApart (l ∷ more) = (names l.variable more ≡ false) × AreApart more

pub record IsTidy (formula : List (List Literal)) (clause : List Literal) : Type 0 where
  pub apart : AreApart clause
  pub occurs : Within (variables_of formula) clause

abbrev pub AreTidy : List (List Literal) → List Step → Type 0
AreTidy formula steps = All (λ s. IsTidy formula s.clause) steps

-- the clauses of single literals
abbrev pub units : List Literal → List (List Literal)
units literals = map (λ l. l ∷ []) literals
