-- The clause that a name stands for, and its number.
use Rattle.std.specs.Prelude.{◌≡◌, ◌⊎◌, ◌+◌, ℕ, min, cond, nat_le, map, zero, suc, List, [], ◌∷◌, Option, Some, None, slice_get}
use Rattle.std.specs.Option.{option_map}
use Rattle.cnf_core.specs.Literal.{Literal}
use Rattle.proof_check.specs.Steps.{Step, clause_of}
use Rattle.cdcl.specs.declared.clauses.ClauseId.{ClauseId}
use Rattle.cdcl.specs.declared.clauses.ClauseId.TheVariants.{Given, Assumed, Learnt}
use Rattle.cdcl.specs.declared.clauses.Clauses.{Clauses}

abbrev pub Lookup : Type 0
Lookup = ClauseId → Option (List Literal)

-- an assumption stands for its unit clause, which no clause learnt may cite
abbrev pub assumed_at : ℕ → List Literal → ℕ → Option (List Literal)
assumed_at zero assumed i = option_map (λ l. l ∷ []) (slice_get assumed i)
assumed_at (suc level) assumed i = None

-- the clause that a name stands for: from 0, where assumptions may be cited, or from 1, where they may not
abbrev pub named : ℕ → Clauses → ClauseId → Option (List Literal)
named level clauses (Given i) = slice_get clauses.given i
named level clauses (Assumed i) = assumed_at level clauses.assumed i
named level clauses (Learnt i) = option_map clause_of (slice_get clauses.learnt i)

-- the name may be cited, as each may from 0
abbrev pub IsCiteable : ℕ → Clauses → ClauseId → Type 0
IsCiteable from clauses id = (from ≡ 0) ⊎ ((c : List Literal) × (named 1 clauses id ≡ Some c))

-- the number that a name has in a list of given clauses, as many assumptions as are listed, and learnt clauses
abbrev pub number_of : ℕ → ℕ → ClauseId → ℕ
number_of given listed (Given i) = i + 1
number_of given listed (Assumed i) = given + i + 1
number_of given listed (Learnt i) = given + listed + i + 1

-- the same in 32 bits, which hold each number that a clause has
abbrev pub numbered : ℕ → ℕ → ClauseId → ℕ
numbered given listed id = min (number_of given listed id) 4294967295

-- the number that a clause has once so many clauses stand behind those given
abbrev pub shifted : ℕ → ℕ → ℕ → ℕ
shifted given listed number = cond (nat_le number given) number (min (number + listed) 4294967295)

abbrev pub shifted_step : ℕ → ℕ → Step → Step
shifted_step given listed step = record { clause = step.clause; hints = map (shifted given listed) step.hints }
