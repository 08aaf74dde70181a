-- The clause that a name stands for, as levels fall and learnt clauses come.
use Rattle.std.proofs.Common.{◌≡◌, ◌≤◌, ◌<◌, [], ℕ, zero, suc, List, Some, IsSome, get_or, length, ap, arith, refl}
use Rattle.std.specs.Option.{option_map}
use Rattle.std.proofs.lemmas.Option.{slice_get-get_or}
use Rattle.cnf_core.specs.Literal.{Literal}
use Rattle.proof_check.specs.Steps.{Step, clause_of}
use Rattle.cdcl.specs.declared.clauses.ClauseId.{ClauseId}
use Rattle.cdcl.specs.declared.clauses.ClauseId.TheVariants.{Given, Assumed, Learnt}
use Rattle.cdcl.specs.declared.clauses.Clauses.{Clauses}
use Rattle.cdcl.specs.Sources.{assumed_at, named}

assumed-lower : (level from : ℕ) (assumed : List Literal) (i : ℕ) (c : List Literal) → from ≤ level → assumed_at level assumed i ≡ Some c → assumed_at from assumed i ≡ Some c
assumed-lower zero zero assumed i c h e = e
assumed-lower zero (suc from) assumed i c h e = absurd (omega arith)
assumed-lower (suc level) from assumed i c h e = absurd (cc)

-- a name that may be cited at a level may be cited below it
pub named-lower : (level from : ℕ) (clauses : Clauses) (id : ClauseId) (c : List Literal) → from ≤ level → named level clauses id ≡ Some c → named from clauses id ≡ Some c
named-lower level from clauses (Given i) c h e = e
named-lower level from clauses (Assumed i) c h e = assumed-lower level from clauses.assumed i c h e
named-lower level from clauses (Learnt i) c h e = e

pub named-some : (level : ℕ) (clauses : Clauses) (id : ClauseId) (c : List Literal) → named level clauses id ≡ Some c → IsSome (named 0 clauses id)
named-some level clauses id c e = let w = named-lower level 0 clauses id c (omega arith) e in rw w refl

-- a name that may be cited above level 0 may be cited at each level
pub named-any : (level : ℕ) (clauses : Clauses) (id : ClauseId) (c : List Literal) → named 1 clauses id ≡ Some c → named level clauses id ≡ Some c
named-any level clauses (Given i) c e = e
named-any level clauses (Assumed i) c e = absurd (cc)
named-any level clauses (Learnt i) c e = e

pub given-named : (clauses : Clauses) (i : ℕ) → i < length clauses.given → (c : List Literal) × (named 1 clauses (Given i) ≡ Some c)
given-named clauses i h = (get_or clauses.given i [], slice_get-get_or clauses.given i [] h)

pub learnt-named : (clauses : Clauses) (i : ℕ) → i < length clauses.learnt → (c : List Literal) × (named 1 clauses (Learnt i) ≡ Some c)
learnt-named clauses i h =
    let none : Step = record { clause = []; hints = [] } in
    ((get_or clauses.learnt i none).clause, ap (λ o. option_map clause_of o) (slice_get-get_or clauses.learnt i none h))
