-- Unit propagation along hints.
use Rattle.std.specs.Prelude.{ℕ, Bool, false, cond, not, ◌&&◌, ◌||◌, List, [], ◌∷◌, Option, Some, None, filter}
use Rattle.std.specs.List.{list_any, list_all}
use Rattle.cnf_core.specs.Literal.{Literal, negated, same}
use Rattle.cnf_core.specs.Truth.{clause_at}
use Rattle.proof_check.specs.declared.propagation.Reading.{Reading}
use Rattle.proof_check.specs.declared.propagation.Reading.TheVariants.{Falsified, Implied, Neither}
use Rattle.proof_check.specs.declared.propagation.Outcome.{Outcome}
use Rattle.proof_check.specs.declared.propagation.Outcome.TheVariants.{Conflict, BadHint, NoConflict}

-- the literals that are taken as true; a literal and its negation may both be among them
abbrev pub Known : Type 0
Known = Literal → Bool

abbrev pub nothing : Known
nothing l = false

abbrev pub taking : Literal → Known → Known
taking l known k = same l k || known k

-- the negations of a clause's literals
abbrev pub negations : List Literal → Known
negations clause k = list_any (λ l. same (negated l) k) clause

abbrev pub isnt_false : Known → Literal → Bool
isnt_false known l = not (known (negated l))

-- of the literals that aren't false: none is left, or one that has no value, however often it stands there
abbrev pub reading_of : Known → List Literal → Reading
reading_of known [] = Falsified
reading_of known (l ∷ more) = cond (list_all (same l) more && not (known l)) (Implied l) Neither

-- what a clause says where these literals are taken as true
abbrev pub reading : Known → List Literal → Reading
reading known clause = reading_of known (filter (isnt_false known) clause)

-- a false clause ends the propagation, and the literal that a clause implies is taken as true
abbrev pub after : Reading → (Literal → Outcome) → Outcome
after Falsified next = Conflict
after (Implied l) next = next l
after Neither next = BadHint

abbrev pub if_found : Option (List Literal) → (List Literal → Outcome) → Outcome
if_found None next = BadHint
if_found (Some clause) next = next clause

-- the hints are read in order, up to the first false clause
abbrev pub propagated : List (List Literal) → Known → List ℕ → Outcome
propagated clauses known [] = NoConflict
propagated clauses known (hint ∷ hints) = if_found (clause_at clauses hint) (λ clause. after (reading known clause) (λ l. propagated clauses (taking l known) hints))
