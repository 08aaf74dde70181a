-- A room that has each variable covers each clause.
use Rattle.std.proofs.Common.{◌≡◌, ◌++◌, ◌∷◌, [], ℕ, List, Some, map, take, length, get_or, arith, refl, ap, ◌∙◌, subst}
use Rattle.std.specs.Prelude.{Contains}
use Rattle.std.specs.List.{All, flat_map, slice_get, take-map}
use Rattle.std.proofs.lemmas.List.{length-map, get_or-map}
use Rattle.std.proofs.lemmas.List.Elements.{All-nil, All-cons, All-take, All-drop, All-append, All-weaker, All-contains_itself, Contains-append_left, Contains-append_right}
use Rattle.std.proofs.lemmas.Option.{slice_get-map}
use Rattle.std.specs.Option.{option_map}
use Rattle.std.proofs.Math.Seq.{take-append_seam, drop-append_seam}
use Rattle.cnf_core.specs.Literal.{Literal}
use Rattle.proof_check.specs.Steps.{Step, clause_of}
use Rattle.proof_check.specs.Room.{Within, AllWithin, Covers, Occurs, variables_of}
use Rattle.proof_check.proofs.StepLemmas.{member-within}

abbrev all_of : List (List Literal) → List Literal
all_of clauses = flat_map (λ clause. clause) clauses

cut-within : (room : List ℕ) (clauses : List (List Literal)) → Within room (all_of clauses) → AllWithin room clauses
cut-within room [] w = All-nil (Within room)
cut-within room (c ∷ cs) w =
    let P : Literal → Type 0 = λ l. Contains room l.variable in
    let first : Within room c = subst (All P) (take-append_seam c (all_of cs)) (All-take P (length c) (c ++ all_of cs) w) in
    let rest : Within room (all_of cs) = subst (All P) (drop-append_seam c (all_of cs)) (All-drop P (length c) (c ++ all_of cs) w) in
    All-cons (Within room) c cs first (cut-within room cs rest)

unmapped : (room : List ℕ) (literals : List Literal) → All (Contains room) (map (λ l. l.variable) literals) → Within room literals
unmapped room literals w k d h =
    let at : get_or (map (λ l. l.variable) literals) k d.variable ≡ (get_or literals k d).variable = get_or-map (λ l. l.variable) literals k d d.variable h in
    subst (Contains room) at (w k d.variable (omega (arith, length-map literals (λ l. l.variable))))

variables-within : (room : List ℕ) (clauses : List (List Literal)) → ((v : ℕ) → Contains (variables_of clauses) v → Contains room v) → AllWithin room clauses
variables-within room clauses has =
    cut-within room clauses (unmapped room (all_of clauses) (All-weaker (Contains (variables_of clauses)) (Contains room) has (variables_of clauses) (All-contains_itself (variables_of clauses))))

-- a room that has each variable that occurs
pub covers-all : (room : List ℕ) (formula : List (List Literal)) (steps : List Step) → ((v : ℕ) → Occurs formula steps v → Contains room v) → Covers room formula steps
covers-all room formula steps has = record {
  formula_within = variables-within room formula (λ v h. has v (Contains-append_left (variables_of formula) (variables_of (map clause_of steps)) v h));
  steps_within = variables-within room (map clause_of steps) (λ v h. has v (Contains-append_right (variables_of formula) (variables_of (map clause_of steps)) v h));
}

-- the clauses that a step may cite
pub covers-earlier : (room : List ℕ) (formula : List (List Literal)) (steps : List Step) (n : ℕ) → Covers room formula steps → AllWithin room (formula ++ map clause_of (take n steps))
covers-earlier room formula steps n covers =
    All-append (Within room) formula (map clause_of (take n steps)) covers.formula_within
    (subst (AllWithin room) (take-map clause_of n steps) (All-take (Within room) n (map clause_of steps) covers.steps_within))

-- a step's own clause
pub covers-step : (room : List ℕ) (formula : List (List Literal)) (steps : List Step) (i : ℕ) (s : Step) → Covers room formula steps → slice_get steps i ≡ Some s → Within room s.clause
covers-step room formula steps i s covers at =
    member-within room (map clause_of steps) i s.clause covers.steps_within (slice_get-map clause_of steps i ∙ ap (λ o. option_map clause_of o) at)

-- the variables of the formula, then those of the steps
pub gathered : (start first all : List ℕ) (xs ys : List Literal) (formula clauses : List (List Literal)) → start ≡ [] → first ≡ start ++ map (λ l. l.variable) xs → xs ≡ all_of formula → all ≡ first ++ map (λ l. l.variable) ys → ys ≡ all_of clauses → all ≡ variables_of formula ++ variables_of clauses
gathered start first all xs ys formula clauses s f x a y = rw (a, f, s, x, y) refl
