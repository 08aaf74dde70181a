-- The clause with a number, over a formula and the clauses of the first steps.
use Rattle.std.proofs.Common.{◌≡◌, ◌++◌, ◌∷◌, [], ℕ, ◌+◌, ◌<◌, ◌≤◌, zero, suc, List, Some, None, map, take, length, arith, refl, ◌∙◌, ap, length-append}
use Rattle.std.specs.List.{slice_get}
use Rattle.std.specs.Option.{option_map}
use Rattle.std.proofs.lemmas.Option.{slice_get-map, slice_get_within}
use Rattle.std.proofs.lemmas.List.{length-map, length-take}
use Rattle.cnf_core.specs.Literal.{Literal}
use Rattle.cnf_core.specs.Truth.{clause_at}
use Rattle.proof_check.specs.Steps.{Step, clause_of}

pub slice_get-left : {X : Type 0} (xs ys : List X) (i : ℕ) → i < length xs → slice_get (xs ++ ys) i ≡ slice_get xs i
slice_get-left [] ys i h = absurd (omega arith)
slice_get-left (x ∷ xs) ys zero h = refl
slice_get-left (x ∷ xs) ys (suc i) h = slice_get-left xs ys i (omega arith)

pub slice_get-right : {X : Type 0} (xs ys : List X) (i j : ℕ) → i ≡ length xs + j → slice_get (xs ++ ys) i ≡ slice_get ys j
slice_get-right [] ys i j h = let e : i ≡ j = omega arith in rw e refl
slice_get-right (x ∷ xs) ys zero j h = absurd (omega arith)
slice_get-right (x ∷ xs) ys (suc i) j h = slice_get-right xs ys i j (omega arith)

pub slice_get-take : {X : Type 0} (xs : List X) (n i : ℕ) → i < n → slice_get (take n xs) i ≡ slice_get xs i
slice_get-take [] zero i h = absurd (omega arith)
slice_get-take [] (suc n) i h = refl
slice_get-take (x ∷ xs) zero i h = absurd (omega arith)
slice_get-take (x ∷ xs) (suc n) zero h = refl
slice_get-take (x ∷ xs) (suc n) (suc i) h = slice_get-take xs n i (omega arith)

slice_get-none : {X : Type 0} (xs : List X) (i : ℕ) → length xs ≤ i → slice_get xs i ≡ None
slice_get-none [] i h = refl
slice_get-none (x ∷ xs) zero h = absurd (omega arith)
slice_get-none (x ∷ xs) (suc i) h = slice_get-none xs i (omega arith)

pub clause_at-formula : (formula more : List (List Literal)) (number index : ℕ) (c : List Literal) → number ≡ index + 1 → slice_get formula index ≡ Some c → clause_at (formula ++ more) number ≡ Some c
clause_at-formula formula more zero index c e at = absurd (omega arith)
clause_at-formula formula more (suc n) index c e at =
    let same : n ≡ index = omega arith in
    rw (same, slice_get-left formula more index (slice_get_within formula index c at)) at

pub clause_at-step : (formula : List (List Literal)) (steps : List Step) (earlier number index : ℕ) (s : Step) → number ≡ length formula + index + 1 → index < earlier → slice_get steps index ≡ Some s → clause_at (formula ++ map clause_of (take earlier steps)) number ≡ Some s.clause
clause_at-step formula steps earlier zero index s e h at = absurd (omega arith)
clause_at-step formula steps earlier (suc n) index s e h at =
    slice_get-right formula (map clause_of (take earlier steps)) n index (omega arith) ∙ slice_get-map clause_of (take earlier steps) index ∙ ap (λ o. option_map clause_of o) (slice_get-take steps earlier index h ∙ at)

pub clause_at-past : (formula : List (List Literal)) (steps : List Step) (earlier number : ℕ) → length formula + earlier < number → clause_at (formula ++ map clause_of (take earlier steps)) number ≡ None
clause_at-past formula steps earlier zero h = absurd (omega arith)
clause_at-past formula steps earlier (suc n) h =
    slice_get-none (formula ++ map clause_of (take earlier steps)) n (omega (arith, length-append formula (map clause_of (take earlier steps)), length-map (take earlier steps) clause_of, length-take earlier steps))

pub clause_at-zero : (clauses : List (List Literal)) (number : ℕ) → number ≡ 0 → clause_at clauses number ≡ None
clause_at-zero clauses number e = rw e refl
