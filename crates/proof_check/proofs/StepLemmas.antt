-- The loops of a check.
use Rattle.std.proofs.Common.{◌≡◌, ◌∷◌, [], ℕ, ◌+◌, ◌<◌, suc, zero, subst, List, Some, Bool, true, false, ◌||◌, ◌&&◌, not, cond, refl, sym, ap, ◌∙◌, take, length, get_or}
use Rattle.std.specs.Prelude.{Contains}
use Rattle.std.specs.List.{list_all, filter, slice_get}
use Rattle.std.proofs.lemmas.List.Elements.{All-filter, All-head}
use Rattle.std.proofs.lemmas.List.Folds.{list_any_more}
use Rattle.std.proofs.lemmas.Option.{slice_get_within, get_or_from_slice_get}
use Rattle.cnf_core.specs.Literal.{Literal, negated, same}
use Rattle.cnf_core.specs.Truth.{clause_at}
use Rattle.proof_check.specs.declared.propagation.Reading.TheVariants.{Implied, Neither}
use Rattle.proof_check.specs.Propagation.{Known, taking, negations, isnt_false, reading, reading_of}
use Rattle.proof_check.specs.Room.{Within, AllWithin}

or_swap : (a b : Bool) → (a || b) ≡ (b || a)
or_swap true true = refl
or_swap true false = refl
or_swap false true = refl
or_swap false false = refl

-- one more literal's negation
pub negations-more : (clause : List Literal) (i : ℕ) (l : Literal) → i < length clause → l ≡ get_or clause i l → taking (negated l) (negations (take i clause)) ≡ negations (take (i + 1) clause)
negations-more clause i l h is =
    let at : (k : Literal) → taking (negated l) (negations (take i clause)) k ≡ negations (take (i + 1) clause) k =
    λ k. or_swap (same (negated l) k) (negations (take i clause) k) ∙ ap (λ t. negations (take i clause) k || same (negated t) k) is ∙ sym (list_any_more (λ t. same (negated t) k) clause i l h)
    in λ i k. at k i

implied-head : (room : List ℕ) (known : Known) (xs : List Literal) (l : Literal) → Within room xs → reading_of known xs ≡ Implied l → Contains room l.variable
implied-head room known [] l w e = absurd (cc)
implied-head room known (x ∷ more) l w e =
    elim (list_all (same x) more && not (known x)) as (λ b. cond b (Implied x) Neither ≡ Implied l → Contains room l.variable) [
      | true ↦ λ is. let s : x ≡ l = cc in let P : Literal → Type 0 = λ k. Contains room k.variable in subst P s (All-head (λ k. Contains room k.variable) x more w)
      | false ↦ λ is. absurd (cc)
    ] e

-- the literal that a clause implies is one of its own
pub implied-within : (room : List ℕ) (known : Known) (clause : List Literal) (l : Literal) → Within room clause → reading known clause ≡ Implied l → Contains room l.variable
implied-within room known clause l w e = implied-head room known (filter (isnt_false known) clause) l (All-filter (isnt_false known) (λ k. Contains room k.variable) clause w) e

pub member-within : (room : List ℕ) (clauses : List (List Literal)) (i : ℕ) (c : List Literal) → AllWithin room clauses → slice_get clauses i ≡ Some c → Within room c
member-within room clauses i c w e =
    let P : List Literal → Type 0 = λ t. Within room t in
    subst P (get_or_from_slice_get clauses i c c e) (w i c (slice_get_within clauses i c e))

pub clause-within : (room : List ℕ) (clauses : List (List Literal)) (number : ℕ) (c : List Literal) → AllWithin room clauses → clause_at clauses number ≡ Some c → Within room c
clause-within room clauses zero c w e = absurd (cc)
clause-within room clauses (suc n) c w e = member-within room clauses n c w e
