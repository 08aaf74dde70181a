-- Bits of truths, and the clauses that say that they are true.
use Rattle.std.proofs.Common.{◌≡◌, ◌<◌, ◌≤◌, ◌+◌, ◌*◌, ◌++◌, ◌∷◌, [], ℕ, suc, ◌&&◌, ◌||◌, List, Some, Bool, true, false, length, take, get_or, refl, sym, ap, ◌∙◌, append_assoc, take_all, arith}
use Rattle.std.specs.List.{slice_get}
use Rattle.std.proofs.lemmas.Bool.{and_parts, and_from}
use Rattle.std.proofs.lemmas.List.{take_more}
use Rattle.std.proofs.lemmas.Option.{slice_get-get_or, slice_get_within}
use Rattle.std.proofs.lemmas.List.Folds.{list_all-append}
use Rattle.cnf_core.specs.Literal.{Literal}
use Rattle.cnf_core.specs.Truth.{Valuation, literal_holds, clause_holds, formula_holds, clause_at}
use Rattle.proof_check.specs.Refutations.{IsRefutation}
use Rattle.cdcl.proofs.Readings.{slice-last}
use Rattle.gates.specs.declared.bit.Bit.{Bit}
use Rattle.gates.specs.declared.bit.Bit.TheVariants.{Known, Unknown}
use Rattle.gates.specs.Nets.{bit_holds}
use Rattle.word_gates.specs.Spelling.{number, number_of, spelled, truths}
use Rattle.query_core.specs.Claims.{first_bit, claimed, refuting}

-- ---- bits

lowest : (x t : Bool) (n : ℕ) → number x + 2 * n ≡ number t → x ≡ t
lowest true true n e = refl
lowest true false n e = absurd (omega (arith, e))
lowest false true n e = absurd (omega (arith, e))
lowest false false n e = refl

-- the lowest bit of a truth's word has its value
pub first-holds : (v : Valuation) (w : List Bit) (t : Bool) → spelled v w ≡ number t → bit_holds v (first_bit w) ≡ t
first-holds v [] true e = absurd (omega (arith, e))
first-holds v [] false e = refl
first-holds v (b ∷ bs) t e = lowest (bit_holds v b) t (number_of (truths v bs)) e

-- ---- clauses

pub claimed-holds : (v : Valuation) (x : Bit) → formula_holds v (claimed x) ≡ bit_holds v x
claimed-holds v (Known true) = refl
claimed-holds v (Known false) = refl
claimed-holds v (Unknown l) = plain (literal_holds v l)
  where
    plain : (b : Bool) → ((b || false) && true) ≡ b
    plain true = refl
    plain false = refl

pub joined-holds : (v : Valuation) (xs : List (List Literal)) (x : Bit)
    → formula_holds v (xs ++ claimed x) ≡ (formula_holds v xs && bit_holds v x)
joined-holds v xs x =
    list_all-append (clause_holds v) xs (claimed x) ∙ ap (λ b. formula_holds v xs && b) (claimed-holds v x)

pub holds-both : (v : Valuation) (xs : List (List Literal)) (x : Bit) → formula_holds v xs ≡ true
    → bit_holds v x ≡ true → formula_holds v (xs ++ claimed x) ≡ true
holds-both v xs x h k = joined-holds v xs x ∙ and_from (formula_holds v xs) (bit_holds v x) h k

pub holds-parts : (v : Valuation) (xs : List (List Literal)) (x : Bit) → formula_holds v (xs ++ claimed x) ≡ true
    → (formula_holds v xs ≡ true) × (bit_holds v x ≡ true)
holds-parts v xs x h = and_parts (formula_holds v xs) (bit_holds v x) (sym (joined-holds v xs x) ∙ h)

-- ---- lists of clauses

-- one clause more was put behind those that were
pub more-put : (old now next xs : List (List Literal)) (i : ℕ) (x : List Literal) → slice_get xs i ≡ Some x
    → now ≡ old ++ take i xs → next ≡ now ++ x ∷ [] → next ≡ old ++ take (i + 1) xs
more-put old now next xs i x at put more =
    let within : i < length xs = slice_get_within xs i x at in
    let read : Some x ≡ Some (get_or xs i x) = sym at ∙ slice_get-get_or xs i x within in
    let same : x ≡ get_or xs i x = cc in
    more ∙ ap (λ s. s ++ x ∷ []) put ∙ append_assoc old (take i xs) (x ∷ [])
    ∙ ap (λ s. old ++ s) (ap (λ y. take i xs ++ y ∷ []) same ∙ sym (take_more xs i x within))

pub all-put : (old now xs : List (List Literal)) (i : ℕ) → length xs ≤ i → now ≡ old ++ take i xs → now ≡ old ++ xs
all-put old now xs i h put = put ∙ ap (λ s. old ++ s) (take_all i xs h)

-- the step that reads the empty clause at the end refutes
pub empty-refuted : (xs : List (List Literal)) (n : ℕ) → n ≡ length xs + 1 → IsRefutation (xs ++ [] ∷ []) (refuting n)
empty-refuted xs n e =
    let here : n ≡ suc (length xs) = omega (arith, e) in
    let at : clause_at (xs ++ [] ∷ []) n ≡ Some [] = ap (λ k. clause_at (xs ++ [] ∷ []) k) here ∙ slice-last xs [] in
    ((rw at refl, tt), refl)
