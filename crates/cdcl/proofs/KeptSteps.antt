-- Steps over the first of some clauses, as steps over all of them.
use Rattle.std.proofs.Common.{◌≡◌, ◌<◌, ◌≤◌, ◌+◌, ◌-◌, ◌++◌, ◌∷◌, [], ℕ, zero, suc, min, List, true, false, map, length, length-append, refl, sym, ap, ap₂, ◌∙◌, arith, inl, inr}
use Rattle.std.specs.Prelude.{nat_le}
use Rattle.std.proofs.lemmas.Bool.{cases_lt, le-leb, leb-true, false_from_ne_true}
use Rattle.cnf_core.specs.Literal.{Literal}
use Rattle.proof_check.specs.Steps.{Step}
use Rattle.cdcl.specs.Sources.{shifted, shifted_step}
use Rattle.cdcl.specs.Stores.{raised_by, raised_step, over_all}

within : (n h : ℕ) → h ≤ n → nat_le h n ≡ true
within n h le = le-leb h n le

above : (n h : ℕ) → n < h → nat_le h n ≡ false
above n h less = false_from_ne_true (nat_le h n) (λ t. let k = leb-true h n t in absurd (omega arith))

-- a number that rises by a and then by 1
raised-again : (n a h : ℕ) → n + suc a < 4294967295 → shifted (n + suc a) 1 (shifted n (suc a) h) ≡ shifted n (suc (suc a)) h
raised-again n a h few = elim (cases_lt n h) [
  | inr low ↦
      let here = within n h (omega arith) in
      let one : shifted n (suc a) h ≡ h = rw here refl in
      let two : shifted n (suc (suc a)) h ≡ h = rw here refl in
      let still = within (n + suc a) h (omega arith) in
      rw (one, two, still) refl
  | inl high ↦
      let here = above n h high in
      let one : shifted n (suc a) h ≡ min (h + suc a) 4294967295 = rw here refl in
      let two : shifted n (suc (suc a)) h ≡ min (h + suc (suc a)) 4294967295 = rw here refl in
      let still = above (n + suc a) (min (h + suc a) 4294967295) (omega arith) in
      rw (one, two, still) (omega arith)
]

hints-again : (n a : ℕ) (hs : List ℕ) → n + suc a < 4294967295 → map (shifted (n + suc a) 1) (map (shifted n (suc a)) hs) ≡ map (shifted n (suc (suc a))) hs
hints-again n a [] few = refl
hints-again n a (h ∷ hs) few = ap₂ (λ (x : ℕ) (xs : List ℕ). x ∷ xs) (raised-again n a h few) (hints-again n a hs few)

abbrev the_step : List Literal → List ℕ → Step
the_step clause hints = record { clause = clause; hints = hints }

steps-again : (n a : ℕ) (ss : List Step) → n + suc a < 4294967295 → map (raised_step (n + suc a)) (map (shifted_step n (suc a)) ss) ≡ map (shifted_step n (suc (suc a))) ss
steps-again n a [] few = refl
steps-again n a (s ∷ ss) few = ap₂ (λ (x : Step) (xs : List Step). x ∷ xs) (ap (the_step s.clause) (hints-again n a s.hints few)) (steps-again n a ss few)

-- one by one, or at once
pub raised-at-once : (n a : ℕ) (ss : List Step) → n + suc a < 4294967296 → map (shifted_step n (suc a)) ss ≡ raised_by (suc a) n ss
raised-at-once n zero ss few = let e : n + 0 ≡ n = omega arith in rw e refl
raised-at-once n (suc a) ss few = sym (steps-again n a ss (omega arith)) ∙ ap (map (raised_step (n + suc a))) (raised-at-once n a ss (omega arith))

pub numbered-over : (clauses : List (List Literal)) (n a : ℕ) (steps moved : List Step) → a ≡ length clauses - n → (a ≡ 0 → ⊥) → n ≤ length clauses → length clauses < 4294967296
    → moved ≡ map (shifted_step n a) steps → moved ≡ over_all clauses n steps
numbered-over clauses n zero steps moved is some le few m = absurd (some refl)
numbered-over clauses n (suc a) steps moved is some le few m = m ∙ raised-at-once n a steps (omega arith) ∙ ap (λ k. raised_by k n steps) is

-- none is raised where no clause is new
pub none-raised : (clauses : List (List Literal)) (n : ℕ) (steps : List Step) → length clauses - n ≡ 0 → over_all clauses n steps ≡ steps
none-raised clauses n steps is = ap (λ k. raised_by k n steps) is

-- one clause more
pub raised-more : (clauses next : List (List Literal)) (clause : List Literal) (n : ℕ) (steps : List Step) → n ≤ length clauses → next ≡ clauses ++ clause ∷ [] → over_all next n steps ≡ map (raised_step (length clauses)) (over_all clauses n steps)
raised-more clauses next clause n steps le is =
    let size : length next ≡ suc (length clauses) = ap length is ∙ length-append clauses (clause ∷ []) ∙ omega arith in
    let more : length next - n ≡ suc (length clauses - n) = omega arith in
    let all : n + (length clauses - n) ≡ length clauses = omega arith in
    ap (λ k. raised_by k n steps) more ∙ ap (λ k. map (raised_step k) (over_all clauses n steps)) all
