-- The literals that are taken as true, and what a clause says then.
use Rattle.std.specs.Prelude.{◌≡◌, ◌⊎◌, ℕ, Bool, true, false, cond, List, Some, slice_get, slice_index_or, sum_by}
use Rattle.cnf_core.specs.Literal.{Literal, negated, code_of}
use Rattle.proof_check.specs.Propagation.{Known}
use Rattle.cdcl.specs.declared.assigned.Reading.{Reading}
use Rattle.cdcl.specs.declared.assigned.Reading.TheVariants.{Satisfied, Falsified, Implied, Undecided}

-- a literal is taken where its number is marked
abbrev pub known : List Bool → Known
known taken l = slice_index_or taken (code_of l) false

-- how many literals are not taken
abbrev pub open_count : List Bool → ℕ
open_count taken = sum_by (λ t. cond t 0 1) taken

abbrev pub Member : Literal → List Literal → Type 0
Member l clause = (k : ℕ) × (slice_get clause k ≡ Some l)

-- the literal has no value
pub record IsOpen (known : Known) (l : Literal) : Type 0 where
  pub fresh : known l ≡ false
  pub opposite : known (negated l) ≡ false

-- the clause has the literal, which has no value, and all others are false
pub record IsUnit (known : Known) (p : Literal) (clause : List Literal) : Type 0 where
  pub has : Member p clause
  pub others : (l : Literal) → Member l clause → (l ≡ p) ⊎ (known (negated l) ≡ true)
  pub is_open : IsOpen known p

-- each literal is false
abbrev pub AllFalse : Known → List Literal → Type 0
AllFalse known clause = (l : Literal) → Member l clause → known (negated l) ≡ true

-- some literal is true
abbrev pub HasTrue : Known → List Literal → Type 0
HasTrue known clause = (l : Literal) × Member l clause × (known l ≡ true)

abbrev pub Reads : Known → List Literal → Reading → Type 0
Reads known clause (Satisfied p) = Member p clause × (known p ≡ true)
Reads known clause Falsified = AllFalse known clause
Reads known clause (Implied p) = IsUnit known p clause
Reads known clause (Undecided p q) = Member p clause × IsOpen known p × Member q clause × IsOpen known q × (p ≡ q → ⊥)
