-- A literal, and the number that stands for it.
use Rattle.std.specs.Prelude.{◌≡◌, ◌+◌, ◌*◌, ◌/◌, ◌%◌, ◌<◌, ℕ, zero, suc, Bool, cond, not, ◌&&◌, eqb, refl}
use mathlib.Core.Bool.{beq}
use Rattle.std.proofs.Common.{arith}

-- a variable, or its negation
pub record Literal : Type 0 where
  pub variable : ℕ
  pub positive : Bool

abbrev pub negated : Literal → Literal
negated l = record { variable = l.variable; positive = not l.positive }

-- one literal
abbrev pub same : Literal → Literal → Bool
same l k = eqb l.variable k.variable && beq l.positive k.positive

-- twice the variable, and one more for a negation
abbrev pub code_of : Literal → ℕ
code_of l = 2 * l.variable + cond l.positive 0 1

abbrev pub literal_of : ℕ → Literal
literal_of code = record { variable = code / 2; positive = eqb (code % 2) 0 }

low : (k : ℕ) → k < 2 → cond (eqb k 0) 0 1 ≡ k
low zero h = refl
low (suc zero) h = refl
low (suc (suc k)) h = absurd (omega arith)

pub code_of-literal_of : (code : ℕ) → code_of (literal_of code) ≡ code
code_of-literal_of code = omega (arith, low (code % 2) (omega arith))
