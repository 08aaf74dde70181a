-- A conditional expression in two steps.
use Rattle.std.proofs.Common.{◌≡◌, ◌≤◌, ◌<◌, ℕ, Option, Some, None, Bool, true, false, refl, arith, nat_le, cond}
use Rattle.std.proofs.lemmas.Bool.Decides.{nat_tests}
use Rattle.c_language.specs.declared.token.Punctuator.TheVariants as mark
use Rattle.c_language.specs.declared.expr.Expr.{Expr}
use Rattle.c_language.specs.declared.expr.Expr.TheVariants as expr
use Rattle.c_grammar.specs.Grammar.{shape}
use Rattle.c_grammar.specs.Parts.{State}
use Rattle.c_grammar.specs.Reading.{Reading, Rules, ◌>>=◌, expect, conditional_at}
use Rattle.c_exprs.specs.Conditional.{arms_at, chosen_at}

abbrev Arms : Type 0
Arms = (Expr × Expr) × State

abbrev with_negative : Expr → Expr × State → Option Arms
with_negative positive e = Some ((positive, e.0), e.1)

abbrev whole : ℕ → Expr → Arms → Reading Expr
whole at left arms = Some (expr.Conditional at left arms.0.0 arms.0.1, arms.1)

abbrev behind_colon : Rules → Expr → Unit {0} × ℕ × State → Option Arms
behind_colon r positive colon = r.expr 14 colon.2 >>= with_negative positive

abbrev behind_positive : Rules → Expr × State → Option Arms
behind_positive r p = expect mark.Colon p.1 >>= behind_colon r p.0

third : (at : ℕ) (left positive : Expr) (read : Reading Expr) →
    (read >>= (λ e. Some (expr.Conditional at left positive e.0, e.1))) ≡
    ((read >>= with_negative positive) >>= whole at left)
third at left positive None = refl
third at left positive (Some x) = refl

second : (r : Rules) (at : ℕ) (left positive : Expr) (read : Option (Unit {0} × ℕ × State)) →
    (read >>= (λ colon. r.expr 14 colon.2 >>= (λ e. Some (expr.Conditional at left positive e.0, e.1)))) ≡
    ((read >>= behind_colon r positive) >>= whole at left)
second r at left positive None = refl
second r at left positive (Some x) = third at left positive (r.expr 14 x.2)

first : (r : Rules) (at : ℕ) (left : Expr) (read : Reading Expr) →
    (read >>= (λ p. expect mark.Colon p.1 >>= (λ colon. r.expr 14 colon.2 >>=
    (λ e. Some (expr.Conditional at left p.0 e.0, e.1))))) ≡ ((read >>= behind_positive r) >>= whole at left)
first r at left None = refl
first r at left (Some x) = second r at left x.0 (expect mark.Colon x.1)

chosen : (r : Rules) (at : ℕ) (left : Expr) (s : State) →
    (r.expr 16 s >>= (λ p. expect mark.Colon p.1 >>=
    (λ colon. r.expr 14 colon.2 >>= (λ e. Some (expr.Conditional at left p.0 e.0, e.1))))) ≡ chosen_at r at left s
unfolding chosen_at arms_at
chosen r at left s = first r at left (r.expr 16 s)

conditional_by : (r : Rules) (at : ℕ) (left : Expr) (s : State) (b : Bool) → nat_le (shape left).rank 13 ≡ b →
    conditional_at r at left s ≡ cond b (chosen_at r at left s) None
unfolding conditional_at
conditional_by r at left s true is = rw is (chosen r at left s)
conditional_by r at left s false is = rw is refl

pub conditional_goes : (r : Rules) (at rank : ℕ) (left : Expr) (s : State) → rank ≡ (shape left).rank →
    rank ≤ 13 → conditional_at r at left s ≡ chosen_at r at left s
conditional_goes r at rank left s e low =
    let is : nat_le (shape left).rank 13 ≡ true = grind (arith, nat_tests, e, low) in
    conditional_by r at left s true is

pub conditional_none : (r : Rules) (at rank : ℕ) (left : Expr) (s : State) → rank ≡ (shape left).rank →
    13 < rank → conditional_at r at left s ≡ None
conditional_none r at rank left s e high =
    let is : nat_le (shape left).rank 13 ≡ false = grind (arith, nat_tests, e, high) in
    conditional_by r at left s false is
