-- Which form a structure or union of a number has.
use Rattle.std.proofs.Common.{◌≡◌, refl, ap, ℕ, zero, suc, ◌<◌, ◌≤◌, List, [], ◌∷◌, length, get_or, arith}
use Rattle.c_language.specs.declared.tables.Aggregate.{Aggregate}
use Rattle.c_language.specs.declared.tables.AggregateForm.TheVariants as form_
use Rattle.c_language.specs.Declares.{form_at}

pub form_at_in : (aggregates : List Aggregate) (n : ℕ) (a : Aggregate) → a ≡ get_or aggregates n a → n < length aggregates
    → a.form ≡ form_at aggregates n
form_at_in [] n a is below = absurd (omega arith)
form_at_in (x ∷ xs) zero a is below = ap (λ (y : Aggregate). y.form) is
form_at_in (x ∷ xs) (suc n) a is below = form_at_in xs n a is (omega arith)

pub form_at_past : (aggregates : List Aggregate) (n : ℕ) → length aggregates ≤ n → form_.Structure ≡ form_at aggregates n
form_at_past [] n past = refl
form_at_past (x ∷ xs) zero past = absurd (omega arith)
form_at_past (x ∷ xs) (suc n) past = form_at_past xs n (omega arith)
