-- The tables of spellings.
use Rattle.std.proofs.Common.{◌≡◌, ℕ, ◌<◌, ◌≤◌, Bool, true, false, ◌&&◌, cond, nat_lt, nat_eq, List, [], ◌∷◌, length}
use Rattle.std.proofs.Common.{Option, Some, None, refl, arith}
use Rattle.std.specs.List.{starts_with}
use Rattle.std.specs.Option.{IfSome}
use Rattle.std.proofs.lemmas.Bool.{false≢true}
use Rattle.std.proofs.lemmas.Bool.Decides.{nat_tests}
use Rattle.c_lexer.specs.Class.{Text}
use Rattle.c_lexer.specs.Tables.{first_prefix, punctuator}
use Rattle.c_lexer.specs.Vocabulary.{punctuators, longest_first}
use Rattle.c_language.specs.declared.token.Punctuator.{Punctuator}

abbrev all_long : List (Text × Punctuator) → Bool
all_long [] = true
all_long (row ∷ rows) = nat_lt 0 (length row.0) && all_long rows

chosen_long : (b : Bool) (row : Text × Punctuator) (other : Option (Punctuator × ℕ)) → 0 < length row.0 →
    IfSome other (λ p. 1 ≤ p.1) →
    IfSome (cond b (Some (row.1, length row.0)) other) (λ p. 1 ≤ p.1)
chosen_long true row other long rest = omega arith
chosen_long false row other long rest = rest

both : (a b : Bool) → (a && b) ≡ true → (a ≡ true) × (b ≡ true)
both true b h = (refl, h)
both false b h = absurd (false≢true h)

first_prefix_long : (rows : List (Text × Punctuator)) (text : Text) → all_long rows ≡ true →
    IfSome (first_prefix rows text) (λ p. 1 ≤ p.1)
first_prefix_long [] text h = tt
first_prefix_long (row ∷ rows) text h =
    let parts = both (nat_lt 0 (length row.0)) (all_long rows) h in
    let long : 0 < length row.0 = grind (arith, nat_tests, parts.0) in
    chosen_long (starts_with nat_eq text row.0) row (first_prefix rows text) long (first_prefix_long rows text parts.1)

-- no punctuator is empty
pub punctuator_long : (text : Text) → IfSome (punctuator text) (λ p. 1 ≤ p.1)
unfolding punctuator
punctuator_long text = first_prefix_long (longest_first punctuators) text refl

pub within_both : (found : Option (Punctuator × ℕ)) (n : ℕ) → IfSome found (λ p. 1 ≤ p.1) →
    IfSome found (λ p. p.1 ≤ n) → IfSome found (λ p. (1 ≤ p.1) × (p.1 ≤ n))
within_both None n low high = tt
within_both (Some p) n low high = (low, high)
