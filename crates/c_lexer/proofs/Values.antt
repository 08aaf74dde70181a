-- What digits are worth.
use Rattle.std.proofs.Common.{◌≡◌, ℕ, ◌+◌, ◌*◌, ◌<◌, ◌≤◌, suc, zero, List, [], ◌∷◌, length, get_or, drop, fold, arith}
use Rattle.std.proofs.Common.{refl}
use Rattle.std.proofs.lemmas.List.{drop_more}
use Rattle.std.proofs.lemmas.Bool.Decides.{nat_tests}
use Rattle.std.proofs.Math.Nat.{mul-le-mul_left}
use Rattle.c_lexer.specs.Number.{digit_of, value_of}

times : (base v : ℕ) → 0 < base → v ≤ v * base
times base v h = let e : 1 ≤ base = omega arith in omega (arith, mul-le-mul_left v e)

-- further digits make no number smaller
pub grows : (base : ℕ) → 0 < base → (v : ℕ) (digits : List ℕ) →
    v ≤ fold (λ value digit. value * base + digit_of digit) v digits
grows base h v [] = omega arith
grows base h v (d ∷ digits) = omega (arith, times base v h, grows base h (v * base + digit_of d) digits)

-- a number with one digit more is within the whole
pub one_more : (base : ℕ) → 0 < base → (v : ℕ) (digits : List ℕ) (i : ℕ) → i < length digits →
    v * base + digit_of (get_or digits i 0) ≤ fold (λ value digit. value * base + digit_of digit) v (drop i digits)
one_more base h v digits i within =
    rw (drop_more digits i 0 within) (grows base h (v * base + digit_of (get_or digits i 0)) (drop (i + 1) digits))

digit_small : (b : ℕ) → digit_of b ≤ 15
digit_small b = grind (arith, nat_tests)

-- n times ten to the power k
scaled : ℕ → ℕ → ℕ
scaled zero n = n
scaled (suc k) n = scaled k (n * 10)

scaled-le : (k n : ℕ) → n ≤ scaled k n
unfolding scaled
scaled-le zero n = omega arith
scaled-le (suc k) n = omega (arith, scaled-le k (n * 10))

bounded : (k n v : ℕ) (digits : List ℕ) → length digits ≤ k → v + 2 ≤ 2 * n →
    fold (λ value digit. value * 10 + digit_of digit) v digits + 2 ≤ 2 * scaled k n
unfolding scaled
bounded k n v [] short small = omega (arith, scaled-le k n)
bounded zero n v (d ∷ digits) short small = absurd (omega arith)
bounded (suc k) n v (d ∷ digits) short small =
    bounded k (n * 10) (v * 10 + digit_of d) digits (omega arith) (omega (arith, digit_small d))

nine : scaled 9 1 ≡ 1000000000
unfolding scaled
nine = refl

-- at most nine digits spell a small number
pub value_small : (digits : List ℕ) → length digits ≤ 9 → value_of 10 digits < 2000000000
value_small digits short = omega (arith, bounded 9 1 0 digits short (omega arith), nine)
