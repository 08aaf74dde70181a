-- Numbers that truth values spell.
use Rattle.std.proofs.Common.{◌≡◌, ◌<◌, ◌++◌, ◌∷◌, [], ℕ, ◌+◌, ◌*◌, ◌/◌, ◌%◌, ◌^◌, ◌&&◌, zero, suc, List, Bool, true, false, not, cond, refl, sym, ap, ◌∙◌, arith, length, add-one}
use Rattle.std.specs.Prelude.{nat_eq, nat_le}
use Rattle.std.proofs.lemmas.Bool.{eqb-true, eq-eqb, ne_eqb}
use Rattle.std.proofs.Math.Arith.{mod-mul}
use Rattle.std.proofs.Math.Nat.{pow-succ', mul_assoc, mul-add, mul_comm}
use Rattle.gates.specs.Nets.{exclusive, majority}
use Rattle.word_gates.specs.declared.operators.BitOperator.{BitOperator}
use Rattle.word_gates.specs.Spelling.{number, number_of, connected, each_two}

pub number-small : (b : Bool) → number b < 2
number-small true = omega arith
number-small false = omega arith

pub number_of-push : (bs : List Bool) (b : Bool) → number_of (bs ++ b ∷ []) ≡ number_of bs + 2 ^ length bs * number b
number_of-push [] b = omega arith
number_of-push (x ∷ bs) b =
    let rest = number_of-push bs b in
    let power : 2 ^ suc (length bs) * number b ≡ 2 * (2 ^ length bs * number b) = ap (λ p. p * number b) (pow-succ' 2 (length bs)) ∙ mul_assoc 2 (2 ^ length bs) (number b) in
    omega (arith, rest, power)

pub number_of-small : (bs : List Bool) → number_of bs < 2 ^ length bs
number_of-small [] = omega arith
number_of-small (b ∷ bs) = omega (arith, number_of-small bs, number-small b, pow-succ' 2 (length bs))

pub each_two-push : (op : BitOperator) (xs bs : List Bool) (a b : Bool) → length xs ≡ length bs → each_two op (xs ++ a ∷ []) (bs ++ b ∷ []) ≡ each_two op xs bs ++ connected op a b ∷ []
each_two-push op [] [] a b e = refl
each_two-push op [] (y ∷ bs) a b e = absurd (omega arith)
each_two-push op (x ∷ xs) [] a b e = absurd (omega arith)
each_two-push op (x ∷ xs) (y ∷ bs) a b e = ap (λ t. connected op x y ∷ t) (each_two-push op xs bs a b (omega arith))

pub cond-push : (c : Bool) (xs bs : List Bool) (a b : Bool) → cond c (xs ++ a ∷ []) (bs ++ b ∷ []) ≡ cond c xs bs ++ cond c a b ∷ []
cond-push true xs bs a b = refl
cond-push false xs bs a b = refl

-- one more column
pub column-sum : (p w s c a b k x y z : ℕ) → s + 2 * c ≡ a + b + k → w + p * k ≡ x + y + z → (w + p * s) + (2 * p) * c ≡ (x + p * a) + (y + p * b) + z
column-sum p w s c a b k x y z e f =
    let g : p * (s + 2 * c) ≡ p * (a + b + k) = ap (λ t. p * t) e in
    let l : p * (s + 2 * c) ≡ p * s + p * (2 * c) = mul-add p s (2 * c) in
    let m : p * (2 * c) ≡ (2 * p) * c = sym (mul_assoc p 2 c) ∙ ap (λ t. t * c) (mul_comm p 2) in
    let r : p * (a + b + k) ≡ p * (a + b) + p * k = mul-add p (a + b) k in
    let q : p * (a + b) ≡ p * a + p * b = mul-add p a b in
    omega (arith, g, l, m, r, q, f)

pub add-table : (a b c : Bool) → number (exclusive (exclusive a b) c) + 2 * number (majority a b c) ≡ number a + number b + number c
add-table true true true = refl
add-table true true false = refl
add-table true false true = refl
add-table true false false = refl
add-table false true true = refl
add-table false true false = refl
add-table false false true = refl
add-table false false false = refl

same : (b c : Bool) → (b ≡ true → c ≡ true) → (c ≡ true → b ≡ true) → b ≡ c
same true true f g = refl
same true false f g = sym (f refl)
same false true f g = g refl
same false false f g = refl

eq_shifted : (p x y : ℕ) → nat_eq x y ≡ nat_eq (x + p) (y + p)
eq_shifted p x y = same (nat_eq x y) (nat_eq (x + p) (y + p)) (λ e. let q = eqb-true x y e in eq-eqb (x + p) (y + p) (omega (arith, q))) (λ e. let q = eqb-true (x + p) (y + p) e in eq-eqb x y (omega (arith, q)))

le_shifted : (p x y : ℕ) → nat_le x y ≡ nat_le (x + p) (y + p)
le_shifted p x y = grind arith

and-true : (b : Bool) → (b && true) ≡ b
and-true true = refl
and-true false = refl

and-false : (b : Bool) → (b && false) ≡ false
and-false true = refl
and-false false = refl

pub equal-step : (p x y : ℕ) (a b : Bool) → x < p → y < p → (nat_eq x y && not (exclusive a b)) ≡ nat_eq (x + p * number a) (y + p * number b)
equal-step p x y true true h k = let e : p * 1 ≡ p = omega arith in and-true (nat_eq x y) ∙ rw e (eq_shifted p x y)
equal-step p x y true false h k = and-false (nat_eq x y) ∙ sym (ne_eqb (x + p * 1) (y + p * 0) (λ e. omega (arith, e, h, k)))
equal-step p x y false true h k = and-false (nat_eq x y) ∙ sym (ne_eqb (x + p * 0) (y + p * 1) (λ e. omega (arith, e, h, k)))
equal-step p x y false false h k = let e : x + p * 0 ≡ x = omega arith in let f : y + p * 0 ≡ y = omega arith in and-true (nat_eq x y) ∙ rw (e, f) refl

pub at_most-step : (p x y : ℕ) (a b : Bool) → x < p → y < p → majority (not a) b (nat_le x y) ≡ nat_le (x + p * number a) (y + p * number b)
at_most-step p x y true true h k = let e : p * 1 ≡ p = omega arith in rw e (le_shifted p x y)
at_most-step p x y true false h k = grind arith
at_most-step p x y false true h k = grind arith
at_most-step p x y false false h k = let e : x + p * 0 ≡ x = omega arith in let f : y + p * 0 ≡ y = omega arith in rw (e, f) refl

-- ---- binary digits

pub pow-pos : (n : ℕ) → 0 < 2 ^ n
pow-pos zero = omega arith
pow-pos (suc n) = omega (arith, pow-pos n, pow-succ' 2 n)

pub digit-more : (x n : ℕ) → x % 2 ^ n + 2 ^ n * (x / 2 ^ n % 2) ≡ x % 2 ^ (n + 1)
digit-more x n =
    let e : 2 ^ (n + 1) ≡ 2 * 2 ^ n = rw (add-one n) (pow-succ' 2 n) in
    let d = mod-mul x {m = 2} {c = 2 ^ n} (omega arith) (pow-pos n) in
    let c = mul_comm (2 ^ n) (x / 2 ^ n % 2) in
    rw e (omega (arith, d, c))

pub number-one : (k : ℕ) → k < 2 → number (nat_eq k 1) ≡ k
number-one zero h = refl
number-one (suc zero) h = refl
number-one (suc (suc k)) h = absurd (omega arith)

pub zero-step : (p x : ℕ) (a : Bool) → 0 < p → (nat_eq x 0 && not a) ≡ nat_eq (x + p * number a) 0
zero-step p x true h = and-false (nat_eq x 0) ∙ sym (ne_eqb (x + p * 1) 0 (λ e. omega (arith, e, h)))
zero-step p x false h = let e : x + p * 0 ≡ x = omega arith in and-true (nat_eq x 0) ∙ rw e refl
