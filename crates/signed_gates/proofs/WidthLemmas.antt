-- What the operators of signed words are by signs and magnitudes, at each width.
use Rattle.std.proofs.Common.{◌≡◌, ◌<◌, ◌≤◌, ℕ, suc, ◌+◌, ◌-◌, ◌*◌, ◌/◌, ◌%◌, ◌^◌, Bool, true, false, not, cond, ◌||◌, ℤ, pos, ◌+ℤ◌, ◌-ℤ◌, ◌*ℤ◌, sym, ap, subst, ◌∙◌, arith, inl, inr}
use Rattle.std.specs.Prelude.{nat_lt, nat_le, nat_eq, int_lt, int_div, int_rem, unsigned_abs}
use Rattle.std.specs.Int.{int_rem_euclid, int_div_euclid}
use Rattle.std.proofs.lemmas.Bool.{cases_lt, le-leb, lt-leb, le-ltb, lt-ltb}
use Rattle.std.proofs.lemmas.Int.{ints}
use Rattle.std.proofs.lemmas.Nat.{pow-add, mul-le, pow_pos}
use Rattle.std.proofs.Math.Nat.{mod-eq_of_lt, zero-mod, pow-le-pow_right}
use Rattle.plain_data.specs.Words.{bits, signed, is_signed, word, sdiv, srem, slt, add_over, sub_over, mul_over, shl_over}
use Rattle.plain_data.specs.declared.width.Width.{Width}
use Rattle.plain_data.specs.declared.width.Width.TheVariants.{W8, W16, W32, W64}
use Rattle.plain_data.proofs.WordLaws.{word-signed, word-word}
use Rattle.gates.specs.Nets.{exclusive, majority}
use Rattle.word_gates.specs.Spelling.{number, flipped}
use Rattle.signed_gates.specs.Signs.{is_negative, magnitude, with_sign, divided}
use Rattle.signed_gates.proofs.HalfLemmas.{half, signed_at, in_range, power, half-pos, signed-half, range-half, word-half, magnitude-half, word-of-sign, order-half, carry-half, difference-half, product-half, quotient-half, remainder-half, fits-half, magnitude-most, magnitude-zero, shifted-half, shift-half}

pub below-half : (w : Width) (a : ℕ) → a < 2 ^ bits w → a < 2 * half w
below-half w a k = subst (λ n. a < n) (power w) k

pub magnitude-word : (w : Width) (a : ℕ) → a < 2 ^ bits w → cond (is_negative w a) ((2 ^ bits w - a) % 2 ^ bits w) a ≡ magnitude w a
magnitude-word w a k = ap (λ n. cond (nat_le (half w) a) ((n - a) % n) a) (power w) ∙ magnitude-half (half w) a (below-half w a k) ∙ ap unsigned_abs (sym (signed-half w a))

pub sign-word : (w : Width) (x : ℕ) (b : Bool) → x < 2 ^ bits w → cond b ((2 ^ bits w - x) % 2 ^ bits w) x ≡ word w (with_sign b x)
sign-word w x b k = ap (λ n. cond b ((n - x) % n) x) (power w) ∙ word-of-sign (half w) x b (below-half w x k) ∙ sym (word-half w (with_sign b x))

pub order-word : (w : Width) (x y : ℕ) → x < 2 ^ bits w → y < 2 ^ bits w → nat_lt ((x + half w) % 2 ^ bits w) ((y + half w) % 2 ^ bits w) ≡ slt w x y
order-word w x y k m =
    ap (λ n. nat_lt ((x + half w) % n) ((y + half w) % n)) (power w) ∙ sym (order-half (half w) x y (below-half w x k) (below-half w y m))
    ∙ (λ i. int_lt (sym (signed-half w x) i) (sym (signed-half w y) i))

-- ---- sums

pub carry-word : (w : Width) (a b s k : ℕ) (p q c : Bool) → a < half w → b < half w → s < half w → k < 2 → a + b + k ≡ s + half w * number c → exclusive c (majority p q c) ≡ not (is_signed w (signed w (a + half w * number p) +ℤ signed w (b + half w * number q) +ℤ pos k))
carry-word w a b s k p q c ha hb hs hk e =
    carry-half (half w) a b s k p q c ha hb hs hk e
    ∙ (λ i. not (in_range (half w) (sym (signed-half w (a + half w * number p)) i +ℤ sym (signed-half w (b + half w * number q)) i +ℤ pos k)))
    ∙ ap not (sym (range-half w (signed w (a + half w * number p) +ℤ signed w (b + half w * number q) +ℤ pos k)))

pub add-word : (w : Width) (a b : ℕ) → not (is_signed w (signed w a +ℤ signed w b +ℤ pos 0)) ≡ add_over w a b
add-word w a b = ap (λ z. not (is_signed w z)) (none (signed w a +ℤ signed w b))
  where
    none : (z : ℤ) → z +ℤ pos 0 ≡ z
    none z = omega (arith, ints)

pub subtract-word : (w : Width) (a b o : ℕ) → b < 2 ^ bits w → o + b + 1 ≡ 2 ^ bits w → not (is_signed w (signed w a +ℤ signed w o +ℤ pos 1)) ≡ sub_over w a b
subtract-word w a b o k e =
    let is : o ≡ 2 * half w - 1 - b = omega (arith, e, power w) in
    let d : signed w a +ℤ signed w o +ℤ pos 1 ≡ signed w a -ℤ signed w b = (λ i. signed w a +ℤ signed-half w o i +ℤ pos 1) ∙ ap (λ n. signed w a +ℤ signed_at (half w) n +ℤ pos 1) is ∙ difference-half (half w) b (signed w a) (below-half w b k) ∙ (λ i. signed w a -ℤ sym (signed-half w b) i) in
    ap (λ z. not (is_signed w z)) d

-- ---- products and quotients

pub product-word : (w : Width) (x y : ℕ) → not (nat_le (magnitude w x * magnitude w y) (half w - 1 + number (exclusive (is_negative w x) (is_negative w y)))) ≡ mul_over w x y
product-word w x y =
    ap not (sym (range-half w (signed w x *ℤ signed w y) ∙ ap (in_range (half w)) z ∙ fits-half (half w) (magnitude w x * magnitude w y) (exclusive (is_negative w x) (is_negative w y)) (half-pos w)))
  where
    z : signed w x *ℤ signed w y ≡ with_sign (exclusive (is_negative w x) (is_negative w y)) (magnitude w x * magnitude w y)
    z = (λ i. signed-half w x i *ℤ signed-half w y i) ∙ product-half (half w) x y ∙ (λ i. with_sign (exclusive (is_negative w x) (is_negative w y)) (unsigned_abs (sym (signed-half w x) i) * unsigned_abs (sym (signed-half w y) i)))

pub magnitude-at-most : (w : Width) (x : ℕ) → x < 2 ^ bits w → magnitude w x ≤ half w
magnitude-at-most w x k = subst (λ z. unsigned_abs z ≤ half w) (sym (signed-half w x)) (magnitude-most (half w) x (below-half w x k))

pub product-small : (w : Width) (x y : ℕ) → x < 2 ^ bits w → y < 2 ^ bits w → magnitude w x * magnitude w y < 2 ^ (2 * bits w)
product-small w x y k m =
    let most = mul-le (magnitude w x) (magnitude w y) (half w) (half w) (magnitude-at-most w x k) (magnitude-at-most w y m) in
    omega (arith, most, square w)
  where
    square : (w : Width) → half w * half w < 2 ^ (2 * bits w)
    square W8 = omega arith
    square W16 = omega arith
    square W32 = omega arith
    square W64 = omega arith

zero-word : (w : Width) (b : Bool) → word w (with_sign b 0) ≡ 0
zero-word w true = zero-mod (2 ^ bits w)
zero-word w false = zero-mod (2 ^ bits w)

-- what has a sign and a magnitude is 0 by 0
by-magnitudes : (w : Width) (y q : ℕ) (b : Bool) (z : ℤ) → y < 2 ^ bits w → z ≡ with_sign b q → word w (with_sign b (divided (magnitude w y) q)) ≡ divided y (word w z)
by-magnitudes w y q b z k e =
    let same : nat_eq (magnitude w y) 0 ≡ nat_eq y 0 = ap (λ t. nat_eq (unsigned_abs t) 0) (signed-half w y) ∙ magnitude-zero (half w) y (below-half w y k) in
    ap (λ t. word w (with_sign b (cond t 0 q))) same ∙ either (nat_eq y 0)
  where
    either : (t : Bool) → word w (with_sign b (cond t 0 q)) ≡ cond t 0 (word w z)
    either true = zero-word w b
    either false = ap (word w) (sym e)

pub quotient-word : (w : Width) (x y : ℕ) → y < 2 ^ bits w → word w (with_sign (exclusive (is_negative w x) (is_negative w y)) (divided (magnitude w y) (magnitude w x / magnitude w y))) ≡ divided y (sdiv w x y)
quotient-word w x y k =
    by-magnitudes w y (magnitude w x / magnitude w y) (exclusive (is_negative w x) (is_negative w y)) (int_div (signed w x) (signed w y)) k
    ((λ i. int_div (signed-half w x i) (signed-half w y i)) ∙ quotient-half (half w) x y ∙ (λ i. with_sign (exclusive (is_negative w x) (is_negative w y)) (unsigned_abs (sym (signed-half w x) i) / unsigned_abs (sym (signed-half w y) i))))

pub remainder-word : (w : Width) (x y : ℕ) → y < 2 ^ bits w → word w (with_sign (is_negative w x) (divided (magnitude w y) (magnitude w x % magnitude w y))) ≡ divided y (srem w x y)
remainder-word w x y k =
    by-magnitudes w y (magnitude w x % magnitude w y) (is_negative w x) (int_rem (signed w x) (signed w y)) k
    ((λ i. int_rem (signed-half w x i) (signed-half w y i)) ∙ remainder-half (half w) x y ∙ (λ i. with_sign (is_negative w x) (unsigned_abs (sym (signed-half w x) i) % unsigned_abs (sym (signed-half w y) i))))

-- ---- shifts

pub shifted-word : (w : Width) (a d : ℕ) → a < 2 ^ bits w → flipped (bits w) (is_negative w a) (flipped (bits w) (is_negative w a) a / d) ≡ word w (int_div_euclid (signed w a) (pos d))
shifted-word w a d k =
    ap (λ n. cond (nat_le (half w) a) (n - 1 - cond (nat_le (half w) a) (n - 1 - a) a / d) (cond (nat_le (half w) a) (n - 1 - a) a / d)) (power w)
    ∙ shifted-half (half w) a d (below-half w a k)
    ∙ ap (λ z. unsigned_abs (int_rem_euclid (int_div_euclid z (pos d)) (pos (2 * half w)))) (sym (signed-half w a))
    ∙ sym (word-half w (int_div_euclid (signed w a) (pos d)))

-- the least signed word, moved down
parted : (w : Width) (by : ℕ) → by < bits w → half w ≡ 2 ^ (bits w - 1 - by) * 2 ^ by
parted w by k = let e : bits w - 1 ≡ bits w - 1 - by + by = omega arith in ap (λ n. 2 ^ n) e ∙ pow-add 2 (bits w - 1 - by) by

pub overshift-word : (w : Width) (a by : ℕ) → nat_le (cond (nat_lt by (bits w)) (half w / 2 ^ by) 0) a ≡ shl_over w a by
overshift-word w a by =
    elim (cases_lt by (bits w)) [
      | inl k ↦ rw (lt-ltb by (bits w) k, lt-leb (bits w) by k) (sym (shift-half (half w) a (2 ^ (bits w - 1 - by)) (2 ^ by) (pow_pos by) (parted w by k)) ∙ (λ i. int_lt (sym (signed-half w a) i) (pos 0) || not (sym (range-half w (sym (signed-half w a) i *ℤ pos (2 ^ by))) i)))
      | inr k ↦ rw (le-ltb by (bits w) k, le-leb (bits w) by k) (le-leb 0 a (omega arith))
    ]

-- ---- conversions

pub narrowed-word : (from to : Width) (a : ℕ) → a < 2 ^ bits from → bits to ≤ bits from → a % 2 ^ bits to ≡ word to (signed from a)
narrowed-word from to a k h = ap (λ n. word to (pos n)) (sym (word-signed from a k)) ∙ word-word to from (signed from a) h

widened-half : (h m a r : ℕ) → a < 2 * h → 2 * h ≤ m → r + 2 * h * number (nat_le h a) ≡ m * number (nat_le h a) → a + r ≡ unsigned_abs (int_rem_euclid (signed_at h a) (pos m))
widened-half h m a r k l e =
    elim (cases_lt a h) [
      | inl p ↦
          let z : r + 2 * h * 0 ≡ m * 0 = rw (lt-leb h a p) at e in
          rw (lt-ltb a h p) (sym (mod-eq_of_lt (omega (arith, k, l)) ∙ omega (arith, z)))
      | inr p ↦
          let z : r + 2 * h * 1 ≡ m * 1 = rw (le-leb h a p) at e in
          let q : (2 * h - suc a) % m ≡ 2 * h - suc a = mod-eq_of_lt (omega (arith, k, l)) in
          rw (le-ltb a h p, q) (omega (arith, z, k, l))
    ]

pub widened-word : (from to : Width) (a r : ℕ) → a < 2 ^ bits from → bits from ≤ bits to → r + 2 ^ bits from * number (is_negative from a) ≡ 2 ^ bits to * number (is_negative from a) → a + r ≡ word to (signed from a)
widened-word from to a r k h e =
    let l : 2 ^ bits from ≤ 2 ^ bits to = pow-le-pow_right (omega arith) h in
    widened-half (half from) (2 ^ bits to) a r (below-half from a k) (omega (arith, l, power from)) (ap (λ n. r + n * number (is_negative from a)) (sym (power from)) ∙ e)
    ∙ ap (λ z. unsigned_abs (int_rem_euclid z (pos (2 ^ bits to)))) (sym (signed-half from a))
