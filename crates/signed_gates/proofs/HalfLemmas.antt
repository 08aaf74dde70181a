-- Signed numbers by half of their type's range, h of 2 * h words.
use Rattle.std.proofs.Common.{◌≡◌, ◌<◌, ◌≤◌, ℕ, zero, suc, ◌+◌, ◌-◌, ◌*◌, ◌/◌, ◌%◌, ◌^◌, Bool, true, false, not, cond, ◌||◌, ℤ, pos, negsuc, ◌+ℤ◌, ◌-ℤ◌, ◌*ℤ◌, ◌≤ℤ◌, ◌<ℤ◌, refl, sym, ap, ◌∙◌, arith, inl, inr}
use Rattle.std.specs.Prelude.{nat_lt, nat_le, nat_eq, int_lt, int_div, int_rem, unsigned_abs}
use Rattle.std.specs.Int.{int_rem_euclid, int_div_euclid}
use Rattle.std.proofs.lemmas.Bool.{cases_lt, lt-ltb, le-ltb, le-leb, lt-leb, ne_eqb}
use Rattle.std.proofs.lemmas.Int.{ints}
use Rattle.std.proofs.Math.Nat.{mod-eq_of_lt, add-mul-mod_self_left, div-le_self, mul-div_cancel, mod_self, zero-mod, mul-lt-mul_of_pos_right, mul-le-mul_right}
use Rattle.plain_data.specs.Words.{bits, signed, is_signed, word}
use Rattle.plain_data.specs.declared.width.Width.{Width}
use Rattle.plain_data.specs.declared.width.Width.TheVariants.{W8, W16, W32, W64}
use Rattle.gates.specs.Nets.{exclusive, majority}
use Rattle.word_gates.specs.Spelling.{number}
use Rattle.signed_gates.specs.Signs.{with_sign}

-- ---- the definitions by half

abbrev pub half : Width → ℕ
half w = 2 ^ (bits w - 1)

abbrev pub signed_at : ℕ → ℕ → ℤ
signed_at h a = cond (nat_lt a h) (pos a) (negsuc (2 * h - suc a))

abbrev pub in_range : ℕ → ℤ → Bool
in_range h (pos n) = nat_lt n h
in_range h (negsuc n) = nat_lt n h

pub power : (w : Width) → 2 ^ bits w ≡ 2 * half w
power W8 = refl
power W16 = refl
power W32 = refl
power W64 = refl

pub half-pos : (w : Width) → 0 < half w
half-pos W8 = omega arith
half-pos W16 = omega arith
half-pos W32 = omega arith
half-pos W64 = omega arith

pub signed-half : (w : Width) (a : ℕ) → signed w a ≡ signed_at (half w) a
signed-half W8 a = elim (cases_lt a (2 ^ 7)) [ inl h ↦ rw (lt-ltb a (2 ^ 7) h) refl | inr h ↦ rw (le-ltb a (2 ^ 7) h) refl ]
signed-half W16 a = elim (cases_lt a (2 ^ 15)) [ inl h ↦ rw (lt-ltb a (2 ^ 15) h) refl | inr h ↦ rw (le-ltb a (2 ^ 15) h) refl ]
signed-half W32 a = elim (cases_lt a (2 ^ 31)) [ inl h ↦ rw (lt-ltb a (2 ^ 31) h) refl | inr h ↦ rw (le-ltb a (2 ^ 31) h) refl ]
signed-half W64 a = elim (cases_lt a (2 ^ 63)) [ inl h ↦ rw (lt-ltb a (2 ^ 63) h) refl | inr h ↦ rw (le-ltb a (2 ^ 63) h) refl ]

pub range-half : (w : Width) (z : ℤ) → is_signed w z ≡ in_range (half w) z
range-half w (pos n) = refl
range-half w (negsuc n) = refl

pub word-half : (w : Width) (z : ℤ) → word w z ≡ unsigned_abs (int_rem_euclid z (pos (2 * half w)))
word-half w z = ap (λ n. unsigned_abs (int_rem_euclid z (pos n))) (power w)

-- ---- tests

pub same-lt : (a b c d : ℕ) → (a < b → c < d) → (c < d → a < b) → nat_lt a b ≡ nat_lt c d
same-lt a b c d f g = elim (cases_lt a b) [ inl h ↦ lt-ltb a b h ∙ sym (lt-ltb c d (f h)) | inr h ↦ le-ltb a b h ∙ sym (le-ltb c d (elim (cases_lt c d) [ inl k ↦ absurd (omega (arith, g k, h)) | inr k ↦ k ])) ]

pub not-le : (a b : ℕ) → not (nat_le b a) ≡ nat_lt a b
not-le a b = elim (cases_lt a b) [ inl h ↦ ap not (lt-leb b a h) ∙ sym (lt-ltb a b h) | inr h ↦ ap not (le-leb b a h) ∙ sym (le-ltb a b h) ]

pub not-lt : (a b : ℕ) → not (nat_lt a b) ≡ nat_le b a
not-lt a b = elim (cases_lt a b) [ inl h ↦ ap not (lt-ltb a b h) ∙ sym (lt-leb b a h) | inr h ↦ ap not (le-ltb a b h) ∙ sym (le-leb b a h) ]

-- ---- signs and magnitudes

pub top-bit : (h low : ℕ) (b : Bool) → low < h → b ≡ nat_le h (low + h * number b)
top-bit h low true k = sym (le-leb h (low + h * 1) (omega arith))
top-bit h low false k = sym (lt-leb h (low + h * 0) (omega arith))

pub magnitude-half : (h a : ℕ) → a < 2 * h → cond (nat_le h a) ((2 * h - a) % (2 * h)) a ≡ unsigned_abs (signed_at h a)
magnitude-half h a k = elim (cases_lt a h) [ inl l ↦ rw (lt-leb h a l, lt-ltb a h l) refl | inr l ↦ rw (le-leb h a l, le-ltb a h l) (mod-eq_of_lt (omega arith) ∙ here) ]
  where
    here : 2 * h - a ≡ suc (2 * h - suc a)
    here = omega (arith, k)

pub word-of-sign : (h x : ℕ) (b : Bool) → x < 2 * h → cond b ((2 * h - x) % (2 * h)) x ≡ unsigned_abs (int_rem_euclid (with_sign b x) (pos (2 * h)))
word-of-sign h x false k = sym (mod-eq_of_lt k)
word-of-sign h zero true k = let e : 2 * h - 0 ≡ 2 * h = omega arith in rw e (mod_self (2 * h) ∙ sym (zero-mod (2 * h)))
word-of-sign h (suc n) true k =
    let m : n % (2 * h) ≡ n = mod-eq_of_lt (omega arith) in
    mod-eq_of_lt (omega arith) ∙ rw m (omega arith)

-- ---- order

turned-low : (h x : ℕ) → x < h → (x + h) % (2 * h) ≡ x + h
turned-low h x l = mod-eq_of_lt (omega arith)

turned-high : (h x : ℕ) → h ≤ x → x < 2 * h → (x + h) % (2 * h) ≡ x - h
turned-high h x l k =
    let e : x + h ≡ (x - h) + 2 * h * 1 = omega (arith, l) in
    ap (λ n. n % (2 * h)) e ∙ add-mul-mod_self_left (x - h) (2 * h) 1 ∙ mod-eq_of_lt (omega arith)

pub order-half : (h x y : ℕ) → x < 2 * h → y < 2 * h → int_lt (signed_at h x) (signed_at h y) ≡ nat_lt ((x + h) % (2 * h)) ((y + h) % (2 * h))
order-half h x y k m =
    elim (cases_lt x h) [
      | inl p ↦ elim (cases_lt y h) [
        | inl q ↦ rw (lt-ltb x h p, lt-ltb y h q, turned-low h x p, turned-low h y q) (same-lt x y (x + h) (y + h) (λ e. omega arith) (λ e. omega arith))
        | inr q ↦ rw (lt-ltb x h p, le-ltb y h q, turned-low h x p, turned-high h y q m) (sym (le-ltb (x + h) (y - h) (omega arith)))
      ]
      | inr p ↦ elim (cases_lt y h) [
        | inl q ↦ rw (le-ltb x h p, lt-ltb y h q, turned-high h x p k, turned-low h y q) (sym (lt-ltb (x - h) (y + h) (omega arith)))
        | inr q ↦ rw (le-ltb x h p, le-ltb y h q, turned-high h x p k, turned-high h y q m) (same-lt (2 * h - suc y) (2 * h - suc x) (x - h) (y - h) (λ e. omega arith) (λ e. omega arith))
      ]
    ]

-- ---- sums

in-true : (h : ℕ) (z : ℤ) → pos 0 ≤ℤ (z +ℤ pos h) → z <ℤ pos h → in_range h z ≡ true
in-true h (pos n) low high = lt-ltb n h (omega (arith, ints))
in-true h (negsuc n) low high = lt-ltb n h (omega (arith, ints))

in-high : (h : ℕ) (z : ℤ) → pos h ≤ℤ z → in_range h z ≡ false
in-high h (pos n) high = le-ltb n h (omega (arith, ints))
in-high h (negsuc n) high = absurd (omega (arith, ints))

in-low : (h : ℕ) (z : ℤ) → (z +ℤ pos h) <ℤ pos 0 → in_range h z ≡ false
in-low h (pos n) low = absurd (omega (arith, ints))
in-low h (negsuc n) low = le-ltb n h (omega (arith, ints))

signed-split : (h l : ℕ) (s : Bool) → l < h → signed_at h (l + h * number s) ≡ cond s (negsuc (h - suc l)) (pos l)
signed-split h l true k = rw (le-ltb (l + h * 1) h (omega arith)) (ap negsuc (omega (arith, k)))
signed-split h l false k = let e : l + h * 0 ≡ l = omega arith in rw (e, lt-ltb l h k) refl

-- what is carried into the sign bit isn't what is carried out where the sum leaves the type
carries : (h a b s k : ℕ) (p q c : Bool) (z : ℤ) → a < h → b < h → s < h → k < 2 → a + b + k ≡ s + h * number c → z ≡ cond p (negsuc (h - suc a)) (pos a) +ℤ cond q (negsuc (h - suc b)) (pos b) +ℤ pos k → not (exclusive c (majority p q c)) ≡ in_range h z
carries h a b s k false false false z ha hb hs hk e is = sym (in-true h z (omega (arith, ints, e, is)) (omega (arith, ints, e, is)))
carries h a b s k false false true z ha hb hs hk e is = sym (in-high h z (omega (arith, ints, e, is)))
carries h a b s k false true false z ha hb hs hk e is = sym (in-true h z (omega (arith, ints, e, is)) (omega (arith, ints, e, is)))
carries h a b s k false true true z ha hb hs hk e is = sym (in-true h z (omega (arith, ints, e, is)) (omega (arith, ints, e, is)))
carries h a b s k true false false z ha hb hs hk e is = sym (in-true h z (omega (arith, ints, e, is)) (omega (arith, ints, e, is)))
carries h a b s k true false true z ha hb hs hk e is = sym (in-true h z (omega (arith, ints, e, is)) (omega (arith, ints, e, is)))
carries h a b s k true true false z ha hb hs hk e is = sym (in-low h z (omega (arith, ints, e, is)))
carries h a b s k true true true z ha hb hs hk e is = sym (in-true h z (omega (arith, ints, e, is)) (omega (arith, ints, e, is)))

not-not : (b : Bool) → not (not b) ≡ b
not-not true = refl
not-not false = refl

pub carry-half : (h a b s k : ℕ) (p q c : Bool) → a < h → b < h → s < h → k < 2 → a + b + k ≡ s + h * number c → exclusive c (majority p q c) ≡ not (in_range h (signed_at h (a + h * number p) +ℤ signed_at h (b + h * number q) +ℤ pos k))
carry-half h a b s k p q c ha hb hs hk e = sym (not-not (exclusive c (majority p q c))) ∙ ap not (carries h a b s k p q c _ ha hb hs hk e refl) ∙ rw (signed-split h a p ha, signed-split h b q hb) refl

-- the opposite's bits and 1 more
pub difference-half : (h b : ℕ) (x : ℤ) → b < 2 * h → x +ℤ signed_at h (2 * h - 1 - b) +ℤ pos 1 ≡ x -ℤ signed_at h b
difference-half h b x k =
    elim (cases_lt b h) [
      | inl p ↦ rw (lt-ltb b h p, le-ltb (2 * h - 1 - b) h (omega arith)) (omega (arith, ints))
      | inr p ↦ rw (le-ltb b h p, lt-ltb (2 * h - 1 - b) h (omega arith)) (omega (arith, ints))
    ]

-- ---- products and quotients by magnitudes

pub product-half : (h x y : ℕ) → signed_at h x *ℤ signed_at h y ≡ with_sign (exclusive (nat_le h x) (nat_le h y)) (unsigned_abs (signed_at h x) * unsigned_abs (signed_at h y))
product-half h x y =
    elim (cases_lt x h) [
      | inl p ↦ elim (cases_lt y h) [
        | inl q ↦ rw (lt-ltb x h p, lt-ltb y h q, lt-leb h x p, lt-leb h y q) refl
        | inr q ↦ rw (lt-ltb x h p, le-ltb y h q, lt-leb h x p, le-leb h y q) refl
      ]
      | inr p ↦ elim (cases_lt y h) [
        | inl q ↦ rw (le-ltb x h p, lt-ltb y h q, le-leb h x p, lt-leb h y q) refl
        | inr q ↦ rw (le-ltb x h p, le-ltb y h q, le-leb h x p, le-leb h y q) refl
      ]
    ]

pub quotient-half : (h x y : ℕ) → int_div (signed_at h x) (signed_at h y) ≡ with_sign (exclusive (nat_le h x) (nat_le h y)) (unsigned_abs (signed_at h x) / unsigned_abs (signed_at h y))
quotient-half h x y =
    elim (cases_lt x h) [
      | inl p ↦ elim (cases_lt y h) [
        | inl q ↦ rw (lt-ltb x h p, lt-ltb y h q, lt-leb h x p, lt-leb h y q) refl
        | inr q ↦ rw (lt-ltb x h p, le-ltb y h q, lt-leb h x p, le-leb h y q) refl
      ]
      | inr p ↦ elim (cases_lt y h) [
        | inl q ↦ rw (le-ltb x h p, lt-ltb y h q, le-leb h x p, lt-leb h y q) refl
        | inr q ↦ rw (le-ltb x h p, le-ltb y h q, le-leb h x p, le-leb h y q) refl
      ]
    ]

pub remainder-half : (h x y : ℕ) → int_rem (signed_at h x) (signed_at h y) ≡ with_sign (nat_le h x) (unsigned_abs (signed_at h x) % unsigned_abs (signed_at h y))
remainder-half h x y = elim (cases_lt x h) [ inl p ↦ rw (lt-ltb x h p, lt-leb h x p) refl | inr p ↦ rw (le-ltb x h p, le-leb h x p) refl ]

pub fits-half : (h p : ℕ) (s : Bool) → 0 < h → in_range h (with_sign s p) ≡ nat_le p (h - 1 + number s)
fits-half h p false k = elim (cases_lt p h) [ inl l ↦ lt-ltb p h l ∙ sym (le-leb p (h - 1 + 0) (omega arith)) | inr l ↦ le-ltb p h l ∙ sym (lt-leb p (h - 1 + 0) (omega arith)) ]
fits-half h zero true k = lt-ltb 0 h k ∙ sym (le-leb 0 (h - 1 + 1) (omega arith))
fits-half h (suc n) true k = elim (cases_lt n h) [ inl l ↦ lt-ltb n h l ∙ sym (le-leb (suc n) (h - 1 + 1) (omega arith)) | inr l ↦ le-ltb n h l ∙ sym (lt-leb (suc n) (h - 1 + 1) (omega arith)) ]

pub magnitude-most : (h x : ℕ) → x < 2 * h → unsigned_abs (signed_at h x) ≤ h
magnitude-most h x k = elim (cases_lt x h) [ inl p ↦ rw (lt-ltb x h p) (omega arith) | inr p ↦ rw (le-ltb x h p) (omega arith) ]

pub magnitude-zero : (h x : ℕ) → x < 2 * h → nat_eq (unsigned_abs (signed_at h x)) 0 ≡ nat_eq x 0
magnitude-zero h x k = elim (cases_lt x h) [ inl p ↦ rw (lt-ltb x h p) refl | inr p ↦ rw (le-ltb x h p) (ne_eqb (suc (2 * h - suc x)) 0 (λ e. omega (arith, e)) ∙ sym (ne_eqb x 0 (λ e. omega (arith, e, k, p)))) ]

-- ---- shifts

pub shifted-half : (h a d : ℕ) → a < 2 * h → cond (nat_le h a) (2 * h - 1 - cond (nat_le h a) (2 * h - 1 - a) a / d) (cond (nat_le h a) (2 * h - 1 - a) a / d) ≡ unsigned_abs (int_rem_euclid (int_div_euclid (signed_at h a) (pos d)) (pos (2 * h)))
shifted-half h a d k =
    elim (cases_lt a h) [
      | inl p ↦ rw (lt-leb h a p, lt-ltb a h p) (sym (mod-eq_of_lt (omega (arith, div-le_self a d))))
      | inr p ↦
          let e : 2 * h - suc a ≡ 2 * h - 1 - a = omega arith in
          let m : (2 * h - 1 - a) / d % (2 * h) ≡ (2 * h - 1 - a) / d = mod-eq_of_lt (omega (arith, div-le_self (2 * h - 1 - a) d)) in
          rw (le-leb h a p, le-ltb a h p, e, m) refl
    ]

-- h is c times d
reaches : (h a c d : ℕ) → 0 < d → h ≡ c * d → nat_le h (a * d) ≡ nat_le (h / d) a
reaches h a c d k e =
    let q : h / d ≡ c = ap (λ n. n / d) e ∙ mul-div_cancel c {n = d} k in
    rw (q, e) (elim (cases_lt a c) [
      | inl l ↦ lt-leb (c * d) (a * d) (mul-lt-mul_of_pos_right l k) ∙ sym (lt-leb c a l)
      | inr l ↦ le-leb (c * d) (a * d) (mul-le-mul_right d l) ∙ sym (le-leb c a l)
    ])

pub shift-half : (h a c d : ℕ) → 0 < d → h ≡ c * d → (int_lt (signed_at h a) (pos 0) || not (in_range h (signed_at h a *ℤ pos d))) ≡ nat_le (h / d) a
shift-half h a c d k e =
    elim (cases_lt a h) [
      | inl p ↦ rw (lt-ltb a h p, le-ltb a 0 (omega arith)) (not-lt (a * d) h ∙ reaches h a c d k e)
      | inr p ↦ rw (le-ltb a h p) (sym (le-leb (h / d) a (omega (arith, div-le_self h d))))
    ]
