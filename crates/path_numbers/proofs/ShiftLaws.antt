-- Shifts of words, and those of the core on the numbers that they are.
use Rattle.std.proofs.Common.{◌≡◌, ℕ, ◌-◌, ◌*◌, ◌%◌, ◌^◌, ◌<◌, ◌≤◌, Bool, true, false, not, cond}
use Rattle.std.proofs.Common.{ℤ, pos, negsuc, ◌*ℤ◌, refl, sym, ap, ◌∙◌, arith}
use Rattle.std.specs.Prelude.{Ok, Err, nat_lt, nat_le, int_lt, ◌||◌, unsigned_abs}
use Rattle.std.specs.Int.{int_div_euclid}
use Rattle.std.specs.Int.Signed.{mag}
use Rattle.std.proofs.lemmas.Bool.Decides.{nat_tests}
use Rattle.std.proofs.Math.Nat.{div-le_self}
use Rattle.std.proofs.Math.Pow.{pow-lt}
use Rattle.plain_data.specs.declared.width.Width.{Width}
use Rattle.plain_data.specs.declared.width.Width.TheVariants.{W8, W16, W32, W64}
use Rattle.plain_data.specs.declared.run.Undefined.TheVariants.{Overflow, Shift}
use Rattle.plain_data.specs.Words.{bits, word, signed, is_signed, shl, lshr, ashr, shl_over}
use Rattle.plain_data.proofs.WordLaws.{word-signed, signed-word, word-mul, word_below}
use Rattle.core_tree.specs.declared.types.WordType.{WordType}
use Rattle.core_tree.specs.Numbers.{value_of_word, wrapped, exact, is_far, shifted_left, shifted_right}
use Rattle.c_language.specs.Operators.{Answer, is_negative, as_shift}
use Rattle.term_bank.specs.Values.{shifted}
use Rattle.path_numbers.proofs.WordSums.{of_type, word-pos, word_of_value, wrapped_is, exactly}
use Rattle.path_numbers.proofs.DivisionLaws.{fits, is_fit, otherwise}

-- ---- how far

lt_true : (m n : ℕ) → m < n → nat_lt m n ≡ true
lt_true m n h = grind (arith, nat_tests)

lt_false : (m n : ℕ) → n ≤ m → nat_lt m n ≡ false
lt_false m n h = grind (arith, nat_tests)

most_bits : (w : Width) → bits w ≤ 64
most_bits W8 = omega arith
most_bits W16 = omega arith
most_bits W32 = omega arith
most_bits W64 = omega arith

-- the word of a negative number is at least 128
negative_word : (u : Width) (n : ℕ) → n < 2 ^ (bits u - 1) → 128 ≤ word u (negsuc n)
negative_word W8 n h = omega (arith, word-pos W8 n (omega arith))
negative_word W16 n h = omega (arith, word-pos W16 n (omega arith))
negative_word W32 n h = omega (arith, word-pos W32 n (omega arith))
negative_word W64 n h = omega (arith, word-pos W64 n (omega arith))

half_below : (u : Width) (n : ℕ) → n < 2 ^ (bits u - 1) → n < 2 ^ bits u
half_below W8 n h = omega arith
half_below W16 n h = omega arith
half_below W32 n h = omega arith
half_below W64 n h = omega arith

far_by : (t : WordType) (u : Width) (c : ℕ) (z : ℤ) → mag z < 2 ^ (bits u - 1) → word u z ≡ c → is_far t z ≡ not (nat_lt c (bits t.width))
far_by t u c (pos n) h e = ap (λ k. not (nat_lt k (bits t.width))) (sym (word-pos u n (half_below u n h)) ∙ e)
far_by t u c (negsuc n) h e = ap not (sym (lt_false c (bits t.width) (omega (arith, negative_word u n h, most_bits t.width, e))))

pub far_is : (t : WordType) (s : Bool) (u : Width) (c : ℕ) → c < 2 ^ bits u
    → is_far t (value_of_word (of_type s u) c) ≡ not (nat_lt c (bits t.width))
far_is t true u c h = far_by t u c (signed u c) (fits u c h) (word-signed u c h)
far_is t false u c h = refl

-- ---- shifts

module _ (w : Width) (x y : ℤ) (a n : ℕ) (ha : a ≡ word w x) (hn : n ≡ word w y) where
  below_a : a < 2 ^ bits w
  below_a = rw ha (word_below w x)

  abbrev X : Bool → ℤ
  X s = value_of_word (of_type s w) a

  X_is : (s : Bool) → wrapped (of_type s w) x ≡ X s
  X_is s = wrapped_is (of_type s w) x ∙ ap (value_of_word (of_type s w)) (sym ha)

  -- a count that isn't far is the number itself
  near : (s : Bool) (z : ℤ) → z ≡ y → is_far (of_type s w) z ≡ false → (unsigned_abs y ≡ n) × (n < bits w)
  near s (pos k) e h =
      let low : k < bits w = grind (arith, nat_tests) in
      let small : k < 2 ^ bits w = half_of w k low in
      let same : n ≡ k = hn ∙ ap (word w) (sym e) ∙ word-pos w k small in
      (ap unsigned_abs (sym e) ∙ sym same, omega (arith, same, low))
    where
      half_of : (w : Width) (k : ℕ) → k < bits w → k < 2 ^ bits w
      half_of W8 k h = omega arith
      half_of W16 k h = omega arith
      half_of W32 k h = omega arith
      half_of W64 k h = omega arith
  near s (negsuc k) e h = cc

  either_or : (f n : Bool) (x y : Answer) → cond (f || n) x y ≡ cond f x (cond n x y)
  either_or true n x y = refl
  either_or false n x y = refl

  taken_left : (s : Bool) → n < bits w → word w (X s *ℤ pos (2 ^ n)) ≡ shl w a n
  taken_left s h =
      word-mul w (X s) (pos (2 ^ n))
      ∙ ap (λ k. (k * word w (pos (2 ^ n))) % 2 ^ bits w) (word_of_value s w a below_a)
      ∙ ap (λ k. (a * k) % 2 ^ bits w) (word-pos w (2 ^ n) (pow-lt h))

  kept_as_shift : (c : Bool) (z : ℤ) → as_shift (cond c (Err Overflow) (Ok z)) ≡ cond c (Err Shift) (Ok z)
  kept_as_shift true z = refl
  kept_as_shift false z = refl

  sign_of : (z : ℤ) → int_lt z (pos 0) ≡ is_negative z
  sign_of (pos k) = grind (arith, nat_tests)
  sign_of (negsuc k) = refl

  le_false : n < bits w → nat_le (bits w) n ≡ false
  le_false h = grind (arith, nat_tests)

  shifted_at : (q : ℕ) → n < bits w → shifted w n q ≡ q
  shifted_at q h = rw (lt_true n (bits w) h) refl

  both_faults : (l n' o c : Bool) (z : ℤ) → l ≡ false → c ≡ n'
      → ◌≡◌ {A = Answer} (cond n' (Err Shift) (cond o (Err Shift) (Ok z))) (cond ((l || c) || o) (Err Shift) (Ok z))
  both_faults l true o c z h k = rw (h, k) refl
  both_faults l false o c z h k = rw (h, k) refl

  left_near : (s : Bool) → n < bits w → cond (is_negative (X s)) (Err Shift) (as_shift (exact (of_type s w) (X s *ℤ pos (2 ^ n))))
      ≡ cond (cond s (shl_over w a n) false) (Err Shift) (Ok (value_of_word (of_type s w) (shifted w n (shl w a n))))
  left_near true h =
      ap (λ r. cond (is_negative (X true)) (Err Shift) (as_shift r)) (exactly true w (X true *ℤ pos (2 ^ n)) (shl w a n) (taken_left true h))
      ∙ ap (λ r. cond (is_negative (X true)) (Err Shift) r) (kept_as_shift (not (is_signed w (X true *ℤ pos (2 ^ n)))) (signed w (shl w a n)))
      ∙ both_faults (nat_le (bits w) n) (is_negative (X true)) (not (is_signed w (X true *ℤ pos (2 ^ n)))) (int_lt (X true) (pos 0))
      (signed w (shl w a n)) (le_false h) (sign_of (X true))
      ∙ ap (λ k. cond (shl_over w a n) (Err Shift) (Ok (signed w k))) (sym (shifted_at (shl w a n) h))
  left_near false h =
      ap as_shift (exactly false w (X false *ℤ pos (2 ^ n)) (shl w a n) (taken_left false h))
      ∙ ap (λ k. Ok (pos k)) (sym (shifted_at (shl w a n) h))

  pub shifted_left_is : (s : Bool) → shifted_left (of_type s w) x y
      ≡ cond (is_far (of_type s w) y) (Err Shift) (cond (cond s (shl_over w a n) false) (Err Shift)
      (Ok (value_of_word (of_type s w) (shifted w n (shl w a n)))))
  shifted_left_is s =
      rw (X_is s)
      (either_or (is_far (of_type s w) y) (is_negative (X s)) (Err Shift) (as_shift (exact (of_type s w) (X s *ℤ pos (2 ^ unsigned_abs y))))
      ∙ otherwise (is_far (of_type s w) y) (Err Shift)
      (cond (is_negative (X s)) (Err Shift) (as_shift (exact (of_type s w) (X s *ℤ pos (2 ^ unsigned_abs y)))))
      (cond (cond s (shl_over w a n) false) (Err Shift) (Ok (value_of_word (of_type s w) (shifted w n (shl w a n)))))
      (λ h.
      let e = near s y refl h in
      ap (λ k. cond (is_negative (X s)) (Err Shift) (as_shift (exact (of_type s w) (X s *ℤ pos (2 ^ k))))) e.0 ∙ left_near s e.1))

  smaller : (z : ℤ) (m : ℕ) → mag (int_div_euclid z (pos m)) ≤ mag z
  smaller (pos k) m = div-le_self k m
  smaller (negsuc k) m = div-le_self k m

  right_near : (s : Bool) → n < bits w → int_div_euclid (X s) (pos (2 ^ n))
      ≡ value_of_word (of_type s w) (cond s (shifted w n (ashr w a n)) (shifted w n (lshr a n)))
  right_near true h =
      sym (signed-word w (int_div_euclid (X true) (pos (2 ^ n)))
      (is_fit w (int_div_euclid (X true) (pos (2 ^ n))) (omega (arith, smaller (X true) (2 ^ n), fits w a below_a))))
      ∙ ap (signed w) (sym (shifted_at (ashr w a n) h))
  right_near false h = ap pos (sym (shifted_at (lshr a n) h))

  pub shifted_right_is : (s : Bool) → shifted_right (of_type s w) x y
      ≡ cond (is_far (of_type s w) y) (Err Shift)
      (Ok (value_of_word (of_type s w) (cond s (shifted w n (ashr w a n)) (shifted w n (lshr a n)))))
  shifted_right_is s =
      rw (X_is s)
      (otherwise (is_far (of_type s w) y) (Err Shift) (Ok (int_div_euclid (X s) (pos (2 ^ unsigned_abs y))))
      (Ok (value_of_word (of_type s w) (cond s (shifted w n (ashr w a n)) (shifted w n (lshr a n)))))
      (λ h.
      let e = near s y refl h in
      ap (λ k. Ok (int_div_euclid (X s) (pos (2 ^ k)))) e.0 ∙ ap (λ z. Ok z) (right_near s e.1)))
