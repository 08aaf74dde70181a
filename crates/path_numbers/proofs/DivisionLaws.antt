-- Quotients, remainders and shifts of words, and those of the core on the numbers that they are.
use Rattle.std.proofs.Common.{◌≡◌, ℕ, zero, suc, ◌-◌, ◌/◌, ◌%◌, ◌^◌, ◌<◌, ◌≤◌, Bool, true, false, not, cond}
use Rattle.std.proofs.Common.{ℤ, pos, negsuc, neg_ℤ, refl, sym, ap, ◌∙◌, arith}
use Rattle.std.specs.Prelude.{Ok, Err, nat_eq, nat_lt, int_div, int_rem, ◌&&◌}
use Rattle.std.specs.Int.Signed.{mag, mag_rem}
use Rattle.std.proofs.Math.Facts.{sfits_to_z}
use Rattle.std.proofs.lemmas.Bool.Decides.{nat_tests}
use Rattle.std.proofs.Math.Nat.{div-le_self, div-lt_self, div-one}
use Rattle.plain_data.specs.declared.width.Width.{Width}
use Rattle.plain_data.specs.declared.width.Width.TheVariants.{W8, W16, W32, W64}
use Rattle.plain_data.specs.declared.run.Undefined.TheVariants.{Overflow, ZeroDivisor}
use Rattle.plain_data.specs.Words.{machine, bits, word, signed, is_signed, sdiv, srem}
use Rattle.plain_data.proofs.WordLaws.{word-signed, signed-word, word_below}
use Rattle.core_tree.specs.Numbers.{value_of_word, wrapped, exact, quotient, remainder}
use Rattle.c_language.specs.Operators.{Answer, where_in}
use Rattle.term_bank.specs.Values.{divided}
use Rattle.path_numbers.proofs.WordSums.{of_type, word-pos, wrapped_is, exactly, zero_word}

mag-neg : (r : ℕ) {a : ℕ} → r ≤ suc a → mag (neg_ℤ (pos r)) ≤ a
mag-neg zero h = omega arith
mag-neg (suc r) h = omega arith

-- ---- signed numbers by their magnitude

pub fits : (w : Width) (a : ℕ) → a < 2 ^ bits w → mag (signed w a) < 2 ^ (bits w - 1)
fits W8 a h = (sfits_to_z {w = machine W8} (record { fits = h })).sfits
fits W16 a h = (sfits_to_z {w = machine W16} (record { fits = h })).sfits
fits W32 a h = (sfits_to_z {w = machine W32} (record { fits = h })).sfits
fits W64 a h = (sfits_to_z {w = machine W64} (record { fits = h })).sfits

lt_true : (m n : ℕ) → m < n → nat_lt m n ≡ true
lt_true m n h = grind (arith, nat_tests)

pub is_fit : (w : Width) (z : ℤ) → mag z < 2 ^ (bits w - 1) → is_signed w z ≡ true
is_fit w (pos n) h = lt_true n (2 ^ (bits w - 1)) h
is_fit w (negsuc n) h = lt_true n (2 ^ (bits w - 1)) h

quotient_fits : (m : ℕ) (x y : ℤ) → mag x < m → (x ≡ negsuc (m - 1) → y ≡ negsuc 0 → ⊥) → mag (int_div x y) < m
quotient_fits m (pos a) (pos b) h ne = omega (arith, div-le_self a b)
quotient_fits m (pos a) (negsuc b) h ne =
    let le : a / suc b ≤ suc a = omega (arith, div-le_self a (suc b)) in omega (arith, mag-neg (a / suc b) le)
quotient_fits m (negsuc a) (pos b) h ne = omega (arith, mag-neg (suc a / b) (div-le_self (suc a) b))
quotient_fits m (negsuc a) (negsuc zero) h ne = rw div-one (least a m h (λ e. ne (ap negsuc e) refl))
  where
    least : (n m : ℕ) → n < m → (n ≡ m - 1 → ⊥) → suc n < m
    least n m below other = omega arith
quotient_fits m (negsuc a) (negsuc (suc b)) h ne =
    omega (arith, div-lt_self {n = suc a} {k = suc (suc b)} (omega arith) (omega arith))

-- ---- the least number by -1

abbrev pub is_least_by_minus_one : Width → ℕ → ℕ → Bool
is_least_by_minus_one w a b = nat_eq a (2 ^ (bits w - 1)) && nat_eq b (2 ^ bits w - 1)

word_least : (w : Width) → word w (negsuc (2 ^ (bits w - 1) - 1)) ≡ 2 ^ (bits w - 1)
word_least W8 = refl
word_least W16 = refl
word_least W32 = refl
word_least W64 = refl

word_minus_one : (w : Width) → word w (negsuc 0) ≡ 2 ^ bits w - 1
word_minus_one W8 = refl
word_minus_one W16 = refl
word_minus_one W32 = refl
word_minus_one W64 = refl

leaves : (w : Width) → is_signed w (int_div (signed w (2 ^ (bits w - 1))) (signed w (2 ^ bits w - 1))) ≡ false
leaves W8 = refl
leaves W16 = refl
leaves W32 = refl
leaves W64 = refl

eq_true : (m n : ℕ) → m ≡ n → nat_eq m n ≡ true
eq_true m n h = grind (arith, nat_tests)

true_eq : (m n : ℕ) → nat_eq m n ≡ true → m ≡ n
true_eq m n h = grind (arith, nat_tests)

first_true : (p q : Bool) → (p && q) ≡ true → p ≡ true
first_true true q h = refl
first_true false q h = h

second_true : (p q : Bool) → (p && q) ≡ true → q ≡ true
second_true true q h = h
second_true false q h = cc

both_true : (p q : Bool) → p ≡ true → q ≡ true → (p && q) ≡ true
both_true true q h k = k
both_true false q h k = cc

module _ (w : Width) (a b : ℕ) (ha : a < 2 ^ bits w) (hb : b < 2 ^ bits w) where
  over_at : (c : Bool) → c ≡ is_least_by_minus_one w a b → is_signed w (int_div (signed w a) (signed w b)) ≡ not c
  over_at true e =
      let one = true_eq a (2 ^ (bits w - 1)) (first_true (nat_eq a (2 ^ (bits w - 1))) (nat_eq b (2 ^ bits w - 1)) (sym e)) in
      let two = true_eq b (2 ^ bits w - 1) (second_true (nat_eq a (2 ^ (bits w - 1))) (nat_eq b (2 ^ bits w - 1)) (sym e)) in
      ap (λ n. is_signed w (int_div (signed w n) (signed w b))) one
      ∙ ap (λ n. is_signed w (int_div (signed w (2 ^ (bits w - 1))) (signed w n))) two ∙ leaves w
  over_at false e =
      is_fit w (int_div (signed w a) (signed w b))
      (quotient_fits (2 ^ (bits w - 1)) (signed w a) (signed w b) (fits w a ha) (λ x y.
      let one = eq_true a (2 ^ (bits w - 1)) (sym (word-signed w a ha) ∙ ap (word w) x ∙ word_least w) in
      let two = eq_true b (2 ^ bits w - 1) (sym (word-signed w b hb) ∙ ap (word w) y ∙ word_minus_one w) in
      let all = both_true (nat_eq a (2 ^ (bits w - 1))) (nat_eq b (2 ^ bits w - 1)) one two in
      let no_such : false ≡ true = e ∙ all in absurd (cc)))

  pub over_is : not (is_signed w (int_div (signed w a) (signed w b))) ≡ is_least_by_minus_one w a b
  over_is = ap not (over_at (is_least_by_minus_one w a b) refl) ∙ twice (is_least_by_minus_one w a b)
    where
      twice : (c : Bool) → not (not c) ≡ c
      twice true = refl
      twice false = refl

  pub remainder_word : signed w (srem w a b) ≡ int_rem (signed w a) (signed w b)
  remainder_word =
      signed-word w (int_rem (signed w a) (signed w b)) (is_fit w (int_rem (signed w a) (signed w b))
      (omega (arith, mag_rem (signed w a) (signed w b), fits w a ha)))

-- ---- quotients and remainders

pub otherwise : (c : Bool) (x y z : Answer) → (c ≡ false → y ≡ z) → cond c x y ≡ cond c x z
otherwise true x y z h = refl
otherwise false x y z h = h refl

divided_at : (b q : ℕ) → nat_eq b 0 ≡ false → divided b q ≡ q
divided_at b q h = rw h refl

abbrev pub signed_or : Bool → ℕ → ℕ → ℕ
signed_or s m n = cond s m n

module _ (w : Width) (x y : ℤ) (a b : ℕ) (ha : a ≡ word w x) (hb : b ≡ word w y) where
  below_a : a < 2 ^ bits w
  below_a = rw ha (word_below w x)

  below_b : b < 2 ^ bits w
  below_b = rw hb (word_below w y)

  abbrev X : Bool → ℤ
  X s = value_of_word (of_type s w) a

  abbrev Y : Bool → ℤ
  Y s = value_of_word (of_type s w) b

  X_is : (s : Bool) → wrapped (of_type s w) x ≡ X s
  X_is s = wrapped_is (of_type s w) x ∙ ap (value_of_word (of_type s w)) (sym ha)

  Y_is : (s : Bool) → wrapped (of_type s w) y ≡ Y s
  Y_is s = wrapped_is (of_type s w) y ∙ ap (value_of_word (of_type s w)) (sym hb)

  quotient_word : (s : Bool) → word w (int_div (X s) (Y s)) ≡ cond s (sdiv w a b) (a / b)
  quotient_word true = refl
  quotient_word false = word-pos w (a / b) (omega (arith, div-le_self a b, below_a))

  quotient_over : (s : Bool) → cond s (not (is_signed w (int_div (X s) (Y s)))) false ≡ cond s (is_least_by_minus_one w a b) false
  quotient_over true = over_is w a b below_a below_b
  quotient_over false = refl

  quotient_node : (s : Bool) → nat_eq b 0 ≡ false
      → cond s (sdiv w a b) (a / b) ≡ cond s (divided b (sdiv w a b)) (divided b (a / b))
  quotient_node true h = sym (divided_at b (sdiv w a b) h)
  quotient_node false h = sym (divided_at b (a / b) h)

  pub quotient_is : (s : Bool) → quotient (of_type s w) x y
      ≡ cond (nat_eq b 0) (Err ZeroDivisor) (cond (cond s (is_least_by_minus_one w a b) false) (Err Overflow)
      (Ok (value_of_word (of_type s w) (cond s (divided b (sdiv w a b)) (divided b (a / b))))))
  quotient_is s = rw (X_is s, Y_is s, zero_word s w b below_b)
      (otherwise (nat_eq b 0) (Err ZeroDivisor) (exact (of_type s w) (int_div (X s) (Y s)))
      (cond (cond s (is_least_by_minus_one w a b) false) (Err Overflow)
      (Ok (value_of_word (of_type s w) (cond s (divided b (sdiv w a b)) (divided b (a / b))))))
      (λ h.
      exactly s w (int_div (X s) (Y s)) (cond s (sdiv w a b) (a / b)) (quotient_word s)
      ∙ ap (λ c. cond c (Err Overflow) (Ok (value_of_word (of_type s w) (cond s (sdiv w a b) (a / b))))) (quotient_over s)
      ∙ ap (λ n. cond (cond s (is_least_by_minus_one w a b) false) (Err Overflow) (Ok (value_of_word (of_type s w) n))) (quotient_node s h)))

  remainder_value : (s : Bool) → nat_eq b 0 ≡ false
      → int_rem (X s) (Y s) ≡ value_of_word (of_type s w) (cond s (divided b (srem w a b)) (divided b (a % b)))
  remainder_value true h = sym (remainder_word w a b below_a below_b) ∙ ap (signed w) (sym (divided_at b (srem w a b) h))
  remainder_value false h = ap pos (sym (divided_at b (a % b) h))

  with_answer : (c o : Bool) (q z r : ℤ) → (c ≡ false → z ≡ r)
      → where_in (cond c (Err ZeroDivisor) (cond o (Err Overflow) (Ok q))) z ≡ cond c (Err ZeroDivisor) (cond o (Err Overflow) (Ok r))
  with_answer true o q z r h = refl
  with_answer false true q z r h = refl
  with_answer false false q z r h = ap (λ t. Ok t) (h refl)

  pub remainder_is : (s : Bool) → remainder (of_type s w) x y
      ≡ cond (nat_eq b 0) (Err ZeroDivisor) (cond (cond s (is_least_by_minus_one w a b) false) (Err Overflow)
      (Ok (value_of_word (of_type s w) (cond s (divided b (srem w a b)) (divided b (a % b))))))
  remainder_is s =
      ap (λ q. where_in q (int_rem (wrapped (of_type s w) x) (wrapped (of_type s w) y))) (quotient_is s)
      ∙ with_answer (nat_eq b 0) (cond s (is_least_by_minus_one w a b) false)
      (value_of_word (of_type s w) (cond s (divided b (sdiv w a b)) (divided b (a / b))))
      (int_rem (wrapped (of_type s w) x) (wrapped (of_type s w) y))
      (value_of_word (of_type s w) (cond s (divided b (srem w a b)) (divided b (a % b))))
      (λ h. rw (X_is s, Y_is s) (remainder_value s h))
