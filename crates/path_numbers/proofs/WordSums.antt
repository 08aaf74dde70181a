-- Operators on words, and those of the core on the numbers that they are.
use Rattle.std.proofs.Common.{◌≡◌, ℕ, zero, suc, ◌^◌, ◌<◌, Bool, true, false, not, cond}
use Rattle.std.proofs.Common.{ℤ, pos, negsuc, ◌+ℤ◌, ◌-ℤ◌, ◌*ℤ◌, refl, sym, ap, ◌∙◌, arith}
use Rattle.std.specs.Prelude.{Ok, Err, nat_eq, int_lt, ◌||◌}
use Rattle.std.proofs.lemmas.Bool.Decides.{nat_tests}
use Rattle.std.proofs.Math.Nat.{mod-eq_of_lt}
use Rattle.plain_data.specs.declared.width.Width.{Width}
use Rattle.plain_data.specs.declared.width.Width.TheVariants.{W8, W16, W32, W64}
use Rattle.plain_data.specs.declared.run.Undefined.TheVariants.{Overflow}
use Rattle.plain_data.specs.Words.{bits, word, signed, is_signed, add, sub, mul, add_over, sub_over, mul_over, ult, slt}
use Rattle.plain_data.proofs.WordLaws.{word-signed, signed-word, word-add, word-sub, word-mul, word_below}
use Rattle.core_tree.specs.declared.types.WordType.{WordType}
use Rattle.core_tree.specs.Numbers.{is_in, value_of_word, wrapped, exact}
use Rattle.c_language.specs.Integers.{is_zero}
use Rattle.c_language.specs.Operators.{Answer}

abbrev pub of_type : Bool → Width → WordType
of_type s w = record { width = w; is_signed = s }

-- ---- words and the numbers that they are

pub word-pos : (w : Width) (a : ℕ) → a < 2 ^ bits w → word w (pos a) ≡ a
word-pos w a h = mod-eq_of_lt h

pub word_of_value : (s : Bool) (w : Width) (a : ℕ) → a < 2 ^ bits w → word w (value_of_word (of_type s w) a) ≡ a
word_of_value true w a h = word-signed w a h
word_of_value false w a h = word-pos w a h

pub wrapped_is : (t : WordType) (z : ℤ) → wrapped t z ≡ value_of_word t (word t.width z)
unfolding wrapped
wrapped_is t z = refl

-- a number is in a signed type where it is one of two's complement
pub in_signed : (w : Width) (z : ℤ) → is_in (of_type true w) z ≡ is_signed w z
in_signed W8 (pos n) = grind (arith, nat_tests)
in_signed W8 (negsuc n) = grind (arith, nat_tests)
in_signed W16 (pos n) = grind (arith, nat_tests)
in_signed W16 (negsuc n) = grind (arith, nat_tests)
in_signed W32 (pos n) = grind (arith, nat_tests)
in_signed W32 (negsuc n) = grind (arith, nat_tests)
in_signed W64 (pos n) = grind (arith, nat_tests)
in_signed W64 (negsuc n) = grind (arith, nat_tests)

-- ---- results that must fit

choice : (k i : Bool) (z r : ℤ) → i ≡ k → (k ≡ true → r ≡ z)
    → ◌≡◌ {A = Answer} (cond i (Ok z) (Err Overflow)) (cond (not k) (Err Overflow) (Ok r))
choice true i z r h f = rw (h, f refl) refl
choice false i z r h f = rw h refl

pub exactly : (s : Bool) (w : Width) (z : ℤ) (r : ℕ) → word w z ≡ r
    → exact (of_type s w) z ≡ cond (cond s (not (is_signed w z)) false) (Err Overflow) (Ok (value_of_word (of_type s w) r))
unfolding exact
exactly true w z r h = choice (is_signed w z) (is_in (of_type true w) z) z (signed w r) (in_signed w z) (λ k. ap (signed w) (sym h) ∙ signed-word w z k)
exactly false w z r h = ap (λ x. Ok x) (wrapped_is (of_type false w) z ∙ ap pos h)

module _ (w : Width) (x y : ℤ) (a b : ℕ) (ha : a ≡ word w x) (hb : b ≡ word w y) where
  value_is : (s : Bool) (z : ℤ) (c : ℕ) → c ≡ word w z → wrapped (of_type s w) z ≡ value_of_word (of_type s w) c
  value_is s z c h = wrapped_is (of_type s w) z ∙ ap (value_of_word (of_type s w)) (sym h)

  back : (s : Bool) (z : ℤ) (c : ℕ) → c ≡ word w z → word w (value_of_word (of_type s w) c) ≡ c
  back s z c h = word_of_value s w c (rw h (word_below w z))

  abbrev X : Bool → ℤ
  X s = value_of_word (of_type s w) a

  abbrev Y : Bool → ℤ
  Y s = value_of_word (of_type s w) b

  -- `+`, `-` and `*`
  pub added : (s : Bool) → exact (of_type s w) (wrapped (of_type s w) x +ℤ wrapped (of_type s w) y)
      ≡ cond (cond s (add_over w a b) false) (Err Overflow) (Ok (value_of_word (of_type s w) (add w a b)))
  added s = rw (value_is s x a ha, value_is s y b hb)
      (exactly s w (X s +ℤ Y s) (add w a b)
      (word-add w (X s) (Y s) ∙ ap (λ n. add w n (word w (Y s))) (back s x a ha) ∙ ap (λ n. add w a n) (back s y b hb))
      ∙ over s)
    where
      over : (s : Bool) → ◌≡◌ {A = Answer}
          (cond (cond s (not (is_signed w (X s +ℤ Y s))) false) (Err Overflow) (Ok (value_of_word (of_type s w) (add w a b))))
          (cond (cond s (add_over w a b) false) (Err Overflow) (Ok (value_of_word (of_type s w) (add w a b))))
      over true = refl
      over false = refl

  pub subtracted : (s : Bool) → exact (of_type s w) (wrapped (of_type s w) x -ℤ wrapped (of_type s w) y)
      ≡ cond (cond s (sub_over w a b) false) (Err Overflow) (Ok (value_of_word (of_type s w) (sub w a b)))
  subtracted s = rw (value_is s x a ha, value_is s y b hb)
      (exactly s w (X s -ℤ Y s) (sub w a b)
      (word-sub w (X s) (Y s) ∙ ap (λ n. sub w n (word w (Y s))) (back s x a ha) ∙ ap (λ n. sub w a n) (back s y b hb))
      ∙ over s)
    where
      over : (s : Bool) → ◌≡◌ {A = Answer}
          (cond (cond s (not (is_signed w (X s -ℤ Y s))) false) (Err Overflow) (Ok (value_of_word (of_type s w) (sub w a b))))
          (cond (cond s (sub_over w a b) false) (Err Overflow) (Ok (value_of_word (of_type s w) (sub w a b))))
      over true = refl
      over false = refl

  pub multiplied : (s : Bool) → exact (of_type s w) (wrapped (of_type s w) x *ℤ wrapped (of_type s w) y)
      ≡ cond (cond s (mul_over w a b) false) (Err Overflow) (Ok (value_of_word (of_type s w) (mul w a b)))
  multiplied s = rw (value_is s x a ha, value_is s y b hb)
      (exactly s w (X s *ℤ Y s) (mul w a b)
      (word-mul w (X s) (Y s) ∙ ap (λ n. mul w n (word w (Y s))) (back s x a ha) ∙ ap (λ n. mul w a n) (back s y b hb))
      ∙ over s)
    where
      over : (s : Bool) → ◌≡◌ {A = Answer}
          (cond (cond s (not (is_signed w (X s *ℤ Y s))) false) (Err Overflow) (Ok (value_of_word (of_type s w) (mul w a b))))
          (cond (cond s (mul_over w a b) false) (Err Overflow) (Ok (value_of_word (of_type s w) (mul w a b))))
      over true = refl
      over false = refl

  -- `<`, and `==` by it
  pub less_than : (s : Bool) → int_lt (wrapped (of_type s w) x) (wrapped (of_type s w) y) ≡ cond s (slt w a b) (ult a b)
  less_than true = rw (value_is true x a ha, value_is true y b hb) refl
  less_than false = rw (value_is false x a ha, value_is false y b hb) refl

  same_signed : signed w a ≡ signed w b → a ≡ b
  same_signed h =
      sym (back true x a ha) ∙ ap (word w) h ∙ back true y b hb

  equal_by : (p q : ℤ) (c : Bool) → (c ≡ true → p ≡ q) → (p ≡ q → c ≡ true) → not (int_lt p q || int_lt q p) ≡ c
  equal_by (pos m) (pos n) true f g = let e : m ≡ n = cc (f refl) in grind (arith, nat_tests)
  equal_by (pos m) (pos n) false f g = grind (arith, nat_tests)
  equal_by (pos m) (negsuc n) true f g = cc (f refl)
  equal_by (pos m) (negsuc n) false f g = refl
  equal_by (negsuc m) (pos n) true f g = cc (f refl)
  equal_by (negsuc m) (pos n) false f g = refl
  equal_by (negsuc m) (negsuc n) true f g = let e : m ≡ n = cc (f refl) in grind (arith, nat_tests)
  equal_by (negsuc m) (negsuc n) false f g = grind (arith, nat_tests)

  test_true : nat_eq a b ≡ true → a ≡ b
  test_true h = grind (arith, nat_tests)

  test_same : a ≡ b → nat_eq a b ≡ true
  test_same h = grind (arith, nat_tests)

  pub equal_to : (s : Bool) → not (int_lt (wrapped (of_type s w) x) (wrapped (of_type s w) y) || int_lt (wrapped (of_type s w) y) (wrapped (of_type s w) x))
      ≡ nat_eq a b
  equal_to true = rw (value_is true x a ha, value_is true y b hb)
      (equal_by (signed w a) (signed w b) (nat_eq a b) (λ h. ap (signed w) (test_true h)) (λ h. test_same (same_signed h)))
  equal_to false = rw (value_is false x a ha, value_is false y b hb)
      (equal_by (pos a) (pos b) (nat_eq a b) (λ h. ap pos (test_true h)) (λ h. test_same (cc)))

  -- `&`, `^` and `|`
  pub on_words_is : (f : ℕ → ℕ → ℕ) (t : WordType) → t.width ≡ w → value_of_word t (f (word w x) (word w y)) ≡ value_of_word t (f a b)
  on_words_is f t h = rw (ha, hb) refl

-- ---- conditions

pub zero_word : (s : Bool) (w : Width) (a : ℕ) → a < 2 ^ bits w → is_zero (value_of_word (of_type s w) a) ≡ nat_eq a 0
zero_word s w zero h = zero_of s w
  where
    zero_of : (s : Bool) (w : Width) → is_zero (value_of_word (of_type s w) 0) ≡ true
    zero_of true W8 = refl
    zero_of true W16 = refl
    zero_of true W32 = refl
    zero_of true W64 = refl
    zero_of false w = refl
zero_word false w (suc n) h = grind (arith, nat_tests)
zero_word true w (suc n) h = other (signed w (suc n)) refl
  where
    nonzero : (word w (pos 0) ≡ 0) → (word w (signed w (suc n)) ≡ suc n) → (z : ℤ) → z ≡ signed w (suc n) → is_zero z ≡ nat_eq (suc n) 0
    nonzero p q (pos zero) e = absurd (omega (arith, sym p ∙ ap (word w) e ∙ q))
    nonzero p q (pos (suc k)) e = grind (arith, nat_tests)
    nonzero p q (negsuc k) e = grind (arith, nat_tests)

    zero_at : (w : Width) → word w (pos 0) ≡ 0
    zero_at W8 = refl
    zero_at W16 = refl
    zero_at W32 = refl
    zero_at W64 = refl

    other : (z : ℤ) → z ≡ signed w (suc n) → is_zero z ≡ nat_eq (suc n) 0
    other z e = nonzero (zero_at w) (word-signed w (suc n) h) z e
