-- Operators of the core work as those of C do.
use Rattle.std.proofs.Common.{◌≡◌, ℕ, ℤ, pos, Bool, false, cond, Option, Some, None, Ok, Err, refl, sym, ap, ap₂, ◌∙◌}
use Rattle.std.proofs.Math.Path.{fun_ext}
use Rattle.std.specs.Prelude.{not, ◌||◌, ◌^◌, ◌+ℤ◌, ◌-ℤ◌, ◌*ℤ◌, int_div, int_rem, int_lt, negsuc, unsigned_abs}
use Rattle.std.specs.Int.{int_div_euclid}
use Rattle.plain_data.specs.declared.run.Undefined.TheVariants.{ZeroDivisor, Shift}
use Rattle.c_language.specs.declared.expr.BinaryOperator.{BinaryOperator}
use Rattle.c_language.specs.declared.expr.BinaryOperator.TheVariants as o
use Rattle.c_language.specs.declared.expr.UnaryOperator.TheVariants as u
use Rattle.c_language.specs.declared.ctype.IntegerKind.{IntegerKind}
use Rattle.c_language.specs.declared.ctype.IntegerKind.TheVariants as k
use Rattle.c_language.specs.Integers as integers
use Rattle.std.specs.Int.Bits.{bit_and, bit_or, bit_xor}
use Rattle.plain_data.specs.Words.{word}
use Rattle.c_language.specs.Integers.{is_zero, number_of, is_bool, width_of}
use Rattle.c_language.specs.Operators as operators
use Rattle.c_language.specs.Operators.{Answer, where_in, is_negative, as_shift, is_far}
use Rattle.c_language.specs.Typing as says
use Rattle.core_tree.specs.declared.types.Arithmetic.{Arithmetic}
use Rattle.core_tree.specs.declared.types.Arithmetic.TheVariants as a
use Rattle.core_tree.specs.declared.types.Turning.TheVariants as turn
use Rattle.core_tree.specs.Numbers as core
use Rattle.elaborate.specs.Types.{word_type, integer_type, arithmetic, working}

-- the operator that is given
abbrev given : Option Arithmetic → Arithmetic
given None = a.Add
given (Some b) = b

-- ---- conversion

pub converted_same : (kind : IntegerKind) (z : ℤ) → core.converted_to (integer_type kind) z ≡ integers.converted kind z
unfolding integers.converted core.wrapped
converted_same k.Bool z = refl
converted_same k.Char z = refl
converted_same k.SignedChar z = refl
converted_same k.UnsignedChar z = refl
converted_same k.Short z = refl
converted_same k.UnsignedShort z = refl
converted_same k.Int z = refl
converted_same k.UnsignedInt z = refl
converted_same k.Long z = refl
converted_same k.UnsignedLong z = refl
converted_same k.LongLong z = refl
converted_same k.UnsignedLongLong z = refl

pub wrapped_same : (kind : IntegerKind) → is_bool kind ≡ false → (z : ℤ) → core.wrapped (word_type kind) z ≡
    integers.converted kind z
unfolding integers.converted core.wrapped
wrapped_same k.Bool h z = cc
wrapped_same k.Char h z = refl
wrapped_same k.SignedChar h z = refl
wrapped_same k.UnsignedChar h z = refl
wrapped_same k.Short h z = refl
wrapped_same k.UnsignedShort h z = refl
wrapped_same k.Int h z = refl
wrapped_same k.UnsignedInt h z = refl
wrapped_same k.Long h z = refl
wrapped_same k.UnsignedLong h z = refl
wrapped_same k.LongLong h z = refl
wrapped_same k.UnsignedLongLong h z = refl

pub exact_same : (kind : IntegerKind) → is_bool kind ≡ false → (z : ℤ) → core.exact (word_type kind) z ≡
    operators.exact kind z
unfolding integers.converted core.wrapped operators.exact core.exact
exact_same k.Bool h z = cc
exact_same k.Char h z = refl
exact_same k.SignedChar h z = refl
exact_same k.UnsignedChar h z = refl
exact_same k.Short h z = refl
exact_same k.UnsignedShort h z = refl
exact_same k.Int h z = refl
exact_same k.UnsignedInt h z = refl
exact_same k.Long h z = refl
exact_same k.UnsignedLong h z = refl
exact_same k.LongLong h z = refl
exact_same k.UnsignedLongLong h z = refl

pub word_same : (kind : IntegerKind) → is_bool kind ≡ false → (n : ℕ) → core.value_of_word (word_type kind) n ≡
    integers.value_of_word kind n
word_same k.Bool h z = cc
word_same k.Char h z = refl
word_same k.SignedChar h z = refl
word_same k.UnsignedChar h z = refl
word_same k.Short h z = refl
word_same k.UnsignedShort h z = refl
word_same k.Int h z = refl
word_same k.UnsignedInt h z = refl
word_same k.Long h z = refl
word_same k.UnsignedLong h z = refl
word_same k.LongLong h z = refl
word_same k.UnsignedLongLong h z = refl

-- ---- operators: each over the same conversions

module _ (kind : IntegerKind) (h : is_bool kind ≡ false) where
  wrap : core.wrapped (word_type kind) ≡ integers.converted kind
  wrap = fun_ext (wrapped_same kind h)

  fit : core.exact (word_type kind) ≡ operators.exact kind
  fit = fun_ext (exact_same kind h)

  of_word : core.value_of_word (word_type kind) ≡ integers.value_of_word kind
  of_word = fun_ext (word_same kind h)

  -- a result that must be in the type
  both_fit : (f : ℤ → ℤ → ℤ) (x y : ℤ) →
      core.exact (word_type kind) (f (core.wrapped (word_type kind) x) (core.wrapped (word_type kind) y))
      ≡ operators.exact kind (f (integers.converted kind x) (integers.converted kind y))
  both_fit f x y = ap₂ (λ (g : ℤ → Answer) (w : ℤ → ℤ). g (f (w x) (w y))) fit wrap

  far_same : (y : ℤ) → core.is_far (word_type kind) y ≡ is_far kind y
  far_same (pos n) = refl
  far_same (negsuc n) = refl

  quotient_same : (x y : ℤ) → core.quotient (word_type kind) x y ≡ operators.quotient kind x y
  quotient_same x y =
      ap₂ (λ (g : ℤ → Answer) (w : ℤ → ℤ). cond (is_zero (w y)) (Err ZeroDivisor) (g (int_div (w x) (w y)))) fit wrap

  left_same : (x y : ℤ) → core.shifted_left (word_type kind) x y ≡ operators.shifted_left kind x y
  left_same x y =
      ap (λ b. cond (b || is_negative (core.wrapped (word_type kind) x)) (Err Shift)
      (as_shift (core.exact (word_type kind) (core.wrapped (word_type kind) x *ℤ pos (2 ^ unsigned_abs y)))))
      (far_same y)
      ∙ ap₂ (λ (g : ℤ → Answer) (w : ℤ → ℤ). cond (is_far kind y || is_negative (w x)) (Err Shift)
      (as_shift (g (w x *ℤ pos (2 ^ unsigned_abs y))))) fit wrap

  right_same : (x y : ℤ) → core.shifted_right (word_type kind) x y ≡ operators.shifted_right kind x y
  right_same x y =
      ap₂ (λ b (w : ℤ → ℤ). cond b (Err Shift) (Ok (int_div_euclid (w x) (pos (2 ^ unsigned_abs y))))) (far_same y) wrap

  compared_same : (f : (ℤ → ℤ) → Bool) → f (core.wrapped (word_type kind)) ≡ f (integers.converted kind)
  compared_same f = ap f wrap

  -- what a binary operator is worth on the operands of its type
  pub worked_same : (op : BinaryOperator) (b : Arithmetic) (x y : ℤ) → arithmetic op ≡ Some b
      → core.worked b (word_type kind) x y ≡ says.worked op kind x y
  worked_same o.Multiply b x y e = ap (λ c. core.worked (given c) (word_type kind) x y) (sym e) ∙ both_fit
      (λ a b. a *ℤ b) x y
  worked_same o.Divide b x y e = ap (λ c. core.worked (given c) (word_type kind) x y) (sym e) ∙ quotient_same x y
  worked_same o.Remainder b x y e = ap (λ c. core.worked (given c) (word_type kind) x y) (sym e) ∙ ap₂
      (λ q (w : ℤ → ℤ). where_in q (int_rem (w x) (w y))) (quotient_same x y) wrap
  worked_same o.Add b x y e = ap (λ c. core.worked (given c) (word_type kind) x y) (sym e) ∙ both_fit (λ a b. a +ℤ b)
      x y
  worked_same o.Subtract b x y e = ap (λ c. core.worked (given c) (word_type kind) x y) (sym e) ∙ both_fit
      (λ a b. a -ℤ b) x y
  worked_same o.ShiftLeft b x y e = ap (λ c. core.worked (given c) (word_type kind) x y) (sym e) ∙ left_same x y
  worked_same o.ShiftRight b x y e = ap (λ c. core.worked (given c) (word_type kind) x y) (sym e) ∙ right_same x y
  worked_same o.Less b x y e = ap (λ c. core.worked (given c) (word_type kind) x y) (sym e) ∙ ap
      (λ b. Ok (number_of b)) (compared_same (λ w. int_lt (w x) (w y)))
  worked_same o.Greater b x y e = ap (λ c. core.worked (given c) (word_type kind) x y) (sym e) ∙ ap
      (λ b. Ok (number_of b)) (compared_same (λ w. int_lt (w y) (w x)))
  worked_same o.LessEqual b x y e = ap (λ c. core.worked (given c) (word_type kind) x y) (sym e) ∙ ap
      (λ b. Ok (number_of (not b))) (compared_same (λ w. int_lt (w y) (w x)))
  worked_same o.GreaterEqual b x y e = ap (λ c. core.worked (given c) (word_type kind) x y) (sym e) ∙ ap
      (λ b. Ok (number_of (not b))) (compared_same (λ w. int_lt (w x) (w y)))
  worked_same o.Equal b x y e = ap (λ c. core.worked (given c) (word_type kind) x y) (sym e) ∙ ap
      (λ b. Ok (number_of (not b))) (compared_same (λ w. int_lt (w x) (w y) || int_lt (w y) (w x)))
  worked_same o.NotEqual b x y e = ap (λ c. core.worked (given c) (word_type kind) x y) (sym e) ∙ ap
      (λ b. Ok (number_of b)) (compared_same (λ w. int_lt (w x) (w y) || int_lt (w y) (w x)))
  worked_same o.BitAnd b x y e = ap (λ c. core.worked (given c) (word_type kind) x y) (sym e) ∙ ap
      (λ f. Ok (f (bit_and (word (width_of kind) x) (word (width_of kind) y)))) of_word
  worked_same o.BitXor b x y e = ap (λ c. core.worked (given c) (word_type kind) x y) (sym e) ∙ ap
      (λ f. Ok (f (bit_xor (word (width_of kind) x) (word (width_of kind) y)))) of_word
  worked_same o.BitOr b x y e = ap (λ c. core.worked (given c) (word_type kind) x y) (sym e) ∙ ap
      (λ f. Ok (f (bit_or (word (width_of kind) x) (word (width_of kind) y)))) of_word
  worked_same o.LogicalAnd b x y e = cc
  worked_same o.LogicalOr b x y e = cc

  pub plus_same : (z : ℤ) → core.turned turn.Plus (word_type kind) z ≡ says.turned u.Plus kind z
  plus_same z = ap (λ (w : ℤ → ℤ). Ok (w z)) wrap

  pub minus_same : (z : ℤ) → core.turned turn.Minus (word_type kind) z ≡ says.turned u.Minus kind z
  minus_same z = ap₂ (λ (g : ℤ → Answer) (w : ℤ → ℤ). g (pos 0 -ℤ w z)) fit wrap

  pub complement_same : (z : ℤ) → core.turned turn.Complement (word_type kind) z ≡ says.turned u.Complement kind z
  complement_same z = ap (λ (w : ℤ → ℤ). Ok (w (negsuc 0 -ℤ z))) wrap

-- ---- no operator works in `_Bool`

pub promoted_word : (a : IntegerKind) → is_bool (integers.promoted a) ≡ false
promoted_word k.Bool = refl
promoted_word k.Char = refl
promoted_word k.SignedChar = refl
promoted_word k.UnsignedChar = refl
promoted_word k.Short = refl
promoted_word k.UnsignedShort = refl
promoted_word k.Int = refl
promoted_word k.UnsignedInt = refl
promoted_word k.Long = refl
promoted_word k.UnsignedLong = refl
promoted_word k.LongLong = refl
promoted_word k.UnsignedLongLong = refl

-- the usual conversions give the promoted type of one of the two, or an unsigned one
pub usual_word : (a b : IntegerKind) → is_bool (integers.usual a b) ≡ false
usual_word k.Bool k.Bool = refl
usual_word k.Bool k.Char = refl
usual_word k.Bool k.SignedChar = refl
usual_word k.Bool k.UnsignedChar = refl
usual_word k.Bool k.Short = refl
usual_word k.Bool k.UnsignedShort = refl
usual_word k.Bool k.Int = refl
usual_word k.Bool k.UnsignedInt = refl
usual_word k.Bool k.Long = refl
usual_word k.Bool k.UnsignedLong = refl
usual_word k.Bool k.LongLong = refl
usual_word k.Bool k.UnsignedLongLong = refl
usual_word k.Char k.Bool = refl
usual_word k.Char k.Char = refl
usual_word k.Char k.SignedChar = refl
usual_word k.Char k.UnsignedChar = refl
usual_word k.Char k.Short = refl
usual_word k.Char k.UnsignedShort = refl
usual_word k.Char k.Int = refl
usual_word k.Char k.UnsignedInt = refl
usual_word k.Char k.Long = refl
usual_word k.Char k.UnsignedLong = refl
usual_word k.Char k.LongLong = refl
usual_word k.Char k.UnsignedLongLong = refl
usual_word k.SignedChar k.Bool = refl
usual_word k.SignedChar k.Char = refl
usual_word k.SignedChar k.SignedChar = refl
usual_word k.SignedChar k.UnsignedChar = refl
usual_word k.SignedChar k.Short = refl
usual_word k.SignedChar k.UnsignedShort = refl
usual_word k.SignedChar k.Int = refl
usual_word k.SignedChar k.UnsignedInt = refl
usual_word k.SignedChar k.Long = refl
usual_word k.SignedChar k.UnsignedLong = refl
usual_word k.SignedChar k.LongLong = refl
usual_word k.SignedChar k.UnsignedLongLong = refl
usual_word k.UnsignedChar k.Bool = refl
usual_word k.UnsignedChar k.Char = refl
usual_word k.UnsignedChar k.SignedChar = refl
usual_word k.UnsignedChar k.UnsignedChar = refl
usual_word k.UnsignedChar k.Short = refl
usual_word k.UnsignedChar k.UnsignedShort = refl
usual_word k.UnsignedChar k.Int = refl
usual_word k.UnsignedChar k.UnsignedInt = refl
usual_word k.UnsignedChar k.Long = refl
usual_word k.UnsignedChar k.UnsignedLong = refl
usual_word k.UnsignedChar k.LongLong = refl
usual_word k.UnsignedChar k.UnsignedLongLong = refl
usual_word k.Short k.Bool = refl
usual_word k.Short k.Char = refl
usual_word k.Short k.SignedChar = refl
usual_word k.Short k.UnsignedChar = refl
usual_word k.Short k.Short = refl
usual_word k.Short k.UnsignedShort = refl
usual_word k.Short k.Int = refl
usual_word k.Short k.UnsignedInt = refl
usual_word k.Short k.Long = refl
usual_word k.Short k.UnsignedLong = refl
usual_word k.Short k.LongLong = refl
usual_word k.Short k.UnsignedLongLong = refl
usual_word k.UnsignedShort k.Bool = refl
usual_word k.UnsignedShort k.Char = refl
usual_word k.UnsignedShort k.SignedChar = refl
usual_word k.UnsignedShort k.UnsignedChar = refl
usual_word k.UnsignedShort k.Short = refl
usual_word k.UnsignedShort k.UnsignedShort = refl
usual_word k.UnsignedShort k.Int = refl
usual_word k.UnsignedShort k.UnsignedInt = refl
usual_word k.UnsignedShort k.Long = refl
usual_word k.UnsignedShort k.UnsignedLong = refl
usual_word k.UnsignedShort k.LongLong = refl
usual_word k.UnsignedShort k.UnsignedLongLong = refl
usual_word k.Int k.Bool = refl
usual_word k.Int k.Char = refl
usual_word k.Int k.SignedChar = refl
usual_word k.Int k.UnsignedChar = refl
usual_word k.Int k.Short = refl
usual_word k.Int k.UnsignedShort = refl
usual_word k.Int k.Int = refl
usual_word k.Int k.UnsignedInt = refl
usual_word k.Int k.Long = refl
usual_word k.Int k.UnsignedLong = refl
usual_word k.Int k.LongLong = refl
usual_word k.Int k.UnsignedLongLong = refl
usual_word k.UnsignedInt k.Bool = refl
usual_word k.UnsignedInt k.Char = refl
usual_word k.UnsignedInt k.SignedChar = refl
usual_word k.UnsignedInt k.UnsignedChar = refl
usual_word k.UnsignedInt k.Short = refl
usual_word k.UnsignedInt k.UnsignedShort = refl
usual_word k.UnsignedInt k.Int = refl
usual_word k.UnsignedInt k.UnsignedInt = refl
usual_word k.UnsignedInt k.Long = refl
usual_word k.UnsignedInt k.UnsignedLong = refl
usual_word k.UnsignedInt k.LongLong = refl
usual_word k.UnsignedInt k.UnsignedLongLong = refl
usual_word k.Long k.Bool = refl
usual_word k.Long k.Char = refl
usual_word k.Long k.SignedChar = refl
usual_word k.Long k.UnsignedChar = refl
usual_word k.Long k.Short = refl
usual_word k.Long k.UnsignedShort = refl
usual_word k.Long k.Int = refl
usual_word k.Long k.UnsignedInt = refl
usual_word k.Long k.Long = refl
usual_word k.Long k.UnsignedLong = refl
usual_word k.Long k.LongLong = refl
usual_word k.Long k.UnsignedLongLong = refl
usual_word k.UnsignedLong k.Bool = refl
usual_word k.UnsignedLong k.Char = refl
usual_word k.UnsignedLong k.SignedChar = refl
usual_word k.UnsignedLong k.UnsignedChar = refl
usual_word k.UnsignedLong k.Short = refl
usual_word k.UnsignedLong k.UnsignedShort = refl
usual_word k.UnsignedLong k.Int = refl
usual_word k.UnsignedLong k.UnsignedInt = refl
usual_word k.UnsignedLong k.Long = refl
usual_word k.UnsignedLong k.UnsignedLong = refl
usual_word k.UnsignedLong k.LongLong = refl
usual_word k.UnsignedLong k.UnsignedLongLong = refl
usual_word k.LongLong k.Bool = refl
usual_word k.LongLong k.Char = refl
usual_word k.LongLong k.SignedChar = refl
usual_word k.LongLong k.UnsignedChar = refl
usual_word k.LongLong k.Short = refl
usual_word k.LongLong k.UnsignedShort = refl
usual_word k.LongLong k.Int = refl
usual_word k.LongLong k.UnsignedInt = refl
usual_word k.LongLong k.Long = refl
usual_word k.LongLong k.UnsignedLong = refl
usual_word k.LongLong k.LongLong = refl
usual_word k.LongLong k.UnsignedLongLong = refl
usual_word k.UnsignedLongLong k.Bool = refl
usual_word k.UnsignedLongLong k.Char = refl
usual_word k.UnsignedLongLong k.SignedChar = refl
usual_word k.UnsignedLongLong k.UnsignedChar = refl
usual_word k.UnsignedLongLong k.Short = refl
usual_word k.UnsignedLongLong k.UnsignedShort = refl
usual_word k.UnsignedLongLong k.Int = refl
usual_word k.UnsignedLongLong k.UnsignedInt = refl
usual_word k.UnsignedLongLong k.Long = refl
usual_word k.UnsignedLongLong k.UnsignedLong = refl
usual_word k.UnsignedLongLong k.LongLong = refl
usual_word k.UnsignedLongLong k.UnsignedLongLong = refl

pub working_word : (op : BinaryOperator) (a b : IntegerKind) → is_bool (working op a b) ≡ false
working_word o.Multiply a b = usual_word a b
working_word o.Divide a b = usual_word a b
working_word o.Remainder a b = usual_word a b
working_word o.Add a b = usual_word a b
working_word o.Subtract a b = usual_word a b
working_word o.ShiftLeft a b = promoted_word a
working_word o.ShiftRight a b = promoted_word a
working_word o.Less a b = usual_word a b
working_word o.Greater a b = usual_word a b
working_word o.LessEqual a b = usual_word a b
working_word o.GreaterEqual a b = usual_word a b
working_word o.Equal a b = usual_word a b
working_word o.NotEqual a b = usual_word a b
working_word o.BitAnd a b = usual_word a b
working_word o.BitXor a b = usual_word a b
working_word o.BitOr a b = usual_word a b
working_word o.LogicalAnd a b = usual_word a b
working_word o.LogicalOr a b = usual_word a b
