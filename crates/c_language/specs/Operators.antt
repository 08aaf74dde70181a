-- The operators on whole numbers (C99 6.5.3.3, 6.5.5 to 6.5.14): a value of the type in which they work, or the kind
-- of undefined behaviour that is met. Each takes its operands as they are converted to that type. A constant
-- expression has a value where its operators have one (C99 6.6).
use Rattle.std.specs.Prelude.{ℕ, ◌^◌, ℤ, pos, negsuc, ◌+ℤ◌, ◌-ℤ◌, ◌*ℤ◌, int_lt, int_div, int_rem, nat_lt, Bool, true, false, cond, not, ◌||◌, Result, Ok, Err, unsigned_abs}
use Rattle.std.specs.Int.{int_div_euclid}
use Rattle.std.specs.Int.Bits.{bit_and, bit_or, bit_xor}
use Rattle.plain_data.specs.Words.{word}
use Rattle.plain_data.specs.declared.run.Undefined.{Undefined}
use Rattle.plain_data.specs.declared.run.Undefined.TheVariants.{Overflow, ZeroDivisor, Shift}
use Rattle.c_language.specs.declared.ctype.IntegerKind.{IntegerKind}
use Rattle.c_language.specs.Integers.{bits_of, width_of, is_signed, is_in, is_zero, number_of, value_of_word, converted}

abbrev pub Answer : Type 0
Answer = Result ℤ Undefined

-- a result in a signed type must be a value of it; in an unsigned type it is taken modulo 2^N (C99 6.5p5, 6.2.5p9)
unfoldable pub exact : IntegerKind → ℤ → Answer
exact kind z = cond (is_signed kind) (cond (is_in kind z) (Ok z) (Err Overflow)) (Ok (converted kind z))

-- ---- additive and multiplicative operators (C99 6.5.5, 6.5.6)

abbrev pub sum : IntegerKind → ℤ → ℤ → Answer
sum kind x y = exact kind (converted kind x +ℤ converted kind y)

abbrev pub difference : IntegerKind → ℤ → ℤ → Answer
difference kind x y = exact kind (converted kind x -ℤ converted kind y)

abbrev pub product : IntegerKind → ℤ → ℤ → Answer
product kind x y = exact kind (converted kind x *ℤ converted kind y)

-- toward zero (C99 6.5.5p6)
abbrev pub quotient : IntegerKind → ℤ → ℤ → Answer
quotient kind x y =
    cond (is_zero (converted kind y)) (Err ZeroDivisor) (exact kind (int_div (converted kind x) (converted kind y)))

abbrev pub where_in : Answer → ℤ → Answer
where_in (Ok q) z = Ok z
where_in (Err u) z = Err u

-- what the quotient leaves, where there is one: the least value has none by -1 (C99 6.5.5p6)
abbrev pub remainder : IntegerKind → ℤ → ℤ → Answer
remainder kind x y = where_in (quotient kind x y) (int_rem (converted kind x) (converted kind y))

-- ---- shifts (C99 6.5.7): of the promoted left operand, by the value of the right one

-- the count is negative or not below the width
abbrev pub is_far : IntegerKind → ℤ → Bool
is_far kind (pos n) = not (nat_lt n (bits_of kind))
is_far kind (negsuc n) = true

abbrev pub is_negative : ℤ → Bool
is_negative (pos n) = false
is_negative (negsuc n) = true

abbrev pub as_shift : Answer → Answer
as_shift (Ok z) = Ok z
as_shift (Err u) = Err Shift

-- undefined for a negative number too, and where a signed result doesn't fit
abbrev pub shifted_left : IntegerKind → ℤ → ℤ → Answer
shifted_left kind x y =
    cond (is_far kind y || is_negative (converted kind x)) (Err Shift)
    (as_shift (exact kind (converted kind x *ℤ pos (2 ^ unsigned_abs y))))

-- the quotient by 2^y toward the lesser number: the sign bit is copied
abbrev pub shifted_right : IntegerKind → ℤ → ℤ → Answer
shifted_right kind x y =
    cond (is_far kind y) (Err Shift) (Ok (int_div_euclid (converted kind x) (pos (2 ^ unsigned_abs y))))

-- ---- bits of the words (C99 6.5.10 to 6.5.12, 6.5.3.3p4)

abbrev pub on_words : (ℕ → ℕ → ℕ) → IntegerKind → ℤ → ℤ → ℤ
on_words f kind x y = value_of_word kind (f (word (width_of kind) x) (word (width_of kind) y))

abbrev pub bits_and : IntegerKind → ℤ → ℤ → ℤ
bits_and kind x y = on_words bit_and kind x y

abbrev pub bits_xor : IntegerKind → ℤ → ℤ → ℤ
bits_xor kind x y = on_words bit_xor kind x y

abbrev pub bits_or : IntegerKind → ℤ → ℤ → ℤ
bits_or kind x y = on_words bit_or kind x y

-- each bit turned: -1 - x, modulo 2^N in an unsigned type
abbrev pub complement : IntegerKind → ℤ → ℤ
complement kind x = converted kind (negsuc 0 -ℤ x)

-- ---- unary `-` (C99 6.5.3.3p3)

abbrev pub negation : IntegerKind → ℤ → Answer
negation kind x = exact kind (pos 0 -ℤ converted kind x)

-- ---- comparisons (C99 6.5.8, 6.5.9): 1 or 0, of type `int`

abbrev pub less : IntegerKind → ℤ → ℤ → ℤ
less kind x y = number_of (int_lt (converted kind x) (converted kind y))

abbrev pub less_equal : IntegerKind → ℤ → ℤ → ℤ
less_equal kind x y = number_of (not (int_lt (converted kind y) (converted kind x)))

abbrev pub unequal : IntegerKind → ℤ → ℤ → ℤ
unequal kind x y =
    number_of (int_lt (converted kind x) (converted kind y) || int_lt (converted kind y) (converted kind x))

abbrev pub equal : IntegerKind → ℤ → ℤ → ℤ
equal kind x y =
    number_of (not (int_lt (converted kind x) (converted kind y) || int_lt (converted kind y) (converted kind x)))
