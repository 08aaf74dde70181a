-- Values by their types, and operators on numbers (C99 6.2.6, 6.3, 6.5.3.3, 6.5.5 to 6.5.12).
use Rattle.std.specs.Prelude.{ℕ, ◌-◌, ◌^◌, ℤ, pos, negsuc, ◌+ℤ◌, ◌-ℤ◌, ◌*ℤ◌, int_lt, int_div, int_rem, nat_lt, nat_eq}
use Rattle.std.specs.Prelude.{nat_le, Bool, true, false, cond, not, ◌&&◌, ◌||◌, Ok, Err, unsigned_abs}
use Rattle.std.specs.Int.{int_div_euclid}
use Rattle.std.specs.Int.Bits.{bit_and, bit_or, bit_xor}
use Rattle.plain_data.specs.declared.width.Width.TheVariants as width
use Rattle.plain_data.specs.declared.run.Undefined.TheVariants.{Overflow, ZeroDivisor, Shift}
use Rattle.plain_data.specs.Words.{bits, word, signed}
use Rattle.c_language.specs.Integers.{bytes_in, at_most, is_zero, number_of}
use Rattle.c_language.specs.Operators.{Answer, where_in, is_negative, as_shift}
use Rattle.c_means.specs.Values.{address}
use Rattle.core_tree.specs.declared.types.Arithmetic.{Arithmetic}
use Rattle.core_tree.specs.declared.types.Arithmetic.TheVariants as o
use Rattle.core_tree.specs.declared.types.Relation.{Relation}
use Rattle.core_tree.specs.declared.types.Relation.TheVariants as r
use Rattle.core_tree.specs.declared.types.Turning.{Turning}
use Rattle.core_tree.specs.declared.types.Turning.TheVariants as turn
use Rattle.core_tree.specs.declared.types.ValueType.{ValueType}
use Rattle.core_tree.specs.declared.types.ValueType.TheVariants as v
use Rattle.core_tree.specs.declared.types.WordType.{WordType}

-- ---- integer types (C99 6.2.6.2): signed from -2^(N-1) to 2^(N-1) - 1, unsigned from 0 to 2^N - 1

abbrev pub bits_of : WordType → ℕ
bits_of t = bits t.width

abbrev pub least_of : WordType → ℤ
least_of t = cond t.is_signed (negsuc (2 ^ (bits_of t - 1) - 1)) (pos 0)

abbrev pub greatest_of : WordType → ℤ
greatest_of t = cond t.is_signed (pos (2 ^ (bits_of t - 1) - 1)) (pos (2 ^ bits_of t - 1))

-- the number is a value of the type
abbrev pub is_in : WordType → ℤ → Bool
is_in t z = at_most (least_of t) z && at_most z (greatest_of t)

-- the value that a word below 2^N is
abbrev pub value_of_word : WordType → ℕ → ℤ
value_of_word t a = cond t.is_signed (signed t.width a) (pos a)

-- modulo 2^N: the number itself where the type has it (C99 6.3.1.3)
unfoldable pub wrapped : WordType → ℤ → ℤ
wrapped t z = value_of_word t (word t.width z)

abbrev pub int : WordType
int = record { width = width.W32; is_signed = true }

-- ---- values of all types

abbrev pub size_of : ValueType → ℕ
size_of v.Void = 0
size_of v.Truth = 1
size_of (v.Word t) = bytes_in t.width
size_of v.Pointer = 8
size_of (v.Block bytes) = bytes

-- conversion, as by a cast or an assignment (C99 6.3.1.2, 6.3.1.3, 6.3.2.2, 6.3.2.3)
abbrev pub converted_to : ValueType → ℤ → ℤ
converted_to v.Void z = pos 0
converted_to v.Truth z = number_of (not (is_zero z))
converted_to (v.Word t) z = wrapped t z
converted_to v.Pointer z = pos (address z)
converted_to (v.Block bytes) z = z

-- the value whose bytes spell a number: a `_Bool` of a byte other than 0 has the value 1
abbrev pub value_of_bytes : ValueType → ℕ → ℤ
value_of_bytes v.Void n = pos 0
value_of_bytes v.Truth n = number_of (not (nat_eq n 0))
value_of_bytes (v.Word t) n = value_of_word t n
value_of_bytes v.Pointer n = pos n
value_of_bytes (v.Block bytes) n = pos n

-- the number that the bytes of a value spell
abbrev pub bytes_of_value : ValueType → ℤ → ℕ
bytes_of_value v.Void z = 0
bytes_of_value v.Truth z = word width.W8 z
bytes_of_value (v.Word t) z = word t.width z
bytes_of_value v.Pointer z = address z
bytes_of_value (v.Block bytes) z = unsigned_abs z

-- an integer type that a value has; what has none is taken as an `int`
abbrev pub word_type_of : ValueType → WordType
word_type_of v.Void = int
word_type_of v.Truth = record { width = width.W8; is_signed = false }
word_type_of (v.Word t) = t
word_type_of v.Pointer = int
word_type_of (v.Block bytes) = int

-- ---- operators in an integer type, to which the operands are converted

-- a signed result must be a value of the type; an unsigned one is taken modulo 2^N (C99 6.5p5, 6.2.5p9)
unfoldable pub exact : WordType → ℤ → Answer
exact t z = cond t.is_signed (cond (is_in t z) (Ok z) (Err Overflow)) (Ok (wrapped t z))

-- toward zero (C99 6.5.5p6)
abbrev pub quotient : WordType → ℤ → ℤ → Answer
quotient t x y = cond (is_zero (wrapped t y)) (Err ZeroDivisor) (exact t (int_div (wrapped t x) (wrapped t y)))

-- what the quotient leaves, where there is one
abbrev pub remainder : WordType → ℤ → ℤ → Answer
remainder t x y = where_in (quotient t x y) (int_rem (wrapped t x) (wrapped t y))

-- a shift's count is negative or not below the width (C99 6.5.7p3)
abbrev pub is_far : WordType → ℤ → Bool
is_far t (pos n) = not (nat_lt n (bits_of t))
is_far t (negsuc n) = true

-- undefined for a negative number too, and where a signed result doesn't fit (C99 6.5.7p4)
abbrev pub shifted_left : WordType → ℤ → ℤ → Answer
shifted_left t x y =
    cond (is_far t y || is_negative (wrapped t x)) (Err Shift)
    (as_shift (exact t (wrapped t x *ℤ pos (2 ^ unsigned_abs y))))

-- the sign bit is copied (C99 6.5.7p5)
abbrev pub shifted_right : WordType → ℤ → ℤ → Answer
shifted_right t x y =
    cond (is_far t y) (Err Shift) (Ok (int_div_euclid (wrapped t x) (pos (2 ^ unsigned_abs y))))

abbrev pub on_words : (ℕ → ℕ → ℕ) → WordType → ℤ → ℤ → ℤ
on_words f t x y = value_of_word t (f (word t.width x) (word t.width y))

-- the first is less than the second
abbrev pub precedes : WordType → ℤ → ℤ → Bool
precedes t x y = int_lt (wrapped t x) (wrapped t y)

abbrev pub differs : WordType → ℤ → ℤ → Bool
differs t x y = precedes t x y || precedes t y x

-- the value, or the undefined kind that is met
abbrev pub worked : Arithmetic → WordType → ℤ → ℤ → Answer
worked o.Multiply t x y = exact t (wrapped t x *ℤ wrapped t y)
worked o.Divide t x y = quotient t x y
worked o.Remainder t x y = remainder t x y
worked o.Add t x y = exact t (wrapped t x +ℤ wrapped t y)
worked o.Subtract t x y = exact t (wrapped t x -ℤ wrapped t y)
worked o.ShiftLeft t x y = shifted_left t x y
worked o.ShiftRight t x y = shifted_right t x y
worked o.Less t x y = Ok (number_of (precedes t x y))
worked o.Greater t x y = Ok (number_of (precedes t y x))
worked o.LessEqual t x y = Ok (number_of (not (precedes t y x)))
worked o.GreaterEqual t x y = Ok (number_of (not (precedes t x y)))
worked o.Equal t x y = Ok (number_of (not (differs t x y)))
worked o.NotEqual t x y = Ok (number_of (differs t x y))
worked o.BitAnd t x y = Ok (on_words bit_and t x y)
worked o.BitXor t x y = Ok (on_words bit_xor t x y)
worked o.BitOr t x y = Ok (on_words bit_or t x y)

-- C99 6.5.3.3p2 to p4
abbrev pub turned : Turning → WordType → ℤ → Answer
turned turn.Plus t z = Ok (wrapped t z)
turned turn.Minus t z = exact t (pos 0 -ℤ wrapped t z)
turned turn.Complement t z = Ok (wrapped t (negsuc 0 -ℤ z))

-- an order of two addresses (C99 6.5.8p5)
abbrev pub in_order : Relation → ℕ → ℕ → Bool
in_order r.Less a b = nat_lt a b
in_order r.Greater a b = nat_lt b a
in_order r.LessEqual a b = nat_le a b
in_order r.GreaterEqual a b = nat_le b a
