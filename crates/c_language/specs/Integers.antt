-- Integer types: ranges, ranks, promotion, the usual conversions, and conversion of values (C99 6.2.6, 6.3.1,
-- 6.4.4.1).
use Rattle.std.specs.Prelude.{ℕ, zero, suc, ◌-◌, ◌^◌, ℤ, pos, negsuc, int_lt, nat_le, nat_lt, nat_eq, Bool, true, false, cond, not, ◌&&◌}
use Rattle.plain_data.specs.declared.width.Width.{Width}
use Rattle.plain_data.specs.declared.width.Width.TheVariants as w
use Rattle.plain_data.specs.Words.{bits, word, signed}
use Rattle.c_language.specs.declared.token.IntegerType.{IntegerType}
use Rattle.c_language.specs.declared.token.IntegerType.TheVariants as t
use Rattle.c_language.specs.declared.ctype.IntegerKind.{IntegerKind}
use Rattle.c_language.specs.declared.ctype.IntegerKind.TheVariants as k

-- ---- the data model: LP64, two's complement, plain char signed

abbrev pub width_of : IntegerKind → Width
width_of k.Bool = w.W8
width_of k.Char = w.W8
width_of k.SignedChar = w.W8
width_of k.UnsignedChar = w.W8
width_of k.Short = w.W16
width_of k.UnsignedShort = w.W16
width_of k.Int = w.W32
width_of k.UnsignedInt = w.W32
width_of k.Long = w.W64
width_of k.UnsignedLong = w.W64
width_of k.LongLong = w.W64
width_of k.UnsignedLongLong = w.W64

abbrev pub bits_of : IntegerKind → ℕ
bits_of kind = bits (width_of kind)

abbrev pub bytes_in : Width → ℕ
bytes_in w.W8 = 1
bytes_in w.W16 = 2
bytes_in w.W32 = 4
bytes_in w.W64 = 8

-- the size and the alignment
abbrev pub bytes_of : IntegerKind → ℕ
bytes_of kind = bytes_in (width_of kind)

abbrev pub is_signed : IntegerKind → Bool
is_signed k.Bool = false
is_signed k.Char = true
is_signed k.SignedChar = true
is_signed k.UnsignedChar = false
is_signed k.Short = true
is_signed k.UnsignedShort = false
is_signed k.Int = true
is_signed k.UnsignedInt = false
is_signed k.Long = true
is_signed k.UnsignedLong = false
is_signed k.LongLong = true
is_signed k.UnsignedLongLong = false

-- ---- ranges (C99 5.2.4.2.1, 6.2.6.2): a signed type of N bits from -2^(N-1) to 2^(N-1) - 1, an unsigned one from 0
-- to 2^N - 1, `_Bool` 0 and 1

abbrev pub least_of : IntegerKind → ℤ
least_of kind = cond (is_signed kind) (negsuc (2 ^ (bits_of kind - 1) - 1)) (pos 0)

abbrev pub unsigned_greatest : IntegerKind → ℤ
unsigned_greatest k.Bool = pos 1
unsigned_greatest kind = pos (2 ^ bits_of kind - 1)

abbrev pub greatest_of : IntegerKind → ℤ
greatest_of kind = cond (is_signed kind) (pos (2 ^ (bits_of kind - 1) - 1)) (unsigned_greatest kind)

abbrev pub at_most : ℤ → ℤ → Bool
at_most x y = not (int_lt y x)

-- the number is a value of the type
abbrev pub is_in : IntegerKind → ℤ → Bool
is_in kind z = at_most (least_of kind) z && at_most z (greatest_of kind)

-- each value of the second type is one of the first
abbrev pub represents : IntegerKind → IntegerKind → Bool
represents a b = at_most (least_of a) (least_of b) && at_most (greatest_of b) (greatest_of a)

-- ---- ranks and promotion (C99 6.3.1.1)

abbrev pub rank_of : IntegerKind → ℕ
rank_of k.Bool = 0
rank_of k.Char = 1
rank_of k.SignedChar = 1
rank_of k.UnsignedChar = 1
rank_of k.Short = 2
rank_of k.UnsignedShort = 2
rank_of k.Int = 3
rank_of k.UnsignedInt = 3
rank_of k.Long = 4
rank_of k.UnsignedLong = 4
rank_of k.LongLong = 5
rank_of k.UnsignedLongLong = 5

-- a type of at most the rank of `int` becomes `int` where that has all its values, and else `unsigned int`
abbrev pub promoted : IntegerKind → IntegerKind
promoted kind = cond (nat_le (rank_of kind) (rank_of k.Int)) (cond (represents k.Int kind) k.Int k.UnsignedInt) kind

-- ---- the usual arithmetic conversions (C99 6.3.1.8)

-- the unsigned type that corresponds to a signed one (C99 6.2.5p6)
abbrev pub unsigned_of : IntegerKind → IntegerKind
unsigned_of k.Bool = k.Bool
unsigned_of k.Char = k.UnsignedChar
unsigned_of k.SignedChar = k.UnsignedChar
unsigned_of k.UnsignedChar = k.UnsignedChar
unsigned_of k.Short = k.UnsignedShort
unsigned_of k.UnsignedShort = k.UnsignedShort
unsigned_of k.Int = k.UnsignedInt
unsigned_of k.UnsignedInt = k.UnsignedInt
unsigned_of k.Long = k.UnsignedLong
unsigned_of k.UnsignedLong = k.UnsignedLong
unsigned_of k.LongLong = k.UnsignedLongLong
unsigned_of k.UnsignedLongLong = k.UnsignedLongLong

-- both signed or both unsigned: the one of greater rank
abbrev pub higher : IntegerKind → IntegerKind → IntegerKind
higher a b = cond (nat_lt (rank_of a) (rank_of b)) b a

-- a signed and an unsigned type: the unsigned one where its rank isn't less, else the signed one where it has all
-- values of the other, else the unsigned one that corresponds to the signed one
abbrev pub mixed : IntegerKind → IntegerKind → IntegerKind
mixed s u = cond (nat_le (rank_of s) (rank_of u)) u (cond (represents s u) s (unsigned_of s))

abbrev pub common : IntegerKind → IntegerKind → IntegerKind
common a b =
    cond (is_signed a) (cond (is_signed b) (higher a b) (mixed a b)) (cond (is_signed b) (mixed b a) (higher a b))

abbrev pub usual : IntegerKind → IntegerKind → IntegerKind
usual a b = common (promoted a) (promoted b)

-- ---- constants (C99 6.4.4.1): the lexer gives each its type, the first of its list that has the value

abbrev pub of_constant : IntegerType → IntegerKind
of_constant t.Int = k.Int
of_constant t.Unsigned = k.UnsignedInt
of_constant t.Long = k.Long
of_constant t.UnsignedLong = k.UnsignedLong
of_constant t.LongLong = k.LongLong
of_constant t.UnsignedLongLong = k.UnsignedLongLong

-- ---- conversion of values (C99 6.3.1.2, 6.3.1.3)

abbrev pub is_zero : ℤ → Bool
is_zero (pos zero) = true
is_zero (pos (suc n)) = false
is_zero (negsuc n) = false

abbrev pub number_of : Bool → ℤ
number_of true = pos 1
number_of false = pos 0

abbrev pub is_bool : IntegerKind → Bool
is_bool k.Bool = true
is_bool _ = false

-- the value that a word below 2^N is in a type; in `_Bool` each other word than 0 is 1
abbrev pub value_of_word : IntegerKind → ℕ → ℤ
value_of_word kind a =
    cond (is_bool kind) (number_of (not (nat_eq a 0))) (cond (is_signed kind) (signed (width_of kind) a) (pos a))

-- whether the number isn't 0, in `_Bool`, and else modulo 2^N: the number itself where the type has it
unfoldable pub converted : IntegerKind → ℤ → ℤ
converted kind z = cond (is_bool kind) (number_of (not (is_zero z))) (value_of_word kind (word (width_of kind) z))
