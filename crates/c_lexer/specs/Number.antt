-- Numeric constants (C99 6.4.4, 6.4.8).
use Rattle.std.specs.Prelude.{ℕ, ◌+◌, ◌-◌, ◌*◌, ◌^◌, Bool, true, false, not, ◌&&◌, ◌||◌, if◌then◌else◌, ◌==◌, nat_le}
use Rattle.std.specs.Prelude.{nat_lt, List, [], ◌∷◌, drop, length, fold, slice_index, slice_range, Option, Some, None}
use Rattle.std.specs.Prelude.{Result, Ok, Err}
use Rattle.c_lexer.specs.Class.{Text, is_in, past}
use Rattle.c_lexer.specs.Tables.{suffix}
use Rattle.c_lexer.specs.Vocabulary.{decimal_types, other_types, unsigned_types}
use Rattle.c_lexer.specs.declared.class.Class.{Class}
use Rattle.c_lexer.specs.declared.class.Class.TheVariants as class
use Rattle.c_lexer.specs.declared.number.Base.{Base}
use Rattle.c_lexer.specs.declared.number.Base.TheVariants as base
use Rattle.c_lexer.specs.declared.number.NumberFault.{NumberFault}
use Rattle.c_lexer.specs.declared.number.NumberFault.TheVariants as fault
use Rattle.c_lexer.specs.declared.number.Numeric.{Numeric}
use Rattle.c_lexer.specs.declared.number.Numeric.TheVariants as kind
use Rattle.c_lexer.specs.declared.table.Length.{Length}
use Rattle.c_lexer.specs.declared.table.Length.TheVariants as len
use Rattle.c_lexer.specs.declared.table.Suffix.{Suffix}
use Rattle.c_lexer.specs.declared.table.Suffix.TheVariants as sign
use Rattle.c_language.specs.declared.token.IntegerConstant.{IntegerConstant}
use Rattle.c_language.specs.declared.token.IntegerType.{IntegerType}
use Rattle.c_language.specs.declared.token.IntegerType.TheVariants as type

-- ---- preprocessing numbers (6.4.8)

-- a word byte, a point, or a sign right after the letter of an exponent goes on a number
abbrev pub goes_on : ℕ → ℕ → Bool
goes_on previous b =
    is_in class.Word b || b == 46
    || (is_in class.Sign b && (is_in class.Exponent previous || is_in class.BinaryExponent previous))

-- how many bytes go on a number whose last byte is `previous`
abbrev pub number_more : ℕ → Text → ℕ
number_more previous [] = 0
number_more previous (b ∷ text) = if goes_on previous b then 1 + number_more b text else 0

-- ---- values of digits

abbrev pub digit_of : ℕ → ℕ
digit_of b =
    if nat_le 48 b && nat_le b 57 then b - 48
    else (if nat_le 97 b && nat_le b 102 then b - 97 + 10 else (if nat_le 65 b && nat_le b 70 then b - 65 + 10 else 0))

abbrev pub value_of : ℕ → Text → ℕ
value_of base digits = fold (λ value digit. value * base + digit_of digit) 0 digits

-- ---- floating constants (6.4.4.2)

abbrev pub is_hexadecimal : Text → Bool
is_hexadecimal text = slice_index text 0 == 48 && (slice_index text 1 == 120 || slice_index text 1 == 88)

-- nothing, or one of f, F, l, L, stands from a place on
abbrev pub is_suffix_of_float : Text → ℕ → Bool
is_suffix_of_float text at =
    at == length text || (at + 1 == length text && is_in class.FloatSuffix (slice_index text at))

-- where an exponent ends, whose letter stands before a place: a sign may stand before its digits
abbrev pub exponent_end : Text → ℕ → Option ℕ
exponent_end text at =
    let from = if is_in class.Sign (slice_index text at) then at + 1 else at in
    let end = past class.Digit text from in
    if nat_lt from end then Some end else None

abbrev pub ends_float : Text → Option ℕ → Bool
ends_float text None = false
ends_float text (Some stop) = is_suffix_of_float text stop

-- Digits, with a point among them or not, then an exponent, then a suffix. The exponent may be missing where a point is
-- enough.
unfoldable pub has_floating_form : Text → ℕ → Class → Class → Bool → Bool
has_floating_form text from digit letter point_is_enough =
    let whole = past digit text from in
    let has_point = slice_index text whole == 46 in
    let end = if has_point then past digit text (whole + 1) else whole in
    if not (nat_lt from whole || nat_lt (whole + 1) end) then false
    else (if nat_lt end (length text) && is_in letter (slice_index text end)
    then ends_float text (exponent_end text (end + 1))
    else point_is_enough && has_point && is_suffix_of_float text end)

unfoldable pub is_floating : Text → Bool
is_floating text =
    if is_hexadecimal text then has_floating_form text 2 class.Hex class.BinaryExponent false
    else has_floating_form text 0 class.Digit class.Exponent true

-- ---- integer constants (6.4.4.1)

abbrev pub base_of : Text → Base
base_of text =
    if is_hexadecimal text then base.Hexadecimal else (if slice_index text 0 == 48 then base.Octal else base.Decimal)

abbrev pub holds : ℕ → IntegerType → Bool
holds value type.Int = nat_lt value (2 ^ 31)
holds value type.Unsigned = nat_lt value (2 ^ 32)
holds value type.Long = nat_lt value (2 ^ 63)
holds value type.UnsignedLong = true
holds value type.LongLong = nat_lt value (2 ^ 63)
holds value type.UnsignedLongLong = true

abbrev pub steps : Length → ℕ
steps len.Plain = 0
steps len.Long = 1
steps len.LongLong = 2

-- the types that a constant may have, by its base and its suffix, in the order of the standard's table
abbrev pub candidates : Base → Suffix → List IntegerType
candidates b (sign.Unsigned l) = drop (steps l) unsigned_types
candidates base.Decimal (sign.Signed l) = drop (steps l) decimal_types
candidates base.Octal (sign.Signed l) = drop (2 * steps l) other_types
candidates base.Hexadecimal (sign.Signed l) = drop (2 * steps l) other_types

abbrev pub first_that_holds : List IntegerType → ℕ → Option IntegerType
first_that_holds [] value = None
first_that_holds (t ∷ ts) value = if holds value t then Some t else first_that_holds ts value

abbrev pub first_digit : Base → ℕ
first_digit base.Decimal = 0
first_digit base.Octal = 0
first_digit base.Hexadecimal = 2

abbrev pub digit_class : Base → Class
digit_class base.Decimal = class.Digit
digit_class base.Octal = class.Octal
digit_class base.Hexadecimal = class.Hex

abbrev pub radix : Base → ℕ
radix base.Decimal = 10
radix base.Octal = 8
radix base.Hexadecimal = 16

abbrev pub typed : ℕ → Option IntegerType → Result IntegerConstant NumberFault
typed value None = Err fault.Bad
typed value (Some t) = Ok (record { value = value; integer_type = t })

-- a value below 2^64 has the first of the types that hold it
abbrev pub of_value : Base → ℕ → Suffix → Result IntegerConstant NumberFault
of_value b value s =
    if nat_lt value (2 ^ 64) then typed value (first_that_holds (candidates b s) value) else Err fault.Wide

abbrev pub suffixed : Base → Text → Option Suffix → Result IntegerConstant NumberFault
suffixed b digits None = Err fault.Bad
suffixed b digits (Some s) = if length digits == 0 then Err fault.Bad else of_value b (value_of (radix b) digits) s

-- digits of the base, and a suffix
unfoldable pub integer : Text → Result IntegerConstant NumberFault
integer text =
    let b = base_of text in
    let end = past (digit_class b) text (first_digit b) in
    suffixed b (slice_range text (first_digit b) end) (suffix (drop end text))

-- ---- numeric constants

abbrev pub as_number : Result IntegerConstant NumberFault → Result Numeric NumberFault
as_number (Ok c) = Ok (kind.Integer c)
as_number (Err f) = Err f

unfoldable pub number : Text → Result Numeric NumberFault
number text = if is_floating text then Ok kind.Floating else as_number (integer text)
