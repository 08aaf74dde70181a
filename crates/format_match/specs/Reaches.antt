-- How far a conversion can reach along a log.
use Rattle.std.specs.Prelude.{ℕ, ◌+◌, ◌≤◌, ◌<◌, ◌^◌, ◌≡◌, Bool, true, false, not, ◌&&◌, ◌||◌, ◌==◌, nat_le, pos, negsuc, unsigned_abs, List, length}
use Rattle.std.specs.Int.Digits.{digits_of}
use Rattle.plain_data.specs.Words.{bits}
use Rattle.plain_data.specs.declared.width.Width.{Width}
use Rattle.printf_text.specs.declared.piece.Arg.{Arg}
use Rattle.printf_text.specs.declared.piece.Conversion.{Conversion}
use Rattle.printf_text.specs.declared.piece.Flags.{Flags}
use Rattle.printf_text.specs.declared.piece.Radix.{Radix}
use Rattle.printf_text.specs.declared.piece.Radix.TheVariants.{LowerHex, UpperHex}
use Rattle.printf_text.specs.declared.piece.Size.{Size}
use Rattle.printf_text.specs.declared.piece.Form.{Form}
use Rattle.printf_text.specs.declared.piece.Form.TheVariants.{Signed, Unsigned, Char, Text, Pointer}
use Rattle.printf_text.specs.Texts.{Parts, HasKind, HaveKinds, base, conversion_kinds, conversion_text, form_kind, parts, size_of}
use Rattle.format_match.specs.Splits.{begins}

-- the forms that print a number or a pointer
abbrev pub is_numeric : Form → Bool
is_numeric Char = false
is_numeric Text = false
is_numeric _ = true

-- a letter from this one on that is a hexadecimal digit, or this `x`
abbrev pub is_hex : ℕ → ℕ → ℕ → Bool
is_hex b a x = nat_le a b && nat_le b (a + 5) || b == x

-- a sign, a hexadecimal letter, or a byte of `(nil)`
abbrev pub is_mark : Form → ℕ → Bool
is_mark (Signed w) b = b == 43 || b == 45
is_mark (Unsigned LowerHex w) b = is_hex b 97 120
is_mark (Unsigned UpperHex w) b = is_hex b 65 88
is_mark Pointer b = is_hex b 97 120 || b == 40 || b == 41 || b == 105 || b == 108 || b == 110
is_mark _ b = false

-- a space, a digit, or what else stands in the texts of the form
abbrev pub is_numeral : Form → ℕ → Bool
is_numeral form b = b == 32 || nat_le 48 b && nat_le b 57 || is_mark form b

-- a byte that stands in no text of the form
abbrev pub is_other : Form → ℕ → Bool
is_other form b = not (is_numeral form b)

-- ---- fields

abbrev pub part_length : Parts → ℕ
part_length p = length p.sign + length p.prefix + length p.body

-- a width that no `*` gives
abbrev pub IsWidest : Size → ℕ → Type 0
IsWidest width n = (args : List Arg) → unsigned_abs (size_of (pos 0) width args) ≡ n

-- no word of the width has more digits in any base
abbrev pub HasMostDigits : Width → ℕ → Type 0
HasMostDigits width k = (radix : Radix) (n : ℕ) → n < 2 ^ bits width → length (digits_of (base radix) n) ≤ k

-- what stands in the field is no longer than this, whatever the arguments are
abbrev pub IsLongest : Form → Size → ℕ → Type 0
IsLongest form precision n =
    (flags : Flags) (args : List Arg) (a : Arg) → HasKind (form_kind form) a → part_length (parts flags form (size_of (negsuc 0) precision args) a) ≤ n

-- the same of all integers of a width
pub record IsLongestNumber (width : Width) (precision : Size) (n : ℕ) : Type 0 where
  pub signed_are : IsLongest (Signed width) precision n
  pub unsigned_are : (radix : Radix) → IsLongest (Unsigned radix width) precision n

-- no text of the conversion is longer
abbrev pub IsLongestField : Conversion → ℕ → Type 0
IsLongestField c n = (args : List Arg) → HaveKinds (conversion_kinds c) args → length (conversion_text c args) ≤ n

-- no text of the conversion that stands here is longer
abbrev pub Reaches : Conversion → List ℕ → ℕ → Type 0
Reaches c rest n = (args : List Arg) → HaveKinds (conversion_kinds c) args → begins (conversion_text c args) rest ≡ true → length (conversion_text c args) ≤ n
