-- The value that a printed number would have, whatever stands around its digits.
use Rattle.std.specs.Prelude.{ℕ, ◌%◌, ◌^◌, ◌==◌, Bool, true, false, ◌||◌, if◌then◌else◌, ℤ, pos, neg_ℤ, List, [], ◌∷◌, reverse}
use Rattle.std.specs.List.{filter, list_any}
use Rattle.std.specs.Char.{is_digit}
use Rattle.std.specs.Int.{is_negative}
use Rattle.std.specs.Str.Parse.{digits_value}
use Rattle.plain_data.specs.Words.{word}
use Rattle.plain_data.specs.declared.width.Width.{Width}
use Rattle.plain_data.specs.declared.width.Width.TheVariants.{W8}
use Rattle.printf_text.specs.declared.piece.Flags.{Flags}
use Rattle.printf_text.specs.declared.piece.Form.{Form}
use Rattle.printf_text.specs.declared.piece.Form.TheVariants.{Signed, Unsigned, Char, Text, Pointer}
use Rattle.printf_text.specs.Texts.{base}
use Rattle.format_match.specs.declared.way.Sizes.{Sizes}

-- the bytes that are digits write this number, modulo 2^64
abbrev pub digits_read : ℕ → List ℕ → ℕ
digits_read radix slice = digits_value radix (filter (λ b. is_digit b radix) slice) % 2 ^ 64

-- a `-` stands somewhere
abbrev pub has_minus : List ℕ → Bool
has_minus slice = list_any (λ b. b == 45) slice

abbrev pub signed_read : List ℕ → ℤ
signed_read slice = if has_minus slice then neg_ℤ (pos (digits_read 10 slice)) else pos (digits_read 10 slice)

abbrev pub first_byte : List ℕ → ℕ
first_byte [] = 0
first_byte (b ∷ bytes) = b

abbrev pub last_byte : List ℕ → ℕ
last_byte bytes = first_byte (reverse bytes)

-- padding stands after the text
abbrev pub pads_right : Flags → Sizes → Bool
pads_right flags sizes = flags.left || is_negative sizes.width.value

-- the width of the type to which an integer argument is converted
abbrev pub form_width : Form → Width
form_width (Signed width) = width
form_width (Unsigned radix width) = width
form_width _ = W8

-- the forms that convert an integer
abbrev pub is_integer : Form → Bool
is_integer Text = false
is_integer Pointer = false
is_integer _ = true

-- the only word that may print a text
abbrev pub word_read : Flags → Form → Sizes → List ℕ → ℕ
word_read flags (Signed width) sizes slice = word width (signed_read slice)
word_read flags (Unsigned radix width) sizes slice = word width (pos (digits_read (base radix) slice))
word_read flags Char sizes slice = if pads_right flags sizes then first_byte slice else last_byte slice
word_read flags _ sizes slice = 0
