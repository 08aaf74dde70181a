-- The pieces that a format spells (C99 7.19.6.1p3 to p8).
use Rattle.std.specs.Prelude.{ℕ, zero, suc, ◌-◌, Bool, true, false, not, ◌&&◌, ◌||◌, ◌==◌, nat_le, if◌then◌else◌, List, [], ◌∷◌, length, take, drop, Option, Some, None, is_none, Result, Ok, Err}
use Rattle.std.specs.List.{prefix_len, list_any}
use Rattle.std.specs.Str.Parse.{digits_value}
use Rattle.plain_data.specs.declared.width.Width.{Width}
use Rattle.plain_data.specs.declared.width.Width.TheVariants.{W8, W16, W32, W64}
use Rattle.printf_text.specs.declared.piece.Flags.{Flags}
use Rattle.printf_text.specs.declared.piece.Size.{Size}
use Rattle.printf_text.specs.declared.piece.Size.TheVariants.{Omitted, Written, Star}
use Rattle.printf_text.specs.declared.piece.Radix.TheVariants.{Decimal, Octal, LowerHex, UpperHex}
use Rattle.printf_text.specs.declared.piece.Form.{Form}
use Rattle.printf_text.specs.declared.piece.Form.TheVariants.{Signed, Unsigned, Char, Text, Pointer}
use Rattle.printf_text.specs.declared.piece.Conversion.{Conversion}
use Rattle.printf_text.specs.declared.piece.Piece.{Piece}
use Rattle.printf_text.specs.declared.piece.Piece.TheVariants.{Literal, Converted}
use Rattle.printf_text.specs.declared.parse.Reading.{Reading}
use Rattle.printf_text.specs.declared.parse.Reading.TheVariants.{Cut, Refused, Percent, Accepted}
use Rattle.printf_text.specs.declared.parse.FormatFault.{FormatFault}
use Rattle.printf_text.specs.declared.parse.FormatFault.TheVariants.{Unsupported, Truncated}

-- the bytes that pass, up to the first that doesn't, and what follows them
abbrev pub run : (ℕ → Bool) → List ℕ → List ℕ
run p bytes = take (prefix_len p bytes) bytes

abbrev pub after_run : (ℕ → Bool) → List ℕ → List ℕ
after_run p bytes = drop (prefix_len p bytes) bytes

-- what follows this byte, where the text begins with it
abbrev pub after : ℕ → List ℕ → Option (List ℕ)
after c [] = None
after c (b ∷ bytes) = if b == c then Some bytes else None

-- `-`, `+`, space, `#` or `0`, and a decimal digit
abbrev pub is_flag : ℕ → Bool
is_flag b = b == 45 || b == 43 || b == 32 || b == 35 || b == 48

abbrev pub is_digit : ℕ → Bool
is_digit b = nat_le 48 b && nat_le b 57

-- the flags are a set (7.19.6.1p6)
abbrev pub flags_of : List ℕ → Flags
flags_of bytes = record {
  left = list_any (λ b. b == 45) bytes;
  plus = list_any (λ b. b == 43) bytes;
  space = list_any (λ b. b == 32) bytes;
  alternate = list_any (λ b. b == 35) bytes;
  zero = list_any (λ b. b == 48) bytes;
}

-- the number that decimal digits write
abbrev pub decimal : List ℕ → ℕ
decimal digits = digits_value 10 digits

-- a part of a conversion that is read, and what follows it
pub record Part (X : Type 0) : Type 0 where
  pub part : X
  pub rest : List ℕ

-- the number of digits; where there are none, what stands for none
abbrev pub number_or : Size → List ℕ → Size
number_or none [] = none
number_or none (c ∷ digits) = Written (decimal (c ∷ digits))

abbrev pub star_or_number : Size → List ℕ → Option (List ℕ) → Part Size
star_or_number none bytes (Some rest) = record { part = Star; rest = rest }
star_or_number none bytes None = record { part = number_or none (run is_digit bytes); rest = after_run is_digit bytes }

-- `*` or digits (7.19.6.1p4, p5)
abbrev pub width_at : List ℕ → Part Size
width_at bytes = star_or_number Omitted bytes (after 42 bytes)

-- none, or `.` and then `*` or digits, where no digits are 0
abbrev pub precision_after : List ℕ → Option (List ℕ) → Part Size
precision_after bytes None = record { part = Omitted; rest = bytes }
precision_after bytes (Some rest) = star_or_number (Written 0) rest (after 42 rest)

abbrev pub precision_at : List ℕ → Part Size
precision_at bytes = precision_after bytes (after 46 bytes)

-- one letter, or the same letter twice
abbrev pub once_or_twice : Width → Width → List ℕ → Option (List ℕ) → Part (Option Width)
once_or_twice once twice bytes None = record { part = Some once; rest = bytes }
once_or_twice once twice bytes (Some rest) = record { part = Some twice; rest = rest }

-- the length, as the width that it gives: `hh`, `h`, `ll`, `l`, `j`, `z` or `t` (7.19.6.1p7)
abbrev pub length_at : List ℕ → Part (Option Width)
length_at [] = record { part = None; rest = [] }
length_at (b ∷ bytes) =
    if b == 104 then once_or_twice W16 W8 bytes (after 104 bytes)
    else if b == 108 then once_or_twice W64 W64 bytes (after 108 bytes)
    else if b == 106 || b == 122 || b == 116 then record { part = Some W64; rest = bytes }
    else record { part = None; rest = b ∷ bytes }

-- an integer's width: that of `int` where no length is written
abbrev pub width_or_int : Option Width → Width
width_or_int None = W32
width_or_int (Some width) = width

-- what a specifier's letter says, where it may have this length (7.19.6.1p8)
abbrev pub form_of : Option Width → ℕ → Option Form
form_of size c =
    if c == 100 || c == 105 then Some (Signed (width_or_int size))
    else if c == 117 then Some (Unsigned Decimal (width_or_int size))
    else if c == 111 then Some (Unsigned Octal (width_or_int size))
    else if c == 120 then Some (Unsigned LowerHex (width_or_int size))
    else if c == 88 then Some (Unsigned UpperHex (width_or_int size))
    else if c == 99 && is_none size then Some Char
    else if c == 115 && is_none size then Some Text
    else if c == 112 && is_none size then Some Pointer
    else None

-- the forms that may have `#`, `0` and a precision
abbrev pub may_alternate : Form → Bool
may_alternate (Signed width) = false
may_alternate (Unsigned Decimal width) = false
may_alternate (Unsigned Octal width) = true
may_alternate (Unsigned LowerHex width) = true
may_alternate (Unsigned UpperHex width) = true
may_alternate Char = false
may_alternate Text = false
may_alternate Pointer = false

abbrev pub may_fill_zeros : Form → Bool
may_fill_zeros (Signed width) = true
may_fill_zeros (Unsigned radix width) = true
may_fill_zeros Char = false
may_fill_zeros Text = false
may_fill_zeros Pointer = false

abbrev pub may_have_precision : Form → Bool
may_have_precision (Signed width) = true
may_have_precision (Unsigned radix width) = true
may_have_precision Char = false
may_have_precision Text = true
may_have_precision Pointer = false

-- a written number that is taken
abbrev pub is_in_limit : Size → Bool
is_in_limit Omitted = true
is_in_limit (Written n) = nat_le n 65536
is_in_limit Star = true

abbrev pub is_omitted : Size → Bool
is_omitted Omitted = true
is_omitted (Written n) = false
is_omitted Star = false

-- the flags and the precision are ones that the form may have
abbrev pub has_accepted_parts : Conversion → Bool
has_accepted_parts c =
    (may_alternate c.form || not c.flags.alternate) && (may_fill_zeros c.form || not c.flags.zero)
    && (may_have_precision c.form || is_omitted c.precision)

-- the conversion is of an accepted form
abbrev pub is_accepted : Conversion → Bool
is_accepted c = is_in_limit c.width && is_in_limit c.precision && has_accepted_parts c

-- a size that is in the limit
abbrev pub taken : Size → Option Size
taken size = if is_in_limit size then Some size else None

-- the conversion of an accepted form, if it is one
abbrev pub accepted : Conversion → Bool → Reading
accepted c true = Accepted c
accepted c false = Refused

abbrev pub specified : Flags → Size → Size → Option Form → Reading
specified flags width precision None = Refused
specified flags width precision (Some form) =
    let c : Conversion = record { flags = flags; width = width; precision = precision; form = form } in accepted c (is_accepted c)

-- the specifier's letter, which the text may lack
abbrev pub lettered : Flags → Size → Size → Option Width → List ℕ → Part Reading
lettered flags width precision size [] = record { part = Cut; rest = [] }
lettered flags width precision size (c ∷ rest) = record { part = specified flags width precision (form_of size c); rest = rest }

-- a conversion by what follows its `%`: flags, width, precision, length and letter (7.19.6.1p4)
abbrev pub specification_at : List ℕ → Part Reading
specification_at bytes =
    let width = width_at (after_run is_flag bytes) in
    let precision = precision_at width.rest in
    let size = length_at precision.rest in
    lettered (flags_of (run is_flag bytes)) width.part precision.part size.part size.rest

abbrev pub percent_or : List ℕ → Option (List ℕ) → Part Reading
percent_or bytes (Some rest) = record { part = Percent; rest = rest }
percent_or bytes None = specification_at bytes

abbrev pub conversion_at : List ℕ → Part Reading
conversion_at bytes = percent_or bytes (after 37 bytes)

-- a piece, how many conversions may follow it, and what follows it
pub record Step : Type 0 where
  pub piece : Piece
  pub left : ℕ
  pub rest : List ℕ

-- a conversion where one more may come
abbrev pub limited : ℕ → ℕ → Piece → List ℕ → Result Step FormatFault
limited zero at piece rest = Err (Unsupported at)
limited (suc left) at piece rest = Ok (record { piece = piece; left = left; rest = rest })

abbrev pub counted : ℕ → ℕ → Reading → List ℕ → Result Step FormatFault
counted left at Cut rest = Err (Truncated at)
counted left at Refused rest = Err (Unsupported at)
counted left at Percent rest = limited left at (Literal (37 ∷ [])) rest
counted left at (Accepted c) rest = limited left at (Converted c) rest

abbrev pub is_plain : ℕ → Bool
is_plain b = not (b == 37)

abbrev pub stepped : ℕ → ℕ → List ℕ → Option (List ℕ) → Result Step FormatFault
stepped left at bytes None = Ok (record { piece = Literal (run is_plain bytes); left = left; rest = after_run is_plain bytes })
stepped left at bytes (Some rest) = let r = conversion_at rest in counted left at r.part r.rest

-- the first piece of a text that stands at this offset of the format, where so many conversions may come
abbrev pub step_of : ℕ → ℕ → List ℕ → Result Step FormatFault
step_of left at bytes = stepped left at bytes (after 37 bytes)

-- a piece before others
abbrev pub piece_before : Piece → Result (List Piece) FormatFault → Result (List Piece) FormatFault
piece_before piece (Ok pieces) = Ok (piece ∷ pieces)
piece_before piece (Err fault) = Err fault

abbrev pub followed : (ℕ → List ℕ → Result (List Piece) FormatFault) → Result Step FormatFault → Result (List Piece) FormatFault
followed others (Ok step) = piece_before step.piece (others step.left step.rest)
followed others (Err fault) = Err fault

-- the pieces of the end of a format of this length, which is shorter than the first number
unfoldable pub pieces_from : ℕ → ℕ → ℕ → List ℕ → Result (List Piece) FormatFault
pieces_from zero size left bytes = Ok []
pieces_from (suc fuel) size left [] = Ok []
pieces_from (suc fuel) size left (b ∷ bytes) =
    followed (λ left' rest. pieces_from fuel size left' rest) (step_of left (size - length (b ∷ bytes)) (b ∷ bytes))

-- a format ends before its first byte 0
abbrev pub format_text : List ℕ → List ℕ
format_text bytes = run (λ b. not (b == 0)) bytes

-- at most 64 conversions, `%%` among them
abbrev pub pieces_of : List ℕ → Result (List Piece) FormatFault
pieces_of bytes = let text = format_text bytes in pieces_from (suc (length text)) (length text) 64 text
