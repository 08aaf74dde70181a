-- The text that pieces make of arguments, from sign, prefix, digits and padding (C99 7.19.6.1).
use Rattle.std.specs.Prelude.{ℕ, ◌+◌, ◌-◌, ◌<◌, ◌^◌, ◌≢◌, Bool, not, ◌&&◌, ◌||◌, ◌==◌, nat_lt, if◌then◌else◌, ℤ, pos, negsuc, unsigned_abs, List, [], ◌∷◌, ◌++◌, length, take, drop, map, replicate, All}
use Rattle.std.specs.Int.Digits.{digits_of}
use Rattle.std.specs.Int.{is_negative}
use Rattle.plain_data.specs.Words.{bits, word, signed}
use Rattle.plain_data.specs.declared.width.Width.TheVariants.{W8, W32}
use Rattle.printf_text.specs.declared.piece.Flags.{Flags}
use Rattle.printf_text.specs.declared.piece.Size.{Size}
use Rattle.printf_text.specs.declared.piece.Size.TheVariants.{Omitted, Written, Star}
use Rattle.printf_text.specs.declared.piece.Radix.{Radix}
use Rattle.printf_text.specs.declared.piece.Radix.TheVariants.{Decimal, Octal, LowerHex, UpperHex}
use Rattle.printf_text.specs.declared.piece.Form.{Form}
use Rattle.printf_text.specs.declared.piece.Form.TheVariants.{Signed, Unsigned, Char, Text, Pointer}
use Rattle.printf_text.specs.declared.piece.Conversion.{Conversion}
use Rattle.printf_text.specs.declared.piece.Piece.{Piece}
use Rattle.printf_text.specs.declared.piece.Piece.TheVariants.{Literal, Converted}
use Rattle.printf_text.specs.declared.kind.Kind.{Kind}
use Rattle.printf_text.specs.declared.kind.Kind.TheVariants as kind
use Rattle.printf_text.specs.declared.piece.Arg.{Arg}
use Rattle.printf_text.specs.declared.piece.Arg.TheVariants as arg

-- ---- what a piece asks of its arguments

-- the argument has the kind: a word in its range, a text without a byte 0, a pointer by a number other than 0
abbrev pub HasKind : Kind → Arg → Type 0
HasKind kind.Integer (arg.Word a width sign) = a < 2 ^ bits width
HasKind kind.Text (arg.Text bytes) = All (λ b. (b ≢ 0) × (b < 256)) bytes
HasKind kind.Pointer arg.Null = Unit {0}
HasKind kind.Pointer (arg.Shown n) = (n ≢ 0) × (n < 2 ^ 64)
HasKind _ _ = ⊥

abbrev pub size_kinds : Size → List Kind
size_kinds Omitted = []
size_kinds (Written n) = []
size_kinds Star = kind.Integer ∷ []

abbrev pub form_kind : Form → Kind
form_kind (Signed width) = kind.Integer
form_kind (Unsigned radix width) = kind.Integer
form_kind Char = kind.Integer
form_kind Text = kind.Text
form_kind Pointer = kind.Pointer

-- the width's argument, the precision's, and the one that is converted (7.19.6.1p5)
abbrev pub conversion_kinds : Conversion → List Kind
conversion_kinds c = size_kinds c.width ++ size_kinds c.precision ++ form_kind c.form ∷ []

abbrev pub piece_kinds : Piece → List Kind
piece_kinds (Literal bytes) = []
piece_kinds (Converted c) = conversion_kinds c

abbrev pub kinds : List Piece → List Kind
kinds [] = []
kinds (piece ∷ pieces) = piece_kinds piece ++ kinds pieces

-- one argument for each kind
abbrev pub HaveKinds : List Kind → List Arg → Type 0
HaveKinds [] [] = Unit {0}
HaveKinds (k ∷ kinds) (a ∷ args) = HasKind k a × HaveKinds kinds args
HaveKinds _ _ = ⊥

-- the first arguments have these kinds
abbrev pub BeginsWithKinds : List Kind → List Arg → Type 0
BeginsWithKinds [] args = Unit {0}
BeginsWithKinds (k ∷ kinds) [] = ⊥
BeginsWithKinds (k ∷ kinds) (a ∷ args) = HasKind k a × BeginsWithKinds kinds args

-- ---- numbers

-- an integer argument's number
abbrev pub number_of : Arg → ℤ
number_of (arg.Word a width sign) = if sign then signed width a else pos a
number_of _ = pos 0

-- the argument converted to `int`, as `*` takes it
abbrev pub int_of : Arg → ℤ
int_of a = signed W32 (word W32 (number_of a))

-- the character of a digit
abbrev pub digit : Radix → ℕ → ℕ
digit UpperHex d = if nat_lt d 10 then 48 + d else 55 + d
digit _ d = if nat_lt d 10 then 48 + d else 87 + d

abbrev pub base : Radix → ℕ
base Decimal = 10
base Octal = 8
base LowerHex = 16
base UpperHex = 16

-- the digits of a number, at least so many: zeros come first, and 0 has no digit of its own (7.19.6.1p8)
abbrev pub digits : Radix → ℕ → ℕ → List ℕ
digits radix least n =
    let written = map (digit radix) (digits_of (base radix) n) in replicate (least - length written) 48 ++ written

-- no zero stands first
abbrev pub HasNoLeadingZero : List ℕ → Type 0
HasNoLeadingZero [] = Unit {0}
HasNoLeadingZero (d ∷ ds) = d ≢ 48

-- ---- the parts of a converted argument's text

pub record Parts : Type 0 where
  pub sign : List ℕ
  pub prefix : List ℕ
  pub body : List ℕ

-- `-`, or what stands before a number that isn't negative: `+` goes before a space (7.19.6.1p6)
abbrev pub sign_of : Flags → ℤ → List ℕ
sign_of flags (negsuc n) = 45 ∷ []
sign_of flags (pos n) = if flags.plus then 43 ∷ [] else if flags.space then 32 ∷ [] else []

-- `#` puts `0x` or `0X` before a hexadecimal number other than 0
abbrev pub prefix_of : Flags → Radix → ℕ → List ℕ
prefix_of flags LowerHex n = if flags.alternate && not (n == 0) then 48 ∷ 120 ∷ [] else []
prefix_of flags UpperHex n = if flags.alternate && not (n == 0) then 48 ∷ 88 ∷ [] else []
prefix_of flags _ n = []

-- the digits with a 0 before them, unless they begin with one
abbrev pub with_zero : List ℕ → List ℕ
with_zero [] = 48 ∷ []
with_zero (d ∷ ds) = if d == 48 then d ∷ ds else 48 ∷ d ∷ ds

-- `#` makes an octal number begin with 0
abbrev pub marked : Flags → Radix → List ℕ → List ℕ
marked flags Octal ds = if flags.alternate then with_zero ds else ds
marked flags _ ds = ds

-- a precision that is a number; a negative one is none (7.19.6.1p5)
abbrev pub digits_wanted : ℤ → ℕ
digits_wanted (pos n) = n
digits_wanted (negsuc n) = 1

abbrev pub cut : ℤ → List ℕ → List ℕ
cut (pos n) bytes = take n bytes
cut (negsuc n) bytes = bytes

abbrev pub signed_parts : Flags → ℤ → ℤ → Parts
signed_parts flags precision z = record {
  sign = sign_of flags z;
  prefix = [];
  body = digits Decimal (digits_wanted precision) (unsigned_abs z);
}

abbrev pub unsigned_parts : Flags → Radix → ℤ → ℕ → Parts
unsigned_parts flags radix precision n = record {
  sign = [];
  prefix = prefix_of flags radix n;
  body = marked flags radix (digits radix (digits_wanted precision) n);
}

-- bytes that stand as they are
abbrev pub plain : List ℕ → Parts
plain bytes = record { sign = []; prefix = []; body = bytes }

-- `(nil)`, or the number that is shown
abbrev pub pointer_parts : Arg → Parts
pointer_parts (arg.Shown n) = record { sign = []; prefix = 48 ∷ 120 ∷ []; body = digits LowerHex 1 n }
pointer_parts _ = plain (40 ∷ 110 ∷ 105 ∷ 108 ∷ 41 ∷ [])

abbrev pub text_bytes : Arg → List ℕ
text_bytes (arg.Text bytes) = bytes
text_bytes _ = []

-- an argument by the form of its conversion, with this precision
abbrev pub parts : Flags → Form → ℤ → Arg → Parts
parts flags (Signed width) precision a = signed_parts flags precision (signed width (word width (number_of a)))
parts flags (Unsigned radix width) precision a = unsigned_parts flags radix precision (word width (number_of a))
parts flags Char precision a = plain (word W8 (number_of a) ∷ [])
parts flags Text precision a = plain (cut precision (text_bytes a))
parts flags Pointer precision a = pointer_parts a

-- ---- padding

-- the parts in a field: spaces after them, zeros before the body, or spaces before them
abbrev pub in_field : Bool → Bool → ℕ → Parts → List ℕ
in_field left zeros width p =
    let front = p.sign ++ p.prefix in
    let missing = width - length (front ++ p.body) in
    if left then front ++ p.body ++ replicate missing 32
    else if zeros then front ++ replicate missing 48 ++ p.body
    else replicate missing 32 ++ front ++ p.body

-- zeros fill the field where `0` is written and no precision is
abbrev pub fills_zeros : Flags → ℤ → Bool
fills_zeros flags precision = flags.zero && is_negative precision

-- an argument's text, with the width and precision that hold: a negative width is `-` and its absolute value
abbrev pub formed : Flags → Form → ℤ → ℤ → Arg → List ℕ
formed flags form width precision a =
    in_field (flags.left || is_negative width) (fills_zeros flags precision) (unsigned_abs width) (parts flags form precision a)

-- ---- pieces and their arguments

abbrev pub first : List Arg → Arg
first [] = arg.Null
first (a ∷ args) = a

-- a width or precision, where none is written this number
abbrev pub size_of : ℤ → Size → List Arg → ℤ
size_of none Omitted args = none
size_of none (Written n) args = pos n
size_of none Star args = int_of (first args)

-- the text of a conversion by its arguments
abbrev pub conversion_text : Conversion → List Arg → List ℕ
conversion_text c args =
    let after_width = drop (length (size_kinds c.width)) args in
    let after_precision = drop (length (size_kinds c.precision)) after_width in
    formed c.flags c.form (size_of (pos 0) c.width args) (size_of (negsuc 0) c.precision after_width) (first after_precision)

abbrev pub piece_text : Piece → List Arg → List ℕ
piece_text (Literal bytes) args = bytes
piece_text (Converted c) args = conversion_text c args

-- the text of pieces: each takes its arguments from the front
abbrev pub text_of : List Piece → List Arg → List ℕ
text_of [] args = []
text_of (piece ∷ pieces) args = piece_text piece args ++ text_of pieces (drop (length (piece_kinds piece)) args)
