-- Character constants and string literals (C99 6.4.4.4, 6.4.5).
use Rattle.std.specs.Prelude.{ℕ, zero, suc, ◌+◌, ◌-◌, Bool, not, ◌&&◌, ◌||◌, if◌then◌else◌, ◌==◌, nat_lt, [], ◌∷◌, take}
use Rattle.std.specs.Prelude.{slice_index, slice_range, Option, Some, None, Result, Ok, Err}
use Rattle.c_lexer.specs.Class.{Text, is_in, past}
use Rattle.c_lexer.specs.Number.{value_of}
use Rattle.c_lexer.specs.declared.class.Class.TheVariants as class
use Rattle.c_lexer.specs.declared.fault.LexFault.{LexFault}
use Rattle.c_lexer.specs.declared.fault.LexFault.TheVariants as fault

-- The place after the closing quote, for a text that begins at `at`: the first quote that no backslash escapes. A
-- newline closes no literal.
abbrev pub closing : ℕ → Bool → ℕ → Text → Option ℕ
closing quote escaped at [] = None
closing quote escaped at (b ∷ text) =
    if b == 10 then None
    else (if not escaped && b == quote then Some (at + 1) else closing quote (not escaped && b == 92) (at + 1) text)

-- ---- escapes (6.4.4.4)

abbrev pub simple_escape : ℕ → Option ℕ
simple_escape b =
    if b == 39 || b == 34 || b == 63 || b == 92 then Some b
    else (if b == 97 then Some 7 else (if b == 98 then Some 8 else (if b == 102 then Some 12
    else (if b == 110 then Some 10
    else (if b == 114 then Some 13 else (if b == 116 then Some 9 else (if b == 118 then Some 11 else None)))))))

-- digits that spell a byte, and where they end
abbrev pub numeric_escape : ℕ → Text → ℕ → Option (ℕ × ℕ)
numeric_escape base digits end = if nat_lt (value_of base digits) 256 then Some (value_of base digits, end) else None

abbrev pub two_long : Option ℕ → Option (ℕ × ℕ)
two_long None = None
two_long (Some meant) = Some (meant, 2)

-- What the escape at the front of a text means, and its length: one to three octal digits, `x` and hexadecimal digits,
-- or one letter.
unfoldable pub escape : Text → Option (ℕ × ℕ)
escape text =
    if is_in class.Octal (slice_index text 1) then
    (let end = past class.Octal (take 4 text) 1 in numeric_escape 8 (slice_range text 1 end) end)
    else (if slice_index text 1 == 120 then
    (let end = past class.Hex text 2 in if end == 2 then None else numeric_escape 16 (slice_range text 2 end) end)
    else two_long (simple_escape (slice_index text 1)))

-- the byte or the escape at the front of a text: what it means, and its length
abbrev pub unit : Text → Option (ℕ × ℕ)
unit text = if slice_index text 0 == 92 then escape text else Some (slice_index text 0, 1)

abbrev pub before : ℕ → Result Text LexFault → Result Text LexFault
before meant (Ok more) = Ok (meant ∷ more)
before meant (Err f) = Err f

-- what begins with a unit that stands at an offset, where `rest` is what follows so many further bytes of it
abbrev pub from_unit : Option (ℕ × ℕ) → ℕ → (ℕ → Result Text LexFault) → Result Text LexFault
from_unit None at rest = Err (fault.BadConstant at)
from_unit (Some u) at rest = before u.0 (rest (u.1 - 1))

-- What a text between quotes means, that begins at the offset `at`, or where its first bad escape stands. The number
-- counts the bytes that are left of an escape.
abbrev pub unescape : ℕ → ℕ → Text → Result Text LexFault
unescape left at [] = Ok []
unescape (suc left) at (b ∷ text) = unescape left (at + 1) text
unescape zero at (b ∷ text) = from_unit (unit (b ∷ text)) at (λ left. unescape left (at + 1) text)
