-- Formats as they are shown.
use Rattle.std.specs.Prelude.{ℕ, Bool, true, false, cond, not, nat_le, nat_lt, ◌&&◌, ◌==◌, ◌+◌, ◌/◌, ◌%◌, List, [], ◌∷◌, ◌++◌, codes}
use Rattle.std.specs.List.{flat_map, prefix_len}
use Rattle.report_text.specs.Numbers.{Text}
use Rattle.printf_text.specs.Pieces.{format_text}
use Rattle.c_notes.specs.declared.calls.LogFormat.{LogFormat}

-- from 32 to 126, and no backslash
abbrev pub is_plain : ℕ → Bool
is_plain byte = nat_le 32 byte && nat_le byte 126 && not (byte == 92)

-- in lower case
abbrev pub hex_digit : ℕ → ℕ
hex_digit value = cond (nat_lt value 10) (48 + value) (87 + value)

-- a plain byte as it is, another as `\x` and two hexadecimal digits
abbrev pub shown_byte : ℕ → Text
shown_byte byte = cond (is_plain byte) (byte ∷ []) (92 ∷ 120 ∷ hex_digit (byte / 16) ∷ hex_digit (byte % 16) ∷ [])

abbrev pub text_len : List ℕ → ℕ
text_len bytes = prefix_len (λ b. not (b == 0)) bytes

abbrev pub shown_newline : Bool → Text
shown_newline true = codes "\\x0a"
shown_newline false = []

-- up to its first byte 0, with the newline that is added
abbrev pub shown_format : LogFormat → Text
shown_format format = flat_map shown_byte (format_text format.bytes) ++ shown_newline format.newline
