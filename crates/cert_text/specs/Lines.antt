-- The lines of a text.
use Rattle.std.specs.Prelude.{ℕ, ◌+◌, ◌==◌, not, min, if◌then◌else◌, List, [], ◌∷◌, length}
use Rattle.std.specs.List.{prefix_len}

-- a list of bytes
abbrev pub Text : Type 0
Text = List ℕ

-- a byte before lines, where it doesn't end one
abbrev pub byte_before : ℕ → List Text → List Text
byte_before byte [] = (byte ∷ []) ∷ []
byte_before byte (line ∷ lines) = (byte ∷ line) ∷ lines

-- each line ends with its newline; a last piece without one is a line where it isn't empty
abbrev pub lines_of : Text → List Text
lines_of [] = []
lines_of (byte ∷ bytes) = if byte == 10 then (byte ∷ []) ∷ lines_of bytes else byte_before byte (lines_of bytes)

-- the length of the first line
abbrev pub line_len : Text → ℕ
line_len bytes = min (length bytes) (prefix_len (λ b. not (b == 10)) bytes + 1)
