-- The lines of a log.
use Rattle.std.specs.List.{prefix_len}
use Rattle.std.specs.Prelude.{ℕ, suc, min, not, nat_le, count_by, ◌+◌, ◌-◌, ◌==◌, nat_lt, if◌then◌else◌, List, [], ◌∷◌, length}

-- a byte before lines, where it doesn't end one
abbrev pub byte_before : ℕ → List (List ℕ) → List (List ℕ)
byte_before byte [] = (byte ∷ []) ∷ []
byte_before byte (line ∷ lines) = (byte ∷ line) ∷ lines

-- a line ends after a newline; a last piece without one is a line where it isn't empty
abbrev pub lines_of : List ℕ → List (List ℕ)
lines_of [] = []
lines_of (byte ∷ bytes) = if byte == 10 then (byte ∷ []) ∷ lines_of bytes else byte_before byte (lines_of bytes)

abbrev pub line_count : List ℕ → ℕ
line_count log = length (lines_of log)

-- where lines begin, the first at this position
abbrev pub starts_from : ℕ → List (List ℕ) → List ℕ
starts_from position [] = []
starts_from position (line ∷ lines) = position ∷ starts_from (position + length line) lines

abbrev pub line_starts : List ℕ → List ℕ
line_starts log = starts_from 0 (lines_of log)

-- the number of the line that holds a position's byte, where the first has this number; behind all, the next number
abbrev pub line_among : ℕ → ℕ → List (List ℕ) → ℕ
line_among number position [] = number
line_among number position (line ∷ lines) =
    if nat_lt position (length line) then number else line_among (suc number) (position - length line) lines

-- the line of a position, from 1; at the log's end it is one more than there are lines
abbrev pub line_of : List ℕ → ℕ → ℕ
line_of log position = line_among 1 position (lines_of log)

-- the bytes before the first newline
abbrev pub plain_len : List ℕ → ℕ
plain_len bytes = prefix_len (λ b. not (b == 10)) bytes

-- the length of the first line
abbrev pub line_len : List ℕ → ℕ
line_len bytes = min (length bytes) (plain_len bytes + 1)

-- how many lines begin at or before a position
abbrev pub starts_through : List ℕ → ℕ → ℕ
starts_through starts position = count_by (λ start. nat_le start position) starts
