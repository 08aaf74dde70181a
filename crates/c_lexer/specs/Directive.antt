-- Directives (C99 6.10): line markers (6.10.4, and those of GNU C) and pragmas (6.10.6).
use Rattle.std.specs.Prelude.{ℕ, ◌+◌, ◌-◌, ◌*◌, ◌^◌, ◌<◌, ◌≤◌, Bool, false, not, ◌&&◌, ◌||◌, if◌then◌else◌, ◌==◌}
use Rattle.std.specs.Prelude.{nat_lt, length, drop, slice_index, slice_range, codes, Option, Some, None, ⊤}
use Rattle.std.specs.Str.{bytes_eq, is_utf8}
use Rattle.c_lexer.specs.Class.{Text, past}
use Rattle.c_lexer.specs.Number.{value_of}
use Rattle.c_lexer.specs.Literal.{closing}
use Rattle.c_lexer.specs.declared.class.Class.{Class}
use Rattle.c_lexer.specs.declared.class.Class.TheVariants as class
use Rattle.c_lexer.specs.declared.directive.Directive.{Directive}
use Rattle.c_lexer.specs.declared.directive.Directive.TheVariants.{Marker, Pragma}

-- UTF-8
abbrev pub is_text : Text → Bool
is_text bytes = is_utf8 bytes

-- the number that one to nine digits spell
abbrev pub line_number : Text → Option ℕ
line_number digits = if length digits == 0 || nat_lt 9 (length digits) then None else Some (value_of 10 digits)

-- The name stands between `from` and the closing quote before `close`, and is UTF-8. What follows is of the class
-- `tail`.
abbrev pub named : Text → Class → ℕ → ℕ → Option ℕ → Option Directive
named line tail number from None = None
named line tail number from (Some close) =
    if is_text (slice_range line from (close - 1)) && past tail line close == length line
    then Some (Marker number from (close - 1)) else None

abbrev pub numbered : Text → ℕ → Class → Option ℕ → Option Directive
numbered line end tail None = None
numbered line end tail (Some number) =
    let open_at = past class.Blank line end in
    if not (slice_index line open_at == 34) then None
    else named line tail number (open_at + 1) (closing 34 false (open_at + 1) (drop (open_at + 1) line))

-- a number, blanks, a name in quotes, in which a backslash escapes a quote, and a tail
unfoldable pub marker : Text → ℕ → Class → Option Directive
marker line at tail =
    let end = past class.Digit line at in
    numbered line end tail (line_number (slice_range line at end))

-- What the directive of a line says, which begins with `#`: a pragma, a line marker of the standard, with no flags, or
-- one of GNU C.
unfoldable pub directive : Text → Option Directive
directive line =
    let at = past class.Blank line 1 in
    let end = past class.Word line at in
    let word = slice_range line at end in
    if bytes_eq word (codes "pragma") then Some Pragma
    else (if bytes_eq word (codes "line") then marker line (past class.Blank line end) class.Blank
    else marker line at class.Flag)

-- what a marker names stands within a line of so many bytes, and its number is small
abbrev pub IsNamedIn : ℕ → Option Directive → Type 0
IsNamedIn len (Some (Marker line from to)) = (from ≤ to) × (to < len) × (line < 2 * 10 ^ 9)
IsNamedIn len (Some Pragma) = ⊤
IsNamedIn len None = ⊤
