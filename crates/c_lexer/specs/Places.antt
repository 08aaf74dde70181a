-- Where the pieces of a source stand.
use Rattle.std.specs.Prelude.{ℕ, ◌+◌, ◌-◌, true, if◌then◌else◌, ◌==◌, nat_lt, List, [], ◌∷◌, length, take, fold}
use Rattle.std.specs.Prelude.{slice_range}
use Rattle.c_lexer.specs.Class.{Text}
use Rattle.c_lexer.specs.Division.{Element, divide}
use Rattle.c_lexer.specs.declared.piece.Lexeme.TheVariants as lexeme
use Rattle.c_language.specs.declared.token.Spot.{Spot}

-- the first place of a source of this name
abbrev pub beginning : Text → Spot
beginning name = record { file = name; line = 1; column = 1 }

-- the place after a byte
abbrev pub past_byte : Spot → ℕ → Spot
past_byte s b = if b == 10 then record s { line = s.line + 1; column = 1 } else record s { column = s.column + 1 }

-- the place after some bytes
abbrev pub moved : Spot → Text → Spot
moved s bytes = fold past_byte s bytes

-- The place after a piece. A line marker sets it, and no token has a newline.
abbrev pub spot_after : Spot → Element → Spot
spot_after s (lexeme.Newline, bytes) = record s { line = s.line + 1; column = 1 }
spot_after s (lexeme.Comment, bytes) = moved s bytes
spot_after s (lexeme.Ignored, bytes) = moved s bytes
spot_after s (lexeme.Marker line from to, bytes) = record { file = slice_range bytes from to; line = line; column = 1 }
spot_after s (_, bytes) = record s { column = s.column + length bytes }

-- the place so many bytes after the first of some pieces
abbrev pub spot_in : Spot → List Element → ℕ → Spot
spot_in s [] at = s
spot_in s (e ∷ es) at =
    if nat_lt at (length e.1) then moved s (take at e.1) else spot_in (spot_after s e) es (at - length e.1)

-- the place of a byte of a source, or of the end
unfoldable pub located : Text → Text → ℕ → Spot
located name bytes at = spot_in (beginning name) (divide 0 true bytes) at
