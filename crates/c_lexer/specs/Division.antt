-- The division of a source into pieces.
use Rattle.std.specs.Prelude.{ℕ, zero, suc, ◌-◌, Bool, true, false, List, [], ◌∷◌, take}
use Rattle.c_lexer.specs.Class.{Text}
use Rattle.c_lexer.specs.Piece.{piece_at}
use Rattle.c_lexer.specs.declared.piece.Lexeme.{Lexeme}
use Rattle.c_lexer.specs.declared.piece.Lexeme.TheVariants as lexeme

-- a piece with its bytes
abbrev pub Element : Type 0
Element = Lexeme × Text

-- whether only white space and comments stand before what follows a piece, on its line
abbrev pub fresh_after : Bool → Lexeme → Bool
fresh_after fresh lexeme.Blank = fresh
fresh_after fresh lexeme.Newline = true
fresh_after fresh lexeme.Comment = fresh
fresh_after fresh (lexeme.Marker line from to) = true
fresh_after fresh lexeme.Ignored = true
fresh_after fresh _ = false

-- The pieces of a text, each the one that begins where the last one ends. The number counts the bytes that are left of
-- a piece.
abbrev pub divide : ℕ → Bool → Text → List Element
divide left fresh [] = []
divide (suc left) fresh (b ∷ text) = divide left fresh text
divide zero fresh (b ∷ text) =
    let p = piece_at fresh (b ∷ text) in (p.0, take p.1 (b ∷ text)) ∷ divide (p.1 - 1) (fresh_after fresh p.0) text
