-- The piece of a source that begins at a place (C99 6.4).
use Rattle.std.specs.Prelude.{ℕ, ◌+◌, ◌*◌, ◌^◌, ◌<◌, ◌≤◌, Bool, false, ◌&&◌, ◌||◌, if◌then◌else◌, ◌==◌, [], ◌∷◌, length}
use Rattle.std.specs.Prelude.{take, drop, slice_index, Option, Some, None, ⊤}
use Rattle.c_lexer.specs.Class.{Text, is_in, past}
use Rattle.c_lexer.specs.Tables.{punctuator}
use Rattle.c_lexer.specs.Number.{number_more}
use Rattle.c_lexer.specs.Literal.{closing}
use Rattle.c_lexer.specs.Directive.{directive}
use Rattle.c_lexer.specs.declared.class.Class.TheVariants as class
use Rattle.c_lexer.specs.declared.directive.Directive.{Directive}
use Rattle.c_lexer.specs.declared.directive.Directive.TheVariants as says
use Rattle.c_lexer.specs.declared.piece.Stray.TheVariants as stray
use Rattle.c_lexer.specs.declared.piece.Lexeme.{Lexeme}
use Rattle.c_lexer.specs.declared.piece.Lexeme.TheVariants as lexeme
use Rattle.c_language.specs.declared.token.Punctuator.{Punctuator}

-- what a piece is, and its length
abbrev pub Piece : Type 0
Piece = Lexeme × ℕ

-- a literal, or a quote that nothing closes
abbrev pub closed : Lexeme → Option ℕ → Piece
closed kind None = (lexeme.Stray stray.OpenText, 1)
closed kind (Some end) = (kind, end)

abbrev pub literal : Lexeme → Text → ℕ → Piece
literal kind text open_at =
    closed kind (closing (slice_index text open_at) false (open_at + 1) (drop (open_at + 1) text))

-- the place after `*/`, for a text that begins at `at`
abbrev pub comment_end : Bool → ℕ → Text → Option ℕ
comment_end after_star at [] = None
comment_end after_star at (b ∷ text) =
    if after_star && b == 47 then Some (at + 1) else comment_end (b == 42) (at + 1) text

abbrev pub block_comment : Text → Piece
block_comment text = closed lexeme.Comment (comment_end false 2 (drop 2 text))

-- a directive, with the newline that ends its line, or without one at the source's end, where a marker says nothing of
-- any line
abbrev pub directive_piece : Text → ℕ → Option Directive → Piece
directive_piece text end None = (lexeme.Stray stray.BadDirective, 1)
directive_piece text end (Some (says.Marker line from to)) =
    if end == length text then (lexeme.Ignored, end) else (lexeme.Marker line from to, end + 1)
directive_piece text end (Some says.Pragma) =
    if end == length text then (lexeme.Ignored, end) else (lexeme.Ignored, end + 1)

abbrev pub directive_line : Text → Piece
directive_line text = let end = past class.Line text 0 in directive_piece text end (directive (take end text))

abbrev pub begins_number : Text → Bool
begins_number text =
    is_in class.Digit (slice_index text 0) || (slice_index text 0 == 46 && is_in class.Digit (slice_index text 1))

-- a wide literal, or a word that begins with `L`
abbrev pub wide : Text → Piece
wide text =
    if slice_index text 1 == 39 then literal lexeme.WideCharacter text 1
    else (if slice_index text 1 == 34 then literal lexeme.WideText text 1 else (lexeme.Word, past class.Word text 1))

abbrev pub marked : Option (Punctuator × ℕ) → Piece
marked None = (lexeme.Stray stray.BadByte, 1)
marked (Some p) = (lexeme.Punctuator p.0, p.1)

abbrev pub punctuation : Text → Piece
punctuation text = marked (punctuator text)

unfoldable pub other : Bool → Text → Piece
other fresh text =
    let b = slice_index text 0 in
    let next = slice_index text 1 in
    if b == 10 then (lexeme.Newline, 1)
    else (if b == 34 then literal lexeme.Text text 0
    else (if b == 39 then literal lexeme.Character text 0
    else (if b == 47 && next == 42 then block_comment text
    else (if b == 47 && next == 47 then (lexeme.Comment, past class.Line text 2)
    else (if b == 35 && fresh then directive_line text
    else punctuation text)))))

-- The piece at the front of a text. A `#` begins a directive where only white space and comments stand before it on its
-- line, that is where `fresh`.
unfoldable pub piece_at : Bool → Text → Piece
piece_at fresh text =
    let b = slice_index text 0 in
    if is_in class.Blank b then (lexeme.Blank, past class.Blank text 0)
    else (if b == 76 then wide text
    else (if is_in class.Letter b then (lexeme.Word, past class.Word text 1)
    else (if begins_number text then (lexeme.Number, 1 + number_more b (drop 1 text))
    else other fresh text)))

-- what a line marker names stands within it, and its number is small
abbrev pub IsNamedWithin : Piece → Type 0
IsNamedWithin (lexeme.Marker line from to, len) = (from ≤ to) × (to < len) × (line < 2 * 10 ^ 9)
IsNamedWithin p = ⊤
