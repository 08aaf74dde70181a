-- What each kind of piece is spelled by (C99 6.4), and the division of a source into pieces, each the longest that
-- begins at its place.
use Rattle.std.specs.Prelude.{◌≡◌, ◌≢◌, ℕ, ◌≤◌, Bool, true, false, ◌&&◌, ◌||◌, ◌==◌, ◌⊎◌, List, [], ◌∷◌, ◌++◌, length}
use Rattle.std.specs.Prelude.{slice_index, Some, IsSome, if◌then◌else◌, ⊤}
use Rattle.c_lexer.specs.Class.{Text, is_in}
use Rattle.c_lexer.specs.Vocabulary.{punctuators}
use Rattle.c_lexer.specs.Number.{goes_on}
use Rattle.c_lexer.specs.Directive.{directive}
use Rattle.c_lexer.specs.Piece.{begins_number}
use Rattle.c_lexer.specs.Division.{Element, fresh_after}
use Rattle.c_lexer.specs.declared.class.Class.{Class}
use Rattle.c_lexer.specs.declared.class.Class.TheVariants as class
use Rattle.c_lexer.specs.declared.directive.Directive.TheVariants as says
use Rattle.c_lexer.specs.declared.piece.Lexeme.{Lexeme}
use Rattle.c_lexer.specs.declared.piece.Lexeme.TheVariants as lexeme
use Rattle.c_lexer.specs.declared.piece.Stray.{Stray}
use Rattle.c_lexer.specs.declared.piece.Stray.TheVariants as stray

-- each byte is of a class
abbrev pub AllIn : Class → Text → Type 0
AllIn c [] = ⊤
AllIn c (b ∷ bs) = (is_in c b ≡ true) × AllIn c bs

-- an identifier or a keyword (6.4.2.1): a letter, then letters and digits
abbrev pub IsWord : Text → Type 0
IsWord [] = ⊥
IsWord (b ∷ bs) = (is_in class.Letter b ≡ true) × AllIn class.Word bs

-- each byte goes on the number whose last byte is `previous`
abbrev pub GoesOn : ℕ → Text → Type 0
GoesOn previous [] = ⊤
GoesOn previous (b ∷ bs) = (goes_on previous b ≡ true) × GoesOn b bs

-- a preprocessing number (6.4.8): a digit, or a point and a digit, and what goes on it
abbrev pub IsNumber : Text → Type 0
IsNumber [] = ⊥
IsNumber (b ∷ bs) = (begins_number (b ∷ bs) ≡ true) × GoesOn b bs

-- what stands between the quotes of a literal (6.4.4.4, 6.4.5): any byte but the quote, the backslash and the newline,
-- or a backslash and any byte but a newline
pub data IsBody (quote : ℕ) : Text → Type 0 where
  none : IsBody quote []
  plain : {b : ℕ} {bs : Text} → (b == 10) ≡ false → (b == quote) ≡ false → (b == 92) ≡ false → IsBody quote bs →
      IsBody quote (b ∷ bs)
  escaped : {b : ℕ} {bs : Text} → (b == 10) ≡ false → IsBody quote bs → IsBody quote (92 ∷ b ∷ bs)

-- a body between quotes
abbrev pub IsQuoted : ℕ → Text → Type 0
IsQuoted quote bytes = (body : Text) × IsBody quote body × (bytes ≡ quote ∷ body ++ quote ∷ [])

-- no `*/` stands in the bytes, nor `/` first where a star stands before them
abbrev pub IsUnclosed : Bool → Text → Type 0
IsUnclosed after_star [] = ⊤
IsUnclosed after_star (b ∷ bs) = ((after_star && b == 47) ≡ false) × IsUnclosed (b == 42) bs

-- whether the last byte is a star, or the byte before where there is none
abbrev pub ends_in_star : Bool → Text → Bool
ends_in_star after_star [] = after_star
ends_in_star after_star (b ∷ bs) = ends_in_star (b == 42) bs

-- `/*`, and a `/` after the first star that it follows (6.4.9)
abbrev pub IsBlockComment : Text → Type 0
IsBlockComment bytes = (body : Text) × IsUnclosed false body × (ends_in_star false body ≡ true)
    × (bytes ≡ 47 ∷ 42 ∷ body ++ 47 ∷ [])

-- `//`, and what follows on its line (6.4.9)
abbrev pub IsLineComment : Text → Type 0
IsLineComment bytes = (more : Text) × AllIn class.Line more × (bytes ≡ 47 ∷ 47 ∷ more)

-- A quote, a comment's first two bytes and a `#` that is first on its line begin nothing but a literal, a comment and a
-- directive.
abbrev pub opens : Bool → Text → Bool
opens fresh text =
    let b = slice_index text 0 in
    let next = slice_index text 1 in
    b == 34 || b == 39 || (b == 76 && (next == 34 || next == 39)) || (b == 47 && (next == 42 || next == 47))
    || (b == 35 && fresh)

-- a row of a table has these bytes and this meaning
abbrev pub Has : {T : Type 0} → List (Text × T) → Text → T → Type 0
Has [] bytes t = ⊥
Has (row ∷ rows) bytes t = ((row.0 ≡ bytes) × (row.1 ≡ t)) ⊎ Has rows bytes t

-- a kind of piece is spelled by some bytes, before the rest of a source
abbrev pub Begins : Bool → Lexeme → Text → Text → Type 0
Begins fresh lexeme.Blank bytes rest = (bytes ≢ []) × AllIn class.Blank bytes
Begins fresh lexeme.Newline bytes rest = bytes ≡ 10 ∷ []
Begins fresh lexeme.Comment bytes rest = IsBlockComment bytes ⊎ IsLineComment bytes
Begins fresh (lexeme.Marker line from to) bytes rest =
    (fresh ≡ true) × ((more : Text) × AllIn class.Line more × (bytes ≡ 35 ∷ more ++ 10 ∷ [])
    × (directive (35 ∷ more) ≡ Some (says.Marker line from to)))
Begins fresh lexeme.Ignored bytes rest =
    (fresh ≡ true) × ((more : Text) × AllIn class.Line more
    × (((bytes ≡ 35 ∷ more ++ 10 ∷ []) × (directive (35 ∷ more) ≡ Some says.Pragma))
    ⊎ ((bytes ≡ 35 ∷ more) × (rest ≡ []) × IsSome (directive (35 ∷ more)))))
Begins fresh lexeme.Word bytes rest = IsWord bytes × (opens fresh (bytes ++ rest) ≡ false)
Begins fresh lexeme.Number bytes rest = IsNumber bytes
Begins fresh lexeme.Character bytes rest = IsQuoted 39 bytes
Begins fresh lexeme.Text bytes rest = IsQuoted 34 bytes
Begins fresh lexeme.WideCharacter bytes rest = (more : Text) × IsQuoted 39 more × (bytes ≡ 76 ∷ more)
Begins fresh lexeme.WideText bytes rest = (more : Text) × IsQuoted 34 more × (bytes ≡ 76 ∷ more)
Begins fresh (lexeme.Punctuator p) bytes rest = Has punctuators bytes p × (opens fresh (bytes ++ rest) ≡ false)
Begins fresh (lexeme.Stray s) bytes rest = ⊥

-- a piece of a text is the longest that begins there
pub record IsLongest (fresh : Bool) (text : Text) (kind : Lexeme) (bytes rest : Text) : Type 0 where
  pub splits : text ≡ bytes ++ rest
  pub begins : Begins fresh kind bytes rest
  pub longest : (other : Lexeme) (more less : Text) → text ≡ more ++ less → Begins fresh other more less →
      length more ≤ length bytes

-- a text divides into pieces, each the longest that begins at its place
abbrev pub Divides : Bool → Text → List Element → Type 0
Divides fresh text [] = text ≡ []
Divides fresh text (e ∷ es) = (rest : Text) × IsLongest fresh text e.0 e.1 rest
    × Divides (fresh_after fresh e.0) rest es

-- nothing begins at a text
abbrev pub IsStray : Bool → Text → Type 0
IsStray fresh text = (kind : Lexeme) (bytes rest : Text) → text ≡ bytes ++ rest → Begins fresh kind bytes rest → ⊥

-- why nothing begins at a text: a directive that is none, a literal or a comment that nothing closes, or a byte that
-- begins nothing
abbrev pub stray_at : Bool → Text → Stray
stray_at fresh text =
    if slice_index text 0 == 35 && fresh then stray.BadDirective
    else (if opens fresh text then stray.OpenText else stray.BadByte)
