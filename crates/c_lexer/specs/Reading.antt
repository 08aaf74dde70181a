-- The tokens that a source spells, or its first fault.
use Rattle.std.specs.Prelude.{◌≡◌, ◌≢◌, ℕ, ◌+◌, Bool, true, ◌⊎◌, List, [], ◌∷◌, ◌++◌, length, slice_range, Option, Some}
use Rattle.std.specs.Prelude.{None, Result, Ok, Err, IsOk}
use Rattle.c_lexer.specs.Class.{Text}
use Rattle.c_lexer.specs.Division.{Element, divide, fresh_after}
use Rattle.c_lexer.specs.Spelling.{Divides, IsLongest, IsStray, stray_at}
use Rattle.c_lexer.specs.Places.{beginning, spot_after}
use Rattle.c_lexer.specs.Meaning.{Meaning, meaning, stray_fault}
use Rattle.c_lexer.specs.Attributes.{without_attributes}
use Rattle.c_lexer.specs.declared.fault.LexFault.{LexFault}
use Rattle.c_lexer.specs.declared.piece.Lexeme.{Lexeme}
use Rattle.c_lexer.specs.declared.piece.Lexeme.TheVariants as lexeme
use Rattle.c_language.specs.declared.token.Place.{Place}
use Rattle.c_language.specs.declared.token.Spot.{Spot}
use Rattle.c_language.specs.declared.token.Token.{Token}
use Rattle.c_language.specs.declared.token.TokenKind.{TokenKind}
use Rattle.c_language.specs.declared.token.Tokens.{Tokens}

-- file names and tokens, or a fault
abbrev pub Reading : Type 0
Reading = Result Tokens LexFault

-- the file that a piece names
abbrev pub named_by : Element → List Text
named_by (lexeme.Marker line from to, bytes) = slice_range bytes from to ∷ []
named_by _ = []

-- the token of a piece, if it is one, which stands at a place and takes the bytes from `start` to before `end`
abbrev pub token_at : Place → ℕ → ℕ → Option TokenKind → List Token
token_at place start end None = []
token_at place start end (Some k) = record { kind = k; start = start; end = end; place = place } ∷ []

abbrev pub place_at : ℕ → Spot → Place
place_at file s = record { file = file; line = s.line; column = s.column }

-- what one piece gives, by what it means
abbrev pub given : ℕ → ℕ → Spot → Element → Meaning → Reading
given file at s e (Err f) = Err f
given file at s e (Ok k) =
    Ok (record { files = named_by e; tokens = token_at (place_at file s) at (at + length e.1) k })

-- the first fault, or all names and tokens
abbrev pub followed_by : Reading → Reading → Reading
followed_by (Err f) more = Err f
followed_by (Ok t) (Err f) = Err f
followed_by (Ok t) (Ok u) = Ok (record { files = t.files ++ u.files; tokens = t.tokens ++ u.tokens })

-- what pieces give that begin at an offset and a place, in the file of this number
abbrev pub read : ℕ → ℕ → Spot → List Element → Reading
read file at s [] = Ok (record { files = []; tokens = [] })
read file at s (e ∷ es) =
    followed_by (given file at s e (meaning at e))
    (read (file + length (named_by e)) (at + length e.1) (spot_after s e) es)

abbrev pub finished : Text → Reading → Reading
finished name (Err f) = Err f
finished name (Ok t) = Ok (record { files = name ∷ t.files; tokens = without_attributes t.tokens })

-- the names of a source's files, and its tokens; or its first fault
unfoldable pub lexed : Text → Text → Reading
lexed name bytes = finished name (read 0 0 (beginning name) (divide 0 true bytes))

-- a source spells these tokens, under these file names
pub record Spells (name bytes : Text) (tokens : Tokens) : Type 0 where
  pub division : List Element
  pub divides : Divides true bytes division
  pub reads : finished name (read 0 0 (beginning name) division) ≡ Ok tokens

-- A fault stands at an offset, where some text begins. Nothing begins there, or the longest piece that does means
-- nothing.
abbrev pub FaultAt : Bool → ℕ → Text → LexFault → Type 0
FaultAt fresh at text f =
    ((text ≢ []) × IsStray fresh text × (f ≡ stray_fault at (stray_at fresh text)))
    ⊎ ((kind : Lexeme) × (bytes : Text) × (rest : Text) × IsLongest fresh text kind bytes rest
    × (meaning at (kind, bytes) ≡ Err f))

-- the first fault of a text comes after some pieces, each the longest at its place, which all mean something
abbrev pub FaultAfter : List Element → Bool → ℕ → Text → LexFault → Type 0
FaultAfter [] fresh at text f = FaultAt fresh at text f
FaultAfter (e ∷ es) fresh at text f =
    (rest : Text) × IsLongest fresh text e.0 e.1 rest × IsOk (meaning at e)
    × FaultAfter es (fresh_after fresh e.0) (at + length e.1) rest f

-- the first fault of a source
pub record IsFirstFault (bytes : Text) (f : LexFault) : Type 0 where
  pub before : List Element
  pub stands : FaultAfter before true 0 bytes f
