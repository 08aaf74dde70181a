-- A walk over a source.
use Rattle.std.specs.Prelude.{◌≡◌, ℕ, ◌+◌, ◌-◌, ◌*◌, ◌^◌, ◌≤◌, List, ◌++◌, length, take, drop, Ok, Err}
use Rattle.c_lexer.specs.Class.{Text}
use Rattle.c_lexer.specs.Piece.{piece_at}
use Rattle.c_lexer.specs.Division.{fresh_after, divide}
use Rattle.c_lexer.specs.Places.{spot_after}
use Rattle.c_lexer.specs.Attributes.{keep}
use Rattle.c_lexer.specs.Words.{IsRight}
use Rattle.c_lexer.specs.Collected.{collected, IsNested}
use Rattle.c_lexer.specs.Reading.{Reading, read}
use Rattle.c_lexer.specs.declared.attribute.Collected.{Collected}
use Rattle.c_lexer.specs.declared.lexer.Lexer.{Lexer}
use Rattle.c_lexer.specs.declared.piece.Lexeme.{Lexeme}
use Rattle.c_language.specs.declared.token.Spot.{Spot}
use Rattle.c_lexer.specs.declared.walk.Here.{Here}
use Rattle.c_lexer.specs.declared.walk.Walk.{Walk}

abbrev pub spot : Text → ℕ → ℕ → Spot
spot file line column = record { file = file; line = line; column = column }

abbrev pub spot_of : Here → Spot
spot_of here = spot here.file.now here.line here.column

-- lines and columns are no larger than what is passed allows
pub record IsSmall (w : Walk) : Type 0 where
  pub at : w.at + length w.rest.now ≤ 8388608
  pub line : w.here.line ≤ 2 * 10 ^ 9 + w.at
  pub column : w.here.column ≤ w.at + 1

-- the next piece is taken
pub record IsNext (old : Walk) (lexeme : Lexeme) (bytes : Text) (new : Walk) : Type 0 where
  pub lexeme_is : lexeme ≡ (piece_at old.fresh old.rest.now).0
  pub bytes_are : bytes ≡ take (piece_at old.fresh old.rest.now).1 old.rest.now
  pub rest_is : new.rest.now ≡ drop (piece_at old.fresh old.rest.now).1 old.rest.now
  pub some : 1 ≤ (piece_at old.fresh old.rest.now).1
  pub within : (piece_at old.fresh old.rest.now).1 ≤ length old.rest.now
  pub at_is : new.at ≡ old.at + length bytes
  pub fresh_is : new.fresh ≡ fresh_after old.fresh lexeme
  pub here_is : spot_of new.here ≡ spot_after (spot_of old.here) (lexeme, bytes)

-- ---- names and tokens on the way

-- the names and tokens so far, with those of the rest
abbrev pub completed : List Text → Collected → Reading → Reading
completed files c (Err f) = Err f
completed files c (Ok t) = Ok (record { files = files ++ t.files; tokens = collected c (keep t.tokens) })

-- what the whole source gives, as a lexer stands
abbrev pub whole : Lexer → Reading
whole l =
    completed l.files.items l.collected
    (read (length l.files.items - 1) l.walk.at (spot_of l.walk.here) (divide 0 l.walk.fresh l.walk.rest.now))

pub record IsValid (l : Lexer) : Type 0 where
  pub small : IsSmall l.walk
  pub nested : IsNested l.collected
  pub right : IsRight l.words
  pub some : 1 ≤ length l.files.items
  pub few : length l.files.items ≤ l.walk.at + 1
