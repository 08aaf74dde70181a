-- What the pieces of a source mean.
use Rattle.std.specs.Prelude.{ℕ, ◌+◌, ◌-◌, [], ◌∷◌, length, slice_range, Option, Some, None, Result, Ok, Err}
use Rattle.std.specs.Int.{cast_signed, w8}
use Rattle.c_lexer.specs.Class.{Text}
use Rattle.c_lexer.specs.Tables.{reserved}
use Rattle.c_lexer.specs.Number.{number}
use Rattle.c_lexer.specs.Literal.{unescape}
use Rattle.c_lexer.specs.Division.{Element}
use Rattle.c_lexer.specs.declared.fault.LexFault.{LexFault}
use Rattle.c_lexer.specs.declared.fault.LexFault.TheVariants as fault
use Rattle.c_lexer.specs.declared.number.NumberFault.{NumberFault}
use Rattle.c_lexer.specs.declared.number.NumberFault.TheVariants as number_fault
use Rattle.c_lexer.specs.declared.number.Numeric.{Numeric}
use Rattle.c_lexer.specs.declared.number.Numeric.TheVariants as numeric
use Rattle.c_lexer.specs.declared.piece.Lexeme.TheVariants as lexeme
use Rattle.c_lexer.specs.declared.piece.Stray.{Stray}
use Rattle.c_lexer.specs.declared.piece.Stray.TheVariants as stray
use Rattle.c_lexer.specs.declared.table.Reserved.{Reserved}
use Rattle.c_lexer.specs.declared.table.Reserved.TheVariants as word
use Rattle.c_language.specs.declared.token.TokenKind.{TokenKind}
use Rattle.c_language.specs.declared.token.TokenKind.TheVariants as kind
use Rattle.c_lexer.specs.declared.words.Meant.{Meant}
use Rattle.c_lexer.specs.declared.words.Meant.TheVariants as found

-- what a piece means that begins at an offset: a token's kind, nothing, or a fault
abbrev pub Meaning : Type 0
Meaning = Result (Option TokenKind) LexFault

abbrev pub reserved_kind : Text → Option Reserved → Option TokenKind
reserved_kind bytes None = Some (kind.Identifier bytes)
reserved_kind bytes (Some (word.Keyword k)) = Some (kind.Keyword k)
reserved_kind bytes (Some word.FunctionName) = Some kind.FunctionName
reserved_kind bytes (Some word.Dropped) = None

-- the same of what was found
abbrev pub meant_kind : Meant → Option TokenKind
meant_kind (found.Name name) = Some (kind.Identifier name)
meant_kind (found.Reserved (word.Keyword k)) = Some (kind.Keyword k)
meant_kind (found.Reserved word.FunctionName) = Some kind.FunctionName
meant_kind (found.Reserved word.Dropped) = None

abbrev pub word_kind : Text → Option TokenKind
word_kind bytes = reserved_kind bytes (reserved bytes)

abbrev pub number_kind : ℕ → Result Numeric NumberFault → Meaning
number_kind at (Ok numeric.Floating) = Ok (Some kind.Floating)
number_kind at (Ok (numeric.Integer c)) = Ok (Some (kind.Integer c))
number_kind at (Err number_fault.Wide) = Err (fault.WideNumber at)
number_kind at (Err number_fault.Bad) = Err (fault.BadConstant at)

-- a character constant has one character, whose value is that of a plain char, which is signed (C99 6.4.4.4)
abbrev pub character_kind : ℕ → Result Text LexFault → Meaning
character_kind at (Err f) = Err f
character_kind at (Ok []) = Err (fault.BadConstant at)
character_kind at (Ok (b ∷ [])) = Ok (Some (kind.Character (cast_signed w8 b)))
character_kind at (Ok (b ∷ c ∷ more)) = Err (fault.BadConstant at)

abbrev pub string_kind : Result Text LexFault → Meaning
string_kind (Err f) = Err f
string_kind (Ok bytes) = Ok (Some (kind.StringLiteral bytes))

abbrev pub stray_fault : ℕ → Stray → LexFault
stray_fault at stray.BadByte = fault.BadByte at
stray_fault at stray.OpenText = fault.OpenText at
stray_fault at stray.BadDirective = fault.BadDirective at

-- what stands between the quotes of a literal
abbrev pub between_quotes : Text → Text
between_quotes bytes = slice_range bytes 1 (length bytes - 1)

unfoldable pub meaning : ℕ → Element → Meaning
meaning at (lexeme.Blank, bytes) = Ok None
meaning at (lexeme.Newline, bytes) = Ok None
meaning at (lexeme.Comment, bytes) = Ok None
meaning at (lexeme.Marker line from to, bytes) = Ok None
meaning at (lexeme.Ignored, bytes) = Ok None
meaning at (lexeme.Word, bytes) = Ok (word_kind bytes)
meaning at (lexeme.Number, bytes) = number_kind at (number bytes)
meaning at (lexeme.Character, bytes) = character_kind at (unescape 0 (at + 1) (between_quotes bytes))
meaning at (lexeme.Text, bytes) = string_kind (unescape 0 (at + 1) (between_quotes bytes))
meaning at (lexeme.WideCharacter, bytes) = Ok (Some kind.WideCharacter)
meaning at (lexeme.WideText, bytes) = Ok (Some kind.WideString)
meaning at (lexeme.Punctuator p, bytes) = Ok (Some (kind.Punctuator p))
meaning at (lexeme.Stray s, bytes) = Err (stray_fault at s)
