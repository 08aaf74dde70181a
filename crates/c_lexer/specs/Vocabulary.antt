-- The words, punctuators and suffixes of C99, each list in the standard's order, and what GNU C adds.
use Rattle.std.specs.Prelude.{ℕ, ◌==◌, List, [], ◌∷◌, ◌++◌, length, codes, if◌then◌else◌}
use Rattle.c_lexer.specs.Class.{Text}
use Rattle.c_lexer.specs.declared.table.Length.TheVariants as len
use Rattle.c_lexer.specs.declared.table.Reserved.{Reserved}
use Rattle.c_lexer.specs.declared.table.Reserved.TheVariants as word
use Rattle.c_lexer.specs.declared.table.Suffix.{Suffix}
use Rattle.c_lexer.specs.declared.table.Suffix.TheVariants as suffix
use Rattle.c_language.specs.declared.token.IntegerType.{IntegerType}
use Rattle.c_language.specs.declared.token.IntegerType.TheVariants as type
use Rattle.c_language.specs.declared.token.Keyword.{Keyword}
use Rattle.c_language.specs.declared.token.Keyword.TheVariants as keyword
use Rattle.c_language.specs.declared.token.Punctuator.{Punctuator}
use Rattle.c_language.specs.declared.token.Punctuator.TheVariants as mark

-- ---- words

abbrev is_keyword : Text → Keyword → Text × Reserved
is_keyword spelling k = (spelling, word.Keyword k)

-- the keywords (6.4.1)
abbrev pub keywords : List (Text × Reserved)
keywords =
    is_keyword (codes "auto") keyword.Auto
    ∷ is_keyword (codes "break") keyword.Break
    ∷ is_keyword (codes "case") keyword.Case
    ∷ is_keyword (codes "char") keyword.Char
    ∷ is_keyword (codes "const") keyword.Const
    ∷ is_keyword (codes "continue") keyword.Continue
    ∷ is_keyword (codes "default") keyword.Default
    ∷ is_keyword (codes "do") keyword.Do
    ∷ is_keyword (codes "double") keyword.Double
    ∷ is_keyword (codes "else") keyword.Else
    ∷ is_keyword (codes "enum") keyword.Enum
    ∷ is_keyword (codes "extern") keyword.Extern
    ∷ is_keyword (codes "float") keyword.Float
    ∷ is_keyword (codes "for") keyword.For
    ∷ is_keyword (codes "goto") keyword.Goto
    ∷ is_keyword (codes "if") keyword.If
    ∷ is_keyword (codes "inline") keyword.Inline
    ∷ is_keyword (codes "int") keyword.Int
    ∷ is_keyword (codes "long") keyword.Long
    ∷ is_keyword (codes "register") keyword.Register
    ∷ is_keyword (codes "restrict") keyword.Restrict
    ∷ is_keyword (codes "return") keyword.Return
    ∷ is_keyword (codes "short") keyword.Short
    ∷ is_keyword (codes "signed") keyword.Signed
    ∷ is_keyword (codes "sizeof") keyword.Sizeof
    ∷ is_keyword (codes "static") keyword.Static
    ∷ is_keyword (codes "struct") keyword.Struct
    ∷ is_keyword (codes "switch") keyword.Switch
    ∷ is_keyword (codes "typedef") keyword.Typedef
    ∷ is_keyword (codes "union") keyword.Union
    ∷ is_keyword (codes "unsigned") keyword.Unsigned
    ∷ is_keyword (codes "void") keyword.Void
    ∷ is_keyword (codes "volatile") keyword.Volatile
    ∷ is_keyword (codes "while") keyword.While
    ∷ is_keyword (codes "_Bool") keyword.Bool
    ∷ is_keyword (codes "_Complex") keyword.Complex
    ∷ is_keyword (codes "_Imaginary") keyword.Imaginary
    ∷ []

-- the predefined identifier (6.4.2.2)
abbrev pub predefined : List (Text × Reserved)
predefined = (codes "__func__", word.FunctionName) ∷ []

-- GNU C's other spellings of a word: two underscores before it, or before and behind it
abbrev underscored : Text → Keyword → List (Text × Reserved)
underscored bare k =
    is_keyword (codes "__" ++ bare) k ∷ is_keyword (codes "__" ++ bare ++ codes "__") k ∷ []

-- the word that names an assembler symbol, and the keywords that GNU C spells in other ways too
abbrev pub gnu_spellings : List (Text × Reserved)
gnu_spellings =
    is_keyword (codes "asm") keyword.Asm
    ∷ underscored (codes "asm") keyword.Asm
    ++ underscored (codes "const") keyword.Const
    ++ underscored (codes "inline") keyword.Inline
    ++ underscored (codes "restrict") keyword.Restrict
    ++ underscored (codes "signed") keyword.Signed
    ++ underscored (codes "volatile") keyword.Volatile

-- the type names of floating kind (TS 18661-3), and the type of a list of variable arguments
abbrev pub type_words : List (Text × Reserved)
type_words =
    is_keyword (codes "_Float32") keyword.Float32
    ∷ is_keyword (codes "_Float64") keyword.Float64
    ∷ is_keyword (codes "_Float32x") keyword.Float32x
    ∷ is_keyword (codes "_Float64x") keyword.Float64x
    ∷ is_keyword (codes "_Float128") keyword.Float128
    ∷ is_keyword (codes "__builtin_va_list") keyword.VaList
    ∷ []

-- words that change nothing, and are dropped
abbrev pub dropped_words : List (Text × Reserved)
dropped_words = (codes "__extension__", word.Dropped) ∷ (codes "_Noreturn", word.Dropped) ∷ []

-- all words that aren't identifiers
abbrev pub reserved_words : List (Text × Reserved)
reserved_words = keywords ++ predefined ++ gnu_spellings ++ type_words ++ dropped_words

-- ---- punctuators

-- the punctuators (6.4.6), in the order of its lines, but for `%:` and `%:%:`
abbrev pub punctuators : List (Text × Punctuator)
punctuators =
    (codes "[", mark.LeftBracket)
    ∷ (codes "]", mark.RightBracket)
    ∷ (codes "(", mark.LeftParen)
    ∷ (codes ")", mark.RightParen)
    ∷ (codes "{", mark.LeftBrace)
    ∷ (codes "}", mark.RightBrace)
    ∷ (codes ".", mark.Dot)
    ∷ (codes "->", mark.Arrow)
    ∷ (codes "++", mark.PlusPlus)
    ∷ (codes "--", mark.MinusMinus)
    ∷ (codes "&", mark.Ampersand)
    ∷ (codes "*", mark.Star)
    ∷ (codes "+", mark.Plus)
    ∷ (codes "-", mark.Minus)
    ∷ (codes "~", mark.Tilde)
    ∷ (codes "!", mark.Exclamation)
    ∷ (codes "/", mark.Slash)
    ∷ (codes "%", mark.Percent)
    ∷ (codes "<<", mark.ShiftLeft)
    ∷ (codes ">>", mark.ShiftRight)
    ∷ (codes "<", mark.Less)
    ∷ (codes ">", mark.Greater)
    ∷ (codes "<=", mark.LessEqual)
    ∷ (codes ">=", mark.GreaterEqual)
    ∷ (codes "==", mark.EqualEqual)
    ∷ (codes "!=", mark.ExclamationEqual)
    ∷ (codes "^", mark.Caret)
    ∷ (codes "|", mark.Bar)
    ∷ (codes "&&", mark.AmpersandAmpersand)
    ∷ (codes "||", mark.BarBar)
    ∷ (codes "?", mark.Question)
    ∷ (codes ":", mark.Colon)
    ∷ (codes ";", mark.Semicolon)
    ∷ (codes "...", mark.Ellipsis)
    ∷ (codes "=", mark.Equal)
    ∷ (codes "*=", mark.StarEqual)
    ∷ (codes "/=", mark.SlashEqual)
    ∷ (codes "%=", mark.PercentEqual)
    ∷ (codes "+=", mark.PlusEqual)
    ∷ (codes "-=", mark.MinusEqual)
    ∷ (codes "<<=", mark.ShiftLeftEqual)
    ∷ (codes ">>=", mark.ShiftRightEqual)
    ∷ (codes "&=", mark.AmpersandEqual)
    ∷ (codes "^=", mark.CaretEqual)
    ∷ (codes "|=", mark.BarEqual)
    ∷ (codes ",", mark.Comma)
    ∷ (codes "#", mark.Hash)
    ∷ (codes "##", mark.HashHash)
    ∷ (codes "<:", mark.LeftBracket)
    ∷ (codes ":>", mark.RightBracket)
    ∷ (codes "<%", mark.LeftBrace)
    ∷ (codes "%>", mark.RightBrace)
    ∷ []

-- those of so many bytes, in their order
abbrev pub of_length : ℕ → List (Text × Punctuator) → List (Text × Punctuator)
of_length n [] = []
of_length n (row ∷ rows) = if length row.0 == n then row ∷ of_length n rows else of_length n rows

-- those of three bytes, of two and of one
abbrev pub longest_first : List (Text × Punctuator) → List (Text × Punctuator)
longest_first rows = of_length 3 rows ++ (of_length 2 rows ++ of_length 1 rows)

-- ---- integer constants (6.4.4.1)

abbrev each : List Text → Suffix → List (Text × Suffix)
each [] s = []
each (x ∷ xs) s = (x, s) ∷ each xs s

-- one of the first parts, and one of the second parts behind it
abbrev both : List Text → List Text → List Text
both [] ys = []
both (x ∷ xs) ys = behind x ys ++ both xs ys
  where
    behind : Text → List Text → List Text
    behind x [] = []
    behind x (y ∷ ys) = (x ++ y) ∷ behind x ys

abbrev unsigned_suffix : List Text
unsigned_suffix = codes "u" ∷ codes "U" ∷ []

abbrev long_suffix : List Text
long_suffix = codes "l" ∷ codes "L" ∷ []

abbrev long_long_suffix : List Text
long_long_suffix = codes "ll" ∷ codes "LL" ∷ []

-- no suffix, or an unsigned suffix, a long suffix or a long-long suffix, or an unsigned suffix before or behind one of
-- the other two
abbrev pub suffixes : List (Text × Suffix)
suffixes =
    (codes "", suffix.Signed len.Plain)
    ∷ each unsigned_suffix (suffix.Unsigned len.Plain)
    ++ each (both unsigned_suffix long_suffix) (suffix.Unsigned len.Long)
    ++ each (both unsigned_suffix long_long_suffix) (suffix.Unsigned len.LongLong)
    ++ each long_suffix (suffix.Signed len.Long)
    ++ each (both long_suffix unsigned_suffix) (suffix.Unsigned len.Long)
    ++ each long_long_suffix (suffix.Signed len.LongLong)
    ++ each (both long_long_suffix unsigned_suffix) (suffix.Unsigned len.LongLong)

-- The types that a constant may have, in the order of the standard's table: a decimal constant without an unsigned
-- suffix, one of another base without it, and any constant with it. A long suffix leaves out int and unsigned, and a
-- long-long suffix long and unsigned long too.
abbrev pub decimal_types : List IntegerType
decimal_types = type.Int ∷ type.Long ∷ type.LongLong ∷ []

abbrev pub other_types : List IntegerType
other_types =
    type.Int ∷ type.Unsigned ∷ type.Long ∷ type.UnsignedLong ∷ type.LongLong ∷ type.UnsignedLongLong ∷ []

abbrev pub unsigned_types : List IntegerType
unsigned_types = type.Unsigned ∷ type.UnsignedLong ∷ type.UnsignedLongLong ∷ []
