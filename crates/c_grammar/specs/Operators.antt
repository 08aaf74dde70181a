-- Which operator or word a token is: the spelling, read backwards.
use Rattle.std.specs.Prelude.{ℕ, Option, Some, None, cond}
use denote.Enum.Bare.{sameb}
use Rattle.c_language.specs.contracts.token.Keyword.{the_type as keyword_type}
use Rattle.c_language.specs.declared.token.Keyword.{Keyword}
use Rattle.c_language.specs.declared.token.Keyword.TheVariants as keyword
use Rattle.c_language.specs.declared.token.Punctuator.{Punctuator}
use Rattle.c_language.specs.declared.token.Punctuator.TheVariants as mark
use Rattle.c_language.specs.declared.expr.UnaryOperator.{UnaryOperator}
use Rattle.c_language.specs.declared.expr.UnaryOperator.TheVariants as unary
use Rattle.c_language.specs.declared.expr.BinaryOperator.TheVariants as binary
use Rattle.c_language.specs.declared.expr.StorageClass.{StorageClass}
use Rattle.c_language.specs.declared.expr.StorageClass.TheVariants as class
use Rattle.c_language.specs.declared.expr.Qualifier.{Qualifier}
use Rattle.c_language.specs.declared.expr.Qualifier.TheVariants as qualifier
use Rattle.c_language.specs.declared.expr.TypeWord.{TypeWord}
use Rattle.c_language.specs.declared.expr.TypeWord.TheVariants as word
use Rattle.c_language.specs.declared.expr.AggregateKind.{AggregateKind}
use Rattle.c_language.specs.declared.expr.AggregateKind.TheVariants as aggregate
use Rattle.c_language.specs.declared.expr.ArrayWord.{ArrayWord}
use Rattle.c_language.specs.declared.expr.ArrayWord.TheVariants as array_word
use Rattle.c_language.specs.declared.expr.Specifier.{Specifier}
use Rattle.c_language.specs.declared.expr.Specifier.TheVariants as specifier
use Rattle.c_grammar.specs.declared.operators.Infix.{Infix}
use Rattle.c_grammar.specs.declared.operators.Infix.TheVariants as between
use Rattle.c_grammar.specs.Spelling.{rank_of}

-- before an operand (C99 6.5.3)
abbrev pub unary_of : Punctuator → Option UnaryOperator
unary_of mark.Ampersand = Some unary.Address
unary_of mark.Star = Some unary.Indirection
unary_of mark.Plus = Some unary.Plus
unary_of mark.Minus = Some unary.Minus
unary_of mark.Tilde = Some unary.Complement
unary_of mark.Exclamation = Some unary.Not
unary_of mark.PlusPlus = Some unary.Increment
unary_of mark.MinusMinus = Some unary.Decrement
unary_of _ = None

-- an assignment operator (C99 6.5.16)
abbrev pub assignment_of : Punctuator → Option Infix
assignment_of mark.Equal = Some (between.Assign None)
assignment_of mark.StarEqual = Some (between.Assign (Some binary.Multiply))
assignment_of mark.SlashEqual = Some (between.Assign (Some binary.Divide))
assignment_of mark.PercentEqual = Some (between.Assign (Some binary.Remainder))
assignment_of mark.PlusEqual = Some (between.Assign (Some binary.Add))
assignment_of mark.MinusEqual = Some (between.Assign (Some binary.Subtract))
assignment_of mark.ShiftLeftEqual = Some (between.Assign (Some binary.ShiftLeft))
assignment_of mark.ShiftRightEqual = Some (between.Assign (Some binary.ShiftRight))
assignment_of mark.AmpersandEqual = Some (between.Assign (Some binary.BitAnd))
assignment_of mark.CaretEqual = Some (between.Assign (Some binary.BitXor))
assignment_of mark.BarEqual = Some (between.Assign (Some binary.BitOr))
assignment_of _ = None

-- between two operands
abbrev pub infix_of : Punctuator → Option Infix
infix_of mark.Star = Some (between.Binary binary.Multiply)
infix_of mark.Slash = Some (between.Binary binary.Divide)
infix_of mark.Percent = Some (between.Binary binary.Remainder)
infix_of mark.Plus = Some (between.Binary binary.Add)
infix_of mark.Minus = Some (between.Binary binary.Subtract)
infix_of mark.ShiftLeft = Some (between.Binary binary.ShiftLeft)
infix_of mark.ShiftRight = Some (between.Binary binary.ShiftRight)
infix_of mark.Less = Some (between.Binary binary.Less)
infix_of mark.Greater = Some (between.Binary binary.Greater)
infix_of mark.LessEqual = Some (between.Binary binary.LessEqual)
infix_of mark.GreaterEqual = Some (between.Binary binary.GreaterEqual)
infix_of mark.EqualEqual = Some (between.Binary binary.Equal)
infix_of mark.ExclamationEqual = Some (between.Binary binary.NotEqual)
infix_of mark.Ampersand = Some (between.Binary binary.BitAnd)
infix_of mark.Caret = Some (between.Binary binary.BitXor)
infix_of mark.Bar = Some (between.Binary binary.BitOr)
infix_of mark.AmpersandAmpersand = Some (between.Binary binary.LogicalAnd)
infix_of mark.BarBar = Some (between.Binary binary.LogicalOr)
infix_of k = assignment_of k

-- a type qualifier (C99 6.7.3)
abbrev pub qualifier_of : Keyword → Option Qualifier
qualifier_of keyword.Const = Some qualifier.Const
qualifier_of keyword.Restrict = Some qualifier.Restrict
qualifier_of keyword.Volatile = Some qualifier.Volatile
qualifier_of _ = None

-- a structure or a union (C99 6.7.2.1)
abbrev pub aggregate_of : Keyword → Option AggregateKind
aggregate_of keyword.Struct = Some aggregate.Struct
aggregate_of keyword.Union = Some aggregate.Union
aggregate_of _ = None

-- a storage-class specifier (C99 6.7.1)
abbrev pub class_of : Keyword → Option StorageClass
class_of keyword.Typedef = Some class.Typedef
class_of keyword.Extern = Some class.Extern
class_of keyword.Static = Some class.Static
class_of keyword.Auto = Some class.Auto
class_of keyword.Register = Some class.Register
class_of _ = None

-- a type specifier that is one word (C99 6.7.2)
abbrev pub type_word_of : Keyword → Option TypeWord
type_word_of keyword.Void = Some word.Void
type_word_of keyword.Char = Some word.Char
type_word_of keyword.Short = Some word.Short
type_word_of keyword.Int = Some word.Int
type_word_of keyword.Long = Some word.Long
type_word_of keyword.Float = Some word.Float
type_word_of keyword.Double = Some word.Double
type_word_of keyword.Signed = Some word.Signed
type_word_of keyword.Unsigned = Some word.Unsigned
type_word_of keyword.Bool = Some word.Bool
type_word_of keyword.Complex = Some word.Complex
type_word_of keyword.Imaginary = Some word.Imaginary
type_word_of keyword.Float32 = Some word.Float32
type_word_of keyword.Float64 = Some word.Float64
type_word_of keyword.Float32x = Some word.Float32x
type_word_of keyword.Float64x = Some word.Float64x
type_word_of keyword.Float128 = Some word.Float128
type_word_of keyword.VaList = Some word.VaList
type_word_of _ = None

-- how loosely an operator between two operands binds
abbrev pub infix_rank : Option Infix → ℕ
infix_rank None = 17
infix_rank (Some (between.Binary operator)) = rank_of operator
infix_rank (Some (between.Assign operator)) = 15

-- how loosely the operator binds that a punctuator is behind an operand; 17 where it is none
abbrev pub binding_of : Punctuator → ℕ
binding_of mark.LeftBracket = 1
binding_of mark.LeftParen = 1
binding_of mark.Dot = 1
binding_of mark.Arrow = 1
binding_of mark.PlusPlus = 1
binding_of mark.MinusMinus = 1
binding_of mark.Question = 14
binding_of mark.Comma = 16
binding_of m = infix_rank (infix_of m)

abbrev pub array_qualifier : Option Qualifier → Option ArrayWord
array_qualifier None = None
array_qualifier (Some q) = Some (array_word.Qualifier q)

-- a word between an array declarator's brackets (C99 6.7.5.2)
abbrev pub array_word_of : Keyword → Option ArrayWord
array_word_of keyword.Static = Some array_word.Static
array_word_of k = array_qualifier (qualifier_of k)

abbrev pub type_specifier : ℕ → Option TypeWord → Option Specifier
type_specifier at None = None
type_specifier at (Some w) = Some (specifier.Word at w)

abbrev pub qualified : ℕ → Option Qualifier → Option Specifier → Option Specifier
qualified at None other = other
qualified at (Some q) other = Some (specifier.Qualifier at q)

abbrev pub stored : ℕ → Option StorageClass → Option Specifier → Option Specifier
stored at None other = other
stored at (Some c) other = Some (specifier.Storage at c)

-- the declaration specifier that a keyword is by itself (C99 6.7)
abbrev pub word_specifier : ℕ → Keyword → Option Specifier
word_specifier at k =
    cond (sameb keyword_type k keyword.Inline) (Some (specifier.Inline at)) (stored at (class_of k)
    (qualified at (qualifier_of k) (type_specifier at (type_word_of k))))
