-- How operators and words are spelled.
use Rattle.std.specs.Prelude.{ℕ, Option, Some, None}
use Rattle.c_language.specs.declared.token.Keyword.{Keyword}
use Rattle.c_language.specs.declared.token.Keyword.TheVariants as keyword
use Rattle.c_language.specs.declared.token.Punctuator.{Punctuator}
use Rattle.c_language.specs.declared.token.Punctuator.TheVariants as mark
use Rattle.c_language.specs.declared.expr.UnaryOperator.{UnaryOperator}
use Rattle.c_language.specs.declared.expr.UnaryOperator.TheVariants as unary
use Rattle.c_language.specs.declared.expr.PostfixOperator.{PostfixOperator}
use Rattle.c_language.specs.declared.expr.PostfixOperator.TheVariants as postfix
use Rattle.c_language.specs.declared.expr.BinaryOperator.{BinaryOperator}
use Rattle.c_language.specs.declared.expr.BinaryOperator.TheVariants as binary
use Rattle.c_language.specs.declared.expr.StorageClass.{StorageClass}
use Rattle.c_language.specs.declared.expr.StorageClass.TheVariants as class
use Rattle.c_language.specs.declared.expr.Qualifier.{Qualifier}
use Rattle.c_language.specs.declared.expr.Qualifier.TheVariants as qualifier
use Rattle.c_language.specs.declared.expr.TypeWord.{TypeWord}
use Rattle.c_language.specs.declared.expr.TypeWord.TheVariants as word
use Rattle.c_language.specs.declared.expr.AggregateKind.{AggregateKind}
use Rattle.c_language.specs.declared.expr.AggregateKind.TheVariants as aggregate
use Rattle.c_language.specs.declared.expr.ArrayWord.{ArrayWord}
use Rattle.c_language.specs.declared.expr.ArrayWord.TheVariants as array_word

abbrev pub unary_mark : UnaryOperator → Punctuator
unary_mark unary.Address = mark.Ampersand
unary_mark unary.Indirection = mark.Star
unary_mark unary.Plus = mark.Plus
unary_mark unary.Minus = mark.Minus
unary_mark unary.Complement = mark.Tilde
unary_mark unary.Not = mark.Exclamation
unary_mark unary.Increment = mark.PlusPlus
unary_mark unary.Decrement = mark.MinusMinus

-- how loosely the operand of a unary operator may bind (C99 6.5.3)
abbrev pub operand_rank : UnaryOperator → ℕ
operand_rank unary.Increment = 2
operand_rank unary.Decrement = 2
operand_rank _ = 3

abbrev pub postfix_mark : PostfixOperator → Punctuator
postfix_mark postfix.Increment = mark.PlusPlus
postfix_mark postfix.Decrement = mark.MinusMinus

abbrev pub binary_mark : BinaryOperator → Punctuator
binary_mark binary.Multiply = mark.Star
binary_mark binary.Divide = mark.Slash
binary_mark binary.Remainder = mark.Percent
binary_mark binary.Add = mark.Plus
binary_mark binary.Subtract = mark.Minus
binary_mark binary.ShiftLeft = mark.ShiftLeft
binary_mark binary.ShiftRight = mark.ShiftRight
binary_mark binary.Less = mark.Less
binary_mark binary.Greater = mark.Greater
binary_mark binary.LessEqual = mark.LessEqual
binary_mark binary.GreaterEqual = mark.GreaterEqual
binary_mark binary.Equal = mark.EqualEqual
binary_mark binary.NotEqual = mark.ExclamationEqual
binary_mark binary.BitAnd = mark.Ampersand
binary_mark binary.BitXor = mark.Caret
binary_mark binary.BitOr = mark.Bar
binary_mark binary.LogicalAnd = mark.AmpersandAmpersand
binary_mark binary.LogicalOr = mark.BarBar

-- how loosely an operator binds: primary 0, postfix 1, unary 2, cast 3, `*` 4 .. `||` 13, `?:` 14, `=` 15, `,` 16
abbrev pub rank_of : BinaryOperator → ℕ
rank_of binary.Multiply = 4
rank_of binary.Divide = 4
rank_of binary.Remainder = 4
rank_of binary.Add = 5
rank_of binary.Subtract = 5
rank_of binary.ShiftLeft = 6
rank_of binary.ShiftRight = 6
rank_of binary.Less = 7
rank_of binary.Greater = 7
rank_of binary.LessEqual = 7
rank_of binary.GreaterEqual = 7
rank_of binary.Equal = 8
rank_of binary.NotEqual = 8
rank_of binary.BitAnd = 9
rank_of binary.BitXor = 10
rank_of binary.BitOr = 11
rank_of binary.LogicalAnd = 12
rank_of binary.LogicalOr = 13

-- `=`, and the operators of compound assignment (C99 6.5.16); no other operator has one
abbrev pub assign_mark : Option BinaryOperator → Option Punctuator
assign_mark None = Some mark.Equal
assign_mark (Some binary.Multiply) = Some mark.StarEqual
assign_mark (Some binary.Divide) = Some mark.SlashEqual
assign_mark (Some binary.Remainder) = Some mark.PercentEqual
assign_mark (Some binary.Add) = Some mark.PlusEqual
assign_mark (Some binary.Subtract) = Some mark.MinusEqual
assign_mark (Some binary.ShiftLeft) = Some mark.ShiftLeftEqual
assign_mark (Some binary.ShiftRight) = Some mark.ShiftRightEqual
assign_mark (Some binary.BitAnd) = Some mark.AmpersandEqual
assign_mark (Some binary.BitXor) = Some mark.CaretEqual
assign_mark (Some binary.BitOr) = Some mark.BarEqual
assign_mark _ = None

abbrev pub class_keyword : StorageClass → Keyword
class_keyword class.Typedef = keyword.Typedef
class_keyword class.Extern = keyword.Extern
class_keyword class.Static = keyword.Static
class_keyword class.Auto = keyword.Auto
class_keyword class.Register = keyword.Register

abbrev pub qualifier_keyword : Qualifier → Keyword
qualifier_keyword qualifier.Const = keyword.Const
qualifier_keyword qualifier.Restrict = keyword.Restrict
qualifier_keyword qualifier.Volatile = keyword.Volatile

abbrev pub word_keyword : TypeWord → Keyword
word_keyword word.Void = keyword.Void
word_keyword word.Char = keyword.Char
word_keyword word.Short = keyword.Short
word_keyword word.Int = keyword.Int
word_keyword word.Long = keyword.Long
word_keyword word.Float = keyword.Float
word_keyword word.Double = keyword.Double
word_keyword word.Signed = keyword.Signed
word_keyword word.Unsigned = keyword.Unsigned
word_keyword word.Bool = keyword.Bool
word_keyword word.Complex = keyword.Complex
word_keyword word.Imaginary = keyword.Imaginary
word_keyword word.Float32 = keyword.Float32
word_keyword word.Float64 = keyword.Float64
word_keyword word.Float32x = keyword.Float32x
word_keyword word.Float64x = keyword.Float64x
word_keyword word.Float128 = keyword.Float128
word_keyword word.VaList = keyword.VaList

abbrev pub aggregate_keyword : AggregateKind → Keyword
aggregate_keyword aggregate.Struct = keyword.Struct
aggregate_keyword aggregate.Union = keyword.Union

abbrev pub array_word_keyword : ArrayWord → Keyword
array_word_keyword (array_word.Qualifier q) = qualifier_keyword q
array_word_keyword array_word.Static = keyword.Static
