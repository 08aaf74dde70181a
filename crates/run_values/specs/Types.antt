-- The types and operators of C by which the machine works for those of the core.
use Rattle.std.specs.Prelude.{ℕ, Bool, true, false, Option, Some, None}
use Rattle.plain_data.specs.declared.width.Width.{Width}
use Rattle.plain_data.specs.declared.width.Width.TheVariants as w
use Rattle.c_language.specs.declared.expr.BinaryOperator.{BinaryOperator}
use Rattle.c_language.specs.declared.expr.BinaryOperator.TheVariants as o
use Rattle.c_language.specs.declared.class.Class.{Class}
use Rattle.c_language.specs.declared.class.Class.TheVariants as class
use Rattle.c_language.specs.declared.ctype.IntegerKind.{IntegerKind}
use Rattle.c_language.specs.declared.ctype.IntegerKind.TheVariants as k
use Rattle.core_tree.specs.declared.types.Arithmetic.{Arithmetic}
use Rattle.core_tree.specs.declared.types.Arithmetic.TheVariants as a
use Rattle.core_tree.specs.declared.types.ValueType.{ValueType}
use Rattle.core_tree.specs.declared.types.ValueType.TheVariants as v
use Rattle.core_tree.specs.declared.types.WordType.{WordType}

-- an integer type of this width and sign
abbrev pub kind_by : Width → Bool → IntegerKind
kind_by w.W8 true = k.SignedChar
kind_by w.W8 false = k.UnsignedChar
kind_by w.W16 true = k.Short
kind_by w.W16 false = k.UnsignedShort
kind_by w.W32 true = k.Int
kind_by w.W32 false = k.UnsignedInt
kind_by w.W64 true = k.Long
kind_by w.W64 false = k.UnsignedLong

abbrev pub kind_as : WordType → IntegerKind
kind_as t = kind_by t.width t.is_signed

-- a class whose values are those of the type, in the bytes that the size gives where the class has none of its own
abbrev pub class_as : ValueType → Class
class_as v.Void = class.Void
class_as v.Truth = class.Integer k.Bool
class_as (v.Word t) = class.Integer (kind_as t)
class_as v.Pointer = class.Pointer
class_as (v.Block bytes) = class.Aggregate 0

abbrev pub size_as : ValueType → Option ℕ
size_as v.Void = None
size_as v.Truth = None
size_as (v.Word t) = None
size_as v.Pointer = None
size_as (v.Block bytes) = Some bytes

abbrev pub operator_as : Arithmetic → BinaryOperator
operator_as a.Multiply = o.Multiply
operator_as a.Divide = o.Divide
operator_as a.Remainder = o.Remainder
operator_as a.Add = o.Add
operator_as a.Subtract = o.Subtract
operator_as a.ShiftLeft = o.ShiftLeft
operator_as a.ShiftRight = o.ShiftRight
operator_as a.Less = o.Less
operator_as a.Greater = o.Greater
operator_as a.LessEqual = o.LessEqual
operator_as a.GreaterEqual = o.GreaterEqual
operator_as a.Equal = o.Equal
operator_as a.NotEqual = o.NotEqual
operator_as a.BitAnd = o.BitAnd
operator_as a.BitXor = o.BitXor
operator_as a.BitOr = o.BitOr
