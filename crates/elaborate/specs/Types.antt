-- Types and operators of the core for those of C.
use Rattle.std.specs.Prelude.{ℕ, Option, Some, None}
use Rattle.c_language.specs.declared.expr.BinaryOperator.{BinaryOperator}
use Rattle.c_language.specs.declared.expr.BinaryOperator.TheVariants as o
use Rattle.c_language.specs.declared.class.Class.{Class}
use Rattle.c_language.specs.declared.class.Class.TheVariants as class
use Rattle.c_language.specs.declared.ctype.IntegerKind.{IntegerKind}
use Rattle.c_language.specs.declared.ctype.IntegerKind.TheVariants as k
use Rattle.c_language.specs.Integers.{width_of, is_signed, promoted, usual}
use Rattle.core_tree.specs.declared.types.Arithmetic.{Arithmetic}
use Rattle.core_tree.specs.declared.types.Arithmetic.TheVariants as a
use Rattle.core_tree.specs.declared.types.ValueType.{ValueType}
use Rattle.core_tree.specs.declared.types.ValueType.TheVariants as v
use Rattle.core_tree.specs.declared.types.WordType.{WordType}

abbrev pub word_type : IntegerKind → WordType
word_type kind = record { width = width_of kind; is_signed = is_signed kind }

abbrev pub integer_type : IntegerKind → ValueType
integer_type k.Bool = v.Truth
integer_type kind = v.Word (word_type kind)

-- what has no value of its own is taken by its bytes
abbrev pub value_type : Class → ℕ → ValueType
value_type class.Void bytes = v.Void
value_type (class.Integer kind) bytes = integer_type kind
value_type class.Pointer bytes = v.Pointer
value_type class.Floating bytes = v.Block bytes
value_type class.Array bytes = v.Block bytes
value_type class.Function bytes = v.Block bytes
value_type (class.Aggregate n) bytes = v.Block bytes
value_type class.Opaque bytes = v.Block bytes

abbrev pub arithmetic : BinaryOperator → Option Arithmetic
arithmetic o.Multiply = Some a.Multiply
arithmetic o.Divide = Some a.Divide
arithmetic o.Remainder = Some a.Remainder
arithmetic o.Add = Some a.Add
arithmetic o.Subtract = Some a.Subtract
arithmetic o.ShiftLeft = Some a.ShiftLeft
arithmetic o.ShiftRight = Some a.ShiftRight
arithmetic o.Less = Some a.Less
arithmetic o.Greater = Some a.Greater
arithmetic o.LessEqual = Some a.LessEqual
arithmetic o.GreaterEqual = Some a.GreaterEqual
arithmetic o.Equal = Some a.Equal
arithmetic o.NotEqual = Some a.NotEqual
arithmetic o.BitAnd = Some a.BitAnd
arithmetic o.BitXor = Some a.BitXor
arithmetic o.BitOr = Some a.BitOr
arithmetic o.LogicalAnd = None
arithmetic o.LogicalOr = None

-- the type in which a binary operator works: that of the usual conversions, of a shift the promoted left operand's
abbrev pub working : BinaryOperator → IntegerKind → IntegerKind → IntegerKind
working o.ShiftLeft a b = promoted a
working o.ShiftRight a b = promoted a
working _ a b = usual a b
