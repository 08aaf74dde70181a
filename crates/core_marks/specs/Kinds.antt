-- The kinds of undefined behaviour that operators can have, whatever their operands (C99 6.5).
use Rattle.std.specs.Prelude.{Bool, true, false, cond, List, [], ◌∷◌, ◌++◌}
use Rattle.plain_data.specs.declared.run.Undefined.{Undefined}
use Rattle.plain_data.specs.declared.run.Undefined.TheVariants.{Overflow, ZeroDivisor, Shift, PointerRange, PointerOrder}
use Rattle.core_tree.specs.declared.types.Arithmetic.{Arithmetic}
use Rattle.core_tree.specs.declared.types.Arithmetic.TheVariants as o
use Rattle.core_tree.specs.declared.types.Operator.{Operator}
use Rattle.core_tree.specs.declared.types.Operator.TheVariants as op
use Rattle.core_tree.specs.declared.types.Turning.{Turning}
use Rattle.core_tree.specs.declared.types.Turning.TheVariants as turn
use Rattle.core_tree.specs.declared.types.WordType.{WordType}

abbrev pub only : Undefined → List Undefined
only kind = kind ∷ []

-- a constant expression has none
abbrev pub unless : Bool → List Undefined → List Undefined
unless is_constant kinds = cond is_constant [] kinds

-- a signed result may leave its type; an unsigned one is taken modulo 2^N (C99 6.5p5, 6.2.5p9)
abbrev pub overflow_kinds : WordType → List Undefined
overflow_kinds t = cond t.is_signed (only Overflow) []

-- C99 6.5.5p5, p6
abbrev pub division_kinds : WordType → List Undefined
division_kinds t = overflow_kinds t ++ only ZeroDivisor

-- in an integer type (C99 6.5.5 to 6.5.12)
abbrev pub arithmetic_kinds : Arithmetic → WordType → List Undefined
arithmetic_kinds o.Multiply t = overflow_kinds t
arithmetic_kinds o.Divide t = division_kinds t
arithmetic_kinds o.Remainder t = division_kinds t
arithmetic_kinds o.Add t = overflow_kinds t
arithmetic_kinds o.Subtract t = overflow_kinds t
arithmetic_kinds o.ShiftLeft t = only Shift
arithmetic_kinds o.ShiftRight t = only Shift
arithmetic_kinds o.Less t = []
arithmetic_kinds o.Greater t = []
arithmetic_kinds o.LessEqual t = []
arithmetic_kinds o.GreaterEqual t = []
arithmetic_kinds o.Equal t = []
arithmetic_kinds o.NotEqual t = []
arithmetic_kinds o.BitAnd t = []
arithmetic_kinds o.BitXor t = []
arithmetic_kinds o.BitOr t = []

-- pointers are moved (C99 6.5.6p8), subtracted (C99 6.5.6p9) and put in order (C99 6.5.8p5)
abbrev pub operator_kinds : Operator → List Undefined
operator_kinds (op.Numbers o t) = arithmetic_kinds o t
operator_kinds (op.Forward size) = only PointerRange
operator_kinds (op.ForwardBy size) = only PointerRange
operator_kinds (op.Back size) = only PointerRange
operator_kinds (op.Distance size) = only PointerOrder
operator_kinds (op.Order r) = only PointerOrder
operator_kinds op.Same = []
operator_kinds op.Different = []

-- C99 6.5.3.3p3
abbrev pub turning_kinds : Turning → WordType → List Undefined
turning_kinds turn.Plus t = []
turning_kinds turn.Minus t = overflow_kinds t
turning_kinds turn.Complement t = []
