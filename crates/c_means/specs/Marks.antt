-- What stands at the tokens of expressions and statements, whether or not a run comes there: what facts speak of. At one
-- node first what it is itself, then what its parts are.
use Rattle.std.specs.Prelude.{ℕ, Bool, true, false, cond, not, ◌&&◌, List, [], ◌∷◌, ◌++◌, map, Option, Some, None, is_some}
use Rattle.plain_data.specs.declared.run.Side.{Side}
use Rattle.plain_data.specs.declared.run.Side.TheVariants as side
use Rattle.plain_data.specs.declared.run.Undefined.{Undefined}
use Rattle.plain_data.specs.declared.run.Undefined.TheVariants.{Overflow, ZeroDivisor, Shift, PointerRange, PointerOrder}
use Rattle.plain_data.specs.declared.run.Undefined.TheVariants.{Dereference, LiteralWrite}
use Rattle.printf_text.specs.declared.piece.Piece.{Piece}
use Rattle.c_language.specs.declared.class.Class.{Class}
use Rattle.c_language.specs.declared.class.Class.TheVariants as class
use Rattle.c_language.specs.declared.expr.BinaryOperator.{BinaryOperator}
use Rattle.c_language.specs.declared.expr.BinaryOperator.TheVariants as o
use Rattle.c_language.specs.declared.ctype.IntegerKind.{IntegerKind}
use Rattle.c_language.specs.Integers.{is_signed, promoted, usual}
use Rattle.c_language.specs.Scopes.{Name}

-- By the byte offset of the token, of a call that of the callee's name: a branch can take a side; something is called;
-- what is called is the function of this name, by its body; it is a log call, of this format, whose prints show the
-- variables that these offsets declare; it is `exit`; it is `abort`; a run can end here by undefined behaviour of a kind.
pub data Mark : Type 0 where
  Takes : ℕ → Side → Mark
  Calls : ℕ → Mark
  Enters : ℕ → Name → Mark
  Prints : ℕ → List Piece → List ℕ → Mark
  Exits : ℕ → Mark
  Aborts : ℕ → Mark
  Stops : ℕ → Undefined → Mark

-- ---- branches

-- a condition, or the left operand, is not zero, or it is
abbrev pub sides : ℕ → List Mark
sides at = Takes at side.Yes ∷ Takes at side.No ∷ []

-- ---- kinds of undefined behaviour (C99 6.5)

abbrev pub stops : ℕ → List Undefined → List Mark
stops at [] = []
stops at (kind ∷ kinds) = Stops at kind ∷ stops at kinds

abbrev pub only : Undefined → List Undefined
only kind = kind ∷ []

-- an integer constant expression has none (C99 6.6p6)
abbrev pub unless : Bool → List Undefined → List Undefined
unless is_constant kinds = cond is_constant [] kinds

-- a signed result may leave its type; an unsigned one is taken modulo 2^N (C99 6.5p5, 6.2.5p9)
abbrev pub overflows : IntegerKind → List Undefined
overflows kind = cond (is_signed kind) (only Overflow) []

-- C99 6.5.5p5, p6
abbrev pub divides : IntegerKind → List Undefined
divides kind = overflows kind ++ only ZeroDivisor

-- on two integers (C99 6.5.5 to 6.5.12), in the type that the usual conversions give
abbrev pub integer_kinds : BinaryOperator → IntegerKind → List Undefined
integer_kinds o.Multiply kind = overflows kind
integer_kinds o.Divide kind = divides kind
integer_kinds o.Remainder kind = divides kind
integer_kinds o.Add kind = overflows kind
integer_kinds o.Subtract kind = overflows kind
integer_kinds o.ShiftLeft kind = only Shift
integer_kinds o.ShiftRight kind = only Shift
integer_kinds _ kind = []

-- pointers are put in order (C99 6.5.8p5); whether they are equal has always an answer
abbrev pub order_kinds : BinaryOperator → List Undefined
order_kinds o.Less = only PointerOrder
order_kinds o.Greater = only PointerOrder
order_kinds o.LessEqual = only PointerOrder
order_kinds o.GreaterEqual = only PointerOrder
order_kinds _ = []

-- a pointer is moved by an integer (C99 6.5.6p8)
abbrev pub moving_kinds : BinaryOperator → List Undefined
moving_kinds o.Add = only PointerRange
moving_kinds o.Subtract = only PointerRange
moving_kinds op = order_kinds op

-- an integer stands before a pointer
abbrev pub moved_kinds : BinaryOperator → List Undefined
moved_kinds o.Add = only PointerRange
moved_kinds op = order_kinds op

-- pointers are subtracted (C99 6.5.6p9)
abbrev pub apart_kinds : BinaryOperator → List Undefined
apart_kinds o.Subtract = only PointerOrder
apart_kinds op = order_kinds op

-- by the kinds of the operands: what is no integer is taken as a pointer
abbrev pub operator_kinds : BinaryOperator → Option IntegerKind → Option IntegerKind → List Undefined
operator_kinds op (Some a) (Some b) = integer_kinds op (usual a b)
operator_kinds op (Some a) None = moved_kinds op
operator_kinds op None (Some b) = moving_kinds op
operator_kinds op None None = apart_kinds op

-- `-` (C99 6.5.3.3p3), in the promoted type
abbrev pub minus_kinds : Option IntegerKind → List Undefined
minus_kinds None = []
minus_kinds (Some kind) = overflows (promoted kind)

-- ---- objects: one whose root is a name is accessed without a test

abbrev pub reads_at : Bool → ℕ → Bool → List Mark
reads_at is_read at rooted = cond (is_read && not rooted) (Stops at Dereference ∷ []) []

-- by an operator at its own token
abbrev pub writes_at : ℕ → ℕ → Bool → List Mark
writes_at operator at rooted = cond (not rooted) (Stops at Dereference ∷ Stops operator LiteralWrite ∷ []) []
