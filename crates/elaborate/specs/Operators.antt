-- The operator of the core that a binary operator of C is, by the types of its operands.
use Rattle.std.specs.Prelude.{◌≡◌, ℕ, ℤ, Option, Some, None}
use Rattle.c_language.specs.declared.expr.BinaryOperator.{BinaryOperator}
use Rattle.c_language.specs.declared.expr.BinaryOperator.TheVariants as o
use Rattle.c_language.specs.declared.ctype.IntegerKind.{IntegerKind}
use Rattle.c_means.specs.Parts.{State}
use Rattle.c_means.specs.Operators.{Operand, operated}
use Rattle.core_tree.specs.declared.types.Arithmetic.{Arithmetic}
use Rattle.core_tree.specs.declared.types.Operator.{Operator}
use Rattle.core_tree.specs.declared.types.Operator.TheVariants as op
use Rattle.core_tree.specs.declared.types.Relation.TheVariants as r
use Rattle.core_tree.specs.Memory as memory
use Rattle.elaborate.specs.declared.operators.OperandType.{OperandType}
use Rattle.elaborate.specs.Means.{as_done, as_found}
use Rattle.elaborate.specs.Types.{arithmetic, word_type}
use Rattle.elaborate.specs.Types as types

abbrev pub working : BinaryOperator → IntegerKind → IntegerKind → IntegerKind
working = types.working

abbrev pub comparison : BinaryOperator → Option Operator
comparison o.Less = Some (op.Order r.Less)
comparison o.Greater = Some (op.Order r.Greater)
comparison o.LessEqual = Some (op.Order r.LessEqual)
comparison o.GreaterEqual = Some (op.Order r.GreaterEqual)
comparison o.Equal = Some op.Same
comparison o.NotEqual = Some op.Different
comparison _ = None

abbrev pub numbers_if : Option Arithmetic → IntegerKind → Option Operator
numbers_if None kind = None
numbers_if (Some a) kind = Some (op.Numbers a (word_type kind))

abbrev pub on_integers : BinaryOperator → IntegerKind → IntegerKind → Option Operator
on_integers operator a b = numbers_if (arithmetic operator) (working operator a b)

abbrev pub on_pointer : BinaryOperator → ℕ → Option Operator
on_pointer o.Add size = Some (op.Forward size)
on_pointer o.Subtract size = Some (op.Back size)
on_pointer operator size = comparison operator

abbrev pub by_pointer : BinaryOperator → ℕ → Option Operator
by_pointer o.Add size = Some (op.ForwardBy size)
by_pointer operator size = comparison operator

abbrev pub on_pointers : BinaryOperator → ℕ → Option Operator
on_pointers o.Subtract size = Some (op.Distance size)
on_pointers operator size = comparison operator

abbrev pub operator_on : BinaryOperator → Option IntegerKind → Option IntegerKind → ℕ → ℕ → Option Operator
operator_on operator (Some a) (Some b) m n = on_integers operator a b
operator_on operator (Some a) None m n = by_pointer operator n
operator_on operator None (Some b) m n = on_pointer operator m
operator_on operator None None m n = on_pointers operator m

abbrev pub operator_of : BinaryOperator → OperandType → OperandType → Option Operator
operator_of operator x y = operator_on operator x.kind y.kind x.element y.element

-- an operand of a type
abbrev pub operand_in : OperandType → ℤ → Operand
operand_in x z = record { kind = x.kind; element = x.element; value = z }

-- an operator of the core does what a binary operator does
abbrev pub Operates : BinaryOperator → OperandType → OperandType → Operator → Type 0
Operates operator x y q =
    (at : ℕ) (v w : ℤ) (d : State)
    → memory.operated at q v w (as_done d) ≡ as_found (operated at operator (operand_in x v) (operand_in y w) d)
