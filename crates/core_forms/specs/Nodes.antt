-- The nodes of the core for forms of C, over the nodes of their parts and what the types say of these.
use Rattle.std.specs.Prelude.{◌≡◌, ℕ, ℤ, pos, Bool, true, false, not, is_some, Option, Some, None}
use Rattle.c_language.specs.declared.expr.BinaryOperator.{BinaryOperator}
use Rattle.c_language.specs.declared.expr.BinaryOperator.TheVariants as o
use Rattle.c_language.specs.declared.expr.PostfixOperator.{PostfixOperator}
use Rattle.c_language.specs.declared.expr.PostfixOperator.TheVariants as after
use Rattle.c_language.specs.declared.class.Class.{Class}
use Rattle.c_language.specs.declared.class.Class.TheVariants as class
use Rattle.c_language.specs.declared.ctype.CType.{CType}
use Rattle.c_language.specs.declared.ctype.IntegerKind.{IntegerKind}
use Rattle.c_language.specs.declared.ctype.IntegerKind.TheVariants as k
use Rattle.c_language.specs.declared.tables.Tables.{Tables}
use Rattle.c_language.specs.Integers.{promoted}
use Rattle.c_language.specs.declared.scope.Duration.{Duration}
use Rattle.c_language.specs.declared.scope.Duration.TheVariants as duration
use Rattle.c_language.specs.declared.scope.Entry.{Entry}
use Rattle.c_language.specs.declared.scope.Means.{Means}
use Rattle.c_language.specs.declared.scope.Means.TheVariants as means
use Rattle.c_language.specs.declared.shown.Told.{Told}
use Rattle.c_language.specs.Typing.{type_in, value_in, NamedType}
use Rattle.c_means.specs.Expressions.{named_class}
use Rattle.c_means.specs.Operators.{kind_in, target_in}
use Rattle.c_means.specs.Values.{class_in, bytes_of}
use Rattle.core_tree.specs.declared.expr.Expr.{Expr}
use Rattle.core_tree.specs.declared.expr.Expr.TheVariants as expr
use Rattle.core_tree.specs.declared.types.Access.{Access}
use Rattle.core_tree.specs.declared.types.Answered.{Answered}
use Rattle.core_tree.specs.declared.types.Operator.{Operator}
use Rattle.core_tree.specs.declared.types.Turning.{Turning}
use Rattle.core_tree.specs.declared.types.ValueType.{ValueType}
use Rattle.core_tree.specs.declared.types.ValueType.TheVariants as v
use Rattle.elaborate.specs.declared.operators.OperandType.{OperandType}
use Rattle.elaborate.specs.Operators.{operator_of}
use Rattle.elaborate.specs.Types.{integer_type, word_type, value_type}
use Rattle.core_forms.specs.declared.built.Built.{Built}
use Rattle.core_forms.specs.declared.built.Call.{Call}
use Rattle.core_forms.specs.declared.built.Node.{Node}
use Rattle.core_forms.specs.declared.built.Node.TheVariants as node
use Rattle.core_forms.specs.declared.built.Used.{Used}

-- ---- what is built

abbrev pub a_value : Told → Expr → Built
a_value told e = record { told = told; rooted = false; node = node.Value e }

abbrev pub a_place : Told → Bool → Expr → Built
a_place told rooted e = record { told = told; rooted = rooted; node = node.Place e }

-- a part of which this is told, with this node
abbrev pub a_part : Told → Bool → Node → Built
a_part told rooted n = record { told = told; rooted = rooted; node = n }

-- what breaks a rule, and isn't run
abbrev pub unmeant : Node
unmeant = node.Value (expr.Constant (pos 0))

-- two operands, one behind the other, of which no value is made
abbrev pub refused : Expr → Expr → Expr
refused e f = expr.Convert v.Void (expr.Comma e f)

-- ---- types

-- an integer constant expression (C99 6.6p6), in which no undefined kind is listed
abbrev pub is_constant : Told → Bool
is_constant x = is_some (value_in x.shown)

-- the type of the core of a value of a type
abbrev pub type_as : Tables → Option CType → ValueType
type_as tables t = value_type (class_in t) (bytes_of tables t)

-- of the type that an expression has
abbrev pub type_by : Tables → Told → ValueType
type_by tables x = type_as tables (type_in x.shown)

-- the type of the core of a cast to a named type: no structure is cast to, so its bytes are of no account
abbrev pub cast_type : NamedType → ValueType
cast_type named = value_type (named_class named) 0

-- what an operator is to know of an operand
abbrev pub operand_by : Tables → Told → OperandType
operand_by tables x = record {
  kind = kind_in (type_in x.shown);
  element = bytes_of tables (target_in (type_in x.shown));
}

-- the number 1, as an operand
abbrev pub one_more : OperandType
one_more = record { kind = Some k.Int; element = 0 }

-- of an integer or a pointer
abbrev pub scalar_in : Class → Option ValueType
scalar_in (class.Integer kind) = Some (integer_type kind)
scalar_in class.Pointer = Some v.Pointer
scalar_in (class.Aggregate number) = None
scalar_in class.Array = None
scalar_in class.Function = None
scalar_in class.Void = None
scalar_in class.Floating = None
scalar_in class.Opaque = None

abbrev pub scalar_by : Told → Option ValueType
scalar_by x = scalar_in (class_in (type_in x.shown))

-- how an lvalue is accessed
abbrev pub access_by : Told → Bool → ValueType → Access
access_by x rooted stored = record { at = x.at; stored = stored; is_tested = not rooted }

-- ---- the value of an lvalue or function (C99 6.3.2.1p2 to p4)

abbrev pub loaded : ℕ → ValueType → Bool → Expr → Expr
loaded at stored rooted e = expr.Load (record { at = at; stored = stored; is_tested = not rooted }) e

abbrev pub read_node : Class → ℕ → ℕ → Bool → Expr → Expr
read_node (class.Integer kind) n at rooted e = loaded at (integer_type kind) rooted e
read_node class.Pointer n at rooted e = loaded at v.Pointer rooted e
read_node (class.Aggregate number) n at rooted e = loaded at (v.Block n) rooted e
read_node class.Array n at rooted e = e
read_node class.Function n at rooted e = e
read_node class.Void n at rooted e = expr.Convert v.Void e
read_node class.Floating n at rooted e = loaded at (v.Block n) rooted e
read_node class.Opaque n at rooted e = loaded at (v.Block n) rooted e

-- a call, whose answer is used or not
abbrev pub call_node : Call → Bool → Expr
call_node c used = expr.Call c.at c.arguments c.callee c.answer used

-- the value of a part, which is used or not
abbrev pub worth_node : Bool → Tables → Told → Bool → Node → Expr
worth_node used tables x rooted (node.Value e) = e
worth_node used tables x rooted (node.Place e) =
    read_node (class_in (type_in x.shown)) (bytes_of tables (type_in x.shown)) x.at rooted e
worth_node used tables x rooted (node.Call c) = call_node c used

-- the address of a part: of what has none 0, behind its value
abbrev pub address_in : Node → Expr
address_in (node.Place e) = e
address_in (node.Value e) = expr.Convert v.Void e
address_in (node.Call c) = expr.Convert v.Void (call_node c true)

-- a part with the core of its value
pub record HasWorth (used : Bool) (tables : Tables) (x : Built) (said : Told) (y : Used) : Type 0 where
  pub told : y.told ≡ said
  pub value : y.value ≡ worth_node used tables x.told x.rooted x.node

-- what is cast to void isn't used (C99 6.3.2.2)
abbrev pub is_cast_of_used : Class → Bool
is_cast_of_used class.Void = false
is_cast_of_used c = true

-- ---- names

abbrev pub held_at : Duration → ℕ → (ℕ → ℕ) → Expr
held_at duration.Automatic at place = expr.Local at
held_at duration.Static at place = expr.Fixed (place at)

abbrev pub meant_node : Means → ℕ → (ℕ → ℕ) → Node
meant_node (means.Object t duration linkage) at place = node.Place (held_at duration at place)
meant_node (means.Function t linkage) at place = node.Place (expr.Fixed (place at))
meant_node (means.Constant z) at place = node.Value (expr.Constant z)
meant_node (means.Typedef t) at place = unmeant
meant_node means.Faulty at place = unmeant

abbrev pub named_node : Option Entry → (ℕ → ℕ) → Node
named_node None place = unmeant
named_node (Some e) place = meant_node e.means e.at place

abbrev pub is_object_by : Means → Bool
is_object_by (means.Object t duration linkage) = true
is_object_by (means.Function t linkage) = true
is_object_by (means.Constant z) = false
is_object_by (means.Typedef t) = false
is_object_by means.Faulty = false

-- whether a name in force is an object or a function
abbrev pub is_object : Option Entry → Bool
is_object None = false
is_object (Some e) = is_object_by e.means

-- ---- operators

-- `+`, `-` or `~`, in the promoted type; what is no integer is left
abbrev pub turned_node : ℕ → Turning → Option IntegerKind → Bool → Expr → Expr
turned_node at turning None constant e = expr.Cast v.Void e
turned_node at turning (Some kind) constant e = expr.Turn at turning (word_type (promoted kind)) constant e

abbrev pub operated_node : ℕ → Option Operator → Bool → Expr → Expr → Expr
operated_node at None constant e f = refused e f
operated_node at (Some operator) constant e f = expr.Operate at operator constant e f

-- by the operands as they are used; `constant` tells of the whole
abbrev pub binary_node : ℕ → BinaryOperator → Tables → Bool → Used → Used → Expr
binary_node at o.LogicalAnd tables constant x y = expr.And at x.value y.value
binary_node at o.LogicalOr tables constant x y = expr.Or at x.value y.value
binary_node at op tables constant x y =
    operated_node at (operator_of op (operand_by tables x.told) (operand_by tables y.told)) constant x.value y.value

-- ---- addresses

abbrev pub target_of_sum : ℕ → Option Operator → Expr → Expr → Expr
target_of_sum at None e f = refused e f
target_of_sum at (Some operator) e f = expr.Convert v.Pointer (expr.Operate at operator false e f)

-- of an lvalue, else some bytes of a value
abbrev pub member_node : ℕ → ValueType → Node → Node
member_node bytes t (node.Place e) = node.Place (expr.Offset bytes e)
member_node bytes t (node.Value e) = node.Value (expr.Extract bytes t e)
member_node bytes t (node.Call c) = node.Value (expr.Extract bytes t (call_node c true))

-- a member of an lvalue has its root
abbrev pub member_rooted : Bool → Node → Bool
member_rooted rooted (node.Place e) = rooted
member_rooted rooted (node.Value e) = false
member_rooted rooted (node.Call c) = false

-- ---- assignment

abbrev pub stored_node : ℕ → Tables → Told → Bool → Node → Expr → Expr
stored_node at tables x rooted n f = expr.Store at (access_by x rooted (type_by tables x)) (address_in n) f

-- how an integer or a pointer is accessed
abbrev pub access_if : Told → Bool → Option ValueType → Option Access
access_if x rooted None = None
access_if x rooted (Some t) = Some (access_by x rooted t)

abbrev pub scalar_access_by : Told → Bool → Option Access
scalar_access_by x rooted = access_if x rooted (scalar_by x)

-- what is no integer or pointer, or has no such operator, is left
abbrev pub updated_by : ℕ → Option Access → Option Operator → Expr → Expr → Expr
updated_by at (Some access) (Some operator) e f = expr.Update at operator access e f
updated_by at (Some access) None e f = refused e f
updated_by at None q e f = refused e f

abbrev pub stepped_by : ℕ → Answered → Option Access → Option Operator → Expr → Expr
stepped_by at answer (Some access) (Some operator) e = expr.Step at operator access answer e
stepped_by at answer (Some access) None e = expr.Cast v.Void e
stepped_by at answer None q e = expr.Cast v.Void e

-- the operator that `++` or `--` is
abbrev pub step_behind : PostfixOperator → BinaryOperator
step_behind after.Increment = o.Add
step_behind after.Decrement = o.Subtract

-- of an object that is read, and stored with 1 more or less
abbrev pub stepped_node : ℕ → BinaryOperator → Answered → Tables → Built → Expr
stepped_node at op answer tables x =
    stepped_by at answer (scalar_access_by x.told x.rooted) (operator_of op (operand_by tables x.told) one_more)
    (address_in x.node)
