-- Operators on values (C99 6.5.3.3, 6.5.5 to 6.5.12): the value, or the undefined kind that is met, at the operator's
-- token.
use Rattle.std.specs.Prelude.{ℕ, ℤ, pos, neg_ℤ, nat_eq, nat_le, nat_lt, Bool, true, false, cond, not, ◌||◌, Option}
use Rattle.std.specs.Prelude.{Some, None, Ok}
use Rattle.c_language.specs.declared.expr.BinaryOperator.{BinaryOperator}
use Rattle.c_language.specs.declared.expr.BinaryOperator.TheVariants as o
use Rattle.c_language.specs.declared.expr.UnaryOperator.{UnaryOperator}
use Rattle.c_language.specs.declared.class.Class.{Class}
use Rattle.c_language.specs.declared.class.Class.TheVariants as class
use Rattle.c_language.specs.declared.ctype.CType.{CType}
use Rattle.c_language.specs.declared.ctype.IntegerKind.{IntegerKind}
use Rattle.c_language.specs.declared.ctype.IntegerKind.TheVariants as k
use Rattle.c_language.specs.declared.tables.Tables.{Tables}
use Rattle.c_language.specs.Types.{target_of, kind_of}
use Rattle.c_language.specs.Integers.{promoted, usual, is_zero, number_of}
use Rattle.c_language.specs.Operators.{Answer}
use Rattle.c_language.specs.Typing.{Typed, type_of, used, worked, turned}
use Rattle.c_means.specs.Parts.{State, Outcome, or_stop, refused}
use Rattle.c_means.specs.Values.{address, bytes_of}
use Rattle.c_means.specs.Pointers.{moved, ordered, apart}

-- What an operator sees of an operand: the kind of integer that it is, where it is no pointer, the bytes of what it
-- points to, where it is one, and its value.
pub record Operand : Type 0 where
  pub kind : Option IntegerKind
  pub element : ℕ
  pub value : ℤ

abbrev pub kind_in : Option CType → Option IntegerKind
kind_in None = None
kind_in (Some t) = kind_of t

abbrev pub target_in : Option CType → Option CType
target_in None = None
target_in (Some t) = target_of t

-- the type of an expression's value (C99 6.3.2.1)
abbrev pub value_type : Typed → Option CType
value_type x = type_of (used x)

abbrev pub operand_of : Tables → Option CType → ℤ → Operand
operand_of tables t z = record { kind = kind_in t; element = bytes_of tables (target_in t); value = z }

-- by the tables behind the whole expression, in which a type may be complete that wasn't so at the operand
abbrev pub operand : Tables → Typed → ℤ → Operand
operand tables x z = operand_of tables (value_type x) z

-- the number 1 (C99 6.5.2.4p2, 6.5.3.1p2)
abbrev pub one : Operand
one = record { kind = Some k.Int; element = 0; value = pos 1 }

-- ---- by whether the operands are integers

abbrev pub on_integers :
    Option IntegerKind → Option IntegerKind → (IntegerKind → IntegerKind → Answer) → ℕ → State → Outcome ℤ
on_integers (Some a) (Some b) f at d = or_stop at (f a b) d
on_integers (Some a) None f at d = refused d
on_integers None b f at d = refused d

-- C99 6.5.5, 6.5.10 to 6.5.12: in the type that the usual conversions give
abbrev pub arithmetic : ℕ → BinaryOperator → Operand → Operand → State → Outcome ℤ
arithmetic at op x y d = on_integers x.kind y.kind (λ a b. worked op (usual a b) x.value y.value) at d

-- C99 6.5.7: in the promoted type of the left operand
abbrev pub shift : ℕ → BinaryOperator → Operand → Operand → State → Outcome ℤ
shift at op x y d = on_integers x.kind y.kind (λ a b. worked op (promoted a) x.value y.value) at d

-- C99 6.5.6p5, p8: integers, or a pointer and an integer
abbrev pub addition_of : Option IntegerKind → Option IntegerKind → ℕ → Operand → Operand → State → Outcome ℤ
addition_of (Some a) (Some b) at x y d = arithmetic at o.Add x y d
addition_of None (Some b) at x y d = moved at x.element y.value (address x.value) d
addition_of (Some a) None at x y d = moved at y.element x.value (address y.value) d
addition_of None None at x y d = refused d

abbrev pub addition : ℕ → Operand → Operand → State → Outcome ℤ
addition at x y d = addition_of x.kind y.kind at x y d

-- C99 6.5.6p6, p8, p9: integers, a pointer and an integer, or two pointers
abbrev pub subtraction_of : Option IntegerKind → Option IntegerKind → ℕ → Operand → Operand → State → Outcome ℤ
subtraction_of (Some a) (Some b) at x y d = arithmetic at o.Subtract x y d
subtraction_of None (Some b) at x y d = moved at x.element (neg_ℤ y.value) (address x.value) d
subtraction_of None None at x y d = apart at x.element (address x.value) (address y.value) d
subtraction_of (Some a) None at x y d = refused d

abbrev pub subtraction : ℕ → Operand → Operand → State → Outcome ℤ
subtraction at x y d = subtraction_of x.kind y.kind at x y d

abbrev pub are_integers : Option IntegerKind → Option IntegerKind → Bool
are_integers (Some a) (Some b) = true
are_integers (Some a) None = false
are_integers None b = false

-- C99 6.5.8: integers as the usual conversions say, or pointers; an integer beside a pointer becomes one
abbrev pub relation : ℕ → BinaryOperator → (ℕ → ℕ → Bool) → Operand → Operand → State → Outcome ℤ
relation at op order x y d =
    cond (are_integers x.kind y.kind) (arithmetic at op x y d) (ordered at order (address x.value) (address y.value) d)

-- C99 6.5.9: any two pointers may be compared so, and are equal where their addresses are
abbrev pub equality : ℕ → BinaryOperator → (ℕ → ℕ → Bool) → Operand → Operand → State → Outcome ℤ
equality at op same x y d =
    cond (are_integers x.kind y.kind) (arithmetic at op x y d)
    (Ok (number_of (same (address x.value) (address y.value)), d))

-- The binary operators whose operands are both evaluated: `&&` and `||`, which stand last, have a meaning of their
-- own.
abbrev pub operated : ℕ → BinaryOperator → Operand → Operand → State → Outcome ℤ
operated at o.Multiply x y d = arithmetic at o.Multiply x y d
operated at o.Divide x y d = arithmetic at o.Divide x y d
operated at o.Remainder x y d = arithmetic at o.Remainder x y d
operated at o.Add x y d = addition at x y d
operated at o.Subtract x y d = subtraction at x y d
operated at o.ShiftLeft x y d = shift at o.ShiftLeft x y d
operated at o.ShiftRight x y d = shift at o.ShiftRight x y d
operated at o.Less x y d = relation at o.Less nat_lt x y d
operated at o.Greater x y d = relation at o.Greater (λ a b. nat_lt b a) x y d
operated at o.LessEqual x y d = relation at o.LessEqual nat_le x y d
operated at o.GreaterEqual x y d = relation at o.GreaterEqual (λ a b. nat_le b a) x y d
operated at o.Equal x y d = equality at o.Equal nat_eq x y d
operated at o.NotEqual x y d = equality at o.NotEqual (λ a b. not (nat_eq a b)) x y d
operated at o.BitAnd x y d = arithmetic at o.BitAnd x y d
operated at o.BitXor x y d = arithmetic at o.BitXor x y d
operated at o.BitOr x y d = arithmetic at o.BitOr x y d
operated at o.LogicalAnd x y d = refused d
operated at o.LogicalOr x y d = refused d

-- ---- whether an operator has a meaning on operands of these kinds; what is no integer is taken as a pointer

abbrev pub compares : BinaryOperator → Bool
compares o.Less = true
compares o.Greater = true
compares o.LessEqual = true
compares o.GreaterEqual = true
compares o.Equal = true
compares o.NotEqual = true
compares _ = false

abbrev pub adds : BinaryOperator → Bool
adds o.Add = true
adds _ = false

abbrev pub subtracts : BinaryOperator → Bool
subtracts o.Subtract = true
subtracts _ = false

abbrev pub evaluates_both : BinaryOperator → Bool
evaluates_both o.LogicalAnd = false
evaluates_both o.LogicalOr = false
evaluates_both _ = true

abbrev pub works_on : BinaryOperator → Option IntegerKind → Option IntegerKind → Bool
works_on op (Some a) (Some b) = evaluates_both op
works_on op None (Some b) = adds op || subtracts op || compares op
works_on op (Some a) None = adds op || compares op
works_on op None None = subtracts op || compares op

-- an integer or a pointer
abbrev pub is_scalar_class : Class → Bool
is_scalar_class (class.Integer kind) = true
is_scalar_class class.Pointer = true
is_scalar_class _ = false

-- on the values of two expressions, of which the second stands behind the first
abbrev pub operated_on : ℕ → BinaryOperator → Typed → Typed → ℤ → ℤ → State → Outcome ℤ
operated_on at op x y v w d =
    let tables = y.after.tables in operated at op (operand tables x v) (operand tables y w) d

-- ---- unary operators (C99 6.5.3.3)

-- C99 6.5.3.3p2 to p4: `+`, `-` and `~`, in the promoted type
abbrev pub turned_of : ℕ → UnaryOperator → Option IntegerKind → ℤ → State → Outcome ℤ
turned_of at op None z d = refused d
turned_of at op (Some a) z d = or_stop at (turned op (promoted a) z) d

abbrev pub turned_value : ℕ → UnaryOperator → Operand → State → Outcome ℤ
turned_value at op x d = turned_of at op x.kind x.value d

-- C99 6.5.3.3p5: of a pointer too
abbrev pub negated : Operand → State → Outcome ℤ
negated x d = Ok (number_of (is_zero x.value), d)
