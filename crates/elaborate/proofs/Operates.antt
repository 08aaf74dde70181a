-- The operator of the core that is chosen for a binary operator does what that does.
use Rattle.std.proofs.Common.{◌≡◌, ℕ, ℤ, pos, Bool, cond, Option, Some, None, Ok, refl, sym, ap}
use Rattle.std.proofs.Common.{◌∙◌}
use Rattle.std.specs.Prelude.{IfSome, is_some, nat_lt, nat_le, neg_ℤ, ◌+ℤ◌, ◌-ℤ◌, ◌*ℤ◌}
use Rattle.plain_data.specs.declared.run.Undefined.TheVariants as undefined
use Rattle.c_language.specs.declared.expr.BinaryOperator.{BinaryOperator}
use Rattle.c_language.specs.declared.expr.BinaryOperator.TheVariants as o
use Rattle.c_language.specs.declared.ctype.IntegerKind.{IntegerKind}
use Rattle.c_language.specs.Integers.{number_of}
use Rattle.c_store.specs.Access.{in_one_object}
use Rattle.c_language.specs.Typing as says
use Rattle.c_means.specs.Operators.{operated, works_on}
use Rattle.c_means.specs.Parts.{State, stop, refused}
use Rattle.c_means.specs.Values.{address}
use Rattle.c_means.specs.Pointers as pointers
use Rattle.core_tree.specs.declared.types.Arithmetic.{Arithmetic}
use Rattle.core_tree.specs.declared.types.Arithmetic.TheVariants as a
use Rattle.core_tree.specs.declared.types.Operator.{Operator}
use Rattle.core_tree.specs.declared.types.Operator.TheVariants as op
use Rattle.core_tree.specs.States.{or_stop}
use Rattle.core_tree.specs.Memory as memory
use Rattle.elaborate.specs.declared.operators.OperandType.{OperandType}
use Rattle.elaborate.specs.Means.{Numbering, as_done, as_found}
use Rattle.elaborate.specs.Operators.{operator_on, operator_of, operand_in, Operates}
use Rattle.elaborate.specs.Types.{word_type, arithmetic, working}
use Rattle.elaborate.proofs.Numbers.{worked_same, working_word}
use Rattle.elaborate.proofs.States.{or_stop_same, test_same}
use Rattle.elaborate.proofs.Values.{on_integers}
use Rattle.elaborate.proofs.Pointers.{moved_to_same}

abbrev given : Option Operator → Operator
given None = op.Same
given (Some q) = q

abbrev type_of : Option IntegerKind → ℕ → OperandType
type_of kind element = record { kind = kind; element = element }

numbers_same : (b : BinaryOperator) (r : Arithmetic) (j k : IntegerKind) (m n : ℕ) → arithmetic b ≡ Some r → Operates
    b (type_of (Some j) m) (type_of (Some k) n) (op.Numbers r (word_type (working b j k)))
numbers_same b r j k m n e at v w d =
    ap (λ x. or_stop at x (as_done d)) (worked_same (working b j k) (working_word b j k) b r v w e)
    ∙ or_stop_same at (says.worked b (working b j k) v w) d
    ∙ ap as_found (sym (on_integers any b r e at j k m n v w d))
  where
    any : Numbering
    any = record { place = λ at. at; identity = λ name. None; body = λ g. None; rule = λ g. None }

-- two pointers of one object
ordered_same : (order : ℕ → ℕ → Bool) (x y : ℕ) (at : ℕ) (d : State) → cond (in_one_object d.store x y)
    (Some (Ok (number_of (order x y), as_done d))) (as_found (stop at undefined.PointerOrder d))
    ≡ as_found (pointers.ordered at order x y d)
ordered_same order x y at d = test_same (in_one_object d.store x y) _ _ (Ok (number_of (order x y), d))
    (stop at undefined.PointerOrder d) refl refl

-- what is chosen is what does it
same_operator : (b : BinaryOperator) (x y : OperandType) (c : Option Operator) (q : Operator) → c ≡ Some q → Operates
    b x y (given c) → Operates b x y q
same_operator b x y c q e h at v w d = ap (λ q. memory.operated at (given q) v w (as_done d)) (sym e) ∙ h at v w d

by_kinds : (b : BinaryOperator) (j k : Option IntegerKind) (m n : ℕ) (q : Operator) → operator_on b j k m n ≡ Some q
    → Operates b (type_of j m) (type_of k n) q
by_kinds o.Multiply (Some j) (Some k) m n q e = same_operator o.Multiply (type_of (Some j) m) (type_of (Some k) n)
    (operator_on o.Multiply (Some j) (Some k) m n) q e (numbers_same o.Multiply a.Multiply j k m n refl)
by_kinds o.Multiply (Some j) None m n q e = cc
by_kinds o.Multiply None (Some k) m n q e = cc
by_kinds o.Multiply None None m n q e = cc
by_kinds o.Divide (Some j) (Some k) m n q e = same_operator o.Divide (type_of (Some j) m) (type_of (Some k) n)
    (operator_on o.Divide (Some j) (Some k) m n) q e (numbers_same o.Divide a.Divide j k m n refl)
by_kinds o.Divide (Some j) None m n q e = cc
by_kinds o.Divide None (Some k) m n q e = cc
by_kinds o.Divide None None m n q e = cc
by_kinds o.Remainder (Some j) (Some k) m n q e = same_operator o.Remainder (type_of (Some j) m) (type_of (Some k) n)
    (operator_on o.Remainder (Some j) (Some k) m n) q e (numbers_same o.Remainder a.Remainder j k m n refl)
by_kinds o.Remainder (Some j) None m n q e = cc
by_kinds o.Remainder None (Some k) m n q e = cc
by_kinds o.Remainder None None m n q e = cc
by_kinds o.Add (Some j) (Some k) m n q e = same_operator o.Add (type_of (Some j) m) (type_of (Some k) n)
    (operator_on o.Add (Some j) (Some k) m n) q e (numbers_same o.Add a.Add j k m n refl)
by_kinds o.Add (Some j) None m n q e = same_operator o.Add (type_of (Some j) m) (type_of None n)
    (operator_on o.Add (Some j) None m n) q e (λ at v w d. moved_to_same at (address w)
    (pos (address w) +ℤ v *ℤ pos n) d)
by_kinds o.Add None (Some k) m n q e = same_operator o.Add (type_of None m) (type_of (Some k) n)
    (operator_on o.Add None (Some k) m n) q e (λ at v w d. moved_to_same at (address v)
    (pos (address v) +ℤ w *ℤ pos m) d)
by_kinds o.Add None None m n q e = cc
by_kinds o.Subtract (Some j) (Some k) m n q e = same_operator o.Subtract (type_of (Some j) m) (type_of (Some k) n)
    (operator_on o.Subtract (Some j) (Some k) m n) q e (numbers_same o.Subtract a.Subtract j k m n refl)
by_kinds o.Subtract (Some j) None m n q e = cc
by_kinds o.Subtract None (Some k) m n q e = same_operator o.Subtract (type_of None m) (type_of (Some k) n)
    (operator_on o.Subtract None (Some k) m n) q e (λ at v w d. moved_to_same at (address v)
    (pos (address v) +ℤ neg_ℤ w *ℤ pos m) d)
by_kinds o.Subtract None None m n q e = same_operator o.Subtract (type_of None m) (type_of None n)
    (operator_on o.Subtract None None m n) q e (λ at v w d. test_same (in_one_object d.store (address v) (address w))
    _ _ (Ok (pointers.elements_in (pos (address v) -ℤ pos (address w)) m, d)) (stop at undefined.PointerOrder d) refl
    refl)
by_kinds o.ShiftLeft (Some j) (Some k) m n q e = same_operator o.ShiftLeft (type_of (Some j) m) (type_of (Some k) n)
    (operator_on o.ShiftLeft (Some j) (Some k) m n) q e (numbers_same o.ShiftLeft a.ShiftLeft j k m n refl)
by_kinds o.ShiftLeft (Some j) None m n q e = cc
by_kinds o.ShiftLeft None (Some k) m n q e = cc
by_kinds o.ShiftLeft None None m n q e = cc
by_kinds o.ShiftRight (Some j) (Some k) m n q e = same_operator o.ShiftRight (type_of (Some j) m)
    (type_of (Some k) n) (operator_on o.ShiftRight (Some j) (Some k) m n) q e
    (numbers_same o.ShiftRight a.ShiftRight j k m n refl)
by_kinds o.ShiftRight (Some j) None m n q e = cc
by_kinds o.ShiftRight None (Some k) m n q e = cc
by_kinds o.ShiftRight None None m n q e = cc
by_kinds o.Less (Some j) (Some k) m n q e = same_operator o.Less (type_of (Some j) m) (type_of (Some k) n)
    (operator_on o.Less (Some j) (Some k) m n) q e (numbers_same o.Less a.Less j k m n refl)
by_kinds o.Less (Some j) None m n q e = same_operator o.Less (type_of (Some j) m) (type_of None n)
    (operator_on o.Less (Some j) None m n) q e (λ at v w d. ordered_same nat_lt (address v) (address w) at d)
by_kinds o.Less None (Some k) m n q e = same_operator o.Less (type_of None m) (type_of (Some k) n)
    (operator_on o.Less None (Some k) m n) q e (λ at v w d. ordered_same nat_lt (address v) (address w) at d)
by_kinds o.Less None None m n q e = same_operator o.Less (type_of None m) (type_of None n)
    (operator_on o.Less None None m n) q e (λ at v w d. ordered_same nat_lt (address v) (address w) at d)
by_kinds o.Greater (Some j) (Some k) m n q e = same_operator o.Greater (type_of (Some j) m) (type_of (Some k) n)
    (operator_on o.Greater (Some j) (Some k) m n) q e (numbers_same o.Greater a.Greater j k m n refl)
by_kinds o.Greater (Some j) None m n q e = same_operator o.Greater (type_of (Some j) m) (type_of None n)
    (operator_on o.Greater (Some j) None m n) q e (λ at v w d. ordered_same (λ a b. nat_lt b a) (address v)
    (address w) at d)
by_kinds o.Greater None (Some k) m n q e = same_operator o.Greater (type_of None m) (type_of (Some k) n)
    (operator_on o.Greater None (Some k) m n) q e (λ at v w d. ordered_same (λ a b. nat_lt b a) (address v)
    (address w) at d)
by_kinds o.Greater None None m n q e = same_operator o.Greater (type_of None m) (type_of None n)
    (operator_on o.Greater None None m n) q e (λ at v w d. ordered_same (λ a b. nat_lt b a) (address v) (address w)
    at d)
by_kinds o.LessEqual (Some j) (Some k) m n q e = same_operator o.LessEqual (type_of (Some j) m) (type_of (Some k) n)
    (operator_on o.LessEqual (Some j) (Some k) m n) q e (numbers_same o.LessEqual a.LessEqual j k m n refl)
by_kinds o.LessEqual (Some j) None m n q e = same_operator o.LessEqual (type_of (Some j) m) (type_of None n)
    (operator_on o.LessEqual (Some j) None m n) q e (λ at v w d. ordered_same nat_le (address v) (address w) at d)
by_kinds o.LessEqual None (Some k) m n q e = same_operator o.LessEqual (type_of None m) (type_of (Some k) n)
    (operator_on o.LessEqual None (Some k) m n) q e (λ at v w d. ordered_same nat_le (address v) (address w) at d)
by_kinds o.LessEqual None None m n q e = same_operator o.LessEqual (type_of None m) (type_of None n)
    (operator_on o.LessEqual None None m n) q e (λ at v w d. ordered_same nat_le (address v) (address w) at d)
by_kinds o.GreaterEqual (Some j) (Some k) m n q e = same_operator o.GreaterEqual (type_of (Some j) m)
    (type_of (Some k) n) (operator_on o.GreaterEqual (Some j) (Some k) m n) q e
    (numbers_same o.GreaterEqual a.GreaterEqual j k m n refl)
by_kinds o.GreaterEqual (Some j) None m n q e = same_operator o.GreaterEqual (type_of (Some j) m) (type_of None n)
    (operator_on o.GreaterEqual (Some j) None m n) q e (λ at v w d. ordered_same (λ a b. nat_le b a) (address v)
    (address w) at d)
by_kinds o.GreaterEqual None (Some k) m n q e = same_operator o.GreaterEqual (type_of None m) (type_of (Some k) n)
    (operator_on o.GreaterEqual None (Some k) m n) q e (λ at v w d. ordered_same (λ a b. nat_le b a) (address v)
    (address w) at d)
by_kinds o.GreaterEqual None None m n q e = same_operator o.GreaterEqual (type_of None m) (type_of None n)
    (operator_on o.GreaterEqual None None m n) q e (λ at v w d. ordered_same (λ a b. nat_le b a) (address v)
    (address w) at d)
by_kinds o.Equal (Some j) (Some k) m n q e = same_operator o.Equal (type_of (Some j) m) (type_of (Some k) n)
    (operator_on o.Equal (Some j) (Some k) m n) q e (numbers_same o.Equal a.Equal j k m n refl)
by_kinds o.Equal (Some j) None m n q e = same_operator o.Equal (type_of (Some j) m) (type_of None n)
    (operator_on o.Equal (Some j) None m n) q e (λ at v w d. refl)
by_kinds o.Equal None (Some k) m n q e = same_operator o.Equal (type_of None m) (type_of (Some k) n)
    (operator_on o.Equal None (Some k) m n) q e (λ at v w d. refl)
by_kinds o.Equal None None m n q e = same_operator o.Equal (type_of None m) (type_of None n)
    (operator_on o.Equal None None m n) q e (λ at v w d. refl)
by_kinds o.NotEqual (Some j) (Some k) m n q e = same_operator o.NotEqual (type_of (Some j) m) (type_of (Some k) n)
    (operator_on o.NotEqual (Some j) (Some k) m n) q e (numbers_same o.NotEqual a.NotEqual j k m n refl)
by_kinds o.NotEqual (Some j) None m n q e = same_operator o.NotEqual (type_of (Some j) m) (type_of None n)
    (operator_on o.NotEqual (Some j) None m n) q e (λ at v w d. refl)
by_kinds o.NotEqual None (Some k) m n q e = same_operator o.NotEqual (type_of None m) (type_of (Some k) n)
    (operator_on o.NotEqual None (Some k) m n) q e (λ at v w d. refl)
by_kinds o.NotEqual None None m n q e = same_operator o.NotEqual (type_of None m) (type_of None n)
    (operator_on o.NotEqual None None m n) q e (λ at v w d. refl)
by_kinds o.BitAnd (Some j) (Some k) m n q e = same_operator o.BitAnd (type_of (Some j) m) (type_of (Some k) n)
    (operator_on o.BitAnd (Some j) (Some k) m n) q e (numbers_same o.BitAnd a.BitAnd j k m n refl)
by_kinds o.BitAnd (Some j) None m n q e = cc
by_kinds o.BitAnd None (Some k) m n q e = cc
by_kinds o.BitAnd None None m n q e = cc
by_kinds o.BitXor (Some j) (Some k) m n q e = same_operator o.BitXor (type_of (Some j) m) (type_of (Some k) n)
    (operator_on o.BitXor (Some j) (Some k) m n) q e (numbers_same o.BitXor a.BitXor j k m n refl)
by_kinds o.BitXor (Some j) None m n q e = cc
by_kinds o.BitXor None (Some k) m n q e = cc
by_kinds o.BitXor None None m n q e = cc
by_kinds o.BitOr (Some j) (Some k) m n q e = same_operator o.BitOr (type_of (Some j) m) (type_of (Some k) n)
    (operator_on o.BitOr (Some j) (Some k) m n) q e (numbers_same o.BitOr a.BitOr j k m n refl)
by_kinds o.BitOr (Some j) None m n q e = cc
by_kinds o.BitOr None (Some k) m n q e = cc
by_kinds o.BitOr None None m n q e = cc
by_kinds o.LogicalAnd (Some j) (Some k) m n q e = cc
by_kinds o.LogicalAnd (Some j) None m n q e = cc
by_kinds o.LogicalAnd None (Some k) m n q e = cc
by_kinds o.LogicalAnd None None m n q e = cc
by_kinds o.LogicalOr (Some j) (Some k) m n q e = cc
by_kinds o.LogicalOr (Some j) None m n q e = cc
by_kinds o.LogicalOr None (Some k) m n q e = cc
by_kinds o.LogicalOr None None m n q e = cc

pub operates : (b : BinaryOperator) (x y : OperandType) (q : Operator) → operator_of b x y ≡ Some q → Operates b x y q
operates b x y q e = by_kinds b x.kind y.kind x.element y.element q e

-- what is answered does it
pub operates_if : (b : BinaryOperator) (x y : OperandType) (c : Option Operator) → c ≡ operator_of b x y → IfSome c
    (λ q. Operates b x y q)
operates_if b x y None e = tt
operates_if b x y (Some q) e = operates b x y q (sym e)

-- ---- where there is none

-- the operators that have a meaning on operands of these kinds are those that the core has
pub works_same : (b : BinaryOperator) (j k : Option IntegerKind) (m n : ℕ) → works_on b j k ≡ is_some (operator_on b j k m n)
works_same o.Multiply (Some j) (Some k) m n = refl
works_same o.Multiply (Some j) None m n = refl
works_same o.Multiply None (Some k) m n = refl
works_same o.Multiply None None m n = refl
works_same o.Divide (Some j) (Some k) m n = refl
works_same o.Divide (Some j) None m n = refl
works_same o.Divide None (Some k) m n = refl
works_same o.Divide None None m n = refl
works_same o.Remainder (Some j) (Some k) m n = refl
works_same o.Remainder (Some j) None m n = refl
works_same o.Remainder None (Some k) m n = refl
works_same o.Remainder None None m n = refl
works_same o.Add (Some j) (Some k) m n = refl
works_same o.Add (Some j) None m n = refl
works_same o.Add None (Some k) m n = refl
works_same o.Add None None m n = refl
works_same o.Subtract (Some j) (Some k) m n = refl
works_same o.Subtract (Some j) None m n = refl
works_same o.Subtract None (Some k) m n = refl
works_same o.Subtract None None m n = refl
works_same o.ShiftLeft (Some j) (Some k) m n = refl
works_same o.ShiftLeft (Some j) None m n = refl
works_same o.ShiftLeft None (Some k) m n = refl
works_same o.ShiftLeft None None m n = refl
works_same o.ShiftRight (Some j) (Some k) m n = refl
works_same o.ShiftRight (Some j) None m n = refl
works_same o.ShiftRight None (Some k) m n = refl
works_same o.ShiftRight None None m n = refl
works_same o.Less (Some j) (Some k) m n = refl
works_same o.Less (Some j) None m n = refl
works_same o.Less None (Some k) m n = refl
works_same o.Less None None m n = refl
works_same o.Greater (Some j) (Some k) m n = refl
works_same o.Greater (Some j) None m n = refl
works_same o.Greater None (Some k) m n = refl
works_same o.Greater None None m n = refl
works_same o.LessEqual (Some j) (Some k) m n = refl
works_same o.LessEqual (Some j) None m n = refl
works_same o.LessEqual None (Some k) m n = refl
works_same o.LessEqual None None m n = refl
works_same o.GreaterEqual (Some j) (Some k) m n = refl
works_same o.GreaterEqual (Some j) None m n = refl
works_same o.GreaterEqual None (Some k) m n = refl
works_same o.GreaterEqual None None m n = refl
works_same o.Equal (Some j) (Some k) m n = refl
works_same o.Equal (Some j) None m n = refl
works_same o.Equal None (Some k) m n = refl
works_same o.Equal None None m n = refl
works_same o.NotEqual (Some j) (Some k) m n = refl
works_same o.NotEqual (Some j) None m n = refl
works_same o.NotEqual None (Some k) m n = refl
works_same o.NotEqual None None m n = refl
works_same o.BitAnd (Some j) (Some k) m n = refl
works_same o.BitAnd (Some j) None m n = refl
works_same o.BitAnd None (Some k) m n = refl
works_same o.BitAnd None None m n = refl
works_same o.BitXor (Some j) (Some k) m n = refl
works_same o.BitXor (Some j) None m n = refl
works_same o.BitXor None (Some k) m n = refl
works_same o.BitXor None None m n = refl
works_same o.BitOr (Some j) (Some k) m n = refl
works_same o.BitOr (Some j) None m n = refl
works_same o.BitOr None (Some k) m n = refl
works_same o.BitOr None None m n = refl
works_same o.LogicalAnd (Some j) (Some k) m n = refl
works_same o.LogicalAnd (Some j) None m n = refl
works_same o.LogicalAnd None (Some k) m n = refl
works_same o.LogicalAnd None None m n = refl
works_same o.LogicalOr (Some j) (Some k) m n = refl
works_same o.LogicalOr (Some j) None m n = refl
works_same o.LogicalOr None (Some k) m n = refl
works_same o.LogicalOr None None m n = refl

-- what has no operator is refused
refused_by : (b : BinaryOperator) (j k : Option IntegerKind) (m n : ℕ) → operator_on b j k m n ≡ None → (at : ℕ) (v w : ℤ)
    (d : State) → operated at b (operand_in (type_of j m) v) (operand_in (type_of k n) w) d ≡ refused d
refused_by o.Multiply (Some j) (Some k) m n e at v w d = cc
refused_by o.Multiply (Some j) None m n e at v w d = refl
refused_by o.Multiply None (Some k) m n e at v w d = refl
refused_by o.Multiply None None m n e at v w d = refl
refused_by o.Divide (Some j) (Some k) m n e at v w d = cc
refused_by o.Divide (Some j) None m n e at v w d = refl
refused_by o.Divide None (Some k) m n e at v w d = refl
refused_by o.Divide None None m n e at v w d = refl
refused_by o.Remainder (Some j) (Some k) m n e at v w d = cc
refused_by o.Remainder (Some j) None m n e at v w d = refl
refused_by o.Remainder None (Some k) m n e at v w d = refl
refused_by o.Remainder None None m n e at v w d = refl
refused_by o.Add (Some j) (Some k) m n e at v w d = cc
refused_by o.Add (Some j) None m n e at v w d = cc
refused_by o.Add None (Some k) m n e at v w d = cc
refused_by o.Add None None m n e at v w d = refl
refused_by o.Subtract (Some j) (Some k) m n e at v w d = cc
refused_by o.Subtract (Some j) None m n e at v w d = refl
refused_by o.Subtract None (Some k) m n e at v w d = cc
refused_by o.Subtract None None m n e at v w d = cc
refused_by o.ShiftLeft (Some j) (Some k) m n e at v w d = cc
refused_by o.ShiftLeft (Some j) None m n e at v w d = refl
refused_by o.ShiftLeft None (Some k) m n e at v w d = refl
refused_by o.ShiftLeft None None m n e at v w d = refl
refused_by o.ShiftRight (Some j) (Some k) m n e at v w d = cc
refused_by o.ShiftRight (Some j) None m n e at v w d = refl
refused_by o.ShiftRight None (Some k) m n e at v w d = refl
refused_by o.ShiftRight None None m n e at v w d = refl
refused_by o.Less (Some j) (Some k) m n e at v w d = cc
refused_by o.Less (Some j) None m n e at v w d = cc
refused_by o.Less None (Some k) m n e at v w d = cc
refused_by o.Less None None m n e at v w d = cc
refused_by o.Greater (Some j) (Some k) m n e at v w d = cc
refused_by o.Greater (Some j) None m n e at v w d = cc
refused_by o.Greater None (Some k) m n e at v w d = cc
refused_by o.Greater None None m n e at v w d = cc
refused_by o.LessEqual (Some j) (Some k) m n e at v w d = cc
refused_by o.LessEqual (Some j) None m n e at v w d = cc
refused_by o.LessEqual None (Some k) m n e at v w d = cc
refused_by o.LessEqual None None m n e at v w d = cc
refused_by o.GreaterEqual (Some j) (Some k) m n e at v w d = cc
refused_by o.GreaterEqual (Some j) None m n e at v w d = cc
refused_by o.GreaterEqual None (Some k) m n e at v w d = cc
refused_by o.GreaterEqual None None m n e at v w d = cc
refused_by o.Equal (Some j) (Some k) m n e at v w d = cc
refused_by o.Equal (Some j) None m n e at v w d = cc
refused_by o.Equal None (Some k) m n e at v w d = cc
refused_by o.Equal None None m n e at v w d = cc
refused_by o.NotEqual (Some j) (Some k) m n e at v w d = cc
refused_by o.NotEqual (Some j) None m n e at v w d = cc
refused_by o.NotEqual None (Some k) m n e at v w d = cc
refused_by o.NotEqual None None m n e at v w d = cc
refused_by o.BitAnd (Some j) (Some k) m n e at v w d = cc
refused_by o.BitAnd (Some j) None m n e at v w d = refl
refused_by o.BitAnd None (Some k) m n e at v w d = refl
refused_by o.BitAnd None None m n e at v w d = refl
refused_by o.BitXor (Some j) (Some k) m n e at v w d = cc
refused_by o.BitXor (Some j) None m n e at v w d = refl
refused_by o.BitXor None (Some k) m n e at v w d = refl
refused_by o.BitXor None None m n e at v w d = refl
refused_by o.BitOr (Some j) (Some k) m n e at v w d = cc
refused_by o.BitOr (Some j) None m n e at v w d = refl
refused_by o.BitOr None (Some k) m n e at v w d = refl
refused_by o.BitOr None None m n e at v w d = refl
refused_by o.LogicalAnd (Some j) (Some k) m n e at v w d = refl
refused_by o.LogicalAnd (Some j) None m n e at v w d = refl
refused_by o.LogicalAnd None (Some k) m n e at v w d = refl
refused_by o.LogicalAnd None None m n e at v w d = refl
refused_by o.LogicalOr (Some j) (Some k) m n e at v w d = refl
refused_by o.LogicalOr (Some j) None m n e at v w d = refl
refused_by o.LogicalOr None (Some k) m n e at v w d = refl
refused_by o.LogicalOr None None m n e at v w d = refl

pub refuses : (b : BinaryOperator) (x y : OperandType) → operator_of b x y ≡ None → (at : ℕ) (v w : ℤ) (d : State)
    → operated at b (operand_in x v) (operand_in y w) d ≡ refused d
refuses b x y e at v w d = refused_by b x.kind y.kind x.element y.element e at v w d
