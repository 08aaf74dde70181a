-- The core of forms on pointers, subscripts and members is worth what the form is worth.
use Rattle.std.proofs.Common.{◌≡◌, ℕ, suc, ◌+◌, ℤ, pos, negsuc, Bool, false, cond, Option, Some, None, Ok, Err}
use Rattle.std.proofs.Common.{refl, sym, ap, ap₂, ◌∙◌, subst}
use Rattle.std.specs.Prelude.{not, nat_eq, nat_lt, nat_le, neg_ℤ, unsigned_abs, ◌+ℤ◌, ◌-ℤ◌, ◌*ℤ◌}
use Rattle.plain_data.specs.declared.run.Undefined.TheVariants as undefined
use Rattle.c_language.specs.declared.expr.BinaryOperator.{BinaryOperator}
use Rattle.c_language.specs.declared.expr.BinaryOperator.TheVariants as o
use Rattle.c_language.specs.declared.ctype.CType.{CType}
use Rattle.c_language.specs.declared.ctype.IntegerKind.{IntegerKind}
use Rattle.c_language.specs.declared.tables.Tables.{Tables}
use Rattle.c_language.specs.Integers.{number_of}
use Rattle.c_store.specs.Access.{in_one_object}
use Rattle.c_language.specs.Scopes.{Name}
use Rattle.c_language.specs.Typing.{Typed}
use Rattle.c_means.specs.Parts.{State, Env, Part, stop}
use Rattle.c_means.specs.Parts as c
use Rattle.c_means.specs.Values.{address, bytes_of, class_in}
use Rattle.c_means.specs.Values as values
use Rattle.c_means.specs.Pointers as pointers
use Rattle.c_means.specs.Operators.{value_type, kind_in, target_in}
use Rattle.c_means.specs.Operators as c_operators
use Rattle.c_means.specs.Expressions as forms
use Rattle.core_tree.specs.declared.expr.Expr.{Expr}
use Rattle.core_tree.specs.declared.expr.Expr.TheVariants as expr
use Rattle.core_tree.specs.declared.types.Arithmetic.{Arithmetic}
use Rattle.core_tree.specs.declared.types.Operator.{Operator}
use Rattle.core_tree.specs.declared.types.Operator.TheVariants as op
use Rattle.core_tree.specs.declared.types.Relation.TheVariants as r
use Rattle.core_tree.specs.declared.types.ValueType.{ValueType}
use Rattle.core_tree.specs.declared.types.ValueType.TheVariants as v
use Rattle.core_tree.specs.Numbers as numbers
use Rattle.core_tree.specs.Memory as memory
use Rattle.core_tree.specs.Values.{value}
use Rattle.core_tree.proofs.Equations as eq
use Rattle.elaborate.specs.Means.{Numbering}
use Rattle.elaborate.specs.Means.{as_done, as_found, as_value, IsValueOf, IsAddressOf}
use Rattle.elaborate.specs.Types.{arithmetic}
use Rattle.elaborate.proofs.States.{test_same}
use Rattle.elaborate.proofs.Values.{
  by_worth,
  rerun,
  node_does,
  between_does,
  pair_does,
  evaluates_both,
  addressed,
  as_value_then,
}

-- ---- pointers moved, compared and subtracted

pub moved_to_same : (at from : ℕ) (z : ℤ) (d : State) → memory.moved_to at from z (as_done d) ≡ as_found
    (pointers.moved_to at from z d)
moved_to_same at from (negsuc n) d = refl
moved_to_same at from (pos to) d =
    test_same (in_one_object d.store from to) _ _ (Ok (pos to, d)) (stop at undefined.PointerRange d) refl refl

module _ (t u : Option CType) (tables tables' : Tables) (v w : ℤ) (at : ℕ) (d : State) where
  abbrev left : c_operators.Operand
  left = c_operators.operand_of tables t v

  abbrev right : c_operators.Operand
  right = c_operators.operand_of tables' u w

  -- a pointer and an integer
  pub forward_same : (k : IntegerKind) → kind_in t ≡ None → kind_in u ≡ Some k
      → memory.operated at (op.Forward (bytes_of tables (target_in t))) v w (as_done d) ≡ as_found
      (c_operators.operated at o.Add left right d)
  forward_same k f g =
      moved_to_same at (address v) (pos (address v) +ℤ w *ℤ pos (bytes_of tables (target_in t))) d
      ∙ ap₂ (λ a b. as_found (c_operators.addition_of a b at left right d)) (sym f) (sym g)

  -- an integer and a pointer
  pub forward_by_same : (k : IntegerKind) → kind_in t ≡ Some k → kind_in u ≡ None
      → memory.operated at (op.ForwardBy (bytes_of tables' (target_in u))) v w (as_done d) ≡ as_found
      (c_operators.operated at o.Add left right d)
  forward_by_same k f g =
      moved_to_same at (address w) (pos (address w) +ℤ v *ℤ pos (bytes_of tables' (target_in u))) d
      ∙ ap₂ (λ a b. as_found (c_operators.addition_of a b at left right d)) (sym f) (sym g)

  pub back_same : (k : IntegerKind) → kind_in t ≡ None → kind_in u ≡ Some k
      → memory.operated at (op.Back (bytes_of tables (target_in t))) v w (as_done d) ≡ as_found
      (c_operators.operated at o.Subtract left right d)
  back_same k f g =
      moved_to_same at (address v) (pos (address v) +ℤ neg_ℤ w *ℤ pos (bytes_of tables (target_in t))) d
      ∙ ap₂ (λ a b. as_found (c_operators.subtraction_of a b at left right d)) (sym f) (sym g)

  pub distance_same : kind_in t ≡ None → kind_in u ≡ None
      → memory.operated at (op.Distance (bytes_of tables (target_in t))) v w (as_done d) ≡ as_found
      (c_operators.operated at o.Subtract left right d)
  distance_same f g =
      test_same (in_one_object d.store (address v) (address w)) _ _
      (Ok (pointers.elements_in (pos (address v) -ℤ pos (address w)) (bytes_of tables (target_in t)), d))
      (stop at undefined.PointerOrder d) refl refl
      ∙ ap₂ (λ a b. as_found (c_operators.subtraction_of a b at left right d)) (sym f) (sym g)

  -- where one of the two is a pointer
  module _ (mixed : c_operators.are_integers (kind_in t) (kind_in u) ≡ false) where
    pub less_same : memory.operated at (op.Order r.Less) v w (as_done d) ≡ as_found
        (c_operators.operated at o.Less left right d)
    less_same =
        test_same (in_one_object d.store (address v) (address w)) _ _
        (Ok (number_of (nat_lt (address v) (address w)), d)) (stop at undefined.PointerOrder d) refl refl
        ∙ ap (λ b. as_found (cond b (c_operators.arithmetic at o.Less left right d)
        (pointers.ordered at nat_lt (address v) (address w) d))) (sym mixed)

    pub greater_same : memory.operated at (op.Order r.Greater) v w (as_done d) ≡ as_found
        (c_operators.operated at o.Greater left right d)
    greater_same =
        test_same (in_one_object d.store (address v) (address w)) _ _
        (Ok (number_of (nat_lt (address w) (address v)), d)) (stop at undefined.PointerOrder d) refl refl
        ∙ ap (λ b. as_found (cond b (c_operators.arithmetic at o.Greater left right d)
        (pointers.ordered at (λ a b. nat_lt b a) (address v) (address w) d))) (sym mixed)

    pub less_equal_same : memory.operated at (op.Order r.LessEqual) v w (as_done d) ≡ as_found
        (c_operators.operated at o.LessEqual left right d)
    less_equal_same =
        test_same (in_one_object d.store (address v) (address w)) _ _
        (Ok (number_of (nat_le (address v) (address w)), d)) (stop at undefined.PointerOrder d) refl refl
        ∙ ap (λ b. as_found (cond b (c_operators.arithmetic at o.LessEqual left right d)
        (pointers.ordered at nat_le (address v) (address w) d))) (sym mixed)

    pub greater_equal_same : memory.operated at (op.Order r.GreaterEqual) v w (as_done d) ≡ as_found
        (c_operators.operated at o.GreaterEqual left right d)
    greater_equal_same =
        test_same (in_one_object d.store (address v) (address w)) _ _
        (Ok (number_of (nat_le (address w) (address v)), d)) (stop at undefined.PointerOrder d) refl refl
        ∙ ap (λ b. as_found (cond b (c_operators.arithmetic at o.GreaterEqual left right d)
        (pointers.ordered at (λ a b. nat_le b a) (address v) (address w) d))) (sym mixed)

    pub equal_same : memory.operated at op.Same v w (as_done d) ≡ as_found
        (c_operators.operated at o.Equal left right d)
    equal_same = ap (λ b. as_found (cond b (c_operators.arithmetic at o.Equal left right d)
        (Ok (number_of (nat_eq (address v) (address w)), d)))) (sym mixed)

    pub not_equal_same : memory.operated at op.Different v w (as_done d) ≡ as_found
        (c_operators.operated at o.NotEqual left right d)
    not_equal_same = ap (λ b. as_found (cond b (c_operators.arithmetic at o.NotEqual left right d)
        (Ok (number_of (not (nat_eq (address v) (address w))), d)))) (sym mixed)

module _ (numbering : Numbering) where
  -- a binary operator, by an operator of the core that does what it does
  pub operate_value : (b : BinaryOperator) (a : Arithmetic) → arithmetic b ≡ Some a → (at : ℕ) (operator : Operator)
      (is_constant : Bool) (e f : Expr) (p q : Part)
      → IsValueOf numbering e p → IsValueOf numbering f q
      → ((v w : ℤ) (d : State) → memory.operated at operator v w (as_done d) ≡ as_found
      (c_operators.operated_on at b p.typed q.typed v w d))
      → IsValueOf numbering (expr.Operate at operator is_constant e f) (forms.binary at b p q)
  operate_value b a is at operator is_constant e f p q h i same = subst
      (λ (r : Part). IsValueOf numbering (expr.Operate at operator is_constant e f) r)
      (sym (evaluates_both numbering b a is at p q))
      (by_worth numbering _ _ _ _ _ (eq.worth-Operate at operator is_constant e f)
      (pair_does numbering (value e) (value f) p q (memory.operated at operator)
      (λ v w d. c_operators.operated_on at b p.typed q.typed v w d) h i same))

  grouped : {A B C : Type 0} (o : c.Outcome A) (f : A × State → c.Outcome B) (g : B × State → c.Outcome C) → c.◌>>=◌
      (c.◌>>=◌ o f) g ≡ c.◌>>=◌ o (λ x. c.◌>>=◌ (f x) g)
  grouped (Ok x) f g = refl
  grouped (Err d) f g = refl

  then_same_c : {A B : Type 0} (o : c.Outcome A) (f g : A × State → c.Outcome B) → ((x : A × State) → f x ≡ g x) →
      c.◌>>=◌ o f ≡ c.◌>>=◌ o g
  then_same_c (Ok x) f g h = h x
  then_same_c (Err d) f g h = refl

  -- ---- subscripts (C99 6.5.2.1p2): the address that the sum is

  pub subscript_address : (at : ℕ) (operator : Operator) (e f : Expr) (p q : Part) → IsValueOf numbering e p → IsValueOf
      numbering f q
      → ((v w : ℤ) (d : State) → memory.operated at operator v w (as_done d) ≡ as_found
      (c_operators.operated_on at o.Add p.typed q.typed v w d))
      → IsAddressOf numbering (expr.Convert v.Pointer (expr.Operate at operator false e f)) (forms.subscript at p q)
  subscript_address at operator e f p q h i same = by_worth numbering _ _ _ _ _
      (eq.worth-Convert v.Pointer (expr.Operate at operator false e f))
      (rerun numbering _ _ _ _ _
      (between_does numbering (value (expr.Operate at operator false e f)) (λ l. suc (p.size l + q.size l))
      (λ l. p.room l + q.room l)
      (λ l env base d. c.◌>>=◌ (forms.both_run p q l env base d) (λ v. c_operators.operated_on at o.Add p.typed
      q.typed v.0.0 v.0.1 v.1)) _ (λ z d. Ok (pos (address z), d))
      (by_worth numbering _ _ _ _ _ (eq.worth-Operate at operator false e f)
      (pair_does numbering (value e) (value f) p q (memory.operated at operator)
      (λ v w d. c_operators.operated_on at o.Add p.typed q.typed v w d) h i same)) (λ z d. refl))
      (λ l env base d. grouped (forms.both_run p q l env base d) (λ v. c_operators.operated_on at o.Add p.typed
      q.typed v.0.0 v.0.1 v.1) (λ z. Ok (pos (address z.0), z.1))
      ∙ then_same_c (forms.both_run p q l env base d) _ _ (λ v. sym
      (as_value_then (c_operators.operated_on at o.Add p.typed q.typed v.0.0 v.0.1 v.1)
      (λ a. Ok (address a.0, a.1))))
      ∙ sym (as_value_then (forms.both_run p q l env base d) (λ v. c.◌>>=◌
      (c_operators.operated_on at o.Add p.typed q.typed v.0.0 v.0.1 v.1) (λ a. Ok (address a.0, a.1))))))

  -- ---- members (C99 6.5.2.3)

  pub member_address : (offset : ℕ) (x : Typed) (e : Expr) (p : Part) → IsAddressOf numbering e p → IsAddressOf
      numbering
      (expr.Offset offset e) (forms.member_of_lvalue offset x p)
  member_address offset x e p h = by_worth numbering _ _ _ _ _ (eq.worth-Offset offset e) (rerun numbering _ _ _ _ _
      (node_does numbering (value e) p.size p.room (λ l env base d. as_value (p.reach l env base d)) _
      (λ z d. Ok (pos (forms.behind offset (unsigned_abs z)), d)) h (λ z d. refl))
      (λ l env base d. addressed (p.reach l env base d) (λ z d. Ok (pos (forms.behind offset (unsigned_abs z)), d))
      ∙ sym (as_value_then (p.reach l env base d) (λ a. Ok (forms.behind offset a.0, a.1)))))

  pub arrow_address : (at : ℕ) (name : Name) (e : Expr) (p : Part) → IsValueOf numbering e p
      → IsAddressOf numbering (expr.Offset (forms.offset_of p.typed.after.tables (target_in (value_type p.typed)) name)
      (expr.Convert v.Pointer e)) (forms.arrow at name p)
  arrow_address at name e p h =
      let offset = forms.offset_of p.typed.after.tables (target_in (value_type p.typed)) name in
      by_worth numbering _ _ _ _ _ (eq.worth-Offset offset (expr.Convert v.Pointer e)) (rerun numbering _ _ _ _ _
      (node_does numbering (value (expr.Convert v.Pointer e)) p.size p.room
      (λ l env base d. c.◌>>=◌ (p.run l env base d) (λ z. Ok (pos (address z.0), z.1))) _
      (λ z d. Ok (pos (forms.behind offset (unsigned_abs z)), d))
      (by_worth numbering _ _ _ _ _ (eq.worth-Convert v.Pointer e)
      (between_does numbering (value e) p.size p.room p.run _
      (λ z d. Ok (pos (address z), d)) h (λ z d. refl)))
      (λ z d. refl))
      (λ l env base d. grouped (p.run l env base d) (λ z. Ok (pos (address z.0), z.1))
      (λ z. Ok (pos (forms.behind offset (unsigned_abs z.0)), z.1))
      ∙ sym (as_value_then (p.run l env base d) (λ z. Ok (forms.behind offset (address z.0), z.1)))))

  -- a member of a value, by the type of the core that it has
  pub member_value : (offset : ℕ) (t : ValueType) (x : Typed) (e : Expr) (p : Part) → IsValueOf numbering e p
      → ((z : ℤ) → numbers.value_of_bytes t (values.bytes_within offset (numbers.size_of t) (unsigned_abs z)) ≡
      forms.part_of_value offset x z)
      → IsValueOf numbering (expr.Extract offset t e) (forms.member_of_value offset x p)
  member_value offset t x e p h same = by_worth numbering _ _ _ _ _ (eq.worth-Extract offset t e)
      (node_does numbering (value e) p.size p.room p.run _ (λ z d. Ok (forms.part_of_value offset x z, d)) h
      (λ z d. ap (λ z. as_found (Ok (z, d))) (same z)))
