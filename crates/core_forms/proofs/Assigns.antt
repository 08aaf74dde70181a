-- The core of assignments, by the cores of their parts.
use Rattle.std.proofs.Common.{◌≡◌, ℕ, ℤ, pos, Bool, false, true, List, Option, Some, None, refl, sym, ap, ap₂, ◌∙◌, subst}
use Rattle.std.specs.Prelude.{◌++◌, not}
use Rattle.std.proofs.lemmas.Bool.{false≢true}
use Rattle.std.proofs.lemmas.List.{append_assoc, map-append}
use Rattle.plain_data.specs.declared.run.Undefined.{Undefined}
use Rattle.c_language.specs.declared.ctype.IntegerKind.{IntegerKind}
use Rattle.c_means.specs.Marks as c_marks
use Rattle.c_means.specs.Marks.{Mark, operator_kinds, writes_at}
use Rattle.c_language.specs.declared.expr.BinaryOperator.{BinaryOperator}
use Rattle.c_language.specs.declared.expr.UnaryOperator.{UnaryOperator}
use Rattle.c_language.specs.declared.ctype.IntegerKind.TheVariants as k
use Rattle.c_language.specs.declared.tables.Tables.{Tables}
use Rattle.c_language.specs.declared.shown.Told.{Told}
use Rattle.c_language.specs.Scopes.{Name}
use Rattle.c_language.specs.Typing.{Typed, type_of, type_in, told_of, used_told}
use Rattle.c_language.specs.Typing as says
use Rattle.c_means.specs.Parts.{State, Part}
use Rattle.c_means.specs.Expressions as forms
use Rattle.c_means.specs.Operators.{operated, operand_of, kind_in, value_type}
use Rattle.c_means.specs.Operators as c_operators
use Rattle.c_means.specs.Values.{class_in, bytes_of}
use Rattle.core_tree.specs.declared.expr.Expr.{Expr}
use Rattle.core_tree.specs.declared.expr.Expr.TheVariants as expr
use Rattle.core_tree.specs.declared.types.Access.{Access}
use Rattle.core_tree.specs.declared.types.Answered.{Answered}
use Rattle.core_tree.specs.declared.types.Answered.TheVariants as answered
use Rattle.core_tree.specs.declared.types.Operator.{Operator}
use Rattle.core_tree.specs.declared.types.ValueType.{ValueType}
use Rattle.core_tree.specs.declared.types.ValueType.TheVariants as v
use Rattle.core_tree.specs.Memory as memory
use Rattle.core_marks.specs.Kinds as kinds
use Rattle.core_marks.specs.Marks.{stops, value_marks, write_marks}
use Rattle.core_marks.proofs.ExprMarks as trees
use Rattle.elaborate.specs.Tokens.{all_told, told}
use Rattle.elaborate.specs.declared.operators.OperandType.{OperandType}
use Rattle.elaborate.specs.Means.{Numbering, SameMarks, IsValueOf, as_done, as_found}
use Rattle.elaborate.specs.Operators.{Operates, operator_of}
use Rattle.elaborate.proofs.Objects.{stored_by}
use Rattle.elaborate.proofs.Operates.{operates}
use Rattle.elaborate.proofs.Refused.{unstepped_before, unstepped_stored, unupdated_value}
use Rattle.elaborate.proofs.Values as values
use Rattle.core_forms.specs.declared.built.Built.{Built}
use Rattle.core_forms.specs.declared.built.Used.{Used}
use Rattle.core_forms.specs.Nodes.{a_value, access_by, access_if, address_in, one_more, operand_by, scalar_access_by}
use Rattle.core_forms.specs.Nodes.{scalar_by, scalar_in, stepped_by, stepped_node, stored_node, type_by, updated_by}
use Rattle.core_forms.specs.declared.built.Node.{Node}
use Rattle.core_forms.specs.Built.{IsBuilt, IsNodeOf, IsUsed, StepsTo}
use Rattle.core_forms.proofs.Saying.{value_told, said_assignment, said_postfix, said_unary}
use Rattle.core_forms.proofs.KindLaws.{of_scalar, operand_alike, operates_at, is_updated_by, no_scalar, no_operator}
use Rattle.core_forms.proofs.Forms.{address_of, address_marks}
use Rattle.core_forms.proofs.Marks.{kinds_in, kinds_on, left_marks, updated_marks, stepped_marks, told_stops, by_marks, as_told}
use Rattle.core_forms.proofs.Marks.{marks_then, own_then}

module _ (numbering : Numbering) where
  access_same : (x : Told) (rooted : Bool) (stored : ValueType) (p : Part) → x ≡ told_of p.typed → rooted ≡ p.rooted
      → access_by x rooted stored ≡ record { at = p.typed.at; stored = stored; is_tested = not p.rooted }
  access_same x rooted stored p h i = ap₂ (λ (a : Told) b. access_by a b stored) h i

  -- what is written, at its token and at the operator's
  told_writes : (at a : ℕ) (stored : ValueType) (rooted : Bool) (name : ℕ → Name)
      → all_told name (write_marks at (record { at = a; stored = stored; is_tested = not rooted }))
      ≡ writes_at at a rooted
  told_writes at a stored true name = refl
  told_writes at a stored false name = refl

  store_marks : (at : ℕ) (stored : ValueType) (n : Node) (f : Expr) (p q : Part) → IsNodeOf numbering n p
      → SameMarks numbering (value_marks f) q.marks
      → SameMarks numbering (value_marks (expr.Store at (record {
        at = p.typed.at;
        stored = stored;
        is_tested = not p.rooted;
      }) (address_in n) f)) (forms.assignment at None p q).marks
  store_marks at stored n f p q h i =
      let access : Access = record { at = p.typed.at; stored = stored; is_tested = not p.rooted } in
      by_marks numbering (trees.marks-Store (expr.Store at access (address_in n) f) at access (address_in n) f refl)
      (own_then numbering (write_marks at access) (writes_at at p.typed.at p.rooted)
      (told_writes at p.typed.at stored p.rooted)
      (marks_then numbering (address_marks numbering n p h) i))

  -- what is read and written again
  told_updates : (at a a' : ℕ) (stored : ValueType) (rooted rooted' : Bool) (ks ks' : List Undefined) → a ≡ a'
      → rooted ≡ rooted' → ks ≡ ks' → (name : ℕ → Name)
      → all_told name (stops at ks ++ write_marks at (record {
        at = a;
        stored = stored;
        is_tested = not rooted;
      })) ≡ c_marks.stops at ks' ++ writes_at at a' rooted'
  told_updates at a a' stored rooted rooted' ks ks' is root same name =
      map-append (told name) (stops at ks)
      (write_marks at (record { at = a; stored = stored; is_tested = not rooted }))
      ∙ ap₂ (λ xs ys. xs ++ ys) (told_stops name at ks ∙ ap (c_marks.stops at) same)
      (told_writes at a stored rooted name ∙ ap₂ (writes_at at) is root)

  -- what isn't updated is nothing of its own
  unmarked : (b : Bool) (at : ℕ) (ks : List Undefined) (p : Part) (more : List Mark) → b ≡ false
      → more ≡ forms.updating b at ks p ++ more
  unmarked true at ks p more is = absurd (false≢true (sym is))
  unmarked false at ks p more is = refl

  all_marked : (b : Bool) (at : ℕ) (ks : List Undefined) (p : Part) (more : List Mark) → b ≡ true
      → (c_marks.stops at ks ++ writes_at at p.typed.at p.rooted) ++ more ≡ forms.updating b at ks p ++ more
  all_marked true at ks p more is = refl
  all_marked false at ks p more is = absurd (false≢true is)

  pub simple_built : (at : ℕ) (tables : Tables) (x : Built) (y : Used) (p q : Part) (told : Told) (z : Built)
      → tables ≡ q.typed.after.tables → IsBuilt numbering x p → IsUsed numbering y q
      → told ≡ says.node_over_two at x.told.shown y.told.shown (says.assignment_judged tables None)
      (x.told.faults ++ y.told.faults)
      → z ≡ a_value told (stored_node at tables x.told x.rooted x.node y.value)
      → IsBuilt numbering z (forms.assignment at None p q)
  simple_built at tables x y p q told z t h i s is =
      let stored = type_by q.typed.after.tables (told_of p.typed) in
      let v = values.simple_value numbering at stored (address_in x.node) y.value p q
      (stored_by q.typed.after.tables p.typed) (address_of numbering x.node p h.node) i.value in
      subst (λ z. IsBuilt numbering z (forms.assignment at None p q))
      (sym (is ∙ ap (λ a. a_value told (expr.Store at a (address_in x.node) y.value))
      (ap₂ (λ a (b : Told). access_by b x.rooted (type_by a b)) t h.told
      ∙ ap (λ b. access_by (told_of p.typed) b stored) h.rooted)))
      (record {
        told = said_assignment None at tables x.told y.told told p.typed q.typed t h.told i.told s;
        rooted = refl;
        node = record {
          is_value = refl;
          nowhere = record { reaches = λ l env base d. refl };
          value = v;
          effect = v;
          marks = store_marks at stored x.node y.value p q h.node i.marks;
          place_marks = λ l. refl;
        };
      })

  -- whether an object is updated, by the operand as it is used
  unfit : {b : Bool} (op : BinaryOperator) (tables : Tables) (x : Told) (y : Used) (q p : Part) → x ≡ told_of p.typed
      → IsUsed numbering y q → forms.is_updated op p.typed (operand_by tables y.told).kind ≡ b
      → forms.is_updated op p.typed (kind_in (value_type q.typed)) ≡ b
  unfit op tables x y q p h i e = ap (λ (a : Told). forms.is_updated op p.typed (kind_in (type_in a.shown))) (sym i.told) ∙ e

  scalar_told : (x : Told) (p : Part) (stored : ValueType) → x ≡ told_of p.typed
      → scalar_by x ≡ Some stored → scalar_in (class_in (type_of p.typed)) ≡ Some stored
  scalar_told x p stored h e = ap scalar_by (sym h) ∙ e

  compound_by : (op : BinaryOperator) (at : ℕ) (tables : Tables) (x : Built) (y : Used) (p q : Part)
      (scalar : Option ValueType) (chosen : Option Operator)
      → tables ≡ q.typed.after.tables → IsBuilt numbering x p → IsUsed numbering y q → scalar_by x.told ≡ scalar
      → operator_of op (operand_by tables x.told) (operand_by tables y.told) ≡ chosen
      → IsValueOf numbering (updated_by at (access_if x.told x.rooted scalar) chosen (address_in x.node) y.value)
      (forms.assignment at (Some op) p q)
  compound_by op at tables x y p q None chosen t h i typed c =
      unupdated_value numbering at op (address_in x.node) y.value p q (address_of numbering x.node p h.node) i.value
      (unfit op tables x.told y q p h.told i (no_scalar op tables x.told (operand_by tables y.told) p.typed h.told typed))
  compound_by op at tables x y p q (Some stored) None t h i typed c =
      unupdated_value numbering at op (address_in x.node) y.value p q (address_of numbering x.node p h.node) i.value
      (unfit op tables x.told y q p h.told i
      (no_operator op tables x.told (operand_by tables y.told) p.typed stored h.told typed c))
  compound_by op at tables x y p q (Some stored) (Some chosen) t h i typed c =
      let of = scalar_told x.told p stored h.told typed in
      subst (λ a. IsValueOf numbering (expr.Update at chosen a (address_in x.node) y.value) (forms.assignment at (Some op) p q))
      (sym (access_same x.told x.rooted stored p h.told h.rooted))
      (values.compound_value numbering at op chosen stored (address_in x.node) y.value p q
      (unfit op tables x.told y q p h.told i
      (is_updated_by op tables x.told (operand_by tables y.told) p.typed stored chosen h.told typed c))
      (of_scalar p.typed.after.tables p.typed stored of) (of_scalar q.typed.after.tables p.typed stored of)
      (address_of numbering x.node p h.node) i.value
      (operates_at op tables x.told y.told p.typed q.typed chosen stored typed t h.told i.told
      (operates op (operand_by tables x.told) (operand_by tables y.told) chosen c) at))

  -- the kinds that the chosen operator may meet
  chosen_kinds : (op : BinaryOperator) (tables : Tables) (x : Told) (p : Typed) (second : OperandType)
      (kind : Option IntegerKind) (q : Operator) → x ≡ told_of p → second.kind ≡ kind
      → operator_of op (operand_by tables x) second ≡ Some q
      → kinds.operator_kinds q ≡ operator_kinds op (kind_in (type_of p)) kind
  chosen_kinds op tables x p second kind q h k is =
      ap kinds_in (sym is)
      ∙ kinds_on op (operand_by tables x).kind second.kind (operand_by tables x).element second.element
      ∙ ap₂ (λ (a : Told) k. operator_kinds op (kind_in (type_in a.shown)) k) h k

  compound_marks : (op : BinaryOperator) (at : ℕ) (tables : Tables) (x : Built) (y : Used) (p q : Part)
      (scalar : Option ValueType) (chosen : Option Operator)
      → tables ≡ q.typed.after.tables → IsBuilt numbering x p → IsUsed numbering y q → scalar_by x.told ≡ scalar
      → operator_of op (operand_by tables x.told) (operand_by tables y.told) ≡ chosen
      → SameMarks numbering
      (value_marks (updated_by at (access_if x.told x.rooted scalar) chosen (address_in x.node) y.value))
      (forms.assignment at (Some op) p q).marks
  compound_marks op at tables x y p q None chosen t h i typed c =
      by_marks numbering (left_marks (address_in x.node) y.value)
      (as_told numbering (marks_then numbering (address_marks numbering x.node p h.node) i.marks)
      (λ l. unmarked _ at (operator_kinds op (kind_in (type_of p.typed)) (kind_in (value_type q.typed))) p
      (p.place_marks l ++ q.marks l) (unfit op tables x.told y q p h.told i
      (no_scalar op tables x.told (operand_by tables y.told) p.typed h.told typed))))
  compound_marks op at tables x y p q (Some stored) None t h i typed c =
      by_marks numbering (left_marks (address_in x.node) y.value)
      (as_told numbering (marks_then numbering (address_marks numbering x.node p h.node) i.marks)
      (λ l. unmarked _ at (operator_kinds op (kind_in (type_of p.typed)) (kind_in (value_type q.typed))) p
      (p.place_marks l ++ q.marks l) (unfit op tables x.told y q p h.told i
      (no_operator op tables x.told (operand_by tables y.told) p.typed stored h.told typed c))))
  compound_marks op at tables x y p q (Some stored) (Some chosen) t h i typed c =
      let kind = kind_in (value_type q.typed) in
      let ks = operator_kinds op (kind_in (type_of p.typed)) kind in
      let access = access_by x.told x.rooted stored in
      let own = told_updates at x.told.at p.typed.at stored x.rooted p.rooted (kinds.operator_kinds chosen) ks
      (ap (λ (a : Told). a.at) h.told) h.rooted
      (chosen_kinds op tables x.told p.typed (operand_by tables y.told) kind chosen h.told
      (ap (λ (a : Told). kind_in (type_in a.shown)) i.told) c) in
      by_marks numbering (updated_marks at access chosen (address_in x.node) y.value
      ∙ sym (append_assoc (stops at (kinds.operator_kinds chosen)) (write_marks at access)
      (value_marks (address_in x.node) ++ value_marks y.value)))
      (as_told numbering (own_then numbering (stops at (kinds.operator_kinds chosen) ++ write_marks at access)
      (c_marks.stops at ks ++ writes_at at p.typed.at p.rooted) own
      (marks_then numbering (address_marks numbering x.node p h.node) i.marks))
      (λ l. all_marked _ at ks p (p.place_marks l ++ q.marks l) (unfit op tables x.told y q p h.told i
      (is_updated_by op tables x.told (operand_by tables y.told) p.typed stored chosen h.told typed c))))

  pub compound_built : (op : BinaryOperator) (at : ℕ) (tables : Tables) (x : Built) (y : Used) (p q : Part) (told : Told)
      (z : Built) → tables ≡ q.typed.after.tables → IsBuilt numbering x p → IsUsed numbering y q
      → told ≡ says.node_over_two at x.told.shown y.told.shown (says.assignment_judged tables (Some op))
      (x.told.faults ++ y.told.faults)
      → z ≡ a_value told (updated_by at (scalar_access_by x.told x.rooted)
      (operator_of op (operand_by tables x.told) (operand_by tables y.told)) (address_in x.node) y.value)
      → IsBuilt numbering z (forms.assignment at (Some op) p q)
  compound_built op at tables x y p q told z t h i s is =
      let v = compound_by op at tables x y p q _ _ t h i refl refl in
      subst (λ z. IsBuilt numbering z (forms.assignment at (Some op) p q)) (sym is) (record {
        told = said_assignment (Some op) at tables x.told y.told told p.typed q.typed t h.told i.told s;
        rooted = refl;
        node = record {
          is_value = refl;
          nowhere = record { reaches = λ l env base d. refl };
          value = v;
          effect = v;
          marks = compound_marks op at tables x y p q _ _ t h i refl refl;
          place_marks = λ l. refl;
        };
      })

  -- ---- `++` and `--`

  step_does : (op : BinaryOperator) (tables : Tables) (x : Told) (p : Typed) (chosen : Operator) (t : ValueType)
      → tables ≡ p.after.tables → x ≡ told_of p → scalar_by x ≡ Some t
      → Operates op (operand_by tables x) one_more chosen
      → (at : ℕ) (v : ℤ) (s : State) → memory.operated at chosen v (pos 1) (as_done s) ≡ as_found
      (operated at op (c_operators.operand p.after.tables p v) c_operators.one s)
  step_does op tables x p chosen t e h typed does at v s =
      subst (λ o. Operates op o one_more chosen) (operand_alike p.after.tables tables x t typed) does at v (pos 1) s
      ∙ ap₂ (λ a (b : Told). as_found (operated at op (operand_of a (type_in (used_told p.after.tables b).shown) v)
      c_operators.one s)) e h

  step_by : (op : BinaryOperator) (at : ℕ) (answer : Answered) (tables : Tables) (x : Built) (p : Part)
      (scalar : Option ValueType) (chosen : Option Operator)
      → tables ≡ p.typed.after.tables → IsBuilt numbering x p → scalar_by x.told ≡ scalar
      → operator_of op (operand_by tables x.told) one_more ≡ chosen
      → StepsTo numbering (stepped_by at answer (access_if x.told x.rooted scalar) chosen (address_in x.node)) answer at op p
  step_by op at answered.Before tables x p None chosen t h typed c =
      unstepped_before numbering at op (address_in x.node) p (address_of numbering x.node p h.node)
      (no_scalar op tables x.told one_more p.typed h.told typed)
  step_by op at answered.Stored tables x p None chosen t h typed c = λ written.
      unstepped_stored numbering at written op (address_in x.node) p (address_of numbering x.node p h.node)
      (no_scalar op tables x.told one_more p.typed h.told typed)
  step_by op at answered.Before tables x p (Some stored) None t h typed c =
      unstepped_before numbering at op (address_in x.node) p (address_of numbering x.node p h.node)
      (no_operator op tables x.told one_more p.typed stored h.told typed c)
  step_by op at answered.Stored tables x p (Some stored) None t h typed c = λ written.
      unstepped_stored numbering at written op (address_in x.node) p (address_of numbering x.node p h.node)
      (no_operator op tables x.told one_more p.typed stored h.told typed c)
  step_by op at answered.Before tables x p (Some stored) (Some chosen) t h typed c =
      subst (λ a. StepsTo numbering (expr.Step at chosen a answered.Before (address_in x.node)) answered.Before at op p)
      (sym (access_same x.told x.rooted stored p h.told h.rooted))
      (values.postfix_value numbering at op chosen stored (address_in x.node) p
      (is_updated_by op tables x.told one_more p.typed stored chosen h.told typed c)
      (of_scalar p.typed.after.tables p.typed stored (scalar_told x.told p stored h.told typed))
      (address_of numbering x.node p h.node)
      (step_does op tables x.told p.typed chosen stored t h.told typed
      (operates op (operand_by tables x.told) one_more chosen c) at))
  step_by op at answered.Stored tables x p (Some stored) (Some chosen) t h typed c =
      subst (λ a. StepsTo numbering (expr.Step at chosen a answered.Stored (address_in x.node)) answered.Stored at op p)
      (sym (access_same x.told x.rooted stored p h.told h.rooted))
      (λ written. values.prefix_value numbering at written op chosen stored (address_in x.node) p
      (is_updated_by op tables x.told one_more p.typed stored chosen h.told typed c)
      (of_scalar p.typed.after.tables p.typed stored (scalar_told x.told p stored h.told typed))
      (address_of numbering x.node p h.node)
      (step_does op tables x.told p.typed chosen stored t h.told typed
      (operates op (operand_by tables x.told) one_more chosen c) at))

  pub step_built : (op : BinaryOperator) (at : ℕ) (answer : Answered) (tables : Tables) (x : Built) (p : Part)
      → tables ≡ p.typed.after.tables → IsBuilt numbering x p
      → StepsTo numbering (stepped_node at op answer tables x) answer at op p
  step_built op at answer tables x p t h = step_by op at answer tables x p _ _ t h refl refl

  -- what stands at its tokens
  steps_marked : (op : BinaryOperator) (at : ℕ) (answer : Answered) (tables : Tables) (x : Built) (p : Part)
      (scalar : Option ValueType) (chosen : Option Operator)
      → tables ≡ p.typed.after.tables → IsBuilt numbering x p → scalar_by x.told ≡ scalar
      → operator_of op (operand_by tables x.told) one_more ≡ chosen
      → SameMarks numbering
      (value_marks (stepped_by at answer (access_if x.told x.rooted scalar) chosen (address_in x.node)))
      (λ l. forms.stepping at op p ++ p.place_marks l)
  steps_marked op at answer tables x p None chosen t h typed c =
      by_marks numbering (trees.marks-Cast (expr.Cast v.Void (address_in x.node)) v.Void (address_in x.node) refl)
      (as_told numbering (address_marks numbering x.node p h.node)
      (λ l. unmarked _ at (operator_kinds op (kind_in (type_of p.typed)) c_operators.one.kind) p (p.place_marks l)
      (no_scalar op tables x.told one_more p.typed h.told typed)))
  steps_marked op at answer tables x p (Some stored) None t h typed c =
      by_marks numbering (trees.marks-Cast (expr.Cast v.Void (address_in x.node)) v.Void (address_in x.node) refl)
      (as_told numbering (address_marks numbering x.node p h.node)
      (λ l. unmarked _ at (operator_kinds op (kind_in (type_of p.typed)) c_operators.one.kind) p (p.place_marks l)
      (no_operator op tables x.told one_more p.typed stored h.told typed c)))
  steps_marked op at answer tables x p (Some stored) (Some chosen) t h typed c =
      let ks = operator_kinds op (kind_in (type_of p.typed)) c_operators.one.kind in
      let access = access_by x.told x.rooted stored in
      let own = told_updates at x.told.at p.typed.at stored x.rooted p.rooted (kinds.operator_kinds chosen) ks
      (ap (λ (a : Told). a.at) h.told) h.rooted
      (chosen_kinds op tables x.told p.typed one_more c_operators.one.kind chosen h.told refl c) in
      by_marks numbering (stepped_marks at answer access chosen (address_in x.node)
      ∙ sym (append_assoc (stops at (kinds.operator_kinds chosen)) (write_marks at access)
      (value_marks (address_in x.node))))
      (as_told numbering (own_then numbering (stops at (kinds.operator_kinds chosen) ++ write_marks at access)
      (c_marks.stops at ks ++ writes_at at p.typed.at p.rooted) own (address_marks numbering x.node p h.node))
      (λ l. all_marked _ at ks p (p.place_marks l)
      (is_updated_by op tables x.told one_more p.typed stored chosen h.told typed c)))

  pub step_marks : (op : BinaryOperator) (at : ℕ) (answer : Answered) (tables : Tables) (x : Built) (p : Part)
      → tables ≡ p.typed.after.tables → IsBuilt numbering x p
      → SameMarks numbering (value_marks (stepped_node at op answer tables x))
      (λ l. forms.stepping at op p ++ p.place_marks l)
  step_marks op at answer tables x p t h = steps_marked op at answer tables x p _ _ t h refl refl
