-- Each form's core, by the cores of its parts.
use Rattle.std.proofs.Common.{◌≡◌, ℕ, ℤ, pos, Bool, false, true, List, Option, Some, None, Ok, refl, sym, ap, ap₂, ◌∙◌, subst}
use Rattle.std.specs.Prelude.{◌++◌, is_some, unwrap_or}
use Rattle.std.proofs.lemmas.Bool.{false≢true}
use Rattle.c_language.specs.declared.token.IntegerConstant.{IntegerConstant}
use Rattle.c_language.specs.declared.expr.BinaryOperator.{BinaryOperator}
use Rattle.c_language.specs.declared.expr.BinaryOperator.TheVariants as o
use Rattle.c_language.specs.declared.expr.UnaryOperator.TheVariants as u
use Rattle.c_language.specs.declared.ctype.CType.{CType}
use Rattle.c_language.specs.declared.ctype.IntegerKind.{IntegerKind}
use Rattle.c_language.specs.declared.tables.Tables.{Tables}
use Rattle.c_language.specs.Integers.{promoted}
use Rattle.c_language.specs.declared.shown.Told.{Told}
use Rattle.c_language.specs.declared.scope.Fault.{Fault}
use Rattle.c_language.specs.Scopes.{Scope, Name}
use Rattle.c_language.specs.Typing.{Typed, type_of, type_in, value_in, told_of, NamedType}
use Rattle.c_language.specs.Typing as says
use Rattle.c_means.specs.Parts.{State, Part}
use Rattle.c_means.specs.Parts as c
use Rattle.c_means.specs.Expressions as forms
use Rattle.c_means.specs.Operators.{kind_in, target_in, value_type, operand_of, operated, operated_on}
use Rattle.c_means.specs.Values.{class_in, bytes_of}
use Rattle.core_tree.specs.declared.expr.Expr.{Expr}
use Rattle.core_tree.specs.declared.expr.Expr.TheVariants as expr
use Rattle.core_tree.specs.declared.types.Arithmetic.{Arithmetic}
use Rattle.core_tree.specs.declared.types.Operator.{Operator}
use Rattle.core_tree.specs.declared.types.Turning.{Turning}
use Rattle.core_tree.specs.declared.types.Turning.TheVariants as turn
use Rattle.core_tree.specs.declared.types.ValueType.{ValueType}
use Rattle.core_tree.specs.declared.types.ValueType.TheVariants as v
use Rattle.core_tree.specs.Values.{value}
use Rattle.core_tree.proofs.Equations as eq
use Rattle.c_means.specs.Marks.{minus_kinds, operator_kinds, unless}
use Rattle.c_means.specs.Marks as c_marks
use Rattle.core_marks.specs.Marks.{value_marks}
use Rattle.core_marks.specs.Marks as core_marks
use Rattle.core_marks.proofs.ExprMarks as trees
use Rattle.elaborate.specs.Means.{Numbering, SameMarks, IsValueOf, IsAddressOf, as_found}
use Rattle.elaborate.specs.Operators.{operator_of}
use Rattle.elaborate.specs.Types as types
use Rattle.elaborate.specs.Types.{word_type}
use Rattle.elaborate.proofs.Values as values
use Rattle.elaborate.proofs.Pointers as pointers
use Rattle.elaborate.proofs.Operates.{operates, refuses}
use Rattle.elaborate.proofs.Refused.{nowhere_address, unturned_value, refused_value, refused_target}
use Rattle.core_forms.specs.declared.built.Built.{Built}
use Rattle.core_forms.specs.declared.built.Node.{Node}
use Rattle.core_forms.specs.declared.built.Node.TheVariants as node
use Rattle.core_forms.specs.Nodes as nodes
use Rattle.core_forms.specs.Nodes.{a_part, a_value, a_place, address_in, call_node, operand_by, cast_type, type_as, type_by}
use Rattle.core_forms.specs.Nodes.{member_node, member_rooted, operated_node, target_of_sum, turned_node, unmeant}
use Rattle.c_language.specs.declared.scope.Duration.TheVariants as duration
use Rattle.c_means.specs.Values as worths
use Rattle.core_forms.specs.declared.built.Used.{Used}
use Rattle.core_forms.specs.Built.{IsPlaceOf, IsWorthOf, IsNodeOf, IsBuilt, IsUsed, IsDiscarded, IsCastOperand}
use Rattle.core_forms.specs.Built.{IsConverted}
use Rattle.core_forms.proofs.Saying.{value_told, said_unary, said_size, said_binary, said_subscript, said_comma}
use Rattle.core_forms.proofs.Saying.{said_choice, said_cast, said_member, said_arrow}
use Rattle.core_forms.proofs.KindLaws.{converts_same, extracts_same, operates_on}
use Rattle.core_forms.proofs.Marks.{kinds_in, kinds_on, operated_marks, sum_marks, minus_marks, plus_marks}
use Rattle.core_forms.proofs.Marks.{complement_marks, by_marks, as_told, no_marks, marks_then, own_then}
use Rattle.core_forms.proofs.Marks.{stops_then}

module _ (numbering : Numbering) where
  -- ---- constants

  pub constant_built : (y : Built) (told : Told) (e : Expr) (z : ℤ) (x : Typed) → y ≡ a_value told e
      → e ≡ expr.Constant z → told ≡ told_of x → IsBuilt numbering y (forms.constant x z)
  constant_built y told e z x is made said =
      let h = subst (λ e. IsValueOf numbering e (forms.constant x z)) (sym made) (values.constant_value numbering z x) in
      subst (λ y. IsBuilt numbering y (forms.constant x z)) (sym is)
      (record {
        told = said;
        rooted = refl;
        node = record {
          is_value = refl;
          nowhere = record { reaches = λ l env base d. refl };
          value = h;
          effect = h;
          marks = by_marks numbering (trees.marks-Constant e z made) (no_marks numbering);
          place_marks = λ l. refl;
        };
      })

  pub size_built : (at : ℕ) (tables : Tables) (x : Told) (p : Part) (told : Told) (y : Built) (z : ℤ)
      → tables ≡ p.typed.after.tables → x ≡ told_of p.typed
      → told ≡ says.node_over at x.shown (says.size_shown tables) x.faults
      → z ≡ unwrap_or (value_in told.shown) (pos 0) → y ≡ a_value told (expr.Constant z)
      → IsBuilt numbering y (forms.size_of_expression at p)
  size_built at tables x p told y z t h s is made =
      let said = said_size at tables x told p.typed t h s in
      constant_built y told (expr.Constant z) (unwrap_or (says.constant_of (says.size_of_expression at p.typed)) (pos 0))
      (says.size_of_expression at p.typed) made
      (ap expr.Constant (is ∙ ap (λ (a : Told). unwrap_or (value_in a.shown) (pos 0)) said)) said

  pub type_size_built : (at : ℕ) (tables : Tables) (named : NamedType) (faults : List Fault) (s : Scope) (told : Told)
      (y : Built) (z : ℤ) → tables ≡ s.tables → told ≡ says.over_named at named (says.size_in tables) faults
      → z ≡ unwrap_or (value_in told.shown) (pos 0) → y ≡ a_value told (expr.Constant z)
      → IsBuilt numbering y (forms.size_of_type at named faults s)
  type_size_built at tables named faults s told y z t h is made =
      let said = h ∙ ap (λ a. says.over_named at named (says.size_in a) faults) t in
      constant_built y told (expr.Constant z)
      (unwrap_or (says.constant_of (says.size_of_type at named faults s)) (pos 0))
      (says.size_of_type at named faults s) made
      (ap expr.Constant (is ∙ ap (λ (a : Told). unwrap_or (value_in a.shown) (pos 0)) said)) said

  -- ---- names

  pub local_built : (y : Built) (told : Told) (at : ℕ) (x : Typed) → y ≡ a_place told true (expr.Local at)
      → told ≡ told_of x
      → IsBuilt numbering y (forms.object_of x duration.Automatic at)
  local_built y told at x is said =
      subst (λ y. IsBuilt numbering y
      (forms.object_of x duration.Automatic at)) (sym is) (record {
        told = said;
        rooted = refl;
        node = record {
          is_place = refl;
          address = values.local_address numbering at x;
          value = λ l env base d. refl;
          effect = λ l env base d. refl;
          marks = by_marks numbering (trees.marks-Local (expr.Local at) at refl) (no_marks numbering);
          reads = λ l. refl;
        };
      })

  pub fixed_built : (y : Built) (told : Told) (at place : ℕ) (x : Typed) → y ≡ a_place told true (expr.Fixed place)
      → place ≡ numbering.place at → told ≡ told_of x
      → IsBuilt numbering y (forms.object_of x duration.Static at)
  fixed_built y told at place x is there said =
      subst (λ y. IsBuilt numbering y
      (forms.object_of x duration.Static at))
      (sym (is ∙ ap (λ n. a_place told true (expr.Fixed n)) there)) (record {
        told = said;
        rooted = refl;
        node = record {
          is_place = refl;
          address = values.fixed_address numbering at x;
          value = λ l env base d. refl;
          effect = λ l env base d. refl;
          marks = by_marks numbering (trees.marks-Fixed (expr.Fixed (numbering.place at)) (numbering.place at) refl)
              (no_marks numbering);
          reads = λ l. refl;
        };
      })

  pub literal_built : (y : Built) (told : Told) (at place : ℕ) (pieces : List (List ℕ)) (s : Scope)
      → y ≡ a_place told false (expr.Fixed place)
      → place ≡ numbering.place at → told ≡ told_of (says.string_literal at pieces s)
      → IsBuilt numbering y (forms.string_literal at pieces s)
  literal_built y told at place pieces s is there said =
      subst (λ y. IsBuilt numbering y (forms.string_literal at pieces s))
      (sym (is ∙ ap (λ n. a_place told false (expr.Fixed n)) there)) (record {
        told = said;
        rooted = refl;
        node = record {
          is_place = refl;
          address = values.literal_address numbering at (says.string_literal at pieces s);
          value = λ l env base d. refl;
          effect = λ l env base d. refl;
          marks = by_marks numbering (trees.marks-Fixed (expr.Fixed (numbering.place at)) (numbering.place at) refl)
              (no_marks numbering);
          reads = λ l. refl;
        };
      })

  pub function_name_built : (y : Built) (told : Told) (at place : ℕ) (name : Option Name) (s : Scope)
      → y ≡ a_place told false (expr.Fixed place)
      → place ≡ numbering.place at → told ≡ told_of (says.function_name at name s)
      → IsBuilt numbering y (forms.function_name at name s)
  function_name_built y told at place name s is there said =
      subst (λ y. IsBuilt numbering y (forms.function_name at name s))
      (sym (is ∙ ap (λ n. a_place told false (expr.Fixed n)) there)) (record {
        told = said;
        rooted = refl;
        node = record {
          is_place = refl;
          address = values.literal_address numbering at (says.function_name at name s);
          value = λ l env base d. refl;
          effect = λ l env base d. refl;
          marks = by_marks numbering (trees.marks-Fixed (expr.Fixed (numbering.place at)) (numbering.place at) refl)
              (no_marks numbering);
          reads = λ l. refl;
        };
      })

  -- ---- unary operators

  pub not_built : (at : ℕ) (tables : Tables) (x : Used) (p : Part) (told : Told) (y : Built)
      → tables ≡ p.typed.after.tables → IsUsed numbering x p
      → told ≡ says.node_over at x.told.shown (says.unary_judged tables u.Not) x.told.faults
      → y ≡ a_value told (expr.Not x.value) → IsBuilt numbering y (forms.unary at u.Not p)
  not_built at tables x p told y t h s is =
      let v = values.not_value numbering x.value at p h.value in
      subst (λ y. IsBuilt numbering y (forms.unary at u.Not p)) (sym is) (record {
        told = said_unary u.Not at tables x.told told p.typed t h.told s;
        rooted = refl;
        node = record {
          is_value = refl;
          nowhere = record { reaches = λ l env base d. refl };
          value = v;
          effect = v;
          marks = by_marks numbering (trees.marks-Not (expr.Not x.value) x.value refl) h.marks;
          place_marks = λ l. refl;
        };
      })

  -- what breaks a rule
  pub unmeant_built : (y : Built) (told : Told) (x : Typed) → y ≡ a_part told false unmeant → told ≡ told_of x
      → IsBuilt numbering y (forms.unmeant x)
  unmeant_built y told x is said = constant_built y told (expr.Constant (pos 0)) (pos 0) x is refl said

  -- the kind of an operand
  kind_used : (x : Used) (p : Part) (kind : Option IntegerKind) → IsUsed numbering x p
      → kind_in (type_in x.told.shown) ≡ kind → kind_in (value_type p.typed) ≡ kind
  kind_used x p kind h e = sym (ap (λ (a : Told). kind_in (type_in a.shown)) h.told) ∙ e

  minus_told : (x : Used) (at : ℕ) (p : Part) (told : Told) (is_constant : Bool) → IsUsed numbering x p
      → is_constant ≡ nodes.is_constant told → told ≡ told_of (says.unary at u.Minus p.typed)
      → SameMarks numbering
      (value_marks (turned_node at turn.Minus (kind_in (type_in x.told.shown)) is_constant x.value))
      (forms.unary at u.Minus p).marks
  minus_told x at p told is_constant h c said =
      by_marks numbering (minus_marks at (kind_in (type_in x.told.shown)) is_constant x.value)
      (stops_then numbering at (unless is_constant (minus_kinds (kind_in (type_in x.told.shown))))
      (unless (is_some (says.constant_of (says.unary at u.Minus p.typed))) (minus_kinds (kind_in (value_type p.typed))))
      (ap₂ (λ b k. unless b (minus_kinds k)) (c ∙ ap nodes.is_constant said)
      (sym (kind_used x p (kind_in (type_in x.told.shown)) h refl))) h.marks)

  minus_by : (x : Used) (at : ℕ) (is_constant : Bool) (p : Part) (kind : Option IntegerKind) → IsUsed numbering x p
      → kind_in (value_type p.typed) ≡ kind
      → IsValueOf numbering (turned_node at turn.Minus kind is_constant x.value) (forms.unary at u.Minus p)
  minus_by x at is_constant p None h k = unturned_value numbering x.value at u.Minus p h.value k
  minus_by x at is_constant p (Some kind) h k = values.minus_value numbering x.value at is_constant kind p h.value k

  pub minus_built : (at : ℕ) (tables : Tables) (x : Used) (p : Part) (told : Told) (is_constant : Bool) (y : Built)
      → tables ≡ p.typed.after.tables → IsUsed numbering x p
      → told ≡ says.node_over at x.told.shown (says.unary_judged tables u.Minus) x.told.faults
      → is_constant ≡ nodes.is_constant told
      → y ≡ a_value told (turned_node at turn.Minus (kind_in (type_in x.told.shown)) is_constant x.value)
      → IsBuilt numbering y (forms.unary at u.Minus p)
  minus_built at tables x p told is_constant y t h s c is =
      let v = minus_by x at is_constant p _ h (kind_used x p _ h refl) in
      subst (λ y. IsBuilt numbering y (forms.unary at u.Minus p)) (sym is) (record {
        told = said_unary u.Minus at tables x.told told p.typed t h.told s;
        rooted = refl;
        node = record {
          is_value = refl;
          nowhere = record { reaches = λ l env base d. refl };
          value = v;
          effect = v;
          marks = minus_told x at p told is_constant h c
              (said_unary u.Minus at tables x.told told p.typed t h.told s);
          place_marks = λ l. refl;
        };
      })

  plus_by : (x : Used) (at : ℕ) (is_constant : Bool) (p : Part) (kind : Option IntegerKind) → IsUsed numbering x p
      → kind_in (value_type p.typed) ≡ kind
      → IsValueOf numbering (turned_node at turn.Plus kind is_constant x.value) (forms.unary at u.Plus p)
  plus_by x at is_constant p None h k = unturned_value numbering x.value at u.Plus p h.value k
  plus_by x at is_constant p (Some kind) h k = values.plus_value numbering x.value at is_constant kind p h.value k

  pub plus_built : (at : ℕ) (tables : Tables) (x : Used) (p : Part) (told : Told) (is_constant : Bool) (y : Built)
      → tables ≡ p.typed.after.tables → IsUsed numbering x p
      → told ≡ says.node_over at x.told.shown (says.unary_judged tables u.Plus) x.told.faults
      → y ≡ a_value told (turned_node at turn.Plus (kind_in (type_in x.told.shown)) is_constant x.value)
      → IsBuilt numbering y (forms.unary at u.Plus p)
  plus_built at tables x p told is_constant y t h s is =
      let v = plus_by x at is_constant p _ h (kind_used x p _ h refl) in
      subst (λ y. IsBuilt numbering y (forms.unary at u.Plus p)) (sym is) (record {
        told = said_unary u.Plus at tables x.told told p.typed t h.told s;
        rooted = refl;
        node = record {
          is_value = refl;
          nowhere = record { reaches = λ l env base d. refl };
          value = v;
          effect = v;
          marks = by_marks numbering (plus_marks at (kind_in (type_in x.told.shown)) is_constant x.value) h.marks;
          place_marks = λ l. refl;
        };
      })

  complement_by : (x : Used) (at : ℕ) (is_constant : Bool) (p : Part) (kind : Option IntegerKind) → IsUsed numbering x p
      → kind_in (value_type p.typed) ≡ kind
      → IsValueOf numbering (turned_node at turn.Complement kind is_constant x.value) (forms.unary at u.Complement p)
  complement_by x at is_constant p None h k = unturned_value numbering x.value at u.Complement p h.value k
  complement_by x at is_constant p (Some kind) h k =
      values.complement_value numbering x.value at is_constant kind p h.value k

  pub complement_built : (at : ℕ) (tables : Tables) (x : Used) (p : Part) (told : Told) (is_constant : Bool) (y : Built)
      → tables ≡ p.typed.after.tables → IsUsed numbering x p
      → told ≡ says.node_over at x.told.shown (says.unary_judged tables u.Complement) x.told.faults
      → y ≡ a_value told (turned_node at turn.Complement (kind_in (type_in x.told.shown)) is_constant x.value)
      → IsBuilt numbering y (forms.unary at u.Complement p)
  complement_built at tables x p told is_constant y t h s is =
      let v = complement_by x at is_constant p _ h (kind_used x p _ h refl) in
      subst (λ y. IsBuilt numbering y (forms.unary at u.Complement p)) (sym is) (record {
        told = said_unary u.Complement at tables x.told told p.typed t h.told s;
        rooted = refl;
        node = record {
          is_value = refl;
          nowhere = record { reaches = λ l env base d. refl };
          value = v;
          effect = v;
          marks = by_marks numbering
              (complement_marks at (kind_in (type_in x.told.shown)) is_constant x.value) h.marks;
          place_marks = λ l. refl;
        };
      })

  -- ---- addresses

  -- of what has none 0, behind its value
  pub address_of : (n : Node) (p : Part) → IsNodeOf numbering n p → IsAddressOf numbering (address_in n) p
  address_of (node.Place e) p h = h.address
  address_of (node.Value e) p h = nowhere_address numbering e p h.value h.nowhere
  address_of (node.Call c) p h = nowhere_address numbering (call_node c true) p h.value h.nowhere

  pub address_marks : (n : Node) (p : Part) → IsNodeOf numbering n p
      → SameMarks numbering (value_marks (address_in n)) p.place_marks
  address_marks (node.Place e) p h = h.marks
  address_marks (node.Value e) p h =
      by_marks numbering (trees.marks-Convert (expr.Convert v.Void e) v.Void e refl)
      (as_told numbering h.marks h.place_marks)
  address_marks (node.Call c) p h =
      by_marks numbering (trees.marks-Convert (expr.Convert v.Void (call_node c true)) v.Void (call_node c true) refl)
      (as_told numbering (h.marks true) h.place_marks)

  pub address_built : (at : ℕ) (tables : Tables) (x : Built) (p : Part) (told : Told) (y : Built)
      → tables ≡ p.typed.after.tables → IsBuilt numbering x p
      → told ≡ says.node_over at x.told.shown (says.unary_judged tables u.Address) x.told.faults
      → y ≡ a_value told (expr.Pointer (address_in x.node)) → IsBuilt numbering y (forms.unary at u.Address p)
  address_built at tables x p told y t h s is =
      let v = values.pointer_value numbering (address_in x.node) at p (address_of x.node p h.node) in
      subst (λ y. IsBuilt numbering y (forms.unary at u.Address p)) (sym is) (record {
        told = said_unary u.Address at tables x.told told p.typed t h.told s;
        rooted = refl;
        node = record {
          is_value = refl;
          nowhere = record { reaches = λ l env base d. refl };
          value = v;
          effect = v;
          marks = by_marks numbering
              (trees.marks-Pointer (expr.Pointer (address_in x.node)) (address_in x.node) refl)
              (address_marks x.node p h.node);
          place_marks = λ l. refl;
        };
      })

  pub indirection_built : (at : ℕ) (tables : Tables) (x : Used) (p : Part) (told : Told) (y : Built)
      → tables ≡ p.typed.after.tables → IsUsed numbering x p
      → told ≡ says.node_over at x.told.shown (says.unary_judged tables u.Indirection) x.told.faults
      → y ≡ a_place told false (expr.Target x.value) → IsBuilt numbering y (forms.unary at u.Indirection p)
  indirection_built at tables x p told y t h s is =
      subst (λ y. IsBuilt numbering y (forms.unary at u.Indirection p)) (sym is) (record {
        told = said_unary u.Indirection at tables x.told told p.typed t h.told s;
        rooted = refl;
        node = record {
          is_place = refl;
          address = values.target_address numbering x.value at p h.value;
          value = λ l env base d. refl;
          effect = λ l env base d. refl;
          marks = by_marks numbering (trees.marks-Target (expr.Target x.value) x.value refl) h.marks;
          reads = λ l. refl;
        };
      })

  -- where there is no sum, its operands are refused
  refuses_on : (op : BinaryOperator) (tables : Tables) (x y : Used) (p q : Part) → tables ≡ q.typed.after.tables
      → IsUsed numbering x p → IsUsed numbering y q
      → operator_of op (operand_by tables x.told) (operand_by tables y.told) ≡ None → (at : ℕ) (v w : ℤ) (d : State)
      → operated_on at op p.typed q.typed v w d ≡ c.refused d
  refuses_on op tables x y p q t h i none at v w d =
      sym (ap (λ a. operated at op (operand_of a (type_in x.told.shown) v) (operand_of a (type_in y.told.shown) w) d) t
      ∙ ap₂ (λ (a b : Told). operated at op (operand_of q.typed.after.tables (type_in a.shown) v)
      (operand_of q.typed.after.tables (type_in b.shown) w) d) h.told i.told)
      ∙ refuses op (operand_by tables x.told) (operand_by tables y.told) none at v w d

  -- what an operator on two operands may meet
  operand_kinds_of : (op : BinaryOperator) (tables : Tables) (x y : Used) (p q : Part) → IsUsed numbering x p
      → IsUsed numbering y q
      → kinds_in (operator_of op (operand_by tables x.told) (operand_by tables y.told))
      ≡ forms.operand_kinds op p.typed q.typed
  operand_kinds_of op tables x y p q h i =
      let first = operand_by tables x.told in
      let second = operand_by tables y.told in
      kinds_on op first.kind second.kind first.element second.element
      ∙ ap₂ (operator_kinds op) (sym (kind_used x p first.kind h refl)) (sym (kind_used y q second.kind i refl))

  subscript_by : (at : ℕ) (tables : Tables) (x y : Used) (p q : Part) (chosen : Option Operator)
      → tables ≡ q.typed.after.tables → IsUsed numbering x p → IsUsed numbering y q
      → operator_of o.Add (operand_by tables x.told) (operand_by tables y.told) ≡ chosen
      → IsAddressOf numbering (target_of_sum at chosen x.value y.value) (forms.subscript at p q)
  subscript_by at tables x y p q None t h i none = refused_target numbering at x.value y.value p q h.value i.value
      (refuses_on o.Add tables x y p q t h i none at)
  subscript_by at tables x y p q (Some chosen) t h i some =
      pointers.subscript_address numbering at chosen x.value y.value p q h.value i.value
      (operates_on o.Add tables x.told y.told p.typed q.typed chosen t h.told i.told
      (operates o.Add (operand_by tables x.told) (operand_by tables y.told) chosen some) at)

  pub subscript_built : (at : ℕ) (tables : Tables) (x y : Used) (p q : Part) (told : Told) (z : Built)
      → tables ≡ q.typed.after.tables → IsUsed numbering x p → IsUsed numbering y q
      → told ≡ says.node_over_two at x.told.shown y.told.shown (says.element tables) (x.told.faults ++ y.told.faults)
      → z ≡ a_place told false
      (target_of_sum at (operator_of o.Add (operand_by tables x.told) (operand_by tables y.told)) x.value y.value)
      → IsBuilt numbering z (forms.subscript at p q)
  subscript_built at tables x y p q told z t h i s is =
      subst (λ z. IsBuilt numbering z (forms.subscript at p q)) (sym is) (record {
        told = said_subscript at tables x.told y.told told p.typed q.typed t h.told i.told s;
        rooted = refl;
        node = record {
          is_place = refl;
          address = subscript_by at tables x y p q _ t h i refl;
          value = λ l env base d. refl;
          effect = λ l env base d. refl;
          marks = by_marks numbering
              (sum_marks at (operator_of o.Add (operand_by tables x.told) (operand_by tables y.told)) x.value y.value)
              (stops_then numbering at
              (kinds_in (operator_of o.Add (operand_by tables x.told) (operand_by tables y.told)))
              (forms.operand_kinds o.Add p.typed q.typed) (operand_kinds_of o.Add tables x y p q h i)
              (marks_then numbering h.marks i.marks));
          reads = λ l. refl;
        };
      })

  marks_behind : (offset : ℕ) (e : Expr) → value_marks (expr.Offset offset e) ≡ value_marks e
  marks_behind offset e = trees.marks-Offset (expr.Offset offset e) offset e refl

  member_place : (b : Bool) (offset : ℕ) (at : ℕ) (name : Name) (e : Expr) (p : Part) → b ≡ true
      → IsAddressOf numbering e p → SameMarks numbering (value_marks e) p.place_marks
      → IsPlaceOf numbering (expr.Offset offset e) (forms.member_by b offset (says.member at name p.typed) p)
  member_place true offset at name e p is h m = record {
    is_place = refl;
    marks = by_marks numbering (marks_behind offset e) m;
    reads = λ l. refl;
    address = pointers.member_address numbering offset (says.member at name p.typed) e p h;
    value = λ l env base d. refl;
    effect = λ l env base d. refl;
  }
  member_place false offset at name e p is h m = absurd (false≢true is)

  rooted_same : (b : Bool) (offset : ℕ) (x : Typed) (p : Part) → b ≡ true
      → p.rooted ≡ (forms.member_by b offset x p).rooted
  rooted_same true offset x p is = refl
  rooted_same false offset x p is = absurd (false≢true is)

  member_typed : (b : Bool) (offset : ℕ) (x : Typed) (p : Part) → told_of x ≡ told_of (forms.member_by b offset x p).typed
  member_typed true offset x p = refl
  member_typed false offset x p = refl

  lvalue_built : (at : ℕ) (name : Name) (tables : Tables) (x : Told) (rooted : Bool) (e : Expr) (p : Part)
      (offset : ℕ) (told : Told) (y : Built)
      → tables ≡ p.typed.after.tables → IsBuilt numbering (a_place x rooted e) p
      → offset ≡ forms.offset_of tables (type_in x.shown) name
      → told ≡ says.node_over at x.shown (says.member_shown_of tables name) x.faults
      → y ≡ a_place told rooted (expr.Offset offset e) → IsBuilt numbering y (forms.member at name p)
  lvalue_built at name tables x rooted e p offset told y t h there s is =
      let n = there ∙ ap₂ (λ a (b : Told). forms.offset_of a (type_in b.shown) name) t h.told in
      subst (λ y. IsBuilt numbering y (forms.member at name p))
      (sym (is ∙ ap (λ m. a_place told rooted (expr.Offset m e)) n)) (record {
        told = said_member at name tables x told p.typed t h.told s
            ∙ member_typed p.is_place _ (says.member at name p.typed) p;
        rooted = h.rooted ∙ rooted_same p.is_place _ (says.member at name p.typed) p h.node.is_place;
        node = member_place p.is_place _ at name e p h.node.is_place h.node.address h.node.marks;
      })

  -- a member of a value
  member_worth : (b : Bool) (offset : ℕ) (x : Typed) (p : Part) (e : Expr) → b ≡ false → IsValueOf numbering e p
      → SameMarks numbering (value_marks e) p.marks
      → IsWorthOf numbering (expr.Extract offset (type_as x.after.tables (type_of x)) e) (forms.member_by b offset x p)
  member_worth true offset x p e is h m = absurd (false≢true (sym is))
  member_worth false offset x p e is h m =
      let v = pointers.member_value numbering offset (type_as x.after.tables (type_of x)) x e p h (extracts_same x offset) in
      let t = type_as x.after.tables (type_of x) in
      record {
        is_value = refl;
        nowhere = record { reaches = λ l env base d. refl };
        value = v;
        effect = v;
        marks = by_marks numbering (trees.marks-Extract (expr.Extract offset t e) offset t e refl) m;
        place_marks = λ l. refl;
      }

  unrooted : (b : Bool) (offset : ℕ) (x : Typed) (p : Part) → b ≡ false → false ≡ (forms.member_by b offset x p).rooted
  unrooted true offset x p is = absurd (false≢true (sym is))
  unrooted false offset x p is = refl

  extract_built : (at : ℕ) (name : Name) (tables : Tables) (x : Told) (e : Expr) (p : Part) (told : Told) (y : Built)
      → tables ≡ p.typed.after.tables → x ≡ told_of p.typed → p.is_place ≡ false → IsValueOf numbering e p
      → SameMarks numbering (value_marks e) p.marks
      → told ≡ says.node_over at x.shown (says.member_shown_of tables name) x.faults
      → y ≡ a_value told (expr.Extract (forms.offset_of tables (type_in x.shown) name) (type_by tables told) e)
      → IsBuilt numbering y (forms.member at name p)
  extract_built at name tables x e p told y h i not_place v m s is =
      let offset = forms.offset_of p.typed.after.tables (type_of p.typed) name in
      let n = ap₂ (λ a (b : Told). forms.offset_of a (type_in b.shown) name) h i in
      let said = said_member at name tables x told p.typed h i s in
      let t = ap₂ (λ a (b : Told). type_by a b) h said in
      subst (λ y. IsBuilt numbering y (forms.member at name p))
      (sym (is ∙ ap₂ (λ m t. a_value told (expr.Extract m t e)) n t)) (record {
        told = said ∙ member_typed p.is_place offset (says.member at name p.typed) p;
        rooted = unrooted p.is_place offset (says.member at name p.typed) p not_place;
        node = member_worth p.is_place offset (says.member at name p.typed) p e not_place v m;
      })

  pub member_built : (at : ℕ) (name : Name) (tables : Tables) (x : Told) (rooted : Bool) (n : Node) (p : Part)
      (told : Told) (y : Built) → tables ≡ p.typed.after.tables → IsBuilt numbering (a_part x rooted n) p
      → told ≡ says.node_over at x.shown (says.member_shown_of tables name) x.faults
      → y ≡ a_part told (member_rooted rooted n)
      (member_node (forms.offset_of tables (type_in x.shown) name) (type_by tables told) n)
      → IsBuilt numbering y (forms.member at name p)
  member_built at name tables x rooted (node.Place e) p told y t h s is =
      lvalue_built at name tables x rooted e p (forms.offset_of tables (type_in x.shown) name) told y t h refl s is
  member_built at name tables x rooted (node.Value e) p told y t h s is =
      extract_built at name tables x e p told y t h.told h.node.is_value h.node.value h.node.marks s is
  member_built at name tables x rooted (node.Call c) p told y t h s is =
      extract_built at name tables x (call_node c true) p told y t h.told h.node.is_value h.node.value
      (h.node.marks true) s is

  pub arrow_built : (at : ℕ) (name : Name) (tables : Tables) (x : Used) (p : Part) (offset : ℕ) (told : Told)
      (y : Built)
      → tables ≡ p.typed.after.tables → IsUsed numbering x p
      → offset ≡ forms.offset_of tables (target_in (type_in x.told.shown)) name
      → told ≡ says.node_over at x.told.shown (says.pointed_member tables name) x.told.faults
      → y ≡ a_place told false (expr.Offset offset (expr.Convert v.Pointer x.value))
      → IsBuilt numbering y (forms.arrow at name p)
  arrow_built at name tables x p offset told y t h there s is =
      let n = there ∙ ap₂ (λ a (b : Told). forms.offset_of a (target_in (type_in b.shown)) name) t h.told in
      subst (λ y. IsBuilt numbering y (forms.arrow at name p))
      (sym (is ∙ ap (λ m. a_place told false (expr.Offset m (expr.Convert v.Pointer x.value))) n)) (record {
        told = said_arrow at name tables x.told told p.typed t h.told s;
        rooted = refl;
        node = record {
          is_place = refl;
          address = pointers.arrow_address numbering at name x.value p h.value;
          value = λ l env base d. refl;
          effect = λ l env base d. refl;
          marks = by_marks numbering (marks_behind (forms.offset_of p.typed.after.tables
              (target_in (value_type p.typed)) name) (expr.Convert v.Pointer x.value)
              ∙ trees.marks-Convert (expr.Convert v.Pointer x.value) v.Pointer x.value refl) h.marks;
          reads = λ l. refl;
        };
      })

  -- ---- binary operators

  pub and_built : (at : ℕ) (tables : Tables) (x y : Used) (p q : Part) (told : Told) (z : Built)
      → tables ≡ q.typed.after.tables → IsUsed numbering x p → IsUsed numbering y q
      → told ≡ says.node_over_two at x.told.shown y.told.shown (says.operated tables o.LogicalAnd)
      (x.told.faults ++ y.told.faults)
      → z ≡ a_value told (expr.And at x.value y.value) → IsBuilt numbering z (forms.binary at o.LogicalAnd p q)
  and_built at tables x y p q told z t h i s is =
      let v = values.and_value numbering at x.value y.value p q h.value i.value in
      subst (λ z. IsBuilt numbering z (forms.binary at o.LogicalAnd p q)) (sym is) (record {
        told = said_binary o.LogicalAnd at tables x.told y.told told p.typed q.typed t h.told i.told s;
        rooted = refl;
        node = record {
          is_value = refl;
          nowhere = record { reaches = λ l env base d. refl };
          value = v;
          effect = v;
          marks = by_marks numbering
              (trees.marks-And (expr.And at x.value y.value) at x.value y.value refl)
              (own_then numbering (core_marks.sides at) (c_marks.sides at) (λ name. refl) (marks_then numbering h.marks i.marks));
          place_marks = λ l. refl;
        };
      })

  pub or_built : (at : ℕ) (tables : Tables) (x y : Used) (p q : Part) (told : Told) (z : Built)
      → tables ≡ q.typed.after.tables → IsUsed numbering x p → IsUsed numbering y q
      → told ≡ says.node_over_two at x.told.shown y.told.shown (says.operated tables o.LogicalOr)
      (x.told.faults ++ y.told.faults)
      → z ≡ a_value told (expr.Or at x.value y.value) → IsBuilt numbering z (forms.binary at o.LogicalOr p q)
  or_built at tables x y p q told z t h i s is =
      let v = values.or_value numbering at x.value y.value p q h.value i.value in
      subst (λ z. IsBuilt numbering z (forms.binary at o.LogicalOr p q)) (sym is) (record {
        told = said_binary o.LogicalOr at tables x.told y.told told p.typed q.typed t h.told i.told s;
        rooted = refl;
        node = record {
          is_value = refl;
          nowhere = record { reaches = λ l env base d. refl };
          value = v;
          effect = v;
          marks = by_marks numbering
              (trees.marks-Or (expr.Or at x.value y.value) at x.value y.value refl)
              (own_then numbering (core_marks.sides at) (c_marks.sides at) (λ name. refl) (marks_then numbering h.marks i.marks));
          place_marks = λ l. refl;
        };
      })

  both_by : (op : BinaryOperator) (a : Arithmetic) → types.arithmetic op ≡ Some a → (at : ℕ) (tables : Tables)
      (x y : Used) (p q : Part) (chosen : Option Operator) (is_constant : Bool)
      → tables ≡ q.typed.after.tables → IsUsed numbering x p → IsUsed numbering y q
      → operator_of op (operand_by tables x.told) (operand_by tables y.told) ≡ chosen
      → IsValueOf numbering (operated_node at chosen is_constant x.value y.value) (forms.both_evaluated at op p q)
  both_by op a is_one at tables x y p q None is_constant t h i none =
      refused_value numbering at op x.value y.value p q h.value i.value (refuses_on op tables x y p q t h i none at)
  both_by op a is_one at tables x y p q (Some chosen) is_constant t h i some =
      subst (λ r. IsValueOf numbering (expr.Operate at chosen is_constant x.value y.value) r)
      (values.evaluates_both numbering op a is_one at p q)
      (pointers.operate_value numbering op a is_one at chosen is_constant x.value y.value p q h.value i.value
      (operates_on op tables x.told y.told p.typed q.typed chosen t h.told i.told
      (operates op (operand_by tables x.told) (operand_by tables y.told) chosen some) at))

  both_told : (op : BinaryOperator) (at : ℕ) (tables : Tables) (x y : Used) (p q : Part) (is_constant : Bool)
      (told : Told) → IsUsed numbering x p → IsUsed numbering y q → is_constant ≡ nodes.is_constant told
      → told ≡ told_of (says.binary at op p.typed q.typed)
      → SameMarks numbering (value_marks (operated_node at
      (operator_of op (operand_by tables x.told) (operand_by tables y.told)) is_constant x.value y.value))
      (forms.both_evaluated at op p q).marks
  both_told op at tables x y p q is_constant told h i c said =
      let chosen = operator_of op (operand_by tables x.told) (operand_by tables y.told) in
      by_marks numbering (operated_marks at chosen is_constant x.value y.value)
      (stops_then numbering at (unless is_constant (kinds_in chosen))
      (unless (is_some (says.constant_of (says.binary at op p.typed q.typed))) (forms.operand_kinds op p.typed q.typed))
      (ap₂ unless (c ∙ ap nodes.is_constant said) (operand_kinds_of op tables x y p q h i))
      (marks_then numbering h.marks i.marks))

  pub both_built : (op : BinaryOperator) (a : Arithmetic) → types.arithmetic op ≡ Some a → (at : ℕ) (tables : Tables)
      (x y : Used) (p q : Part) (is_constant : Bool) (told : Told) (z : Built)
      → tables ≡ q.typed.after.tables → IsUsed numbering x p → IsUsed numbering y q
      → told ≡ says.node_over_two at x.told.shown y.told.shown (says.operated tables op)
      (x.told.faults ++ y.told.faults)
      → is_constant ≡ nodes.is_constant told
      → z ≡ a_value told (operated_node at (operator_of op (operand_by tables x.told) (operand_by tables y.told))
      is_constant x.value y.value)
      → IsBuilt numbering z (forms.binary at op p q)
  both_built op a is_one at tables x y p q is_constant told z t h i s c is =
      let v = both_by op a is_one at tables x y p q _ is_constant t h i refl in
      subst (λ z. IsBuilt numbering z (forms.binary at op p q)) (sym is)
      (subst (λ r. IsBuilt numbering (a_value told (operated_node at
      (operator_of op (operand_by tables x.told) (operand_by tables y.told)) is_constant x.value y.value)) r)
      (sym (values.evaluates_both numbering op a is_one at p q)) (record {
        told = said_binary op at tables x.told y.told told p.typed q.typed t h.told i.told s;
        rooted = refl;
        node = record {
          is_value = refl;
          nowhere = record { reaches = λ l env base d. refl };
          value = v;
          effect = v;
          marks = both_told op at tables x y p q is_constant told h i c
              (said_binary op at tables x.told y.told told p.typed q.typed t h.told i.told s);
          place_marks = λ l. refl;
        };
      }))

  pub comma_built : (at : ℕ) (x y : Used) (p q : Part) (told : Told) (z : Built)
      → IsDiscarded numbering x p → IsUsed numbering y q
      → told ≡ says.node_over_two at x.told.shown y.told.shown (λ a b. says.second_judged b)
      (x.told.faults ++ y.told.faults)
      → z ≡ a_value told (expr.Comma x.value y.value) → IsBuilt numbering z (forms.comma at p q)
  comma_built at x y p q told z h i s is =
      let v = values.comma_value numbering at x.value y.value p q h.effect i.value in
      subst (λ z. IsBuilt numbering z (forms.comma at p q)) (sym is) (record {
        told = said_comma at x.told y.told told p.typed q.typed h.told i.told s;
        rooted = refl;
        node = record {
          is_value = refl;
          nowhere = record { reaches = λ l env base d. refl };
          value = v;
          effect = v;
          marks = by_marks numbering (trees.marks-Comma (expr.Comma x.value y.value) x.value y.value refl)
              (marks_then numbering h.marks i.marks);
          place_marks = λ l. refl;
        };
      })

  -- ---- choices and casts

  pub choice_built : (at : ℕ) (n : ℕ) (w x y : Used) (r p q : Part) (told : Told) (z : Built)
      → IsUsed numbering w r → IsUsed numbering x p → IsUsed numbering y q
      → told ≡ says.choice_over at w.told.shown x.told.shown y.told.shown
      (w.told.faults ++ x.told.faults ++ y.told.faults)
      → z ≡ a_value told (expr.Choose at w.value
      (expr.Convert (types.value_type (class_in (type_in told.shown)) n) x.value)
      (expr.Convert (types.value_type (class_in (type_in told.shown)) n) y.value))
      → IsBuilt numbering z (forms.choice at r p q)
  choice_built at n w x y r p q told z g h i s is =
      let said = said_choice at w.told x.told y.told told r.typed p.typed q.typed g.told h.told i.told s in
      let t = types.value_type (class_in (type_in told.shown)) n in
      let v = values.choice_value numbering at t w.value x.value y.value r p q
      (λ z. converts_same (class_in (type_in told.shown)) n z
      ∙ ap (λ (a : Told). worths.converted_to (class_in (type_in a.shown)) z) said)
      g.value h.value i.value in
      subst (λ z. IsBuilt numbering z (forms.choice at r p q)) (sym is) (record {
        told = said;
        rooted = refl;
        node = record {
          is_value = refl;
          nowhere = record { reaches = λ l env base d. refl };
          value = v;
          effect = v;
          marks = by_marks numbering
              (trees.marks-Choose (expr.Choose at w.value (expr.Convert t x.value) (expr.Convert t y.value)) at w.value
              (expr.Convert t x.value) (expr.Convert t y.value) refl)
              (own_then numbering (core_marks.sides at) (c_marks.sides at) (λ name. refl) (marks_then numbering g.marks (marks_then numbering
              (by_marks numbering (trees.marks-Convert (expr.Convert t x.value) t x.value refl) h.marks)
              (by_marks numbering (trees.marks-Convert (expr.Convert t y.value) t y.value refl) i.marks))));
          place_marks = λ l. refl;
        };
      })

  pub cast_built : (at : ℕ) (named : NamedType) (faults : List Fault) (x : Used) (p : Part) (told : Told)
      (y : Built)
      → IsCastOperand numbering (forms.named_class named) x p
      → told ≡ says.cast_over at named x.told.shown (faults ++ x.told.faults)
      → y ≡ a_value told (expr.Cast (cast_type named) x.value)
      → IsBuilt numbering y (forms.cast at named faults p)
  cast_built at named faults x p told y h s is =
      let v = values.cast_value numbering (cast_type named) (forms.named_class named) (says.cast at named faults p.typed)
      x.value p (λ z. converts_same (forms.named_class named) 0 z) h.does in
      subst (λ y. IsBuilt numbering y (forms.cast at named faults p)) (sym is) (record {
        told = said_cast at named faults x.told told p.typed h.told s;
        rooted = refl;
        node = record {
          is_value = refl;
          nowhere = record { reaches = λ l env base d. refl };
          value = v;
          effect = v;
          marks = by_marks numbering
              (trees.marks-Cast (expr.Cast (cast_type named) x.value) (cast_type named) x.value refl) h.marks;
          place_marks = λ l. refl;
        };
      })

  -- ---- conversions as by assignment

  pub converted_does : (tables : Tables) (t : Option CType) (e : Expr) (p : Part) → IsValueOf numbering e p
      → IsConverted numbering (expr.Convert (type_as tables t) e) p t
  converted_does tables t e p h =
      values.by_worth numbering _ _ _ _ _ (eq.worth-Convert (type_as tables t) e)
      (values.between_does numbering (value e) p.size p.room p.run _
      (λ z d. Ok (worths.converted_to (class_in t) z, d)) h
      (λ z d. ap (λ n. as_found (Ok (n, d))) (converts_same (class_in t) (bytes_of tables t) z)))
