-- What the functions of this crate make is the core of the form.
use Rattle.std.proofs.Common.{◌≡◌, ℕ, ℤ, pos, Bool, false, true, List, Option, Some, None, refl, sym, ap, ap₂, ◌∙◌, subst}
use Rattle.std.specs.Prelude.{◌++◌}
use Rattle.c_language.specs.declared.expr.BinaryOperator.{BinaryOperator}
use Rattle.c_language.specs.declared.expr.BinaryOperator.TheVariants as o
use Rattle.c_language.specs.declared.expr.PostfixOperator.{PostfixOperator}
use Rattle.c_language.specs.declared.expr.PostfixOperator.TheVariants as after
use Rattle.c_language.specs.declared.expr.UnaryOperator.TheVariants as u
use Rattle.c_language.specs.declared.tables.Tables.{Tables}
use Rattle.c_language.specs.declared.scope.Duration.TheVariants as duration
use Rattle.c_language.specs.declared.scope.Entry.{Entry}
use Rattle.c_language.specs.declared.scope.Means.{Means}
use Rattle.c_language.specs.declared.scope.Means.TheVariants as means
use Rattle.c_language.specs.Scopes.{Scope, Name}
use Rattle.c_language.specs.Typing.{Typed, type_in, told_of}
use Rattle.c_language.specs.Typing as says
use Rattle.c_means.specs.Parts.{Part}
use Rattle.c_means.specs.Expressions as forms
use Rattle.c_means.specs.Operators.{kind_in}
use Rattle.core_tree.specs.declared.expr.Expr.{Expr}
use Rattle.core_tree.specs.declared.expr.Expr.TheVariants as expr
use Rattle.core_tree.specs.declared.types.Answered.TheVariants as answered
use Rattle.core_tree.specs.declared.types.Arithmetic.TheVariants as a
use Rattle.core_tree.specs.declared.types.Turning.TheVariants as turn
use Rattle.elaborate.specs.Means.{Numbering, IsValueOf}
use Rattle.elaborate.specs.Operators.{operator_of}
use Rattle.core_forms.specs.declared.built.Built.{Built}
use Rattle.core_forms.specs.declared.built.Used.{Used}
use Rattle.core_forms.specs.Nodes.{a_part, a_value, a_place, address_in, is_constant, operand_by, turned_node, binary_node}
use Rattle.core_forms.specs.Nodes.{target_of_sum, member_node, member_rooted, type_by, stored_node, updated_by}
use Rattle.core_forms.specs.Nodes.{scalar_access_by, stepped_node, step_behind, named_node, meant_node, is_object, is_object_by}
use Rattle.core_forms.specs.Built.{IsBuilt, IsUsed}
use Rattle.core_forms.proofs.Saying.{said_postfix, said_unary}
use Rattle.core_forms.proofs.Forms.{constant_built, unmeant_built, local_built, fixed_built, minus_built, plus_built}
use Rattle.core_forms.proofs.Forms.{complement_built, address_built, subscript_built, member_built, and_built, or_built}
use Rattle.core_forms.proofs.Forms.{both_built}
use Rattle.core_forms.proofs.Assigns.{step_marks, simple_built, compound_built, step_built}

module _ (numbering : Numbering) where
  -- ---- names

  by_means : (y : Built) (x : Typed) (m : Means) (at : ℕ) (place : ℕ → ℕ) → place ≡ numbering.place
      → y ≡ a_part (told_of x) (is_object_by m) (meant_node m at place) → IsBuilt numbering y (forms.named_as x at m)
  by_means y x (means.Object t duration.Automatic linkage) at place there m =
      local_built numbering y (told_of x) at x m refl
  by_means y x (means.Object t duration.Static linkage) at place there m =
      fixed_built numbering y (told_of x) at (place at) x m (ap (λ (f : ℕ → ℕ). f at) there) refl
  by_means y x (means.Function t linkage) at place there m =
      fixed_built numbering y (told_of x) at (place at) x m (ap (λ (f : ℕ → ℕ). f at) there) refl
  by_means y x (means.Constant z) at place there m =
      constant_built numbering y (told_of x) (expr.Constant z) z x m refl refl
  by_means y x (means.Typedef t) at place there m = unmeant_built numbering y (told_of x) x m refl
  by_means y x means.Faulty at place there m = unmeant_built numbering y (told_of x) x m refl

  pub name_claim : (at : ℕ) (s : Scope) (e : Option Entry) (place : ℕ → ℕ) (y : Built) → place ≡ numbering.place
      → y ≡ a_part (says.named_told at e) (is_object e) (named_node e place)
      → IsBuilt numbering y (forms.identifier at s e)
  name_claim at s None place y there m =
      unmeant_built numbering y (says.named_told at None) (says.identifier at s None) m refl
  name_claim at s (Some e) place y there m = by_means y (says.identifier at s (Some e)) e.means e.at place there m

  -- ---- unary operators

  pub minus_claim : (at : ℕ) (tables : Tables) (x : Used) (p : Part) (y : Built) → tables ≡ p.typed.after.tables
      → IsUsed numbering x p
      → (let told = says.node_over at x.told.shown (says.unary_judged tables u.Minus) x.told.faults in
      y ≡ a_value told (turned_node at turn.Minus (kind_in (type_in x.told.shown)) (is_constant told) x.value))
      → IsBuilt numbering y (forms.unary at u.Minus p)
  minus_claim at tables x p y t h m = minus_built numbering at tables x p _ _ y t h refl refl m

  pub plus_claim : (at : ℕ) (tables : Tables) (x : Used) (p : Part) (y : Built) → tables ≡ p.typed.after.tables
      → IsUsed numbering x p
      → (let told = says.node_over at x.told.shown (says.unary_judged tables u.Plus) x.told.faults in
      y ≡ a_value told (turned_node at turn.Plus (kind_in (type_in x.told.shown)) (is_constant told) x.value))
      → IsBuilt numbering y (forms.unary at u.Plus p)
  plus_claim at tables x p y t h m = plus_built numbering at tables x p _ _ y t h refl m

  pub complement_claim : (at : ℕ) (tables : Tables) (x : Used) (p : Part) (y : Built) → tables ≡ p.typed.after.tables
      → IsUsed numbering x p
      → (let told = says.node_over at x.told.shown (says.unary_judged tables u.Complement) x.told.faults in
      y ≡ a_value told (turned_node at turn.Complement (kind_in (type_in x.told.shown)) (is_constant told) x.value))
      → IsBuilt numbering y (forms.unary at u.Complement p)
  complement_claim at tables x p y t h m = complement_built numbering at tables x p _ _ y t h refl m

  -- ---- addresses

  pub address_claim : (at : ℕ) (tables : Tables) (x : Built) (p : Part) (y : Built) → tables ≡ p.typed.after.tables
      → IsBuilt numbering x p
      → y ≡ a_value (says.node_over at x.told.shown (says.unary_judged tables u.Address) x.told.faults)
      (expr.Pointer (address_in x.node)) → IsBuilt numbering y (forms.unary at u.Address p)
  address_claim at tables x p y t h m = address_built numbering at tables x p _ y t h refl m

  pub subscript_claim : (at : ℕ) (tables : Tables) (x y : Used) (p q : Part) (z : Built)
      → tables ≡ q.typed.after.tables → IsUsed numbering x p → IsUsed numbering y q
      → z ≡ a_place (says.node_over_two at x.told.shown y.told.shown (says.element tables) (x.told.faults ++ y.told.faults))
      false (target_of_sum at (operator_of o.Add (operand_by tables x.told) (operand_by tables y.told)) x.value y.value)
      → IsBuilt numbering z (forms.subscript at p q)
  subscript_claim at tables x y p q z t h i m = subscript_built numbering at tables x y p q _ z t h i refl m

  pub member_claim : (at : ℕ) (name : Name) (tables : Tables) (x : Built) (p : Part) (y : Built)
      → tables ≡ p.typed.after.tables → IsBuilt numbering x p
      → (let told = says.node_over at x.told.shown (says.member_shown_of tables name) x.told.faults in
      y ≡ a_part told (member_rooted x.rooted x.node)
      (member_node (forms.offset_of tables (type_in x.told.shown) name) (type_by tables told) x.node))
      → IsBuilt numbering y (forms.member at name p)
  member_claim at name tables x p y t h m =
      member_built numbering at name tables x.told x.rooted x.node p _ y t h refl m

  -- ---- binary operators

  pub binary_claim : (op : BinaryOperator) (at : ℕ) (tables : Tables) (x y : Used) (p q : Part) (c : Bool) (z : Built)
      → tables ≡ q.typed.after.tables → IsUsed numbering x p → IsUsed numbering y q
      → c ≡ is_constant (says.node_over_two at x.told.shown y.told.shown (says.operated tables op)
      (x.told.faults ++ y.told.faults))
      → z ≡ a_value (says.node_over_two at x.told.shown y.told.shown (says.operated tables op)
      (x.told.faults ++ y.told.faults)) (binary_node at op tables c x y) → IsBuilt numbering z (forms.binary at op p q)
  binary_claim o.Multiply at tables x y p q c z t h i constant m =
      both_built numbering o.Multiply a.Multiply refl at tables x y p q c _ z t h i refl constant m
  binary_claim o.Divide at tables x y p q c z t h i constant m =
      both_built numbering o.Divide a.Divide refl at tables x y p q c _ z t h i refl constant m
  binary_claim o.Remainder at tables x y p q c z t h i constant m =
      both_built numbering o.Remainder a.Remainder refl at tables x y p q c _ z t h i refl constant m
  binary_claim o.Add at tables x y p q c z t h i constant m =
      both_built numbering o.Add a.Add refl at tables x y p q c _ z t h i refl constant m
  binary_claim o.Subtract at tables x y p q c z t h i constant m =
      both_built numbering o.Subtract a.Subtract refl at tables x y p q c _ z t h i refl constant m
  binary_claim o.ShiftLeft at tables x y p q c z t h i constant m =
      both_built numbering o.ShiftLeft a.ShiftLeft refl at tables x y p q c _ z t h i refl constant m
  binary_claim o.ShiftRight at tables x y p q c z t h i constant m =
      both_built numbering o.ShiftRight a.ShiftRight refl at tables x y p q c _ z t h i refl constant m
  binary_claim o.Less at tables x y p q c z t h i constant m =
      both_built numbering o.Less a.Less refl at tables x y p q c _ z t h i refl constant m
  binary_claim o.Greater at tables x y p q c z t h i constant m =
      both_built numbering o.Greater a.Greater refl at tables x y p q c _ z t h i refl constant m
  binary_claim o.LessEqual at tables x y p q c z t h i constant m =
      both_built numbering o.LessEqual a.LessEqual refl at tables x y p q c _ z t h i refl constant m
  binary_claim o.GreaterEqual at tables x y p q c z t h i constant m =
      both_built numbering o.GreaterEqual a.GreaterEqual refl at tables x y p q c _ z t h i refl constant m
  binary_claim o.Equal at tables x y p q c z t h i constant m =
      both_built numbering o.Equal a.Equal refl at tables x y p q c _ z t h i refl constant m
  binary_claim o.NotEqual at tables x y p q c z t h i constant m =
      both_built numbering o.NotEqual a.NotEqual refl at tables x y p q c _ z t h i refl constant m
  binary_claim o.BitAnd at tables x y p q c z t h i constant m =
      both_built numbering o.BitAnd a.BitAnd refl at tables x y p q c _ z t h i refl constant m
  binary_claim o.BitXor at tables x y p q c z t h i constant m =
      both_built numbering o.BitXor a.BitXor refl at tables x y p q c _ z t h i refl constant m
  binary_claim o.BitOr at tables x y p q c z t h i constant m =
      both_built numbering o.BitOr a.BitOr refl at tables x y p q c _ z t h i refl constant m
  binary_claim o.LogicalAnd at tables x y p q c z t h i constant m = and_built numbering at tables x y p q _ z t h i refl m
  binary_claim o.LogicalOr at tables x y p q c z t h i constant m = or_built numbering at tables x y p q _ z t h i refl m

  -- ---- assignment

  pub simple_claim : (at : ℕ) (tables : Tables) (x : Built) (y : Used) (p q : Part) (z : Built)
      → tables ≡ q.typed.after.tables → IsBuilt numbering x p → IsUsed numbering y q
      → z ≡ a_value (says.node_over_two at x.told.shown y.told.shown (says.assignment_judged tables None)
      (x.told.faults ++ y.told.faults)) (stored_node at tables x.told x.rooted x.node y.value)
      → IsBuilt numbering z (forms.assignment at None p q)
  simple_claim at tables x y p q z t h i m = simple_built numbering at tables x y p q _ z t h i refl m

  pub compound_claim : (op : BinaryOperator) (at : ℕ) (tables : Tables) (x : Built) (y : Used) (p q : Part) (z : Built)
      → tables ≡ q.typed.after.tables → IsBuilt numbering x p → IsUsed numbering y q
      → z ≡ a_value (says.node_over_two at x.told.shown y.told.shown (says.assignment_judged tables (Some op))
      (x.told.faults ++ y.told.faults)) (updated_by at (scalar_access_by x.told x.rooted)
      (operator_of op (operand_by tables x.told) (operand_by tables y.told)) (address_in x.node) y.value)
      → IsBuilt numbering z (forms.assignment at (Some op) p q)
  compound_claim op at tables x y p q z t h i m = compound_built numbering op at tables x y p q _ z t h i refl m

  -- ---- `++` and `--`

  pub increment_claim : (at : ℕ) (tables : Tables) (x : Built) (p : Part) (y : Built) → tables ≡ p.typed.after.tables
      → IsBuilt numbering x p
      → y ≡ a_value (says.node_over at x.told.shown (says.unary_judged tables u.Increment) x.told.faults)
      (stepped_node at o.Add answered.Stored tables x) → IsBuilt numbering y (forms.unary at u.Increment p)
  increment_claim at tables x p y t h m =
      let v = step_built numbering o.Add at answered.Stored tables x p t h u.Increment in
      let stands = step_marks numbering o.Add at answered.Stored tables x p t h in
      subst (λ y. IsBuilt numbering y (forms.unary at u.Increment p)) (sym m) (record {
        told = said_unary u.Increment at tables x.told _ p.typed t h.told refl;
        rooted = refl;
        node = record {
          is_value = refl;
          nowhere = record { reaches = λ l env base d. refl };
          value = v;
          effect = v;
          marks = stands;
          place_marks = λ l. refl;
        };
      })

  pub decrement_claim : (at : ℕ) (tables : Tables) (x : Built) (p : Part) (y : Built) → tables ≡ p.typed.after.tables
      → IsBuilt numbering x p
      → y ≡ a_value (says.node_over at x.told.shown (says.unary_judged tables u.Decrement) x.told.faults)
      (stepped_node at o.Subtract answered.Stored tables x) → IsBuilt numbering y (forms.unary at u.Decrement p)
  decrement_claim at tables x p y t h m =
      let v = step_built numbering o.Subtract at answered.Stored tables x p t h u.Decrement in
      let stands = step_marks numbering o.Subtract at answered.Stored tables x p t h in
      subst (λ y. IsBuilt numbering y (forms.unary at u.Decrement p)) (sym m) (record {
        told = said_unary u.Decrement at tables x.told _ p.typed t h.told refl;
        rooted = refl;
        node = record {
          is_value = refl;
          nowhere = record { reaches = λ l env base d. refl };
          value = v;
          effect = v;
          marks = stands;
          place_marks = λ l. refl;
        };
      })

  pub postfix_claim : (op : PostfixOperator) (at : ℕ) (tables : Tables) (x : Built) (p : Part) (y : Built)
      → tables ≡ p.typed.after.tables → IsBuilt numbering x p
      → y ≡ a_value (says.node_over at x.told.shown (says.stepped tables) x.told.faults)
      (stepped_node at (step_behind op) answered.Before tables x) → IsBuilt numbering y (forms.postfix at op p)
  postfix_claim after.Increment at tables x p y t h m =
      let v = step_built numbering o.Add at answered.Before tables x p t h in
      let stands = step_marks numbering o.Add at answered.Before tables x p t h in
      subst (λ y. IsBuilt numbering y (forms.postfix at after.Increment p)) (sym m) (record {
        told = said_postfix at tables x.told _ p.typed t h.told refl;
        rooted = refl;
        node = record {
          is_value = refl;
          nowhere = record { reaches = λ l env base d. refl };
          value = v;
          effect = v;
          marks = stands;
          place_marks = λ l. refl;
        };
      })
  postfix_claim after.Decrement at tables x p y t h m =
      let v = step_built numbering o.Subtract at answered.Before tables x p t h in
      let stands = step_marks numbering o.Subtract at answered.Before tables x p t h in
      subst (λ y. IsBuilt numbering y (forms.postfix at after.Decrement p)) (sym m) (record {
        told = said_postfix at tables x.told _ p.typed t h.told refl;
        rooted = refl;
        node = record {
          is_value = refl;
          nowhere = record { reaches = λ l env base d. refl };
          value = v;
          effect = v;
          marks = stands;
          place_marks = λ l. refl;
        };
      })
