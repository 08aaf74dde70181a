-- What the code finds of a form is the core of the form, by what it found of the parts.
use Rattle.std.proofs.Common.{◌≡◌, ℕ, ℤ, pos, Bool, true, false, List, [], Option, Some, None, refl, sym, ap, ap₂, ◌∙◌, subst}
use Rattle.std.specs.Prelude.{◌++◌, unwrap_or}
use Rattle.c_language.specs.declared.token.IntegerConstant.{IntegerConstant}
use Rattle.c_language.specs.declared.expr.BinaryOperator.{BinaryOperator}
use Rattle.c_language.specs.declared.expr.BinaryOperator.TheVariants as o
use Rattle.c_language.specs.declared.expr.PostfixOperator.{PostfixOperator}
use Rattle.c_language.specs.declared.expr.PostfixOperator.TheVariants as after_
use Rattle.c_language.specs.declared.expr.UnaryOperator.TheVariants as u
use Rattle.c_language.specs.declared.tables.Tables.{Tables}
use Rattle.c_language.specs.declared.scope.Entry.{Entry}
use Rattle.c_language.specs.declared.scope.Fault.{Fault}
use Rattle.c_language.specs.declared.scope.Means.{Means}
use Rattle.c_language.specs.declared.scope.Means.TheVariants as means
use Rattle.c_language.specs.declared.shown.Told.{Told}
use Rattle.c_language.specs.Scopes.{Scope, Name}
use Rattle.c_language.specs.Typing.{Typed, NamedType, type_in, typed_in, told_of, used_told, value_in}
use Rattle.c_language.specs.Typing as says
use Rattle.c_means.specs.Parts.{Level, Part}
use Rattle.c_means.specs.Expressions as forms
use Rattle.c_means.specs.Operators.{kind_in, target_in}
use Rattle.c_means.specs.Values as worths
use Rattle.core_tree.specs.declared.expr.Expr.TheVariants as expr
use Rattle.core_tree.specs.declared.types.Answered.TheVariants as answered
use Rattle.core_tree.specs.declared.types.Operator.{Operator}
use Rattle.core_tree.specs.declared.types.Turning.TheVariants as turn
use Rattle.core_tree.specs.declared.types.ValueType.TheVariants as v
use Rattle.elaborate.specs.Means.{Numbering}
use Rattle.elaborate.specs.Operators.{operator_of}
use Rattle.core_forms.specs.declared.built.Built.{Built}
use Rattle.core_forms.specs.declared.built.Used.{Used}
use Rattle.core_forms.specs.Nodes as nodes
use Rattle.core_forms.specs.Nodes.{HasWorth, a_part, a_value, a_place, operand_by, type_by, cast_type, is_cast_of_used}
use Rattle.core_forms.specs.Nodes.{named_node, is_object, turned_node, binary_node, address_in, target_of_sum, unmeant}
use Rattle.core_forms.specs.Nodes.{member_node, member_rooted, stored_node, scalar_access_by, updated_by}
use Rattle.core_forms.specs.Nodes.{stepped_node, step_behind}
use Rattle.core_forms.specs.Built.{IsBuilt, IsUsed, IsDiscarded, IsCastOperand}
use Rattle.core_forms.proofs.Forms as built
use Rattle.core_forms.proofs.Claims as claims
use Rattle.core_forms.proofs.Loads as loads
use Rattle.core_exprs.specs.declared.found.Found.{Found}
use Rattle.core_exprs.specs.Found.{IsFoundOf, plain}

-- ---- parts that are no string literals

record Quiet (p : Part) (s : Scope) : Type 0 where
  pub text : (l : Level) → p.text l ≡ None
  pub after : p.typed.after ≡ s

quiet_name : (at : ℕ) (s : Scope) (e : Option Entry) → Quiet (forms.identifier at s e) s
quiet_name at s None = record { text = λ l. refl; after = refl }
quiet_name at s (Some e) = by_means (says.identifier at s (Some e)) e.at e.means refl
  where
    by_means : (x : Typed) (at : ℕ) (m : Means) → x.after ≡ s → Quiet (forms.named_as x at m) s
    by_means x at (means.Object t duration linkage) is = record { text = λ l. refl; after = is }
    by_means x at (means.Function t linkage) is = record { text = λ l. refl; after = is }
    by_means x at (means.Constant z) is = record { text = λ l. refl; after = is }
    by_means x at (means.Typedef t) is = record { text = λ l. refl; after = is }
    by_means x at means.Faulty is = record { text = λ l. refl; after = is }

quiet_member : (at : ℕ) (name : Name) (p : Part) → Quiet (forms.member at name p) p.typed.after
quiet_member at name p = by_place p.is_place
    (forms.offset_of p.typed.after.tables (says.type_of p.typed) name) (says.member at name p.typed) p refl
  where
    by_place : (b : Bool) (offset : ℕ) (x : Typed) (p : Part) → x.after ≡ p.typed.after
        → Quiet (forms.member_by b offset x p) p.typed.after
    by_place true offset x p is = record { text = λ l. refl; after = is }
    by_place false offset x p is = record { text = λ l. refl; after = is }

quiet_postfix : (at : ℕ) (op : PostfixOperator) (p : Part) → Quiet (forms.postfix at op p) p.typed.after
quiet_postfix at after_.Increment p = record { text = λ l. refl; after = refl }
quiet_postfix at after_.Decrement p = record { text = λ l. refl; after = refl }

quiet_binary : (at : ℕ) (op : BinaryOperator) (p q : Part) → Quiet (forms.binary at op p q) q.typed.after
quiet_binary at o.Multiply p q = record { text = λ l. refl; after = refl }
quiet_binary at o.Divide p q = record { text = λ l. refl; after = refl }
quiet_binary at o.Remainder p q = record { text = λ l. refl; after = refl }
quiet_binary at o.Add p q = record { text = λ l. refl; after = refl }
quiet_binary at o.Subtract p q = record { text = λ l. refl; after = refl }
quiet_binary at o.ShiftLeft p q = record { text = λ l. refl; after = refl }
quiet_binary at o.ShiftRight p q = record { text = λ l. refl; after = refl }
quiet_binary at o.Less p q = record { text = λ l. refl; after = refl }
quiet_binary at o.Greater p q = record { text = λ l. refl; after = refl }
quiet_binary at o.LessEqual p q = record { text = λ l. refl; after = refl }
quiet_binary at o.GreaterEqual p q = record { text = λ l. refl; after = refl }
quiet_binary at o.Equal p q = record { text = λ l. refl; after = refl }
quiet_binary at o.NotEqual p q = record { text = λ l. refl; after = refl }
quiet_binary at o.BitAnd p q = record { text = λ l. refl; after = refl }
quiet_binary at o.BitXor p q = record { text = λ l. refl; after = refl }
quiet_binary at o.BitOr p q = record { text = λ l. refl; after = refl }
quiet_binary at o.LogicalAnd p q = record { text = λ l. refl; after = refl }
quiet_binary at o.LogicalOr p q = record { text = λ l. refl; after = refl }

module _ (n : Numbering) where
  quietly : (x : Found) (z : Built) (p : Part) (s t : Scope) → x ≡ plain z → IsBuilt n z p → Quiet p t → s ≡ t
      → IsFoundOf n x p s
  quietly x z p s t is h q e = subst (λ x. IsFoundOf n x p s) (sym is) (record {
    built = h;
    text = λ l k. sym (q.text l);
    after = e ∙ sym q.after;
  })

  abbrev simply : (x : Found) (z : Built) (p : Part) (s : Scope) → x ≡ plain z → IsBuilt n z p
      → ((l : Level) → p.text l ≡ None) → s ≡ p.typed.after → IsFoundOf n x p s
  simply x z p s is h none e = quietly x z p s p.typed.after is h (record { text = none; after = refl }) e

  -- the tables behind a part
  behind_part : (tables : Tables) (s : Scope) (x : Found) (p : Part) → tables ≡ s.tables → IsFoundOf n x p s
      → tables ≡ p.typed.after.tables
  behind_part tables s x p t h = t ∙ ap (λ (z : Scope). z.tables) h.after

  -- ---- constants and names

  pub on_integer : (at : ℕ) (c : IntegerConstant) (s : Scope) (z : Built) (x : Found)
      → z ≡ a_value (says.integer_told at c) (expr.Constant (pos c.value)) → x ≡ plain z
      → IsFoundOf n x (forms.integer_constant at c s) s
  on_integer at c s z x m is = simply x z (forms.integer_constant at c s) s is
      (built.constant_built n z (says.integer_told at c) (expr.Constant (pos c.value)) (pos c.value)
      (says.integer_constant at c s) m refl refl) (λ l. refl) refl

  pub on_character : (at : ℕ) (value : ℤ) (s : Scope) (z : Built) (x : Found)
      → z ≡ a_value (says.character_told at value) (expr.Constant value) → x ≡ plain z
      → IsFoundOf n x (forms.character_constant at value s) s
  on_character at value s z x m is = simply x z (forms.character_constant at value s) s is
      (built.constant_built n z (says.character_told at value) (expr.Constant value) value
      (says.character_constant at value s) m refl refl) (λ l. refl) refl

  -- what breaks a rule, and isn't run
  pub on_unmeant : (x : Typed) (told : Told) (s : Scope) (z : Built) (w : Found) → z ≡ a_part told false unmeant
      → told ≡ told_of x → s ≡ x.after → w ≡ plain z → IsFoundOf n w (forms.unmeant x) s
  on_unmeant x told s z w m said e is =
      simply w z (forms.unmeant x) s is (built.unmeant_built n z told x m said) (λ l. refl) e

  pub on_literal : (at : ℕ) (pieces : List (List ℕ)) (tables : Tables) (s : Scope) (z : Built) (text : List ℕ)
      → tables ≡ s.tables
      → z ≡ a_place (says.node at (says.literal_shown tables pieces) []) false (expr.Fixed (n.place at))
      → text ≡ forms.joined pieces
      → IsFoundOf n (record { built = z; text = Some text }) (forms.string_literal at pieces s) s
  on_literal at pieces tables s z text t m is = record {
    built = built.literal_built n z (says.node at (says.literal_shown tables pieces) []) at (n.place at) pieces s m refl
        (ap (λ a. says.node at (says.literal_shown a pieces) []) t);
    text = λ l k. ap Some is;
    after = refl;
  }

  pub on_function_name : (at : ℕ) (name name' : Option Name) (s : Scope) (z : Built) (x : Found) → name ≡ name'
      → z ≡ a_place (told_of (says.function_name at name s)) false (expr.Fixed (n.place at)) → x ≡ plain z
      → IsFoundOf n x (forms.function_name at name' s) s
  on_function_name at name name' s z x same m is =
      subst (λ f. IsFoundOf n x (forms.function_name at f s) s) same
      (simply x z (forms.function_name at name s) s is
      (built.function_name_built n z (told_of (says.function_name at name s)) at (n.place at) name s m refl refl)
      (λ l. refl) (stays name))
    where
      stays : (name : Option Name) → s ≡ (says.function_name at name s).after
      stays None = refl
      stays (Some f) = refl

  pub on_name : (at : ℕ) (s : Scope) (e e' : Option Entry) (z : Built) (x : Found) → e ≡ e'
      → z ≡ a_part (says.named_told at e) (is_object e) (named_node e n.place) → x ≡ plain z
      → IsFoundOf n x (forms.identifier at s e') s
  on_name at s e e' z x same m is =
      subst (λ e. IsFoundOf n x (forms.identifier at s e) s) same
      (quietly x z (forms.identifier at s e) s s is (claims.name_claim n at s e n.place z refl m)
      (quiet_name at s e) refl)

  -- ---- operands

  pub on_used : (tables : Tables) (s : Scope) (x : Found) (p : Part) (y : Used) → tables ≡ s.tables
      → IsFoundOf n x p s → HasWorth true tables x.built (used_told tables x.built.told) y → IsUsed n y p
  on_used tables s x p y t h m = loads.is_used n p tables x.built y (behind_part tables s x p t h) h.built m

  pub on_unused : (tables : Tables) (s : Scope) (x : Found) (p : Part) (y : Used) → tables ≡ s.tables
      → IsFoundOf n x p s → HasWorth false tables x.built x.built.told y → IsDiscarded n y p
  on_unused tables s x p y t h m = loads.is_discarded n p tables x.built y (behind_part tables s x p t h) h.built m

  -- ---- one part

  pub on_member : (at : ℕ) (name : Name) (tables : Tables) (s : Scope) (x : Found) (p : Part) (z : Built) (w : Found)
      → tables ≡ s.tables → IsFoundOf n x p s
      → (let told = says.node_over at x.built.told.shown (says.member_shown_of tables name) x.built.told.faults in
      z ≡ a_part told (member_rooted x.built.rooted x.built.node)
      (member_node (forms.offset_of tables (type_in x.built.told.shown) name) (type_by tables told) x.built.node))
      → w ≡ plain z → IsFoundOf n w (forms.member at name p) s
  on_member at name tables s x p z w t h m is =
      quietly w z (forms.member at name p) s p.typed.after is
      (claims.member_claim n at name tables x.built p z (behind_part tables s x p t h) h.built m)
      (quiet_member at name p) h.after

  pub on_arrow : (at : ℕ) (name : Name) (tables : Tables) (s : Scope) (x : Found) (p : Part) (y : Used) (z : Built)
      (w : Found) → tables ≡ s.tables → IsFoundOf n x p s
      → HasWorth true tables x.built (used_told tables x.built.told) y
      → z ≡ a_place (says.node_over at y.told.shown (says.pointed_member tables name) y.told.faults) false
      (expr.Offset (forms.offset_of tables (target_in (type_in y.told.shown)) name) (expr.Convert v.Pointer y.value))
      → w ≡ plain z → IsFoundOf n w (forms.arrow at name p) s
  on_arrow at name tables s x p y z w t h u m is =
      simply w z (forms.arrow at name p) s is
      (built.arrow_built n at name tables y p (forms.offset_of tables (target_in (type_in y.told.shown)) name)
      (says.node_over at y.told.shown (says.pointed_member tables name) y.told.faults) z (behind_part tables s x p t h)
      (on_used tables s x p y t h u) refl refl m) (λ l. refl) h.after

  pub on_postfix : (at : ℕ) (op : PostfixOperator) (tables : Tables) (s : Scope) (x : Found) (p : Part) (z : Built)
      (w : Found) → tables ≡ s.tables → IsFoundOf n x p s
      → z ≡ a_value (says.node_over at x.built.told.shown (says.stepped tables) x.built.told.faults)
      (stepped_node at (step_behind op) answered.Before tables x.built)
      → w ≡ plain z → IsFoundOf n w (forms.postfix at op p) s
  on_postfix at op tables s x p z w t h m is =
      quietly w z (forms.postfix at op p) s p.typed.after is
      (claims.postfix_claim n op at tables x.built p z (behind_part tables s x p t h) h.built m)
      (quiet_postfix at op p) h.after

  pub on_size : (at : ℕ) (tables : Tables) (s : Scope) (x : Told) (p : Part) (z : Built) (w : Found)
      → tables ≡ s.tables → typed_in x s ≡ p.typed
      → (let told = says.node_over at x.shown (says.size_shown tables) x.faults in
      z ≡ a_value told (expr.Constant (unwrap_or (value_in told.shown) (pos 0))))
      → w ≡ plain z → IsFoundOf n w (forms.size_of_expression at p) s
  on_size at tables s x p z w t h m is =
      simply w z (forms.size_of_expression at p) s is
      (built.size_built n at tables x p (says.node_over at x.shown (says.size_shown tables) x.faults) z
      (unwrap_or (value_in (says.node_over at x.shown (says.size_shown tables) x.faults).shown) (pos 0))
      (t ∙ ap (λ (a : Typed). a.after.tables) h) (ap told_of h) refl refl m)
      (λ l. refl) (ap (λ (a : Typed). a.after) h)

  pub on_type_size : (at : ℕ) (tables : Tables) (s : Scope) (named : NamedType) (faults : List Fault) (z : Built)
      (w : Found) → tables ≡ s.tables
      → (let told = says.over_named at named (says.size_in tables) faults in
      z ≡ a_value told (expr.Constant (unwrap_or (value_in told.shown) (pos 0))))
      → w ≡ plain z → IsFoundOf n w (forms.size_of_type at named faults s) s
  on_type_size at tables s named faults z w t m is =
      simply w z (forms.size_of_type at named faults s) s is
      (built.type_size_built n at tables named faults s (says.over_named at named (says.size_in tables) faults) z
      (unwrap_or (value_in (says.over_named at named (says.size_in tables) faults).shown) (pos 0)) t refl refl m)
      (λ l. refl) refl

  pub on_cast : (at : ℕ) (tables : Tables) (s : Scope) (named : NamedType) (faults : List Fault) (x : Found) (p : Part)
      (y : Used) (z : Built) (w : Found) → tables ≡ s.tables → IsFoundOf n x p s
      → HasWorth (is_cast_of_used (forms.named_class named)) tables x.built (used_told tables x.built.told) y
      → z ≡ a_value (says.cast_over at named y.told.shown (faults ++ y.told.faults))
      (expr.Cast (cast_type named) y.value)
      → w ≡ plain z → IsFoundOf n w (forms.cast at named faults p) s
  on_cast at tables s named faults x p y z w t h u m is =
      simply w z (forms.cast at named faults p) s is
      (built.cast_built n at named faults y p (says.cast_over at named y.told.shown (faults ++ y.told.faults)) z
      (loads.is_cast_operand n p tables (forms.named_class named) x.built y (behind_part tables s x p t h) h.built u) refl m)
      (λ l. refl) h.after

  -- ---- unary operators

  pub on_address : (at : ℕ) (tables : Tables) (s : Scope) (x : Found) (p : Part) (z : Built) (w : Found)
      → tables ≡ s.tables → IsFoundOf n x p s
      → z ≡ a_value (says.node_over at x.built.told.shown (says.unary_judged tables u.Address) x.built.told.faults)
      (expr.Pointer (address_in x.built.node))
      → w ≡ plain z → IsFoundOf n w (forms.unary at u.Address p) s
  on_address at tables s x p z w t h m is =
      simply w z (forms.unary at u.Address p) s is
      (claims.address_claim n at tables x.built p z (behind_part tables s x p t h) h.built m) (λ l. refl) h.after

  pub on_increment : (at : ℕ) (tables : Tables) (s : Scope) (x : Found) (p : Part) (z : Built) (w : Found)
      → tables ≡ s.tables → IsFoundOf n x p s
      → z ≡ a_value (says.node_over at x.built.told.shown (says.unary_judged tables u.Increment) x.built.told.faults)
      (stepped_node at o.Add answered.Stored tables x.built)
      → w ≡ plain z → IsFoundOf n w (forms.unary at u.Increment p) s
  on_increment at tables s x p z w t h m is =
      simply w z (forms.unary at u.Increment p) s is
      (claims.increment_claim n at tables x.built p z (behind_part tables s x p t h) h.built m) (λ l. refl) h.after

  pub on_decrement : (at : ℕ) (tables : Tables) (s : Scope) (x : Found) (p : Part) (z : Built) (w : Found)
      → tables ≡ s.tables → IsFoundOf n x p s
      → z ≡ a_value (says.node_over at x.built.told.shown (says.unary_judged tables u.Decrement) x.built.told.faults)
      (stepped_node at o.Subtract answered.Stored tables x.built)
      → w ≡ plain z → IsFoundOf n w (forms.unary at u.Decrement p) s
  on_decrement at tables s x p z w t h m is =
      simply w z (forms.unary at u.Decrement p) s is
      (claims.decrement_claim n at tables x.built p z (behind_part tables s x p t h) h.built m) (λ l. refl) h.after

  pub on_indirection : (at : ℕ) (tables : Tables) (s : Scope) (x : Found) (p : Part) (y : Used) (z : Built) (w : Found)
      → tables ≡ s.tables → IsFoundOf n x p s → HasWorth true tables x.built (used_told tables x.built.told) y
      → z ≡ a_place (says.node_over at y.told.shown (says.unary_judged tables u.Indirection) y.told.faults) false
      (expr.Target y.value)
      → w ≡ plain z → IsFoundOf n w (forms.unary at u.Indirection p) s
  on_indirection at tables s x p y z w t h k m is =
      simply w z (forms.unary at u.Indirection p) s is
      (built.indirection_built n at tables y p
      (says.node_over at y.told.shown (says.unary_judged tables u.Indirection) y.told.faults) z
      (behind_part tables s x p t h) (on_used tables s x p y t h k) refl m) (λ l. refl) h.after

  pub on_not : (at : ℕ) (tables : Tables) (s : Scope) (x : Found) (p : Part) (y : Used) (z : Built) (w : Found)
      → tables ≡ s.tables → IsFoundOf n x p s → HasWorth true tables x.built (used_told tables x.built.told) y
      → z ≡ a_value (says.node_over at y.told.shown (says.unary_judged tables u.Not) y.told.faults) (expr.Not y.value)
      → w ≡ plain z → IsFoundOf n w (forms.unary at u.Not p) s
  on_not at tables s x p y z w t h k m is =
      simply w z (forms.unary at u.Not p) s is
      (built.not_built n at tables y p (says.node_over at y.told.shown (says.unary_judged tables u.Not) y.told.faults) z
      (behind_part tables s x p t h) (on_used tables s x p y t h k) refl m) (λ l. refl) h.after

  pub on_plus : (at : ℕ) (tables : Tables) (s : Scope) (x : Found) (p : Part) (y : Used) (z : Built) (w : Found)
      → tables ≡ s.tables → IsFoundOf n x p s → HasWorth true tables x.built (used_told tables x.built.told) y
      → (let told = says.node_over at y.told.shown (says.unary_judged tables u.Plus) y.told.faults in
      z ≡ a_value told (turned_node at turn.Plus (kind_in (type_in y.told.shown)) (nodes.is_constant told) y.value))
      → w ≡ plain z → IsFoundOf n w (forms.unary at u.Plus p) s
  on_plus at tables s x p y z w t h k m is =
      simply w z (forms.unary at u.Plus p) s is
      (claims.plus_claim n at tables y p z (behind_part tables s x p t h) (on_used tables s x p y t h k) m) (λ l. refl)
      h.after

  pub on_minus : (at : ℕ) (tables : Tables) (s : Scope) (x : Found) (p : Part) (y : Used) (z : Built) (w : Found)
      → tables ≡ s.tables → IsFoundOf n x p s → HasWorth true tables x.built (used_told tables x.built.told) y
      → (let told = says.node_over at y.told.shown (says.unary_judged tables u.Minus) y.told.faults in
      z ≡ a_value told (turned_node at turn.Minus (kind_in (type_in y.told.shown)) (nodes.is_constant told) y.value))
      → w ≡ plain z → IsFoundOf n w (forms.unary at u.Minus p) s
  on_minus at tables s x p y z w t h k m is =
      simply w z (forms.unary at u.Minus p) s is
      (claims.minus_claim n at tables y p z (behind_part tables s x p t h) (on_used tables s x p y t h k) m) (λ l. refl)
      h.after

  pub on_complement : (at : ℕ) (tables : Tables) (s : Scope) (x : Found) (p : Part) (y : Used) (z : Built) (w : Found)
      → tables ≡ s.tables → IsFoundOf n x p s → HasWorth true tables x.built (used_told tables x.built.told) y
      → (let told = says.node_over at y.told.shown (says.unary_judged tables u.Complement) y.told.faults in
      z ≡ a_value told
      (turned_node at turn.Complement (kind_in (type_in y.told.shown)) (nodes.is_constant told) y.value))
      → w ≡ plain z → IsFoundOf n w (forms.unary at u.Complement p) s
  on_complement at tables s x p y z w t h k m is =
      simply w z (forms.unary at u.Complement p) s is
      (claims.complement_claim n at tables y p z (behind_part tables s x p t h) (on_used tables s x p y t h k) m)
      (λ l. refl) h.after

  -- ---- two and three parts

  pub on_subscript : (at : ℕ) (tables : Tables) (s : Scope) (x : Used) (y : Found) (p q : Part) (k : Used) (z : Built)
      (w : Found) → tables ≡ s.tables → IsUsed n x p → IsFoundOf n y q s
      → HasWorth true tables y.built (used_told tables y.built.told) k
      → z ≡ a_place (says.node_over_two at x.told.shown k.told.shown (says.element tables) (x.told.faults ++ k.told.faults))
      false (target_of_sum at (operator_of o.Add (operand_by tables x.told) (operand_by tables k.told)) x.value k.value)
      → w ≡ plain z → IsFoundOf n w (forms.subscript at p q) s
  on_subscript at tables s x y p q k z w t h i j m is =
      simply w z (forms.subscript at p q) s is
      (claims.subscript_claim n at tables x k p q z (behind_part tables s y q t i) h (on_used tables s y q k t i j) m)
      (λ l. refl) i.after

  pub on_binary : (at : ℕ) (op : BinaryOperator) (tables : Tables) (s : Scope) (x : Used) (y : Found) (p q : Part)
      (k : Used) (z : Built) (w : Found) → tables ≡ s.tables → IsUsed n x p → IsFoundOf n y q s
      → HasWorth true tables y.built (used_told tables y.built.told) k
      → (let told = says.node_over_two at x.told.shown k.told.shown (says.operated tables op)
      (x.told.faults ++ k.told.faults) in
      z ≡ a_value told (binary_node at op tables (nodes.is_constant told) x k))
      → w ≡ plain z → IsFoundOf n w (forms.binary at op p q) s
  on_binary at op tables s x y p q k z w t h i j m is =
      quietly w z (forms.binary at op p q) s q.typed.after is
      (claims.binary_claim n op at tables x k p q
      (nodes.is_constant (says.node_over_two at x.told.shown k.told.shown (says.operated tables op)
      (x.told.faults ++ k.told.faults))) z (behind_part tables s y q t i) h (on_used tables s y q k t i j) refl m)
      (quiet_binary at op p q) i.after

  pub on_simple : (at : ℕ) (tables : Tables) (s : Scope) (x : Built) (y : Found) (p q : Part) (k : Used) (z : Built)
      (w : Found) → tables ≡ s.tables → IsBuilt n x p → IsFoundOf n y q s
      → HasWorth true tables y.built (used_told tables y.built.told) k
      → z ≡ a_value (says.node_over_two at x.told.shown k.told.shown (says.assignment_judged tables None)
      (x.told.faults ++ k.told.faults)) (stored_node at tables x.told x.rooted x.node k.value)
      → w ≡ plain z → IsFoundOf n w (forms.assignment at None p q) s
  on_simple at tables s x y p q k z w t h i j m is =
      simply w z (forms.assignment at None p q) s is
      (claims.simple_claim n at tables x k p q z (behind_part tables s y q t i) h (on_used tables s y q k t i j) m)
      (λ l. refl) i.after

  pub on_compound : (op : BinaryOperator) (at : ℕ) (tables : Tables) (s : Scope) (x : Built) (y : Found) (p q : Part)
      (k : Used) (z : Built) (w : Found) → tables ≡ s.tables → IsBuilt n x p → IsFoundOf n y q s
      → HasWorth true tables y.built (used_told tables y.built.told) k
      → z ≡ a_value (says.node_over_two at x.told.shown k.told.shown (says.assignment_judged tables (Some op))
      (x.told.faults ++ k.told.faults))
      (updated_by at (scalar_access_by x.told x.rooted)
      (operator_of op (operand_by tables x.told) (operand_by tables k.told)) (address_in x.node) k.value)
      → w ≡ plain z → IsFoundOf n w (forms.assignment at (Some op) p q) s
  on_compound op at tables s x y p q k z w t h i j m is =
      simply w z (forms.assignment at (Some op) p q) s is
      (claims.compound_claim n op at tables x k p q z (behind_part tables s y q t i) h (on_used tables s y q k t i j) m)
      (λ l. refl) i.after

  pub on_comma : (at : ℕ) (tables : Tables) (s : Scope) (x : Used) (y : Found) (p q : Part) (k : Used) (z : Built)
      (w : Found) → tables ≡ s.tables → IsDiscarded n x p → IsFoundOf n y q s
      → HasWorth true tables y.built (used_told tables y.built.told) k
      → z ≡ a_value (says.node_over_two at x.told.shown k.told.shown (λ a b. says.second_judged b)
      (x.told.faults ++ k.told.faults)) (expr.Comma x.value k.value)
      → w ≡ plain z → IsFoundOf n w (forms.comma at p q) s
  on_comma at tables s x y p q k z w t h i j m is =
      simply w z (forms.comma at p q) s is
      (built.comma_built n at x k p q (says.node_over_two at x.told.shown k.told.shown (λ a b. says.second_judged b)
      (x.told.faults ++ k.told.faults)) z h (on_used tables s y q k t i j) refl m) (λ l. refl) i.after

  pub on_choice : (at : ℕ) (tables : Tables) (s : Scope) (c x : Used) (y : Found) (r p q : Part) (k : Used) (z : Built)
      (w : Found) → tables ≡ s.tables → IsUsed n c r → IsUsed n x p → IsFoundOf n y q s
      → HasWorth true tables y.built (used_told tables y.built.told) k
      → (let told = says.choice_over at c.told.shown x.told.shown k.told.shown
      (c.told.faults ++ x.told.faults ++ k.told.faults) in
      z ≡ a_value told (expr.Choose at c.value (expr.Convert (type_by tables told) x.value)
      (expr.Convert (type_by tables told) k.value)))
      → w ≡ plain z → IsFoundOf n w (forms.choice at r p q) s
  on_choice at tables s c x y r p q k z w t g h i j m is =
      let told = says.choice_over at c.told.shown x.told.shown k.told.shown
      (c.told.faults ++ x.told.faults ++ k.told.faults) in
      simply w z (forms.choice at r p q) s is
      (built.choice_built n at (worths.bytes_of tables (type_in told.shown)) c x k r p q told z g h
      (on_used tables s y q k t i j) refl m) (λ l. refl) i.after
