-- The forms of expressions: each meets no place but those from its base on, as many as its room, where its parts do so.
use Rattle.std.proofs.Common.{◌≤◌, ℕ, ◌+◌, ℤ, pos, Bool, true, false, List, [], ◌∷◌, Ok}
use Rattle.std.proofs.Common.{arith, Option, Some, None, le_refl}
use Rattle.std.specs.Prelude.{not, unwrap_or}
use Rattle.plain_data.specs.declared.run.Side.TheVariants as side
use Rattle.plain_data.specs.declared.run.Happening.TheVariants as happening
use Rattle.c_language.specs.declared.expr.BinaryOperator.{BinaryOperator}
use Rattle.c_language.specs.declared.expr.BinaryOperator.TheVariants as o
use Rattle.c_language.specs.declared.expr.PostfixOperator.{PostfixOperator}
use Rattle.c_language.specs.declared.expr.PostfixOperator.TheVariants as postfix_
use Rattle.c_language.specs.declared.expr.UnaryOperator.{UnaryOperator}
use Rattle.c_language.specs.declared.expr.UnaryOperator.TheVariants as u
use Rattle.c_language.specs.declared.class.Class.{Class}
use Rattle.c_language.specs.declared.class.Class.TheVariants as class
use Rattle.c_store.specs.Store.{Store}
use Rattle.c_language.specs.declared.scope.Duration.{Duration}
use Rattle.c_language.specs.declared.scope.Entry.{Entry}
use Rattle.c_language.specs.declared.scope.Means.{Means}
use Rattle.c_language.specs.declared.scope.Means.TheVariants as means
use Rattle.c_language.specs.Scopes.{Name, Scope}
use Rattle.c_language.specs.Typing.{Typed, NamedType, type_of}
use Rattle.c_language.specs.Typing as says
use Rattle.c_means.specs.Parts.{State, Outcome, Env, Run, Level, Site, Part, ◌>>=◌, note, refused, returned}
use Rattle.c_means.specs.Parts.{returned_in}
use Rattle.c_means.specs.Operators.{Operand, operand, one, operated, operated_on, turned_value, negated, target_in}
use Rattle.c_means.specs.Operators.{value_type, kind_in}
use Rattle.c_means.specs.Objects.{load, put}
use Rattle.c_means.specs.Values.{address, class_in, converted_to}
use Rattle.c_language.specs.Integers.{is_zero, number_of}
use Rattle.c_language.specs.declared.scope.Duration.TheVariants as duration
use Rattle.c_means.specs.Expressions.{Needs, valued, placed, alone, over_one, over_both, over_three, on_value}
use Rattle.c_means.specs.Expressions.{part_of_value, both_run, subscript, member, member_by}
use Rattle.c_means.specs.Expressions.{offset_of, arrow, stepped, postfix, postfix_by, prefix, unary, size_of_expression}
use Rattle.c_means.specs.Expressions.{size_of_type, cast, cast_as, cast_operand, on_branch, truth_of, and_then, or_else}
use Rattle.c_means.specs.Expressions.{logical, both_evaluated, binary, chosen, choice_as, choice, simple}
use Rattle.c_means.specs.Expressions.{assignment, comma, Passed, passed, all_rooms, arguments, calling, needed}
use Rattle.c_means.specs.Expressions.{direct_call, answered, nowhere, is_updated, steps_if, compound_if}
use Rattle.c_means.specs.Expressions.{call_of, call, constant, unmeant, made_for, string_literal, function_name}
use Rattle.c_means.specs.Expressions.{identifier, named_as, object_of, site, designated, parameters_of}
use Rattle.c_means.specs.declared.kind.Kind.{Kind}
use Rattle.c_means.specs.declared.kind.Kind.TheVariants as kind
use Rattle.c_language.specs.declared.ctype.CType.{CType}
use Rattle.c_places.proofs.Counts.{Rises, met, AddsTo, Quiet, bind, weaken, quiet, times-append}
use Rattle.c_places.proofs.Values.{either, loads, puts, operates, operates_on, turns}

-- calls keep to their rooms
pub record Calling (w : ℕ → ℕ) (p : ℕ) (l : Level) : Type 0 where
  pub rises : Rises w
  pub call : (g : Site) (env : Env) (vs : List ℤ) (base : ℕ) (s : Store) (count : ℕ) →
      met p (l.call g env vs base s count) + w base ≤ w (base + l.room g)

-- what runs keeps to so many places
abbrev pub Within : {A : Type 0} → (ℕ → ℕ) → ℕ → ℕ → Run A → Type 0
Within w p room f = (env : Env) (base : ℕ) (d : State) → AddsTo p (w base) (w (base + room)) (met p d) (f env base d)

pub record Keeps (w : ℕ → ℕ) (p : ℕ) (l : Level) (x : Part) : Type 0 where
  pub reach : Within w p (x.room l) (x.reach l)
  pub run : Within w p (x.room l) (x.run l)
  pub effect : Within w p (x.room l) (x.effect l)

module _ (w : ℕ → ℕ) (p : ℕ) (l : Level) (c : Calling w p l) where
  abbrev K : Part → Type 0
  K x = Keeps w p l x

  up : (a b : ℕ) → a ≤ b → w a ≤ w b
  up = c.rises.more

  -- ---- one part, and what is done with its value

  behind : {A B : Type 0} (room : ℕ) (g : Run A) (f : Env → ℕ → A × State → Outcome B) → Within w p room g →
      ((env : Env) (base : ℕ) (v : A × State) → Quiet p v.1 (f env base v)) →
      Within w p room (λ env base d. g env base d >>= f env base)
  behind room g f h q env base d =
      bind p (w base) (w (base + room)) (w (base + room)) (met p d) (g env base d) (f env base) (h env base d)
      (λ v. q env base v (w (base + room))) (le_refl _)

  -- two, the second one's places behind the first one's
  in_order : {A B : Type 0} (r s : ℕ) (g : Run A) (f : A → Run B) → Within w p r g → ((a : A) → Within w p s (f a)) →
      Within w p (r + s) (λ env base d. g env base d >>= (λ v. f v.0 env (base + r) v.1))
  in_order r s g f hg hf env base d =
      bind p (w base) (w (base + r)) (w (base + (r + s))) (met p d) (g env base d) (λ v. f v.0 env (base + r) v.1)
      (hg env base d)
      (λ v. weaken p (w (base + r)) (w (base + r + s)) (w (base + (r + s))) (met p v.1) (f v.0 env (base + r) v.1)
      (hf v.0 env (base + r) v.1) (up _ _ (omega arith)))
      (up _ _ (omega arith))

  room_for : {A : Type 0} (r s : ℕ) (g : Run A) → Within w p r g → r ≤ s → Within w p s g
  room_for r s g h more env base d =
      weaken p (w base) (w (base + r)) (w (base + s)) (met p d) (g env base d) (h env base d) (up _ _ (omega arith))

  still : {A : Type 0} (room : ℕ) (g : Run A) → ((env : Env) (base : ℕ) (d : State) → Quiet p d (g env base d)) →
      Within w p room g
  still room g q env base d =
      weaken p (w base) (w base) (w (base + room)) (met p d) (g env base d) (q env base d (w base))
      (up _ _ (omega arith))

  -- ---- kinds of parts

  nowhere_within : (room : ℕ) (r : Level → Run ℤ) → Within w p room (r l) → Within w p room (nowhere r l)
  nowhere_within room r h = behind room (r l) (λ env base v. Ok (0, v.1)) h (λ env base v i. quiet p i 0 v.1)

  pub value_keeps : (t : Typed) (n : Needs) (r : Level → Run ℤ) → Within w p (n.room l) (r l) → K (valued t n r)
  value_keeps t n r h = record {
    reach = nowhere_within (n.room l) r h;
    run = h;
    effect = h;
  }

  pub place_keeps : (t : Typed) (rooted : Bool) (n : Needs) (r : Level → Run ℕ) → Within w p (n.room l) (r l) →
      K (placed t rooted n r)
  place_keeps t rooted n r h =
      let loading = behind (n.room l) (r l) (λ env base a. Rattle.c_means.specs.Objects.load t rooted a.0 a.1) h
      (λ env base a. loads p t rooted a.0 a.1) in
      record { reach = h; run = loading; effect = loading }

  pub constant_keeps : (t : Typed) (z : ℤ) → K (constant t z)
  constant_keeps t z = value_keeps t alone _ (still {A = ℤ} 0 _ (λ env base d i. record { holds = le_refl _ }))

  pub unmeant_keeps : (t : Typed) → K (unmeant t)
  unmeant_keeps t = value_keeps t alone _ (still {A = ℤ} 0 _ (λ env base d i. record { holds = le_refl _ }))

  pub made_keeps : (at : ℕ) (t : Typed) → K (made_for at t)
  made_keeps at t = place_keeps t false alone _ (still {A = ℕ} 0 _ (λ env base d i. record { holds = le_refl _ }))

  pub text_keeps : (at : ℕ) (pieces : List (List ℕ)) (s : Scope) → K (string_literal at pieces s)
  text_keeps at pieces s =
      let made = made_keeps at (says.string_literal at pieces s) in
      record { reach = made.reach; run = made.run; effect = made.effect }

  pub object_keeps : (t : Typed) (dur : Duration) (at : ℕ) → K (object_of t dur at)
  object_keeps t dur at =
      place_keeps t true alone _ (still {A = ℕ} 0 _ (λ env base d i. record { holds = le_refl _ }))

  pub named_keeps : (t : Typed) (at : ℕ) (m : Means) → K (named_as t at m)
  named_keeps t at (means.Object u dur linkage) = object_keeps t dur at
  named_keeps t at (means.Function u linkage) = object_keeps t duration.Static at
  named_keeps t at (means.Constant z) = constant_keeps t z
  named_keeps t at (means.Typedef u) = unmeant_keeps t
  named_keeps t at means.Faulty = unmeant_keeps t

  pub identifier_keeps : (at : ℕ) (s : Scope) (e : Option Entry) → K (identifier at s e)
  identifier_keeps at s None = unmeant_keeps (says.identifier at s None)
  identifier_keeps at s (Some e) = named_keeps (says.identifier at s (Some e)) e.at e.means

  -- ---- steps that meet nothing, one behind the other

  quietly : {A B : Type 0} (d : State) (o : Outcome A) (f : A × State → Outcome B) → Quiet p d o →
      ((v : A × State) → Quiet p v.1 (f v)) → Quiet p d (o >>= f)
  quietly d o f ho hf i = bind p i i i (met p d) o f (ho i) (λ v. hf v i) (le_refl _)

  -- in front of what keeps to a room
  quiet_first : {A B : Type 0} (room : ℕ) (g : Env → ℕ → State → Outcome A) (f : A → Run B) →
      ((env : Env) (base : ℕ) (d : State) → Quiet p d (g env base d)) → ((a : A) → Within w p room (f a)) →
      Within w p room (λ env base d. g env base d >>= (λ v. f v.0 env base v.1))
  quiet_first room g f q h env base d =
      bind p (w base) (w base) (w (base + room)) (met p d) (g env base d) (λ v. f v.0 env base v.1)
      (q env base d (w base)) (λ v. h v.0 env base v.1) (up _ _ (omega arith))

  -- behind the places of another
  past : {A : Type 0} (r s : ℕ) (g : Run A) → Within w p s g → Within w p (r + s) (λ env base d. g env (base + r) d)
  past r s g h env base d = record {
    holds = omega (
      arith,
      (h env (base + r) d).holds,
      up base (base + r) (omega arith),
      up (base + r + s) (base + (r + s)) (omega arith),
    );
  }

  -- ---- operands

  both : (x y : Part) → K x → K y → Within w p (x.room l + y.room l) (both_run x y l)
  both x y hx hy =
      in_order (x.room l) (y.room l) (x.run l) (λ v env base d. y.run l env base d >>= (λ u. Ok ((v, u.0), u.1))) hx.run
      (λ v. behind (y.room l) (y.run l) (λ env base u. Ok ((v, u.0), u.1)) hy.run
      (λ env base u i. quiet p i (v, u.0) u.1))

  pub subscript_keeps : (at : ℕ) (x y : Part) → K x → K y → K (subscript at x y)
  subscript_keeps at x y hx hy =
      place_keeps (says.subscript at x.typed y.typed) false _ _
      (behind (x.room l + y.room l) (both_run x y l)
      (λ env base v. operated_on at o.Add x.typed y.typed v.0.0 v.0.1 v.1 >>= (λ a. Ok (address a.0, a.1)))
      (both x y hx hy)
      (λ env base v. quietly v.1 (operated_on at o.Add x.typed y.typed v.0.0 v.0.1 v.1) (λ a. Ok (address a.0, a.1))
      (operates_on p at o.Add x.typed y.typed v.0.0 v.0.1 v.1)
      (λ a i. quiet p i (address a.0) a.1)))

  pub member_keeps : (b : Bool) (offset : ℕ) (t : Typed) (x : Part) → K x → K (member_by b offset t x)
  member_keeps true offset t x hx =
      place_keeps t x.rooted _ _
      (behind (x.room l) (x.reach l) (λ env base a. Ok
      (Rattle.c_means.specs.Expressions.behind offset a.0, a.1)) hx.reach
      (λ env base a i. quiet p i (Rattle.c_means.specs.Expressions.behind offset a.0) a.1))
  member_keeps false offset t x hx =
      value_keeps t _ _
      (behind (x.room l) (x.run l) (λ env base v. Ok (part_of_value offset t v.0, v.1)) hx.run
      (λ env base v i. quiet p i (part_of_value offset t v.0) v.1))

  pub arrow_keeps : (at : ℕ) (name : Name) (x : Part) → K x → K (arrow at name x)
  arrow_keeps at name x hx =
      place_keeps (says.arrow at name x.typed) false _ _
      (behind (x.room l) (x.run l) (λ env base v. Ok (target v.0, v.1)) hx.run
      (λ env base v i. quiet p i (target v.0) v.1))
    where
      target : ℤ → ℕ
      target v = Rattle.c_means.specs.Expressions.behind
          (offset_of x.typed.after.tables (target_in (value_type x.typed)) name) (address v)

  steps : (b : Bool) (at : ℕ) (op : BinaryOperator) (x : Part) → K x → Within w p (x.room l) (steps_if b at op x l)
  steps false at op x hx =
      behind (x.room l) (x.reach l) (λ env base a. Ok ((pos 0, pos 0), a.1)) hx.reach
      (λ env base a i. quiet p i (pos 0, pos 0) a.1)
  steps true at op x hx =
      behind (x.room l) (x.reach l) (λ env base a. stores a.0 a.1) hx.reach
      (λ env base a. quietly a.1 (load x.typed x.rooted a.0 a.1) (λ v. reckons a.0 v.0 v.1)
      (loads p x.typed x.rooted a.0 a.1)
      (λ v. quietly v.1 (sum v.0 v.1) (λ z. puts_it a.0 v.0 z.0 z.1)
      (operates p at op (operand x.typed.after.tables x.typed v.0) one v.1)
      (λ z. quietly z.1 (put at x.typed.after.tables x.typed x.rooted a.0 z.0 z.1) (λ y. Ok ((v.0, y.0), y.1))
      (puts p at x.typed.after.tables x.typed x.rooted a.0 z.0 z.1) (λ y i. quiet p i (v.0, y.0) y.1))))
    where
      sum : ℤ → State → Outcome ℤ
      sum v d = operated at op (operand x.typed.after.tables x.typed v) one d

      puts_it : ℕ → ℤ → ℤ → State → Outcome (ℤ × ℤ)
      puts_it a v z d = put at x.typed.after.tables x.typed x.rooted a z d >>= (λ y. Ok ((v, y.0), y.1))

      reckons : ℕ → ℤ → State → Outcome (ℤ × ℤ)
      reckons a v d = sum v d >>= (λ z. puts_it a v z.0 z.1)

      stores : ℕ → State → Outcome (ℤ × ℤ)
      stores a d = load x.typed x.rooted a d >>= (λ v. reckons a v.0 v.1)

  pub postfix_by_keeps : (at : ℕ) (op : BinaryOperator) (x : Part) → K x → K (postfix_by at op x)
  postfix_by_keeps at op x hx =
      value_keeps (says.postfix at x.typed) _ _
      (behind (x.room l) (stepped at op x l) (λ env base v. Ok (v.0.0, v.1))
      (steps (is_updated op x.typed one.kind) at op x hx)
      (λ env base v i. quiet p i v.0.0 v.1))

  pub postfix_keeps : (at : ℕ) (op : PostfixOperator) (x : Part) → K x → K (postfix at op x)
  postfix_keeps at postfix_.Increment x hx = postfix_by_keeps at o.Add x hx
  postfix_keeps at postfix_.Decrement x hx = postfix_by_keeps at o.Subtract x hx

  pub prefix_keeps : (at : ℕ) (u : UnaryOperator) (op : BinaryOperator) (x : Part) → K x → K (prefix at u op x)
  prefix_keeps at u op x hx =
      value_keeps (says.unary at u x.typed) _ _
      (behind (x.room l) (stepped at op x l) (λ env base v. Ok (v.0.1, v.1))
      (steps (is_updated op x.typed one.kind) at op x hx)
      (λ env base v i. quiet p i v.0.1 v.1))

  pub on_value_keeps : (at : ℕ) (u : UnaryOperator) (f : Operand → State → Outcome ℤ) (x : Part) →
      ((y : Operand) (d : State) → Quiet p d (f y d)) → K x → K (on_value at u f x)
  on_value_keeps at u f x q hx =
      value_keeps (says.unary at u x.typed) _ _
      (behind (x.room l) (x.run l) (λ env base v. f (operand x.typed.after.tables x.typed v.0) v.1) hx.run
      (λ env base v. q (operand x.typed.after.tables x.typed v.0) v.1))

  pub unary_keeps : (at : ℕ) (op : UnaryOperator) (x : Part) → K x → K (unary at op x)
  unary_keeps at u.Address x hx =
      value_keeps (says.unary at u.Address x.typed) _ _
      (behind (x.room l) (x.reach l) (λ env base a. Ok (pos a.0, a.1)) hx.reach
      (λ env base a i. quiet p i (pos a.0) a.1))
  unary_keeps at u.Indirection x hx =
      place_keeps (says.unary at u.Indirection x.typed) false _ _
      (behind (x.room l) (x.run l) (λ env base v. Ok (address v.0, v.1)) hx.run
      (λ env base v i. quiet p i (address v.0) v.1))
  unary_keeps at u.Plus x hx = on_value_keeps at u.Plus (turned_value at u.Plus) x (turns p at u.Plus) hx
  unary_keeps at u.Minus x hx =
      let value = on_value_keeps at u.Minus (turned_value at u.Minus) x (turns p at u.Minus) hx in
      record { reach = value.reach; run = value.run; effect = value.effect }
  unary_keeps at u.Complement x hx =
      on_value_keeps at u.Complement (turned_value at u.Complement) x (turns p at u.Complement) hx
  unary_keeps at u.Not x hx =
      on_value_keeps at u.Not negated x (λ y d i. quiet p i (number_of (is_zero y.value)) d) hx
  unary_keeps at u.Increment x hx = prefix_keeps at u.Increment o.Add x hx
  unary_keeps at u.Decrement x hx = prefix_keeps at u.Decrement o.Subtract x hx

  cast_within : (cl : Class) (x : Part) → K x → Within w p (x.room l) (cast_operand cl x l)
  cast_within class.Void x hx = hx.effect
  cast_within (class.Integer kind) x hx = hx.run
  cast_within class.Pointer x hx = hx.run
  cast_within (class.Aggregate n) x hx = hx.run
  cast_within class.Floating x hx = hx.run
  cast_within class.Opaque x hx = hx.run
  cast_within class.Array x hx = hx.run
  cast_within class.Function x hx = hx.run

  pub cast_as_keeps : (cl : Class) (t : Typed) (x : Part) → K x → K (cast_as cl t x)
  cast_as_keeps cl t x hx =
      value_keeps t _ _
      (behind (x.room l) (cast_operand cl x l) (λ env base v. Ok (converted_to cl v.0, v.1)) (cast_within cl x hx)
      (λ env base v i. quiet p i (converted_to cl v.0) v.1))

  -- ---- two and three operands

  pub both_evaluated_keeps : (at : ℕ) (op : BinaryOperator) (x y : Part) → K x → K y → K (both_evaluated at op x y)
  both_evaluated_keeps at op x y hx hy =
      value_keeps (says.binary at op x.typed y.typed) _ _
      (behind (x.room l + y.room l) (both_run x y l)
      (λ env base v. operated_on at op x.typed y.typed v.0.0 v.0.1 v.1) (both x y hx hy)
      (λ env base v. operates_on p at op x.typed y.typed v.0.0 v.0.1 v.1))

  -- on both sides of a branch
  branches : (at : ℕ) (room : ℕ) (f : Env → ℕ → Bool → State → Outcome ℤ) →
      ((b : Bool) → Within w p room (λ env base d. f env base b d)) → (z : ℤ) →
      Within w p room (λ env base d. on_branch at z (f env base) d)
  branches at room f h z env base d =
      either p (w base) (w (base + room)) (met p d) (is_zero z)
      (f env base false (note (happening.Branch at side.No) d)) (f env base true (note
      (happening.Branch at side.Yes) d))
      (h false env base (note (happening.Branch at side.No) d)) (h true env base (note
      (happening.Branch at side.Yes) d))

  truth : (y : Part) → K y → Within w p (y.room l) (truth_of y l)
  truth y hy =
      behind (y.room l) (y.run l) (λ env base v. Ok (number_of (not (is_zero v.0)), v.1)) hy.run
      (λ env base v i. quiet p i (number_of (not (is_zero v.0))) v.1)

  and_then_within : (y : Part) → K y → (b : Bool) → Within w p (y.room l) (λ env base d. and_then y l env base b d)
  and_then_within y hy true = truth y hy
  and_then_within y hy false = still {A = ℤ} (y.room l) _ (λ env base d i. quiet p i (pos 0) d)

  or_else_within : (y : Part) → K y → (b : Bool) → Within w p (y.room l) (λ env base d. or_else y l env base b d)
  or_else_within y hy true = still {A = ℤ} (y.room l) _ (λ env base d i. quiet p i (pos 1) d)
  or_else_within y hy false = truth y hy

  pub logical_keeps : (at : ℕ) (op : BinaryOperator) (f : Part → Level → Env → ℕ → Bool → State → Outcome ℤ)
      (x y : Part) →
      K x → ((b : Bool) → Within w p (y.room l) (λ env base d. f y l env base b d)) → K (logical at op f x y)
  logical_keeps at op f x y hx hf =
      value_keeps (says.binary at op x.typed y.typed) _ _
      (in_order (x.room l) (y.room l) (x.run l) (λ z env base d. on_branch at z (f y l env base) d) hx.run
      (branches at (y.room l) (f y l) hf))

  pub binary_keeps : (at : ℕ) (op : BinaryOperator) (x y : Part) → K x → K y → K (binary at op x y)
  binary_keeps at o.LogicalAnd x y hx hy = logical_keeps at o.LogicalAnd and_then x y hx (and_then_within y hy)
  binary_keeps at o.LogicalOr x y hx hy = logical_keeps at o.LogicalOr or_else x y hx (or_else_within y hy)
  binary_keeps at op x y hx hy = both_evaluated_keeps at op x y hx hy

  chosen_within : (cl : Class) (x y : Part) → K x → K y → (b : Bool) →
      Within w p (x.room l + y.room l) (λ env base d. chosen cl x y l env base b d)
  chosen_within cl x y hx hy true =
      room_for (x.room l) (x.room l + y.room l) _
      (behind (x.room l) (x.run l) (λ env base v. Ok (converted_to cl v.0, v.1)) hx.run
      (λ env base v i. quiet p i (converted_to cl v.0) v.1))
      (omega arith)
  chosen_within cl x y hx hy false =
      past (x.room l) (y.room l) (λ env base d. y.run l env base d >>= (λ v. Ok (converted_to cl v.0, v.1)))
      (behind (y.room l) (y.run l) (λ env base v. Ok (converted_to cl v.0, v.1)) hy.run
      (λ env base v i. quiet p i (converted_to cl v.0) v.1))

  pub choice_keeps : (at : ℕ) (t : Typed) (e x y : Part) → K e → K x → K y → K (choice_as at t e x y)
  choice_keeps at t e x y he hx hy =
      value_keeps t _ _
      (in_order (e.room l) (x.room l + y.room l) (e.run l)
      (λ z env base d. on_branch at z (chosen (class_in (type_of t)) x y l env base) d) he.run
      (branches at (x.room l + y.room l) (chosen (class_in (type_of t)) x y l)
      (chosen_within (class_in (type_of t)) x y hx hy)))

  simple_within : (at : ℕ) (x y : Part) → K x → K y → Within w p (x.room l + y.room l) (simple at x y l)
  simple_within at x y hx hy =
      in_order (x.room l) (y.room l) (x.reach l)
      (λ a env base d. y.run l env base d >>= (λ v. put at y.typed.after.tables x.typed x.rooted a v.0 v.1)) hx.reach
      (λ a. behind (y.room l) (y.run l) (λ env base v. put at y.typed.after.tables x.typed x.rooted a v.0 v.1) hy.run
      (λ env base v. puts p at y.typed.after.tables x.typed x.rooted a v.0 v.1))

  compound_within : (b : Bool) (at : ℕ) (op : BinaryOperator) (x y : Part) → K x → K y →
      Within w p (x.room l + y.room l) (compound_if b at op x y l)
  compound_within false at op x y hx hy =
      in_order (x.room l) (y.room l) (x.reach l)
      (λ a env base d. y.run l env base d >>= (λ v. refused v.1)) hx.reach
      (λ a. behind (y.room l) (y.run l) (λ env base v. refused v.1) hy.run
      (λ env base v i. quiet p i (pos 0) v.1))
  compound_within true at op x y hx hy =
      in_order (x.room l) (y.room l) (x.reach l)
      (λ a env base d. load x.typed x.rooted a d >>= (λ v. reckons a v.0 env base v.1)) hx.reach
      (λ a. quiet_first (y.room l) (λ env base d. load x.typed x.rooted a d) (reckons a)
      (λ env base d. loads p x.typed x.rooted a d)
      (λ v. behind (y.room l) (y.run l) (λ env base u. stores a v u.0 u.1) hy.run
      (λ env base u. quietly u.1 (operated_on at op x.typed y.typed v u.0 u.1)
      (λ z. put at y.typed.after.tables x.typed x.rooted a z.0 z.1) (operates_on p at op x.typed y.typed v u.0 u.1)
      (λ z. puts p at y.typed.after.tables x.typed x.rooted a z.0 z.1))))
    where
      stores : ℕ → ℤ → ℤ → State → Outcome ℤ
      stores a v u d = operated_on at op x.typed y.typed v u d
          >>= (λ z. put at y.typed.after.tables x.typed x.rooted a z.0 z.1)

      reckons : ℕ → ℤ → Run ℤ
      reckons a v env base d = y.run l env base d >>= (λ u. stores a v u.0 u.1)

  pub assignment_keeps : (at : ℕ) (op : Option BinaryOperator) (x y : Part) → K x → K y → K (assignment at op x y)
  assignment_keeps at None x y hx hy =
      value_keeps (says.assignment at None x.typed y.typed) _ _ (simple_within at x y hx hy)
  assignment_keeps at (Some op) x y hx hy =
      value_keeps (says.assignment at (Some op) x.typed y.typed) _ _
      (compound_within (is_updated op x.typed (kind_in (value_type y.typed))) at op x y hx hy)

  pub comma_keeps : (at : ℕ) (x y : Part) → K x → K y → K (comma at x y)
  comma_keeps at x y hx hy =
      value_keeps (says.comma at x.typed y.typed) _ _
      (in_order (x.room l) (y.room l) (x.effect l) (λ v env base d. y.run l env base d) hx.effect (λ v. hy.run))

  -- ---- calls

  abbrev pub EachKeeps : List Part → Type 0
  EachKeeps [] = Unit {0}
  EachKeeps (x ∷ xs) = K x × EachKeeps xs

  abbrev EachPassed : List Passed → Type 0
  EachPassed [] = Unit {0}
  EachPassed (q ∷ qs) = K q.part × EachPassed qs

  passed_keep : (xs : List Part) (ts : List CType) → EachKeeps xs → EachPassed (passed xs ts)
  passed_keep [] ts h = tt
  passed_keep (x ∷ xs) [] h = (h.0, passed_keep xs [] h.1)
  passed_keep (x ∷ xs) (t ∷ ts) h = (h.0, passed_keep xs ts h.1)

  arguments_within : (qs : List Passed) → EachPassed qs → Within w p (all_rooms qs l) (arguments qs l)
  arguments_within [] h = still {A = List ℤ} 0 _ (λ env base d i. quiet p i [] d)
  arguments_within (q ∷ qs) h =
      in_order (q.part.room l) (all_rooms qs l) (q.part.run l)
      (λ v env base d. arguments qs l env base d >>= (λ vs. Ok (converted_to (class_in q.ctype) v ∷ vs.0, vs.1)))
      h.0.run
      (λ v. behind (all_rooms qs l) (arguments qs l)
      (λ env base vs. Ok (converted_to (class_in q.ctype) v ∷ vs.0, vs.1)) (arguments_within qs h.1)
      (λ env base vs i. quiet p i (converted_to (class_in q.ctype) v ∷ vs.0) vs.1))

  -- the caller goes on with what was met behind what it met
  returns : (i j : ℕ) (d r : State) (k : Kind) → met p r + i ≤ j → AddsTo p i j (met p d) (returned_in d r k)
  returns i j d r (kind.Ended f) h = record { holds = omega (arith, h, times-append p d.met r.met) }
  returns i j d r k h = record { holds = omega (arith, h, times-append p d.met r.met) }

  calling_within : (g : Level → Site) (qs : List Passed) → EachPassed qs →
      Within w p (all_rooms qs l + l.room (g l)) (calling g qs l)
  calling_within g qs h =
      in_order (all_rooms qs l) (l.room (g l)) (arguments qs l)
      (λ vs env base d. let d : State = note (happening.Call (g l).at) d in
      returned d (l.call (g l) env vs base d.store d.count)) (arguments_within qs h)
      (λ vs env base d. let r = l.call (g l) env vs base d.store d.count in
      returns (w base) (w (base + l.room (g l))) (note (happening.Call (g l).at) d) r r.kind
      (c.call (g l) env vs base d.store d.count))

  needs_value : (at : ℕ) (cl : Class) (v : Option ℤ) (d : State) → Quiet p d (needed at cl v d)
  needs_value at cl (Some z) d i = record { holds = le_refl _ }
  needs_value at class.Void None d i = record { holds = le_refl _ }
  needs_value at cl None d i = record { holds = le_refl _ }

  pub direct_call_keeps : (at : ℕ) (t : Typed) (g : Level → Site) (qs : List Passed) → EachPassed qs →
      K (direct_call at t g qs)
  direct_call_keeps at t g qs h =
      let room = all_rooms qs l + l.room (g l) in
      let answers : Within w p room (answered at t g qs l) =
      behind room (calling g qs l) (λ env base v. needed at (class_in (type_of t)) v.0 v.1)
      (calling_within g qs h) (λ env base v. needs_value at (class_in (type_of t)) v.0 v.1) in
      record {
        reach = nowhere_within room (answered at t g qs) answers;
        run = answers;
        effect = behind room (calling g qs l) (λ env base v. Ok (unwrap_or v.0 (pos 0), v.1))
            (calling_within g qs h) (λ env base v i. quiet p i (unwrap_or v.0 (pos 0)) v.1);
      }

  pub call_of_keeps : (e : Option Entry) (f t : Typed) (qs : List Passed) → EachPassed qs → K (call_of e f t qs)
  call_of_keeps None f t qs h = unmeant_keeps t
  call_of_keeps (Some e) f t qs h = direct_call_keeps f.at t (site f.at e t qs) qs h

  pub call_keeps : (at : ℕ) (f : Part) (xs : List Part) (s : Scope) → EachKeeps xs → K (call at f xs s)
  call_keeps at f xs s h =
      call_of_keeps (designated f.typed.shown) f.typed _ (passed xs (parameters_of s.tables (type_of f.typed)))
      (passed_keep xs (parameters_of s.tables (type_of f.typed)) h)
