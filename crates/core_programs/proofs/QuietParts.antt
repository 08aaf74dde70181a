-- The forms of expressions at a level at which no call is left: each takes no place and prints nothing, where its parts
-- do so.
use Rattle.std.proofs.Common.{◌≡◌, ℕ, ◌+◌, ℤ, pos, Bool, true, false, List, [], ◌∷◌, ◌++◌, Option, Some, None, Ok}
use Rattle.std.proofs.Common.{refl, ap, ap₂, ◌∙◌}
use Rattle.std.proofs.lemmas.List.{append-nil}
use Rattle.std.specs.Prelude.{not, unwrap_or}
use Rattle.plain_data.specs.declared.run.Happening.TheVariants as happening
use Rattle.plain_data.specs.declared.run.Side.TheVariants as side
use Rattle.c_language.specs.declared.class.Class.{Class}
use Rattle.c_language.specs.declared.class.Class.TheVariants as class
use Rattle.c_language.specs.declared.ctype.CType.{CType}
use Rattle.c_language.specs.declared.expr.BinaryOperator.{BinaryOperator}
use Rattle.c_language.specs.declared.expr.BinaryOperator.TheVariants as o
use Rattle.c_language.specs.declared.expr.PostfixOperator.{PostfixOperator}
use Rattle.c_language.specs.declared.expr.PostfixOperator.TheVariants as postfix_
use Rattle.c_language.specs.declared.expr.UnaryOperator.{UnaryOperator}
use Rattle.c_language.specs.declared.expr.UnaryOperator.TheVariants as u
use Rattle.c_language.specs.declared.scope.Duration.{Duration}
use Rattle.c_language.specs.declared.scope.Duration.TheVariants as duration
use Rattle.c_language.specs.declared.scope.Entry.{Entry}
use Rattle.c_language.specs.declared.scope.Means.{Means}
use Rattle.c_language.specs.declared.scope.Means.TheVariants as means
use Rattle.c_language.specs.Integers.{is_zero, number_of}
use Rattle.c_language.specs.Scopes.{Name, Scope}
use Rattle.c_language.specs.Typing.{Typed, type_of}
use Rattle.c_language.specs.Typing as says
use Rattle.c_means.specs.declared.kind.Kind.{Kind}
use Rattle.c_means.specs.declared.kind.Kind.TheVariants as kind
use Rattle.c_means.specs.Parts.{State, Outcome, Env, Run, Level, Site, Part, ◌>>=◌, note, returned}
use Rattle.c_means.specs.Parts.{returned_in, refused}
use Rattle.c_means.specs.Objects.{load, put}
use Rattle.c_means.specs.Operators.{Operand, operand, one, operated, operated_on, turned_value, negated, target_in}
use Rattle.c_means.specs.Operators.{value_type, kind_in}
use Rattle.c_means.specs.Values.{address, class_in, converted_to}
use Rattle.c_means.specs.Expressions.{Needs, Passed, valued, placed, alone, over_one, over_both, over_three, on_value}
use Rattle.c_means.specs.Expressions.{part_of_value, both_run, subscript, member_by, offset_of, arrow, steps_if}
use Rattle.c_means.specs.Expressions.{stepped, postfix, postfix_by, prefix, unary, cast_as, cast_operand, on_branch}
use Rattle.c_means.specs.Expressions.{truth_of, and_then, or_else, logical, both_evaluated, binary, chosen, choice_as}
use Rattle.c_means.specs.Expressions.{simple, compound_if, compound, assigned, is_updated, assignment, comma, passed}
use Rattle.c_means.specs.Expressions.{all_rooms, arguments, calling, needed, answered, direct_call, call_of, call}
use Rattle.c_means.specs.Expressions.{constant, unmeant, made_for, string_literal, identifier, named_as, object_of}
use Rattle.c_means.specs.Expressions.{site, designated, parameters_of}
use Rattle.c_means.specs.Expressions as forms
use Rattle.core_tree.specs.States.{Output}
use Rattle.core_tree.specs.States as core
use Rattle.core_programs.specs.Quiet.{IsLast}
use Rattle.core_programs.proofs.QuietSteps.{Leaves, bind, either, loads, puts, operates, operates_on, turns}

-- what runs prints nothing
abbrev pub Silent : {A : Type 0} → Run A → Type 0
Silent f = (env : Env) (base : ℕ) (d : State) → Leaves d.printed (f env base d)

pub record Quiet (l : Level) (x : Part) : Type 0 where
  pub room : x.room l ≡ 0
  pub reach : Silent (x.reach l)
  pub run : Silent (x.run l)
  pub effect : Silent (x.effect l)

-- what was printed, with nothing behind it
nothing_more : (d r : State) → r.printed ≡ [] → d.printed ++ r.printed ≡ d.printed
nothing_more d r h = ap (λ t. d.printed ++ t) h ∙ append-nil d.printed

returns : (d r : State) (k : Kind) → r.printed ≡ [] → Leaves d.printed (returned_in d r k)
returns d r (kind.Ended f) h = record { holds = nothing_more d r h }
returns d r k h = record { holds = nothing_more d r h }

needs_value : (at : ℕ) (cl : Class) (v : Option ℤ) (d : State) → Leaves d.printed (needed at cl v d)
needs_value at cl (Some z) d = record { holds = refl }
needs_value at class.Void None d = record { holds = refl }
needs_value at cl None d = record { holds = refl }

module _ (l : Level) (k : core.Level Output) (last : IsLast l k) where
  abbrev Q : Part → Type 0
  Q x = Quiet l x

  -- ---- one step behind another

  behind : {A B : Type 0} (g : Run A) (f : Env → ℕ → A × State → Outcome B) → Silent g
      → ((env : Env) (base : ℕ) (v : A × State) → Leaves v.1.printed (f env base v))
      → Silent (λ env base d. g env base d >>= f env base)
  behind g f hg hf env base d = bind d.printed (g env base d) (f env base) (hg env base d) (hf env base)

  in_order : {A B : Type 0} (r : ℕ) (g : Run A) (f : A → Run B) → Silent g → ((a : A) → Silent (f a))
      → Silent (λ env base d. g env base d >>= (λ v. f v.0 env (base + r) v.1))
  in_order r g f hg hf env base d =
      bind d.printed (g env base d) (λ v. f v.0 env (base + r) v.1) (hg env base d)
      (λ v. hf v.0 env (base + r) v.1)

  in_front : {A B : Type 0} (g : Run A) (f : A → Run B) → Silent g → ((a : A) → Silent (f a))
      → Silent (λ env base d. g env base d >>= (λ v. f v.0 env base v.1))
  in_front g f hg hf env base d =
      bind d.printed (g env base d) (λ v. f v.0 env base v.1) (hg env base d) (λ v. hf v.0 env base v.1)

  -- ---- kinds of parts

  pub value_quiet : (t : Typed) (n : Needs) (r : Level → Run ℤ) → n.room l ≡ 0 → Silent (r l) → Q (valued t n r)
  value_quiet t n r none h = record {
    room = none;
    reach = behind (r l) (λ env base v. Ok (0, v.1)) h (λ env base v. record { holds = refl });
    run = h;
    effect = h;
  }

  pub place_quiet : (t : Typed) (rooted : Bool) (n : Needs) (r : Level → Run ℕ) → n.room l ≡ 0 → Silent (r l)
      → Q (placed t rooted n r)
  place_quiet t rooted n r none h =
      let loading = behind (r l) (λ env base a. load t rooted a.0 a.1) h (λ env base a. loads t rooted a.0 a.1) in
      record { room = none; reach = h; run = loading; effect = loading }

  pub constant_quiet : (t : Typed) (z : ℤ) → Q (constant t z)
  constant_quiet t z = value_quiet t alone _ refl (λ env base d. record { holds = refl })

  pub unmeant_quiet : (t : Typed) → Q (unmeant t)
  unmeant_quiet t = value_quiet t alone _ refl (λ env base d. record { holds = refl })

  pub made_quiet : (at : ℕ) (t : Typed) → Q (made_for at t)
  made_quiet at t = place_quiet t false alone _ refl (λ env base d. record { holds = refl })

  pub text_quiet : (at : ℕ) (pieces : List (List ℕ)) (s : Scope) → Q (string_literal at pieces s)
  text_quiet at pieces s =
      let made = made_quiet at (says.string_literal at pieces s) in
      record { room = made.room; reach = made.reach; run = made.run; effect = made.effect }

  object_quiet : (t : Typed) (dur : Duration) (at : ℕ) → Q (object_of t dur at)
  object_quiet t dur at = place_quiet t true alone _ refl (λ env base d. record { holds = refl })

  named_quiet : (t : Typed) (at : ℕ) (m : Means) → Q (named_as t at m)
  named_quiet t at (means.Object c dur linkage) = object_quiet t dur at
  named_quiet t at (means.Function c linkage) = object_quiet t duration.Static at
  named_quiet t at (means.Constant z) = constant_quiet t z
  named_quiet t at (means.Typedef c) = unmeant_quiet t
  named_quiet t at means.Faulty = unmeant_quiet t

  pub identifier_quiet : (at : ℕ) (s : Scope) (e : Option Entry) → Q (identifier at s e)
  identifier_quiet at s None = unmeant_quiet (says.identifier at s None)
  identifier_quiet at s (Some e) = named_quiet (says.identifier at s (Some e)) e.at e.means

  -- ---- operands

  both : (x y : Part) → Q x → Q y → Silent (both_run x y l)
  both x y hx hy =
      in_order (x.room l) (x.run l) (λ v env base d. y.run l env base d >>= (λ w. Ok ((v, w.0), w.1))) hx.run
      (λ v. behind (y.run l) (λ env base w. Ok ((v, w.0), w.1)) hy.run (λ env base w. record { holds = refl }))

  both_room : (x y : Part) → Q x → Q y → x.room l + y.room l ≡ 0
  both_room x y hx hy = ap₂ (λ a b. a + b) hx.room hy.room

  pub subscript_quiet : (at : ℕ) (x y : Part) → Q x → Q y → Q (subscript at x y)
  subscript_quiet at x y hx hy =
      place_quiet (says.subscript at x.typed y.typed) false _ _ (both_room x y hx hy)
      (behind (both_run x y l)
      (λ env base v. operated_on at o.Add x.typed y.typed v.0.0 v.0.1 v.1 >>= (λ a. Ok (address a.0, a.1)))
      (both x y hx hy)
      (λ env base v. bind v.1.printed (operated_on at o.Add x.typed y.typed v.0.0 v.0.1 v.1)
      (λ a. Ok (address a.0, a.1)) (operates_on at o.Add x.typed y.typed v.0.0 v.0.1 v.1)
      (λ a. record { holds = refl })))

  pub member_quiet : (b : Bool) (offset : ℕ) (t : Typed) (x : Part) → Q x → Q (member_by b offset t x)
  member_quiet true offset t x h =
      place_quiet t x.rooted _ _ h.room
      (behind (x.reach l) (λ env base a. Ok (forms.behind offset a.0, a.1)) h.reach
      (λ env base a. record { holds = refl }))
  member_quiet false offset t x h =
      value_quiet t _ _ h.room
      (behind (x.run l) (λ env base v. Ok (part_of_value offset t v.0, v.1)) h.run
      (λ env base v. record { holds = refl }))

  pub arrow_quiet : (at : ℕ) (name : Name) (x : Part) → Q x → Q (arrow at name x)
  arrow_quiet at name x h =
      place_quiet (says.arrow at name x.typed) false _ _ h.room
      (behind (x.run l) (λ env base v. Ok (target v.0, v.1)) h.run (λ env base v. record { holds = refl }))
    where
      target : ℤ → ℕ
      target v = forms.behind (offset_of x.typed.after.tables (target_in (value_type x.typed)) name) (address v)

  -- ---- `++` and `--`

  steps_by : (b : Bool) (at : ℕ) (op : BinaryOperator) (x : Part) → Q x → Silent (steps_if b at op x l)
  steps_by true at op x h =
      behind (x.reach l) (λ env base a. stores a.0 a.1) h.reach
      (λ env base a. bind a.1.printed (load x.typed x.rooted a.0 a.1) (λ v. reckons a.0 v.0 v.1)
      (loads x.typed x.rooted a.0 a.1)
      (λ v. bind v.1.printed (sum v.0 v.1) (λ z. puts_it a.0 v.0 z.0 z.1)
      (operates at op (operand x.typed.after.tables x.typed v.0) one v.1)
      (λ z. bind z.1.printed (put at x.typed.after.tables x.typed x.rooted a.0 z.0 z.1) (λ y. Ok ((v.0, y.0), y.1))
      (puts at x.typed.after.tables x.typed x.rooted a.0 z.0 z.1) (λ y. record { holds = refl }))))
    where
      sum : ℤ → State → Outcome ℤ
      sum v d = operated at op (operand x.typed.after.tables x.typed v) one d

      puts_it : ℕ → ℤ → ℤ → State → Outcome (ℤ × ℤ)
      puts_it a v z d = put at x.typed.after.tables x.typed x.rooted a z d >>= (λ y. Ok ((v, y.0), y.1))

      reckons : ℕ → ℤ → State → Outcome (ℤ × ℤ)
      reckons a v d = sum v d >>= (λ z. puts_it a v z.0 z.1)

      stores : ℕ → State → Outcome (ℤ × ℤ)
      stores a d = load x.typed x.rooted a d >>= (λ v. reckons a v.0 v.1)
  steps_by false at op x h =
      behind (x.reach l) (λ env base a. Ok ((pos 0, pos 0), a.1)) h.reach (λ env base a. record { holds = refl })

  steps : (at : ℕ) (op : BinaryOperator) (x : Part) → Q x → Silent (stepped at op x l)
  steps at op x h = steps_by (is_updated op x.typed one.kind) at op x h

  postfix_by_quiet : (at : ℕ) (op : BinaryOperator) (x : Part) → Q x → Q (postfix_by at op x)
  postfix_by_quiet at op x h =
      value_quiet (says.postfix at x.typed) _ _ h.room
      (behind (stepped at op x l) (λ env base v. Ok (v.0.0, v.1)) (steps at op x h)
      (λ env base v. record { holds = refl }))

  pub postfix_quiet : (at : ℕ) (op : PostfixOperator) (x : Part) → Q x → Q (postfix at op x)
  postfix_quiet at postfix_.Increment x h = postfix_by_quiet at o.Add x h
  postfix_quiet at postfix_.Decrement x h = postfix_by_quiet at o.Subtract x h

  prefix_quiet : (at : ℕ) (operator : UnaryOperator) (op : BinaryOperator) (x : Part) → Q x
      → Q (prefix at operator op x)
  prefix_quiet at operator op x h =
      value_quiet (says.unary at operator x.typed) _ _ h.room
      (behind (stepped at op x l) (λ env base v. Ok (v.0.1, v.1)) (steps at op x h)
      (λ env base v. record { holds = refl }))

  -- ---- unary operators and casts

  on_value_quiet : (at : ℕ) (operator : UnaryOperator) (f : Operand → State → Outcome ℤ) (x : Part)
      → ((y : Operand) (d : State) → Leaves d.printed (f y d)) → Q x → Q (on_value at operator f x)
  on_value_quiet at operator f x q h =
      value_quiet (says.unary at operator x.typed) _ _ h.room
      (behind (x.run l) (λ env base v. f (operand x.typed.after.tables x.typed v.0) v.1) h.run
      (λ env base v. q (operand x.typed.after.tables x.typed v.0) v.1))

  pub unary_quiet : (at : ℕ) (op : UnaryOperator) (x : Part) → Q x → Q (unary at op x)
  unary_quiet at u.Address x h =
      value_quiet (says.unary at u.Address x.typed) _ _ h.room
      (behind (x.reach l) (λ env base a. Ok (pos a.0, a.1)) h.reach (λ env base a. record { holds = refl }))
  unary_quiet at u.Indirection x h =
      place_quiet (says.unary at u.Indirection x.typed) false _ _ h.room
      (behind (x.run l) (λ env base v. Ok (address v.0, v.1)) h.run (λ env base v. record { holds = refl }))
  unary_quiet at u.Plus x h = on_value_quiet at u.Plus (turned_value at u.Plus) x (turns at u.Plus) h
  unary_quiet at u.Minus x h =
      let value = on_value_quiet at u.Minus (turned_value at u.Minus) x (turns at u.Minus) h in
      record { room = value.room; reach = value.reach; run = value.run; effect = value.effect }
  unary_quiet at u.Complement x h =
      on_value_quiet at u.Complement (turned_value at u.Complement) x (turns at u.Complement) h
  unary_quiet at u.Not x h = on_value_quiet at u.Not negated x (λ y d. record { holds = refl }) h
  unary_quiet at u.Increment x h = prefix_quiet at u.Increment o.Add x h
  unary_quiet at u.Decrement x h = prefix_quiet at u.Decrement o.Subtract x h

  cast_silent : (cl : Class) (x : Part) → Q x → Silent (cast_operand cl x l)
  cast_silent class.Void x h = h.effect
  cast_silent (class.Integer kind) x h = h.run
  cast_silent class.Pointer x h = h.run
  cast_silent (class.Aggregate n) x h = h.run
  cast_silent class.Floating x h = h.run
  cast_silent class.Opaque x h = h.run
  cast_silent class.Array x h = h.run
  cast_silent class.Function x h = h.run

  pub cast_quiet : (cl : Class) (t : Typed) (x : Part) → Q x → Q (cast_as cl t x)
  cast_quiet cl t x h =
      value_quiet t _ _ h.room
      (behind (cast_operand cl x l) (λ env base v. Ok (converted_to cl v.0, v.1)) (cast_silent cl x h)
      (λ env base v. record { holds = refl }))

  -- ---- two and three operands

  both_evaluated_quiet : (at : ℕ) (op : BinaryOperator) (x y : Part) → Q x → Q y → Q (both_evaluated at op x y)
  both_evaluated_quiet at op x y hx hy =
      value_quiet (says.binary at op x.typed y.typed) _ _ (both_room x y hx hy)
      (behind (both_run x y l) (λ env base v. operated_on at op x.typed y.typed v.0.0 v.0.1 v.1) (both x y hx hy)
      (λ env base v. operates_on at op x.typed y.typed v.0.0 v.0.1 v.1))

  -- on both sides of a branch
  branches : (at : ℕ) (f : Env → ℕ → Bool → State → Outcome ℤ)
      → ((b : Bool) → Silent (λ env base d. f env base b d)) → (z : ℤ)
      → Silent (λ env base d. on_branch at z (f env base) d)
  branches at f h z env base d =
      let no = note (happening.Branch at side.No) d in
      let yes = note (happening.Branch at side.Yes) d in
      either d.printed (is_zero z) (f env base false no) (f env base true yes) (h false env base no)
      (h true env base yes)

  truth : (y : Part) → Q y → Silent (truth_of y l)
  truth y h =
      behind (y.run l) (λ env base v. Ok (number_of (not (is_zero v.0)), v.1)) h.run
      (λ env base v. record { holds = refl })

  and_then_silent : (y : Part) → Q y → (b : Bool) → Silent (λ env base d. and_then y l env base b d)
  and_then_silent y h true = truth y h
  and_then_silent y h false = λ env base d. record { holds = refl }

  or_else_silent : (y : Part) → Q y → (b : Bool) → Silent (λ env base d. or_else y l env base b d)
  or_else_silent y h true = λ env base d. record { holds = refl }
  or_else_silent y h false = truth y h

  logical_quiet : (at : ℕ) (op : BinaryOperator) (f : Part → Level → Env → ℕ → Bool → State → Outcome ℤ)
      (x y : Part) → Q x → Q y → ((b : Bool) → Silent (λ env base d. f y l env base b d)) → Q (logical at op f x y)
  logical_quiet at op f x y hx hy hf =
      value_quiet (says.binary at op x.typed y.typed) _ _ (both_room x y hx hy)
      (in_order (x.room l) (x.run l) (λ z env base d. on_branch at z (f y l env base) d) hx.run
      (branches at (f y l) hf))

  pub binary_quiet : (at : ℕ) (op : BinaryOperator) (x y : Part) → Q x → Q y → Q (binary at op x y)
  binary_quiet at o.LogicalAnd x y hx hy = logical_quiet at o.LogicalAnd and_then x y hx hy (and_then_silent y hy)
  binary_quiet at o.LogicalOr x y hx hy = logical_quiet at o.LogicalOr or_else x y hx hy (or_else_silent y hy)
  binary_quiet at op x y hx hy = both_evaluated_quiet at op x y hx hy

  chosen_silent : (cl : Class) (x y : Part) → Q x → Q y → (b : Bool)
      → Silent (λ env base d. chosen cl x y l env base b d)
  chosen_silent cl x y hx hy true =
      behind (x.run l) (λ env base v. Ok (converted_to cl v.0, v.1)) hx.run (λ env base v. record { holds = refl })
  chosen_silent cl x y hx hy false = λ env base d.
      bind d.printed (y.run l env (base + x.room l) d) (λ v. Ok (converted_to cl v.0, v.1))
      (hy.run env (base + x.room l) d) (λ v. record { holds = refl })

  pub choice_quiet : (at : ℕ) (t : Typed) (c x y : Part) → Q c → Q x → Q y → Q (choice_as at t c x y)
  choice_quiet at t c x y hc hx hy =
      value_quiet t _ _ (ap₂ (λ a b. a + b) hc.room (both_room x y hx hy))
      (in_order (c.room l) (c.run l) (λ z env base d. on_branch at z (chosen (class_in (type_of t)) x y l env base) d)
      hc.run
      (branches at (chosen (class_in (type_of t)) x y l) (chosen_silent (class_in (type_of t)) x y hx hy)))

  -- ---- assignment and the comma

  simple_silent : (at : ℕ) (x y : Part) → Q x → Q y → Silent (simple at x y l)
  simple_silent at x y hx hy =
      in_order (x.room l) (x.reach l)
      (λ a env base d. y.run l env base d >>= (λ v. put at y.typed.after.tables x.typed x.rooted a v.0 v.1)) hx.reach
      (λ a. behind (y.run l) (λ env base v. put at y.typed.after.tables x.typed x.rooted a v.0 v.1) hy.run
      (λ env base v. puts at y.typed.after.tables x.typed x.rooted a v.0 v.1))

  compound_by : (b : Bool) (at : ℕ) (op : BinaryOperator) (x y : Part) → Q x → Q y
      → Silent (compound_if b at op x y l)
  compound_by true at op x y hx hy =
      in_order (x.room l) (x.reach l)
      (λ a env base d. load x.typed x.rooted a d >>= (λ v. reckons a v.0 env base v.1)) hx.reach
      (λ a. in_front (λ env base d. load x.typed x.rooted a d) (reckons a)
      (λ env base d. loads x.typed x.rooted a d)
      (λ v. behind (y.run l) (λ env base w. stores a v w.0 w.1) hy.run
      (λ env base w. bind w.1.printed (operated_on at op x.typed y.typed v w.0 w.1)
      (λ z. put at y.typed.after.tables x.typed x.rooted a z.0 z.1) (operates_on at op x.typed y.typed v w.0 w.1)
      (λ z. puts at y.typed.after.tables x.typed x.rooted a z.0 z.1))))
    where
      stores : ℕ → ℤ → ℤ → State → Outcome ℤ
      stores a v w d =
          operated_on at op x.typed y.typed v w d >>= (λ z. put at y.typed.after.tables x.typed x.rooted a z.0 z.1)

      reckons : ℕ → ℤ → Run ℤ
      reckons a v env base d = y.run l env base d >>= (λ w. stores a v w.0 w.1)
  compound_by false at op x y hx hy =
      in_order (x.room l) (x.reach l) (λ a env base d. y.run l env base d >>= (λ w. refused w.1)) hx.reach
      (λ a. behind (y.run l) (λ env base w. refused w.1) hy.run (λ env base w. record { holds = refl }))

  assigned_silent : (at : ℕ) (op : Option BinaryOperator) (x y : Part) → Q x → Q y → Silent (assigned at op x y l)
  assigned_silent at None x y hx hy = simple_silent at x y hx hy
  assigned_silent at (Some op) x y hx hy =
      compound_by (is_updated op x.typed (kind_in (value_type y.typed))) at op x y hx hy

  pub assignment_quiet : (at : ℕ) (op : Option BinaryOperator) (x y : Part) → Q x → Q y → Q (assignment at op x y)
  assignment_quiet at op x y hx hy =
      value_quiet (says.assignment at op x.typed y.typed) _ _ (both_room x y hx hy)
      (assigned_silent at op x y hx hy)

  pub comma_quiet : (at : ℕ) (x y : Part) → Q x → Q y → Q (comma at x y)
  comma_quiet at x y hx hy =
      value_quiet (says.comma at x.typed y.typed) _ _ (both_room x y hx hy)
      (in_order (x.room l) (x.effect l) (λ v env base d. y.run l env base d) hx.effect (λ v. hy.run))

  -- ---- calls: each leaves the bounds, and has printed nothing then

  abbrev pub EachQuiet : List Part → Type 0
  EachQuiet [] = Unit {0}
  EachQuiet (x ∷ xs) = Q x × EachQuiet xs

  abbrev EachPassed : List Passed → Type 0
  EachPassed [] = Unit {0}
  EachPassed (q ∷ qs) = Q q.part × EachPassed qs

  passed_quiet : (xs : List Part) (ts : List CType) → EachQuiet xs → EachPassed (passed xs ts)
  passed_quiet [] ts h = tt
  passed_quiet (x ∷ xs) [] h = (h.0, passed_quiet xs [] h.1)
  passed_quiet (x ∷ xs) (t ∷ ts) h = (h.0, passed_quiet xs ts h.1)

  no_rooms : (qs : List Passed) → EachPassed qs → all_rooms qs l ≡ 0
  no_rooms [] h = refl
  no_rooms (q ∷ qs) h = ap₂ (λ a b. a + b) h.0.room (no_rooms qs h.1)

  arguments_silent : (qs : List Passed) → EachPassed qs → Silent (arguments qs l)
  arguments_silent [] h = λ env base d. record { holds = refl }
  arguments_silent (q ∷ qs) h =
      in_order (q.part.room l) (q.part.run l)
      (λ v env base d. arguments qs l env base d >>= (λ vs. Ok (converted_to (class_in q.ctype) v ∷ vs.0, vs.1)))
      h.0.run
      (λ v. behind (arguments qs l) (λ env base vs. Ok (converted_to (class_in q.ctype) v ∷ vs.0, vs.1))
      (arguments_silent qs h.1) (λ env base vs. record { holds = refl }))

  calling_silent : (g : Level → Site) (qs : List Passed) → EachPassed qs → Silent (calling g qs l)
  calling_silent g qs h =
      in_order (all_rooms qs l) (arguments qs l)
      (λ vs env base d. let d : State = note (happening.Call (g l).at) d in
      returned d (l.call (g l) env vs base d.store d.count)) (arguments_silent qs h)
      (λ vs env base d. let r = l.call (g l) env vs base d.store d.count in
      returns (note (happening.Call (g l).at) d) r r.kind
      (ap (λ (r : State). r.printed) (last.leaves (g l) env vs base d.store d.count)))

  answered_silent : (at : ℕ) (t : Typed) (g : Level → Site) (qs : List Passed) → EachPassed qs
      → Silent (answered at t g qs l)
  answered_silent at t g qs h =
      behind (calling g qs l) (λ env base v. needed at (class_in (type_of t)) v.0 v.1) (calling_silent g qs h)
      (λ env base v. needs_value at (class_in (type_of t)) v.0 v.1)

  direct_call_quiet : (at : ℕ) (t : Typed) (g : Level → Site) (qs : List Passed) → EachPassed qs
      → Q (direct_call at t g qs)
  direct_call_quiet at t g qs h = record {
    room = ap₂ (λ a b. a + b) (no_rooms qs h) (last.room (g l));
    reach = behind (answered at t g qs l) (λ env base v. Ok (0, v.1)) (answered_silent at t g qs h)
        (λ env base v. record { holds = refl });
    run = answered_silent at t g qs h;
    effect = behind (calling g qs l) (λ env base v. Ok (unwrap_or v.0 (pos 0), v.1)) (calling_silent g qs h)
        (λ env base v. record { holds = refl });
  }

  call_of_quiet : (e : Option Entry) (f t : Typed) (qs : List Passed) → EachPassed qs → Q (call_of e f t qs)
  call_of_quiet None f t qs h = unmeant_quiet t
  call_of_quiet (Some e) f t qs h = direct_call_quiet f.at t (site f.at e t qs) qs h

  pub call_quiet : (at : ℕ) (f : Part) (xs : List Part) (s : Scope) → EachQuiet xs → Q (call at f xs s)
  call_quiet at f xs s h =
      call_of_quiet (designated f.typed.shown) f.typed _ (passed xs (parameters_of s.tables (type_of f.typed)))
      (passed_quiet xs (parameters_of s.tables (type_of f.typed)) h)
