-- The core of each form of expression is worth what the form is worth.
use Rattle.std.proofs.Common.{◌≡◌, ℕ, suc, ◌+◌, ℤ, pos, Bool, true, false, cond, Option, Some, None, Ok}
use Rattle.std.proofs.Common.{Err, refl, sym, ap, ap₂, ◌∙◌, subst}
use Rattle.std.specs.Prelude.{unsigned_abs, not, ◌||◌}
use Rattle.c_language.specs.declared.expr.BinaryOperator.{BinaryOperator}
use Rattle.c_language.specs.declared.expr.BinaryOperator.TheVariants as o
use Rattle.c_language.specs.declared.expr.UnaryOperator.{UnaryOperator}
use Rattle.c_language.specs.declared.expr.UnaryOperator.TheVariants as u
use Rattle.core_tree.specs.declared.types.Turning.{Turning}
use Rattle.c_language.specs.Typing as says
use Rattle.c_language.specs.declared.class.Class.{Class}
use Rattle.c_language.specs.declared.class.Class.TheVariants as class
use Rattle.c_language.specs.declared.ctype.IntegerKind.{IntegerKind}
use Rattle.c_language.specs.Integers.{is_zero, number_of, promoted}
use Rattle.plain_data.specs.declared.run.Undefined.TheVariants as undefined
use Rattle.c_store.specs.Access.{can_access}
use Rattle.core_tree.specs.declared.types.ValueType.TheVariants as v
use Rattle.c_store.specs.Store.{start}
use Rattle.c_language.specs.declared.scope.Duration.TheVariants as duration
use Rattle.c_language.specs.Typing.{Typed, type_of}
use Rattle.c_means.specs.Parts.{State, Env, Part}
use Rattle.c_means.specs.Parts as c
use Rattle.c_means.specs.Values.{class_in, address, bytes_of}
use Rattle.c_language.specs.declared.ctype.CType.{CType}
use Rattle.c_language.specs.declared.tables.Tables.{Tables}
use Rattle.c_means.specs.Objects as objects
use Rattle.c_means.specs.Values as values
use Rattle.c_means.specs.Operators.{value_type, kind_in}
use Rattle.c_means.specs.Operators as c_operators
use Rattle.c_means.specs.Expressions as forms
use Rattle.core_tree.specs.declared.expr.Expr.{Expr}
use Rattle.core_tree.specs.declared.expr.Expr.TheVariants as expr
use Rattle.core_tree.specs.declared.types.Access.{Access}
use Rattle.core_tree.specs.declared.types.Answered.{Answered}
use Rattle.core_tree.specs.declared.types.Answered.TheVariants as answered
use Rattle.core_tree.specs.declared.types.Arithmetic.{Arithmetic}
use Rattle.core_tree.specs.declared.types.Operator.{Operator}
use Rattle.core_tree.specs.declared.types.Operator.TheVariants as op
use Rattle.core_tree.specs.declared.types.Turning.TheVariants as turn
use Rattle.core_tree.specs.declared.types.ValueType.{ValueType}
use Rattle.core_tree.specs.Numbers as numbers
use Rattle.core_tree.specs.Memory as memory
use Rattle.core_tree.specs.States.{Output, Done, Outcome, Level, ◌>>=◌, found, or_stop, on_branch}
use Rattle.core_tree.specs.Values.{Value, value, on_value, over_one, over_both}
use Rattle.core_tree.specs.Values as core
use Rattle.core_tree.proofs.Equations as eq
use Rattle.elaborate.specs.Means.{Numbering}
use Rattle.elaborate.specs.Means.{as_done, as_found, as_value, Like, Does, IsValueOf, IsAddressOf, IsEffectOf}
use Rattle.elaborate.specs.Types.{word_type, arithmetic, working}
use Rattle.elaborate.specs.Means.{OfType, StoredAs}
use Rattle.elaborate.proofs.Objects.{load_same, put_same, stored_of}
use Rattle.elaborate.proofs.Numbers.{worked_same, plus_same, minus_same, complement_same, promoted_word, working_word}
use Rattle.elaborate.proofs.States.{then_same, or_stop_same, branch_same}

-- how the core reads or writes an lvalue
abbrev access_of : Part → ValueType → Access
access_of p t = record { at = p.typed.at; stored = t; is_tested = not p.rooted }

-- ---- addresses as values

pub addressed : {A : Type 0} (o : c.Outcome ℕ) (g : ℤ → State → c.Outcome A) → c.◌>>=◌ (as_value o) (λ v. g v.0 v.1)
    ≡ c.◌>>=◌ o (λ a. g (pos a.0) a.1)
addressed (Ok x) g = refl
addressed (Err d) g = refl

pub as_value_then : {A : Type 0} (o : c.Outcome A) (f : A × State → c.Outcome ℕ) → as_value (c.◌>>=◌ o f) ≡ c.◌>>=◌ o
    (λ v. as_value (f v))
as_value_then (Ok x) f = refl
as_value_then (Err d) f = refl

module _ (numbering : Numbering) where
  -- what is said of a tree by what it is worth
  pub by_worth : (e : Expr) (x : Value Output) (nodes places : c.Level → ℕ) (run : c.Level → c.Run ℤ) → value e ≡ x →
      Does numbering x nodes places run → Does numbering (value e) nodes places run
  by_worth e x nodes places run f h = rw f h

  -- the same told otherwise
  pub rerun : (x : Value Output) (n r : c.Level → ℕ) (run run' : c.Level → c.Run ℤ) → Does numbering x n r run
      → ((l : c.Level) (env : Env) (base : ℕ) (d : State) → run l env base d ≡ run' l env base d) → Does numbering x n r
      run'
  rerun x n r run run' h same = record {
    size = h.size;
    room = h.room;
    runs = λ l k like env base d. h.runs l k like env base d ∙ ap as_found (same l env base d);
  }

  -- ---- forms without parts

  pub constant_value : (z : ℤ) (x : Typed) → IsValueOf numbering (expr.Constant z) (forms.constant x z)
  constant_value z x = by_worth _ _ _ _ _ (eq.worth-Constant z) (record {
    size = λ l k h. refl;
    room = λ l k h. refl;
    runs = λ l k h env base d. refl;
  })

  pub local_address : (at : ℕ) (x : Typed) → IsAddressOf numbering (expr.Local at)
      (forms.object_of x duration.Automatic at)
  local_address at x = by_worth _ _ _ _ _ (eq.worth-Local at) (record {
    size = λ l k h. refl;
    room = λ l k h. refl;
    runs = λ l k h env base d. refl;
  })

  -- an object that lives throughout the run
  pub fixed_address : (at : ℕ) (x : Typed) → IsAddressOf numbering (expr.Fixed (numbering.place at))
      (forms.object_of x duration.Static at)
  fixed_address at x = by_worth _ _ _ _ _ (eq.worth-Fixed (numbering.place at)) (record {
    size = λ l k h. refl;
    room = λ l k h. refl;
    runs = λ l k h env base d. ap (λ (f : ℕ → ℕ). as_found (Ok (pos (start (f at)), d))) (sym h.static_places);
  })

  -- a literal, or `__func__`
  pub literal_address : (at : ℕ) (x : Typed) → IsAddressOf numbering (expr.Fixed (numbering.place at))
      (forms.made_for at x)
  literal_address at x = by_worth _ _ _ _ _ (eq.worth-Fixed (numbering.place at)) (record {
    size = λ l k h. refl;
    room = λ l k h. refl;
    runs = λ l k h env base d. ap (λ (f : ℕ → ℕ). as_found (Ok (pos (start (f at)), d))) (sym h.static_places);
  })

  -- ---- forms over one value

  -- a node over one part
  pub node_does : (x : Value Output) (nodes places : c.Level → ℕ) (run : c.Level → c.Run ℤ)
      (f : ℤ → Done Output → Outcome Output ℤ) (g : ℤ → State → c.Outcome ℤ)
      → Does numbering x nodes places run → ((z : ℤ) (d : State) → f z (as_done d) ≡ as_found (g z d))
      → Does numbering (on_value (over_one x.needs) f x) (λ l. suc (nodes l)) places
      (λ l env base d. c.◌>>=◌ (run l env base d) (λ v. g v.0 v.1))
  node_does x nodes places run f g h i = record {
    size = λ l k like. ap suc (h.size l k like);
    room = h.room;
    runs = λ l k like env base d. ap (λ o. o >>= (λ v. f v.0 v.1)) (h.runs l k like env base d)
        ∙ then_same (run l env base d) (λ v. g v.0 v.1) (λ v. f v.0 v.1) i;
  }

  -- a conversion, which is no node
  pub between_does : (x : Value Output) (nodes places : c.Level → ℕ) (run : c.Level → c.Run ℤ)
      (f : ℤ → Done Output → Outcome Output ℤ) (g : ℤ → State → c.Outcome ℤ)
      → Does numbering x nodes places run → ((z : ℤ) (d : State) → f z (as_done d) ≡ as_found (g z d))
      → Does numbering (on_value x.needs f x) nodes places (λ l env base d. c.◌>>=◌ (run l env base d) (λ v. g v.0 v.1))
  between_does x nodes places run f g h i = record {
    size = h.size;
    room = h.room;
    runs = λ l k like env base d. ap (λ o. o >>= (λ v. f v.0 v.1)) (h.runs l k like env base d)
        ∙ then_same (run l env base d) (λ v. g v.0 v.1) (λ v. f v.0 v.1) i;
  }

  -- `!`
  pub not_value : (e : Expr) (at : ℕ) (p : Part) → IsValueOf numbering e p → IsValueOf numbering (expr.Not e)
      (forms.unary at u.Not p)
  not_value e at p h = by_worth _ _ _ _ _ (eq.worth-Not e)
      (node_does (value e) p.size p.room p.run _ (λ z d. c_operators.negated
      (c_operators.operand p.typed.after.tables p.typed z) d) h (λ z d. refl))

  -- `+`, `-` and `~`, in the promoted type
  module _ (e : Expr) (at : ℕ) (is_constant : Bool) (kind : IntegerKind) (p : Part) (h : IsValueOf numbering e p)
      (typed : kind_in (value_type p.typed) ≡ Some kind) where
    turned_by : (op : UnaryOperator) (t : Turning) (z : ℤ) (d : State) → numbers.turned t (word_type (promoted kind))
        z ≡ says.turned op (promoted kind) z
        → or_stop at (numbers.turned t (word_type (promoted kind)) z) (as_done d)
        ≡ as_found (c_operators.turned_value at op (c_operators.operand p.typed.after.tables p.typed z) d)
    turned_by op t z d same =
        ap (λ a. or_stop at a (as_done d)) same ∙ or_stop_same at (says.turned op (promoted kind) z) d
        ∙ ap (λ k. as_found (c_operators.turned_of at op k z d)) (sym typed)

    pub minus_value : IsValueOf numbering (expr.Turn at turn.Minus (word_type (promoted kind)) is_constant e)
        (forms.unary at u.Minus p)
    minus_value = by_worth _ _ _ _ _ (eq.worth-Turn at turn.Minus (word_type (promoted kind)) is_constant e)
        (node_does (value e) p.size p.room p.run _ (λ z d. c_operators.turned_value at u.Minus
        (c_operators.operand p.typed.after.tables p.typed z) d) h
        (λ z d. turned_by u.Minus turn.Minus z d (minus_same (promoted kind) (promoted_word kind) z)))

    pub plus_value : IsValueOf numbering (expr.Turn at turn.Plus (word_type (promoted kind)) is_constant e)
        (forms.unary at u.Plus p)
    plus_value = by_worth _ _ _ _ _ (eq.worth-Turn at turn.Plus (word_type (promoted kind)) is_constant e)
        (node_does (value e) p.size p.room p.run _ (λ z d. c_operators.turned_value at u.Plus
        (c_operators.operand p.typed.after.tables p.typed z) d) h
        (λ z d. turned_by u.Plus turn.Plus z d (plus_same (promoted kind) (promoted_word kind) z)))

    pub complement_value : IsValueOf numbering (expr.Turn at turn.Complement (word_type (promoted kind)) is_constant e)
        (forms.unary at u.Complement p)
    complement_value = by_worth _ _ _ _ _ (eq.worth-Turn at turn.Complement (word_type (promoted kind)) is_constant e)
        (node_does (value e) p.size p.room p.run _ (λ z d. c_operators.turned_value at u.Complement
        (c_operators.operand p.typed.after.tables p.typed z) d) h
        (λ z d. turned_by u.Complement turn.Complement z d (complement_same (promoted kind) (promoted_word kind) z)))

  -- ---- addresses

  -- `&`: the address as a value
  pub pointer_value : (e : Expr) (at : ℕ) (p : Part) → IsAddressOf numbering e p → IsValueOf numbering (expr.Pointer e)
      (forms.unary at u.Address p)
  pointer_value e at p h = by_worth _ _ _ _ _ (eq.worth-Pointer e) (rerun _ _ _ _ _
      (node_does (value e) p.size p.room (λ l env base d. as_value (p.reach l env base d)) _ (λ z d. Ok (z, d)) h
      (λ z d. refl))
      (λ l env base d. addressed (p.reach l env base d) (λ z d. Ok (z, d))))

  -- `*`: the pointer's value as an address
  pub target_address : (e : Expr) (at : ℕ) (p : Part) → IsValueOf numbering e p → IsAddressOf numbering (expr.Target e)
      (forms.unary at u.Indirection p)
  target_address e at p h = by_worth _ _ _ _ _ (eq.worth-Target e) (rerun _ _ _ _ _
      (node_does (value e) p.size p.room p.run _ (λ z d. Ok (pos (address z), d)) h (λ z d. refl))
      (λ l env base d. sym (as_value_then (p.run l env base d) (λ v. Ok (address v.0, v.1)))))

  -- ---- forms over two values

  -- the second part, behind the first
  two_does : (x y : Value Output) (n m : c.Level → ℕ) (r s : c.Level → ℕ) (run run' : c.Level → c.Run ℤ)
      (f : ℤ → ℤ → Done Output → Outcome Output ℤ) (g : ℤ → ℤ → State → c.Outcome ℤ)
      → Does numbering x n r run → Does numbering y m s run' → ((v w : ℤ) (d : State) → f v w (as_done d) ≡ as_found
      (g v w d))
      → Does numbering (record {
        needs = over_both x.needs y.needs;
        run = λ k env base d. x.run k env base d >>= (λ v. y.run k env (base + x.needs.room k.measures) v.1 >>=
            (λ w. f v.0 w.0 w.1));
      }) (λ l. suc (n l + m l)) (λ l. r l + s l)
      (λ l env base d. c.◌>>=◌ (run l env base d) (λ v. c.◌>>=◌ (run' l env (base + r l) v.1) (λ w. g v.0 w.0 w.1)))
  two_does x y n m r s run run' f g h i same = record {
    size = λ l k like. ap₂ (λ a b. suc (a + b)) (h.size l k like) (i.size l k like);
    room = λ l k like. ap₂ (λ a b. a + b) (h.room l k like) (i.room l k like);
    runs = λ l k like env base d.
        ap (λ o. o >>= (λ v. y.run k env (base + x.needs.room k.measures) v.1 >>= (λ w. f v.0 w.0 w.1)))
        (h.runs l k like env base d)
        ∙ then_same (run l env base d) (λ v. c.◌>>=◌ (run' l env (base + r l) v.1) (λ w. g v.0 w.0 w.1))
        (λ v. y.run k env (base + x.needs.room k.measures) v.1 >>= (λ w. f v.0 w.0 w.1))
        (λ v d. ap (λ b. y.run k env (base + b) (as_done d) >>= (λ w. f v w.0 w.1)) (h.room l k like)
        ∙ ap (λ o. o >>= (λ w. f v w.0 w.1)) (i.runs l k like env (base + r l) d)
        ∙ then_same (run' l env (base + r l) d) (λ w. g v w.0 w.1) (λ w. f v w.0 w.1) (same v));
  }

  -- two operands, and what is done with both
  paired : {A B C : Type 0} (o : c.Outcome A) (f : State → c.Outcome B) (g : (A × B) × State → c.Outcome C)
      → c.◌>>=◌ (c.◌>>=◌ o (λ v. c.◌>>=◌ (f v.1) (λ w. Ok ((v.0, w.0), w.1)))) g ≡ c.◌>>=◌ o
      (λ v. c.◌>>=◌ (f v.1) (λ w. g ((v.0, w.0), w.1)))
  paired {A = A} {B = B} {C = C} (Ok x) f g = inner (f x.1) where
    inner : (p : c.Outcome B) → c.◌>>=◌ (c.◌>>=◌ p (λ w. Ok ((x.0, w.0), w.1))) g ≡ c.◌>>=◌ p (λ w. g ((x.0, w.0), w.1))
    inner (Ok y) = refl
    inner (Err d) = refl
  paired (Err d) f g = refl

  -- what two evaluated operands are worth
  pub pair_does : (x y : Value Output) (p q : Part) (f : ℤ → ℤ → Done Output → Outcome Output ℤ)
      (g : ℤ → ℤ → State → c.Outcome ℤ)
      → Does numbering x p.size p.room p.run → Does numbering y q.size q.room q.run →
      ((v w : ℤ) (d : State) → f v w (as_done d) ≡ as_found (g v w d))
      → Does numbering (record {
        needs = over_both x.needs y.needs;
        run = λ k env base d. x.run k env base d >>= (λ v. y.run k env (base + x.needs.room k.measures) v.1 >>=
            (λ w. f v.0 w.0 w.1));
      }) (λ l. suc (p.size l + q.size l)) (λ l. p.room l + q.room l)
      (λ l env base d. c.◌>>=◌ (forms.both_run p q l env base d) (λ v. g v.0.0 v.0.1 v.1))
  pair_does x y p q f g h i same = rerun _ _ _ _ _ (two_does x y p.size q.size p.room q.room p.run q.run f g h i same)
      (λ l env base d. sym (paired (p.run l env base d) (λ d. q.run l env (base + p.room l) d)
      (λ v. g v.0.0 v.0.1 v.1)))

  -- ---- operators on integers (C99 6.5.5 to 6.5.12)

  -- an operand that is an integer
  abbrev an_integer : IntegerKind → ℕ → ℤ → c_operators.Operand
  an_integer kind element z = record { kind = Some kind; element = element; value = z }

  pub on_integers : (b : BinaryOperator) (a : Arithmetic) → arithmetic b ≡ Some a → (at : ℕ) (j k : IntegerKind)
      (m n : ℕ) (v w : ℤ) (d : State)
      → c_operators.operated at b (an_integer j m v) (an_integer k n w) d ≡ c.or_stop at
      (says.worked b (working b j k) v w) d
  on_integers o.Multiply a e at j k m n v w d = refl
  on_integers o.Divide a e at j k m n v w d = refl
  on_integers o.Remainder a e at j k m n v w d = refl
  on_integers o.Add a e at j k m n v w d = refl
  on_integers o.Subtract a e at j k m n v w d = refl
  on_integers o.ShiftLeft a e at j k m n v w d = refl
  on_integers o.ShiftRight a e at j k m n v w d = refl
  on_integers o.Less a e at j k m n v w d = refl
  on_integers o.Greater a e at j k m n v w d = refl
  on_integers o.LessEqual a e at j k m n v w d = refl
  on_integers o.GreaterEqual a e at j k m n v w d = refl
  on_integers o.Equal a e at j k m n v w d = refl
  on_integers o.NotEqual a e at j k m n v w d = refl
  on_integers o.BitAnd a e at j k m n v w d = refl
  on_integers o.BitXor a e at j k m n v w d = refl
  on_integers o.BitOr a e at j k m n v w d = refl
  on_integers o.LogicalAnd a e at j k m n v w d = cc
  on_integers o.LogicalOr a e at j k m n v w d = cc

  pub evaluates_both : (b : BinaryOperator) (a : Arithmetic) → arithmetic b ≡ Some a → (at : ℕ) (p q : Part) →
      forms.binary at b p q ≡ forms.both_evaluated at b p q
  evaluates_both o.Multiply a e at p q = refl
  evaluates_both o.Divide a e at p q = refl
  evaluates_both o.Remainder a e at p q = refl
  evaluates_both o.Add a e at p q = refl
  evaluates_both o.Subtract a e at p q = refl
  evaluates_both o.ShiftLeft a e at p q = refl
  evaluates_both o.ShiftRight a e at p q = refl
  evaluates_both o.Less a e at p q = refl
  evaluates_both o.Greater a e at p q = refl
  evaluates_both o.LessEqual a e at p q = refl
  evaluates_both o.GreaterEqual a e at p q = refl
  evaluates_both o.Equal a e at p q = refl
  evaluates_both o.NotEqual a e at p q = refl
  evaluates_both o.BitAnd a e at p q = refl
  evaluates_both o.BitXor a e at p q = refl
  evaluates_both o.BitOr a e at p q = refl
  evaluates_both o.LogicalAnd a e at p q = cc
  evaluates_both o.LogicalOr a e at p q = cc

  -- the same operator of the core on two integers
  pub operated_same : (b : BinaryOperator) (a : Arithmetic) → arithmetic b ≡ Some a → (at : ℕ) (j k : IntegerKind)
      (t u : Option CType) (tables tables' : Tables)
      → kind_in t ≡ Some j → kind_in u ≡ Some k → (v w : ℤ) (d : State)
      → memory.operated at (op.Numbers a (word_type (working b j k))) v w (as_done d)
      ≡ as_found (c_operators.operated at b (c_operators.operand_of tables t v) (c_operators.operand_of tables' u w) d)
  operated_same b a e at j k t u tables tables' f g v w d =
      ap (λ x. or_stop at x (as_done d)) (worked_same (working b j k) (working_word b j k) b a v w e)
      ∙ or_stop_same at (says.worked b (working b j k) v w) d
      ∙ ap as_found (sym (on_integers b a e at j k (bytes_of tables (c_operators.target_in t))
      (bytes_of tables' (c_operators.target_in u)) v w d))
      ∙ ap₂ (λ x y. as_found (c_operators.operated at b (record {
        kind = x;
        element = bytes_of tables
            (c_operators.target_in t);
        value = v;
      })
      (record { kind = y; element = bytes_of tables' (c_operators.target_in u); value = w }) d)) (sym f) (sym g)

  pub binary_value : (b : BinaryOperator) (a : Arithmetic) → arithmetic b ≡ Some a → (at : ℕ) (is_constant : Bool)
      (j k : IntegerKind) (e f : Expr) (p q : Part)
      → IsValueOf numbering e p → IsValueOf numbering f q → kind_in (value_type p.typed) ≡ Some j → kind_in
      (value_type q.typed) ≡ Some k
      → IsValueOf numbering (expr.Operate at (op.Numbers a (word_type (working b j k))) is_constant e f)
      (forms.binary at b p q)
  binary_value b a is at is_constant j k e f p q h i tp tq = subst
      (λ (r : Part). IsValueOf numbering (expr.Operate at (op.Numbers a (word_type (working b j k))) is_constant e f) r)
      (sym (evaluates_both b a is at p q))
      (by_worth _ _ _ _ _ (eq.worth-Operate at (op.Numbers a (word_type (working b j k))) is_constant e f)
      (pair_does (value e) (value f) p q (memory.operated at (op.Numbers a (word_type (working b j k))))
      (λ v w d. c_operators.operated_on at b p.typed q.typed v w d) h i
      (λ v w d. operated_same b a is at j k (value_type p.typed) (value_type q.typed) q.typed.after.tables
      q.typed.after.tables tp tq v w d)))

  -- ---- the value of an lvalue (C99 6.3.2.1p2)

  pub loaded_value : (e : Expr) (x : Typed) (rooted : Bool) (needs : forms.Needs) (reach : c.Level → c.Run ℕ)
      (t : ValueType)
      → OfType x.after.tables x t → IsAddressOf numbering e (forms.placed x rooted needs reach)
      → IsValueOf numbering (expr.Load (record { at = x.at; stored = t; is_tested = not rooted }) e)
      (forms.placed x rooted needs reach)
  loaded_value e x rooted needs reach t typed h = by_worth _ _ _ _ _
      (eq.worth-Load (record { at = x.at; stored = t; is_tested = not rooted }) e)
      (rerun _ _ _ _ _
      (between_does (value e) needs.size needs.room (λ l env base d. as_value (reach l env base d)) _
      (λ a d. objects.load x rooted (unsigned_abs a) d) h
      (λ a d. load_same x t rooted (unsigned_abs a) d typed))
      (λ l env base d. addressed (reach l env base d) (λ a d. objects.load x rooted (unsigned_abs a) d)))

  -- ---- forms of which the second part runs where a branch says so

  -- the second part, behind the first
  behind_same : (x y : Value Output) (r : c.Level → ℕ) (m s : c.Level → ℕ) (run' : c.Level → c.Run ℤ) → Does numbering y
      m s run'
      → (l : c.Level) (k : Level Output) → Like numbering l k → x.needs.room k.measures ≡ r l → (env : Env) (base : ℕ)
      (d : State)
      → y.run k env (base + x.needs.room k.measures) (as_done d) ≡ as_found (run' l env (base + r l) d)
  behind_same x y r m s run' h l k like e env base d = ap (λ b. y.run k env (base + b) (as_done d)) e ∙ h.runs l k
      like env (base + r l) d

  truth_same : (x y : Value Output) (p q : Part) → Does numbering x p.size p.room p.run → Does numbering y q.size
      q.room q.run
      → (l : c.Level) (k : Level Output) → Like numbering l k → (env : Env) (base : ℕ) (d : State)
      → core.truth_of y k env (base + x.needs.room k.measures) (as_done d) ≡ as_found
      (forms.truth_of q l env (base + p.room l) d)
  truth_same x y p q h i l k like env base d =
      ap (λ o. o >>= (λ w. found (number_of (not (is_zero w.0))) w.1))
      (behind_same x y p.room q.size q.room q.run i l k like (h.room l k like) env base d)
      ∙ then_same (q.run l env (base + p.room l) d) (λ w. Ok (number_of (not (is_zero w.0)), w.1))
      (λ w. found (number_of (not (is_zero w.0))) w.1) (λ w d. refl)

  both_does : (at : ℕ) (x y : Value Output) (p q : Part) → Does numbering x p.size p.room p.run → Does numbering y
      q.size
      q.room q.run
      → Does numbering (core.both at x y) (λ l. suc (p.size l + q.size l)) (λ l. p.room l + q.room l)
      (forms.binary at o.LogicalAnd p q).run
  both_does at x y p q h i = record {
    size = λ l k like. ap₂ (λ a b. suc (a + b)) (h.size l k like) (i.size l k like);
    room = λ l k like. ap₂ (λ a b. a + b) (h.room l k like) (i.room l k like);
    runs = λ l k like env base d.
        ap (λ o. o >>= (λ v. on_branch k.taking at v.0 (core.and_then y k env (base + x.needs.room k.measures)) v.1))
        (h.runs l k like env base d)
        ∙ then_same (p.run l env base d) (λ v. forms.on_branch at v.0 (forms.and_then q l env (base + p.room l)) v.1)
        (λ v. on_branch k.taking at v.0 (core.and_then y k env (base + x.needs.room k.measures)) v.1)
        (λ v d. branch_same k.taking at v (forms.and_then q l env (base + p.room l))
        (core.and_then y k env (base + x.needs.room k.measures)) d like.taking
        (sides l k like env base));
  } where
    sides : (l : c.Level) (k : Level Output) → Like numbering l k → (env : Env) (base : ℕ) (b : Bool) (d : State)
        → core.and_then y k env (base + x.needs.room k.measures) b (as_done d) ≡ as_found
        (forms.and_then q l env (base + p.room l) b d)
    sides l k like env base true d = truth_same x y p q h i l k like env base d
    sides l k like env base false d = refl

  pub and_value : (at : ℕ) (e f : Expr) (p q : Part) → IsValueOf numbering e p → IsValueOf numbering f q → IsValueOf
      numbering
      (expr.And at e f) (forms.binary at o.LogicalAnd p q)
  and_value at e f p q h i = by_worth _ _ _ _ _ (eq.worth-And at e f) (both_does at (value e) (value f) p q h i)

  either_does : (at : ℕ) (x y : Value Output) (p q : Part) → Does numbering x p.size p.room p.run → Does numbering y
      q.size
      q.room q.run
      → Does numbering (core.either at x y) (λ l. suc (p.size l + q.size l)) (λ l. p.room l + q.room l)
      (forms.binary at o.LogicalOr p q).run
  either_does at x y p q h i = record {
    size = λ l k like. ap₂ (λ a b. suc (a + b)) (h.size l k like) (i.size l k like);
    room = λ l k like. ap₂ (λ a b. a + b) (h.room l k like) (i.room l k like);
    runs = λ l k like env base d.
        ap (λ o. o >>= (λ v. on_branch k.taking at v.0 (core.or_else y k env (base + x.needs.room k.measures)) v.1))
        (h.runs l k like env base d)
        ∙ then_same (p.run l env base d) (λ v. forms.on_branch at v.0 (forms.or_else q l env (base + p.room l)) v.1)
        (λ v. on_branch k.taking at v.0 (core.or_else y k env (base + x.needs.room k.measures)) v.1)
        (λ v d. branch_same k.taking at v (forms.or_else q l env (base + p.room l))
        (core.or_else y k env (base + x.needs.room k.measures)) d like.taking
        (sides l k like env base));
  } where
    sides : (l : c.Level) (k : Level Output) → Like numbering l k → (env : Env) (base : ℕ) (b : Bool) (d : State)
        → core.or_else y k env (base + x.needs.room k.measures) b (as_done d) ≡ as_found
        (forms.or_else q l env (base + p.room l) b d)
    sides l k like env base true d = refl
    sides l k like env base false d = truth_same x y p q h i l k like env base d

  pub or_value : (at : ℕ) (e f : Expr) (p q : Part) → IsValueOf numbering e p → IsValueOf numbering f q → IsValueOf
      numbering
      (expr.Or at e f) (forms.binary at o.LogicalOr p q)
  or_value at e f p q h i = by_worth _ _ _ _ _ (eq.worth-Or at e f) (either_does at (value e) (value f) p q h i)

  -- ---- `?:`: both sides are converted to the type of both

  converts : (t : ValueType) (class' : Class) → ((z : ℤ) → numbers.converted_to t z ≡ values.converted_to class' z) →
      (e : Expr) (p : Part) → IsValueOf numbering e p
      → Does numbering (value (expr.Convert t e)) p.size p.room (λ l env base d. c.◌>>=◌ (p.run l env base d)
      (λ v. Ok (values.converted_to class' v.0, v.1)))
  converts t class' same e p h = by_worth _ _ _ _ _ (eq.worth-Convert t e)
      (between_does (value e) p.size p.room p.run _ (λ z d. Ok (values.converted_to class' z, d)) h
      (λ z d. ap (λ z. as_found (Ok (z, d))) (same z)))

  choose_does : (at : ℕ) (t : Typed) (w x y : Value Output) (r p q : Part) → Does numbering w r.size r.room r.run
      → Does numbering x p.size p.room (λ l env base d. c.◌>>=◌ (p.run l env base d)
      (λ v. Ok (values.converted_to (class_in (type_of t)) v.0, v.1)))
      → Does numbering y q.size q.room (λ l env base d. c.◌>>=◌ (q.run l env base d)
      (λ v. Ok (values.converted_to (class_in (type_of t)) v.0, v.1)))
      → Does numbering (core.choose at w x y) (forms.choice_as at t r p q).size (forms.choice_as at t r p q).room
      (forms.choice_as at t r p q).run
  choose_does at t w x y r p q g h i = record {
    size = λ l k like. ap₂ (λ a b. suc (a + b)) (g.size l k like)
        (ap₂ (λ a b. a + b) (h.size l k like) (i.size l k like));
    room = λ l k like. ap₂ (λ a b. a + b) (g.room l k like) (ap₂ (λ a b. a + b) (h.room l k like) (i.room l k like));
    runs = λ l k like env base d.
        ap (λ o. o >>= (λ v. on_branch k.taking at v.0 (core.one_run x y k env (base + w.needs.room k.measures))
        v.1)) (g.runs l k like env base d)
        ∙ then_same (r.run l env base d) (λ v. forms.on_branch at v.0
        (forms.chosen (class_in (type_of t)) p q l env (base + r.room l)) v.1)
        (λ v. on_branch k.taking at v.0 (core.one_run x y k env (base + w.needs.room k.measures)) v.1)
        (λ v d. branch_same k.taking at v (forms.chosen (class_in (type_of t)) p q l env (base + r.room l))
        (core.one_run x y k env (base + w.needs.room k.measures)) d
        like.taking (sides l k like env base));
  } where
    sides : (l : c.Level) (k : Level Output) → Like numbering l k → (env : Env) (base : ℕ) (b : Bool) (d : State)
        → core.one_run x y k env (base + w.needs.room k.measures) b (as_done d) ≡ as_found
        (forms.chosen (class_in (type_of t)) p q l env (base + r.room l) b d)
    sides l k like env base true d = ap (λ b. x.run k env (base + b) (as_done d)) (g.room l k like) ∙ h.runs l k like
        env (base + r.room l) d
    sides l k like env base false d =
        ap (λ b. y.run k env (base + b + x.needs.room k.measures) (as_done d)) (g.room l k like)
        ∙ behind_same x y p.room q.size q.room _ i l k like (h.room l k like) env (base + r.room l) d

  pub choice_value : (at : ℕ) (t : ValueType) (e f g : Expr) (r p q : Part)
      → ((z : ℤ) → numbers.converted_to t z ≡ values.converted_to (class_in (type_of (forms.choice at r p q).typed)) z)
      → IsValueOf numbering e r → IsValueOf numbering f p → IsValueOf numbering g q
      → IsValueOf numbering (expr.Choose at e (expr.Convert t f) (expr.Convert t g)) (forms.choice at r p q)
  choice_value at t e f g r p q same h i j = by_worth _ _ _ _ _ (eq.worth-Choose at e (expr.Convert t f)
      (expr.Convert t g))
      (choose_does at (forms.choice at r p q).typed (value e) (value (expr.Convert t f)) (value (expr.Convert t g)) r
      p q h
      (converts t (class_in (type_of (forms.choice at r p q).typed)) same f p i)
      (converts t (class_in (type_of (forms.choice at r p q).typed)) same g q j))

  -- ---- the comma, and casts

  pub comma_value : (at : ℕ) (e f : Expr) (p q : Part) → IsEffectOf numbering e p → IsValueOf numbering f q → IsValueOf
      numbering (expr.Comma e f) (forms.comma at p q)
  comma_value at e f p q h i = by_worth _ _ _ _ _ (eq.worth-Comma e f) (record {
    size = λ l k like. ap₂ (λ a b. suc (a + b)) (h.size l k like) (i.size l k like);
    room = λ l k like. ap₂ (λ a b. a + b) (h.room l k like) (i.room l k like);
    runs = λ l k like env base d.
        ap (λ o. o >>= (λ v. (value f).run k env (base + (value {O = Output} e).needs.room k.measures) v.1))
        (h.runs l k like env base d)
        ∙ then_same (p.effect l env base d) (λ v. q.run l env (base + p.room l) v.1)
        (λ v. (value f).run k env (base + (value {O = Output} e).needs.room k.measures) v.1)
        (λ v d. behind_same (value e) (value f) p.room q.size q.room q.run i l k like (h.room l k like) env base d);
  })

  -- a cast to a type with values
  pub cast_value : (t : ValueType) (class' : Class) (x : Typed) (e : Expr) (p : Part) →
      ((z : ℤ) → numbers.converted_to t z ≡ values.converted_to class' z)
      → Does numbering (value e) p.size p.room (forms.cast_operand class' p) → IsValueOf numbering (expr.Cast t e)
      (forms.cast_as class' x p)
  cast_value t class' x e p same h = by_worth _ _ _ _ _ (eq.worth-Cast t e)
      (node_does (value e) p.size p.room (forms.cast_operand class' p) _
      (λ z d. Ok (values.converted_to class' z, d)) h (λ z d. ap (λ z. as_found (Ok (z, d))) (same z)))

  -- ---- assignment (C99 6.5.16)

  -- what stands behind the address of a target
  from_address : {A : Type 0} (o : c.Outcome ℕ) (f : ℕ → State → c.Outcome A) (g : ℕ → Done Output → Outcome Output A)
      → ((a : ℕ) (d : State) → g a (as_done d) ≡ as_found (f a d)) →
      (as_found (as_value o) >>= (λ a. g (unsigned_abs a.0) a.1)) ≡ as_found (c.◌>>=◌ o (λ a. f a.0 a.1))
  from_address (Ok x) f g h = h x.0 x.1
  from_address (Err d) f g h = refl

  pub simple_value : (at : ℕ) (t : ValueType) (e f : Expr) (p q : Part) → StoredAs q.typed.after.tables p.typed t →
      IsAddressOf numbering e p → IsValueOf numbering f q
      → IsValueOf numbering (expr.Store at (record { at = p.typed.at; stored = t; is_tested = not p.rooted }) e f)
      (forms.assignment at None p q)
  simple_value at t e f p q typed h i = by_worth _ _ _ _ _ (eq.worth-Store at
      (record { at = p.typed.at; stored = t; is_tested = not p.rooted }) e f) (record {
        size = λ l k like. ap₂ (λ a b. suc (a + b)) (h.size l k like) (i.size l k like);
        room = λ l k like. ap₂ (λ a b. a + b) (h.room l k like) (i.room l k like);
        runs = λ l k like env base d.
            ap (λ o. o >>= (λ a. (value f).run k env (base + (value {O = Output} e).needs.room k.measures) a.1 >>=
            (λ w. memory.put at (access_of p t) (unsigned_abs a.0) w.0 w.1))) (h.runs l k like env base d)
            ∙ from_address (p.reach l env base d) (λ a d. c.◌>>=◌ (q.run l env (base + p.room l) d)
            (λ w. objects.put at q.typed.after.tables p.typed p.rooted a w.0 w.1))
            (λ a d. (value f).run k env (base + (value {O = Output} e).needs.room k.measures) d >>=
            (λ w. memory.put at (access_of p t) a w.0 w.1))
            (λ a d. ap (λ o. o >>= (λ w. memory.put at (access_of p t) a w.0 w.1))
            (behind_same (value e) (value f) p.room q.size q.room q.run i l k like (h.room l k like) env base d)
            ∙ then_same (q.run l env (base + p.room l) d) (λ w. objects.put at q.typed.after.tables p.typed p.rooted a
            w.0 w.1) (λ w. memory.put at (access_of p t) a w.0 w.1)
            (λ w d. put_same at q.typed.after.tables p.typed t p.rooted a w d typed));
      })

  -- `op=`, by an operator of the core that does what the operator does
  pub compound_value : (at : ℕ) (b : BinaryOperator) (operator : Operator) (t : ValueType) (e f : Expr) (p q : Part)
      → forms.is_updated b p.typed (kind_in (value_type q.typed)) ≡ true
      → OfType p.typed.after.tables p.typed t → OfType q.typed.after.tables p.typed t → IsAddressOf numbering e p →
      IsValueOf numbering f q
      → ((v w : ℤ) (d : State) → memory.operated at operator v w (as_done d) ≡ as_found
      (c_operators.operated_on at b p.typed q.typed v w d))
      → IsValueOf numbering (expr.Update at operator (record { at = p.typed.at; stored = t; is_tested = not p.rooted })
      e f) (forms.assignment at (Some b) p q)
  compound_value at b operator t e f p q is read written h i same = by_worth _ _ _ _ _
      (eq.worth-Update at operator (access_of p t) e f) (record {
        size = λ l k like. ap₂ (λ a b. suc (a + b)) (h.size l k like) (i.size l k like);
        room = λ l k like. ap₂ (λ a b. a + b) (h.room l k like) (i.room l k like);
        runs = λ l k like env base d.
            ap (λ o. o >>= (λ a. memory.load (access_of p t) (unsigned_abs a.0) a.1 >>=
            (λ v. (value f).run k env (base + (value {O = Output} e).needs.room k.measures) v.1
            >>= (λ w. memory.operated at operator v.0 w.0 w.1 >>= (λ z. memory.put at (access_of p t) (unsigned_abs a.0)
            z.0 z.1))))) (h.runs l k like env base d)
            ∙ from_address (p.reach l env base d)
            (λ a d. c.◌>>=◌ (objects.load p.typed p.rooted a d) (λ v. c.◌>>=◌ (q.run l env (base + p.room l) v.1)
            (λ w. c.◌>>=◌ (c_operators.operated_on at b p.typed q.typed v.0 w.0 w.1)
            (λ z. objects.put at q.typed.after.tables p.typed p.rooted a z.0 z.1))))
            (λ a d. memory.load (access_of p t) a d >>= (λ v. (value f).run k env
            (base + (value {O = Output} e).needs.room k.measures) v.1
            >>= (λ w. memory.operated at operator v.0 w.0 w.1 >>= (λ z. memory.put at (access_of p t) a z.0 z.1))))
            (λ a d. ap (λ o. o >>= (λ v. (value f).run k env (base + (value {O = Output} e).needs.room k.measures) v.1
            >>= (λ w. memory.operated at operator v.0 w.0 w.1 >>= (λ z. memory.put at (access_of p t) a z.0 z.1))))
            (load_same p.typed t p.rooted a d read)
            ∙ then_same (objects.load p.typed p.rooted a d) _ _
            (λ v d. ap (λ o. o >>= (λ w. memory.operated at operator v w.0 w.1 >>=
            (λ z. memory.put at (access_of p t) a z.0 z.1)))
            (behind_same (value e) (value f) p.room q.size q.room q.run i l k like (h.room l k like) env base d)
            ∙ then_same (q.run l env (base + p.room l) d) _ _
            (λ w d. ap (λ o. o >>= (λ z. memory.put at (access_of p t) a z.0 z.1)) (same v w d)
            ∙ then_same (c_operators.operated_on at b p.typed q.typed v w d) _ _
            (λ z d. put_same at q.typed.after.tables p.typed t p.rooted a z d
            (stored_of q.typed.after.tables p.typed t written)))))
            ∙ ap (λ b'. as_found (forms.compound_if b' at b p q l env base d)) (sym is);
      })

  -- `++` and `--`, by an operator of the core that does what the operator does with 1; `f` tells which value it has
  stepped_value : (at : ℕ) (b : BinaryOperator) (operator : Operator) (answer : Answered) (t : ValueType) (e : Expr)
      (p : Part) (f : ℤ × ℤ → ℤ)
      → forms.is_updated b p.typed c_operators.one.kind ≡ true
      → OfType p.typed.after.tables p.typed t → IsAddressOf numbering e p →
      ((v w : ℤ) → core.either_value answer v w ≡ f (v, w))
      → ((v : ℤ) (d : State) → memory.operated at operator v (pos 1) (as_done d) ≡ as_found
      (c_operators.operated at b (c_operators.operand p.typed.after.tables p.typed v) c_operators.one d))
      → Does numbering (value (expr.Step at operator (access_of p t) answer e)) (λ l. suc (p.size l)) p.room
      (λ l env base d. c.◌>>=◌ (forms.stepped at b p l env base d) (λ v. Ok (f v.0, v.1)))
  stepped_value at b operator answer t e p f is typed h answers same = by_worth _ _ _ _ _
      (eq.worth-Step at operator (access_of p t) answer e) (record {
        size = λ l k like. ap suc (h.size l k like);
        room = h.room;
        runs = λ l k like env base d.
            ap (λ o. o >>= (λ a. memory.load (access_of p t) (unsigned_abs a.0) a.1 >>=
            (λ v. memory.operated at operator v.0 (pos 1) v.1
            >>= (λ w. memory.put at (access_of p t) (unsigned_abs a.0) w.0 w.1 >>=
            (λ z. found (core.either_value answer v.0 z.0) z.1))))) (h.runs l k like env base d)
            ∙ from_address (p.reach l env base d)
            (λ a d. c.◌>>=◌ (objects.load p.typed p.rooted a d) (λ v. c.◌>>=◌
            (c_operators.operated at b (c_operators.operand p.typed.after.tables p.typed v.0) c_operators.one v.1)
            (λ w. c.◌>>=◌ (objects.put at p.typed.after.tables p.typed p.rooted a w.0 w.1)
            (λ z. Ok (f (v.0, z.0), z.1)))))
            (λ a d. memory.load (access_of p t) a d >>= (λ v. memory.operated at operator v.0 (pos 1) v.1
            >>= (λ w. memory.put at (access_of p t) a w.0 w.1 >>= (λ z. found (core.either_value answer v.0 z.0) z.1))))
            (λ a d. ap (λ o. o >>= (λ v. memory.operated at operator v.0 (pos 1) v.1
            >>= (λ w. memory.put at (access_of p t) a w.0 w.1 >>= (λ z. found (core.either_value answer v.0 z.0) z.1))))
            (load_same p.typed t p.rooted a d typed)
            ∙ then_same (objects.load p.typed p.rooted a d) _ _
            (λ v d. ap (λ o. o >>= (λ w. memory.put at (access_of p t) a w.0 w.1 >>=
            (λ z. found (core.either_value answer v z.0) z.1))) (same v d)
            ∙ then_same (c_operators.operated at b (c_operators.operand p.typed.after.tables p.typed v) c_operators.one
            d) _ _
            (λ w d. ap (λ o. o >>= (λ z. found (core.either_value answer v z.0) z.1))
            (put_same at p.typed.after.tables p.typed t p.rooted a w d
            (stored_of p.typed.after.tables p.typed t typed))
            ∙ then_same (objects.put at p.typed.after.tables p.typed p.rooted a w d) (λ z. Ok (f (v, z.0), z.1))
            (λ z. found (core.either_value answer v z.0) z.1)
            (λ z d. ap (λ y. as_found (Ok (y, d))) (answers v z)))))
            ∙ ap as_found (sym (stepped_then (p.reach l env base d)))
            ∙ ap (λ b'. as_found (c.◌>>=◌ (forms.steps_if b' at b p l env base d) (λ v. Ok (f v.0, v.1)))) (sym is);
      }) where
        -- one sequence, however it is grouped
        last : (v : ℤ) (o : c.Outcome ℤ) → c.◌>>=◌ (c.◌>>=◌ o (λ z. Ok ((v, z.0), z.1))) (λ v. Ok (f v.0, v.1)) ≡
            c.◌>>=◌
            o (λ z. Ok (f (v, z.0), z.1))
        last v (Ok z) = refl
        last v (Err d) = refl

        third : (a : ℕ) (v : ℤ) (o : c.Outcome ℤ) → c.◌>>=◌ (c.◌>>=◌ o
            (λ w. c.◌>>=◌ (objects.put at p.typed.after.tables p.typed p.rooted a w.0 w.1) (λ z. Ok ((v, z.0), z.1))))
            (λ v. Ok (f v.0, v.1))
            ≡ c.◌>>=◌ o (λ w. c.◌>>=◌ (objects.put at p.typed.after.tables p.typed p.rooted a w.0 w.1)
            (λ z. Ok (f (v, z.0), z.1)))
        third a v (Ok w) = last v (objects.put at p.typed.after.tables p.typed p.rooted a w.0 w.1)
        third a v (Err d) = refl

        second : (a : ℕ) (o : c.Outcome ℤ) → c.◌>>=◌ (c.◌>>=◌ o (λ v. c.◌>>=◌
            (c_operators.operated at b (c_operators.operand p.typed.after.tables p.typed v.0) c_operators.one v.1)
            (λ w. c.◌>>=◌ (objects.put at p.typed.after.tables p.typed p.rooted a w.0 w.1)
            (λ z. Ok ((v.0, z.0), z.1)))))
            (λ v. Ok (f v.0, v.1))
            ≡ c.◌>>=◌ o (λ v. c.◌>>=◌ (c_operators.operated at b (c_operators.operand p.typed.after.tables p.typed v.0)
            c_operators.one v.1)
            (λ w. c.◌>>=◌ (objects.put at p.typed.after.tables p.typed p.rooted a w.0 w.1)
            (λ z. Ok (f (v.0, z.0), z.1))))
        second a (Ok v) = third a v.0 (c_operators.operated at b (c_operators.operand p.typed.after.tables p.typed v.0)
            c_operators.one v.1)
        second a (Err d) = refl

        stepped_then : (o : c.Outcome ℕ) → c.◌>>=◌ (c.◌>>=◌ o (λ a. c.◌>>=◌ (objects.load p.typed p.rooted a.0 a.1)
            (λ v. c.◌>>=◌ (c_operators.operated at b (c_operators.operand p.typed.after.tables p.typed v.0)
            c_operators.one v.1)
            (λ w. c.◌>>=◌ (objects.put at p.typed.after.tables p.typed p.rooted a.0 w.0 w.1)
            (λ z. Ok ((v.0, z.0), z.1)))))) (λ v. Ok (f v.0, v.1))
            ≡ c.◌>>=◌ o (λ a. c.◌>>=◌ (objects.load p.typed p.rooted a.0 a.1)
            (λ v. c.◌>>=◌ (c_operators.operated at b (c_operators.operand p.typed.after.tables p.typed v.0)
            c_operators.one v.1)
            (λ w. c.◌>>=◌ (objects.put at p.typed.after.tables p.typed p.rooted a.0 w.0 w.1)
            (λ z. Ok (f (v.0, z.0), z.1)))))
        stepped_then (Ok a) = second a.0 (objects.load p.typed p.rooted a.0 a.1)
        stepped_then (Err d) = refl

  -- the value before
  pub postfix_value : (at : ℕ) (b : BinaryOperator) (operator : Operator) (t : ValueType) (e : Expr) (p : Part)
      → forms.is_updated b p.typed c_operators.one.kind ≡ true → OfType p.typed.after.tables p.typed t → IsAddressOf numbering e p
      → ((v : ℤ) (d : State) → memory.operated at operator v (pos 1) (as_done d) ≡ as_found
      (c_operators.operated at b (c_operators.operand p.typed.after.tables p.typed v) c_operators.one d))
      → IsValueOf numbering (expr.Step at operator (access_of p t) answered.Before e) (forms.postfix_by at b p)
  postfix_value at b operator t e p is typed h same = stepped_value at b operator answered.Before t e p (λ v. v.0) is typed
      h (λ v w. refl) same

  -- the value that was stored
  pub prefix_value : (at : ℕ) (u : UnaryOperator) (b : BinaryOperator) (operator : Operator) (t : ValueType)
      (e : Expr) (p : Part) → forms.is_updated b p.typed c_operators.one.kind ≡ true
      → OfType p.typed.after.tables p.typed t → IsAddressOf numbering e p
      → ((v : ℤ) (d : State) → memory.operated at operator v (pos 1) (as_done d) ≡ as_found
      (c_operators.operated at b (c_operators.operand p.typed.after.tables p.typed v) c_operators.one d))
      → IsValueOf numbering (expr.Step at operator (access_of p t) answered.Stored e) (forms.prefix at u b p)
  prefix_value at u b operator t e p is typed h same = stepped_value at b operator answered.Stored t e p (λ v. v.1)
      is typed h (λ v w. refl) same

  -- ---- lvalues that aren't read (C99 6.3.2.1p3, p4, 6.3.2.2)

  unread : (cl : Class) (n at : ℕ) (rooted : Bool) (a : ℕ) (d : State) → objects.is_read cl ≡ false → objects.load_as
      cl n at rooted a d ≡ Ok (objects.value_at cl n d.store a, d)
  unread cl n at true a d h = refl
  unread cl n at false a d h = ap (λ b. cond (not b || can_access d.store a n)
      (Ok (objects.value_at cl n d.store a, d)) (c.stop at undefined.Dereference d)) h

  -- an array or function is its address
  pub array_value : (e : Expr) (x : Typed) (rooted : Bool) (needs : forms.Needs) (reach : c.Level → c.Run ℕ) →
      class_in (type_of x) ≡ class.Array
      → IsAddressOf numbering e (forms.placed x rooted needs reach) → IsValueOf numbering e
      (forms.placed x rooted needs reach)
  array_value e x rooted needs reach is h = rerun _ _ _ _ _ h (λ l env base d. its_address (reach l env base d)) where
    its_address : (o : c.Outcome ℕ) → as_value o ≡ c.◌>>=◌ o (λ a. objects.load x rooted a.0 a.1)
    its_address (Ok a) = sym (ap (λ cl. objects.load_as cl (bytes_of x.after.tables (type_of x)) x.at rooted a.0 a.1) is
        ∙ unread class.Array (bytes_of x.after.tables (type_of x)) x.at rooted a.0 a.1 refl)
    its_address (Err d) = refl

  pub function_value : (e : Expr) (x : Typed) (rooted : Bool) (needs : forms.Needs) (reach : c.Level → c.Run ℕ) →
      class_in (type_of x) ≡ class.Function
      → IsAddressOf numbering e (forms.placed x rooted needs reach) → IsValueOf numbering e
      (forms.placed x rooted needs reach)
  function_value e x rooted needs reach is h = rerun _ _ _ _ _ h (λ l env base d. its_address (reach l env base d))
    where
      its_address : (o : c.Outcome ℕ) → as_value o ≡ c.◌>>=◌ o (λ a. objects.load x rooted a.0 a.1)
      its_address (Ok a) = sym (ap (λ cl. objects.load_as cl (bytes_of x.after.tables (type_of x)) x.at rooted a.0
          a.1) is
          ∙ unread class.Function (bytes_of x.after.tables (type_of x)) x.at rooted a.0 a.1 refl)
      its_address (Err d) = refl

  -- a void lvalue is no access, and has no value
  pub void_value : (e : Expr) (x : Typed) (rooted : Bool) (needs : forms.Needs) (reach : c.Level → c.Run ℕ) →
      class_in (type_of x) ≡ class.Void
      → IsAddressOf numbering e (forms.placed x rooted needs reach) → IsValueOf numbering (expr.Convert v.Void e)
      (forms.placed x rooted needs reach)
  void_value e x rooted needs reach is h = by_worth _ _ _ _ _ (eq.worth-Convert v.Void e) (rerun _ _ _ _ _
      (between_does (value e) needs.size needs.room (λ l env base d. as_value (reach l env base d)) _
      (λ a d. Ok (pos 0, d)) h (λ a d. refl))
      (λ l env base d. no_value (reach l env base d)))
    where
      no_value : (o : c.Outcome ℕ) → c.◌>>=◌ (as_value o) (λ v. Ok (pos 0, v.1)) ≡ c.◌>>=◌ o
          (λ a. objects.load x rooted a.0 a.1)
      no_value (Ok a) = sym (ap (λ cl. objects.load_as cl (bytes_of x.after.tables (type_of x)) x.at rooted a.0 a.1) is
          ∙ unread class.Void (bytes_of x.after.tables (type_of x)) x.at rooted a.0 a.1 refl)
      no_value (Err d) = refl
