-- The core of each form of statement does what the form does.
use Rattle.std.proofs.Common.{◌≡◌, ℕ, zero, suc, ◌+◌, ◌*◌, ℤ, Bool, true, false, cond, List, [], ◌∷◌, ◌++◌, map, Option}
use Rattle.std.proofs.Common.{Some, None, Ok, Err, refl, sym, ap, ap₂, ◌∙◌, subst, arith}
use Rattle.std.specs.Prelude.{option_map}
use Rattle.c_language.specs.declared.class.Class.{Class}
use Rattle.c_language.specs.Integers.{is_zero}
use Rattle.c_store.specs.declared.object.ObjectKind.TheVariants.{Automatic}
use Rattle.c_store.specs.Store.{make, end}
use Rattle.c_language.specs.Scopes.{Name, Scope}
use Rattle.c_means.specs.declared.kind.Kind.{Kind}
use Rattle.c_means.specs.declared.kind.Kind.TheVariants as k
use Rattle.c_means.specs.Parts.{State, Env, Part}
use Rattle.c_means.specs.Parts as c
use Rattle.c_means.specs.Values as values
use Rattle.c_means.specs.Expressions as forms
use Rattle.c_means.specs.declared.breach.Breach.{Breach}
use Rattle.c_means.specs.Notes.{Noted}
use Rattle.c_means.specs.Items.{Made, known, past_break, past_continue, at_label, at_case, at_default}
use Rattle.c_means.specs.Items as runs
use Rattle.c_means.specs.Statements as statements
use Rattle.c_means.specs.Initials as initials
use Rattle.c_language.specs.declared.scope.Entry.{Entry}
use Rattle.core_tree.specs.declared.code.Code.{Code}
use Rattle.core_tree.specs.declared.code.Code.TheVariants as tree
use Rattle.core_tree.specs.declared.expr.Expr.{Expr}
use Rattle.core_tree.specs.declared.expr.Expr.TheVariants as expr
use Rattle.core_tree.specs.declared.types.ValueType.{ValueType}
use Rattle.core_tree.specs.States.{Output, plain, Taking, Done, Level, Needs, Arrow, with_value, running, where_running}
use Rattle.core_tree.specs.States.{arrive, onward, born, dead, on_branch, one_of, stay}
use Rattle.core_tree.specs.Values.{value}
use Rattle.core_tree.specs.Codes.{Item, code, in_turn, lived}
use Rattle.core_tree.specs.Codes as core
use Rattle.core_tree.proofs.Equations as eq
use Rattle.elaborate.specs.Means.{Numbering}
use Rattle.elaborate.specs.Means.{as_done, as_found, Like, Does, IsValueOf, IsEffectOf, Acts, IsCodeOf}

-- ---- arrows

-- a step of a run that is running
pub running_same : (f : Arrow Output) (g : runs.Arrow) (d : State) → f (as_done d) ≡ Some (as_done (g d)) → running f
    (as_done d) ≡ Some (as_done (runs.running g d))
running_same f g d h = by_kind d.kind where
  by_kind : (kind : Kind) → where_running kind (f (as_done d)) (Some (as_done d)) ≡ Some
      (as_done (runs.where_running kind (g d) d))
  by_kind k.Running = h
  by_kind k.Breaking = refl
  by_kind k.Continuing = refl
  by_kind k.Returning = refl
  by_kind (k.Going label) = refl
  by_kind (k.Choosing z) = refl
  by_kind k.Defaulting = refl
  by_kind (k.Ended f) = refl

pub with_same : (o : c.Outcome ℤ) (f : ℤ → Arrow Output) (g : ℤ → runs.Arrow) →
    ((z : ℤ) (d : State) → f z (as_done d) ≡ Some (as_done (g z d)))
    → with_value (as_found o) f ≡ Some (as_done (runs.with_value o g))
with_same (Ok x) f g h = h x.0 x.1
with_same (Err d) f g h = refl

test_arrow : (b : Bool) (x y : Option (Done Output)) (x' y' : State) → x ≡ Some (as_done x') → y ≡ Some (as_done y')
    → cond b x y ≡ Some (as_done (cond b x' y'))
test_arrow true x y x' y' h i = h
test_arrow false x y x' y' h i = i

pub branch_arrow : (t : Taking Output) (at : ℕ) (z : ℤ) (f : Bool → Arrow Output) (g : Bool → runs.Arrow) (d : State)
    → t ≡ plain
    → ((b : Bool) (d : State) → f b (as_done d) ≡ Some (as_done (g b d))) → on_branch t at z f (as_done d) ≡ Some
    (as_done (forms.on_branch at z g d))
branch_arrow t at z f g d e h = ap (λ t. on_branch t at z f (as_done d)) e ∙ test_arrow (is_zero z) _ _ _ _
    (h false _) (h true _)

one_arrow : (b : Bool) (f f' : Arrow Output) (g g' : runs.Arrow) (d : State) → f (as_done d) ≡ Some (as_done (g d)) →
    f' (as_done d) ≡ Some (as_done (g' d))
    → one_of b f f' (as_done d) ≡ Some (as_done (statements.one_of b g g' d))
one_arrow true f f' g g' d h i = h
one_arrow false f f' g g' d h i = i

-- ---- objects of a block

pub born_same : (t : Taking Output) (ms : List Made) (d : State) → t ≡ plain → born t ms (as_done d) ≡ as_done
    (runs.born ms d)
born_same t ms d e = ap (λ t. born t ms (as_done d)) e ∙ plainly ms d where
  plainly : (ms : List Made) (d : State) → born plain ms (as_done d) ≡ as_done (runs.born ms d)
  plainly [] d = refl
  plainly (m ∷ ms) d = plainly ms (c.meet m.place (c.with_store (make m.place
      (record { kind = Automatic; size = m.size }) d.store) d))

pub dead_same : (ms : List Made) (d : State) → dead ms (as_done d) ≡ as_done (runs.dead ms d)
dead_same [] d = refl
dead_same (m ∷ ms) d = dead_same ms (c.with_store (end m.place d.store) d)

abbrev no_made : List Made
no_made = []

module _ (numbering : Numbering) where
  pub by_item : (x : Code) (y : Item Output) (i : runs.Item) → code x ≡ y → Acts numbering y i → IsCodeOf numbering x i
  by_item x y i e h = rw e h

  -- ---- one behind the other

  pub no_item : (s : Scope) → Acts numbering (in_turn []) (runs.nothing s)
  no_item s = record {
    size = λ l k like. refl;
    room = λ l k like. refl;
    objects = λ l k like base. refl;
    runs = λ l k like env base d. refl;
  }

  pub and_items : (x y : Item Output) (i j : runs.Item) → Acts numbering x i → Acts numbering y j → Acts numbering
      (core.followed x y) (runs.followed i j)
  and_items x y i j h g = record {
    size = λ l k like. ap₂ (λ a b. a + b) (h.size l k like) (g.size l k like);
    room = λ l k like. ap₂ (λ a b. a + b) (h.room l k like) (g.room l k like);
    objects = λ l k like base. ap₂ (λ a b. a ++ y.objects k.measures (base + b)) (h.objects l k like base)
        (h.room l k like)
        ∙ ap (λ b. i.objects l base ++ b) (g.objects l k like (base + i.room l));
    runs = λ l k like env base d. ap (λ o. onward o (y.run k env (base + x.needs.room k.measures)))
        (h.runs l k like env base d)
        ∙ ap (λ b. y.run k env (base + b) (as_done (i.run l env base d))) (h.room l k like)
        ∙ g.runs l k like env (base + i.room l) (i.run l env base d);
  }

  -- items in turn, by those of their cores
  pub items : (x : Code) (xs : List Code) (i j : runs.Item) → IsCodeOf numbering x i → Acts numbering
      (in_turn (map code xs)) j
      → Acts numbering (in_turn (map code (x ∷ xs))) (runs.followed i j)
  items x xs i j h g = and_items (code x) (in_turn (map code xs)) i j h g

  -- ---- steps

  -- no object for its block, and only where the run is running
  pub acting_acts : (needs : Needs) (run : (k : Level Output) → Env → ℕ → Arrow Output) (i : runs.Item)
      (act : c.Level → Env → ℕ → runs.Arrow)
      → ((l : c.Level) (k : Level Output) → Like numbering l k → needs.size k.measures ≡ i.size l)
      → ((l : c.Level) (k : Level Output) → Like numbering l k → needs.room k.measures ≡ i.room l)
      → ((l : c.Level) (base : ℕ) → no_made ≡ i.objects l base)
      → ((l : c.Level) (env : Env) (base : ℕ) (d : State) → runs.running (act l env base) d ≡ i.run l env base d)
      → ((l : c.Level) (k : Level Output) → Like numbering l k → (env : Env) (base : ℕ) (d : State) → run k env base
      (as_done d) ≡ Some (as_done (act l env base d)))
      → Acts numbering (core.acting needs run) i
  acting_acts needs run i act size room objects is same = record {
    size = size;
    room = room;
    objects = λ l k like base. objects l base;
    runs = λ l k like env base d. running_same (run k env base) (act l env base) d (same l k like env base d) ∙ ap
        (λ s. Some (as_done s)) (is l env base d);
  }

  -- `;` and what does nothing
  pub nothing_code : (s : Scope) → IsCodeOf numbering (tree.Nothing false) (runs.nothing s)
  nothing_code s = by_item _ _ _ (eq.does-Nothing false) (record {
    size = λ l k like. refl;
    room = λ l k like. refl;
    objects = λ l k like base. refl;
    runs = λ l k like env base d. refl;
  })

  pub empty_code : (s : Scope) → IsCodeOf numbering (tree.Nothing true) (runs.node (runs.nothing s))
  empty_code s = by_item _ _ _ (eq.does-Nothing true) (record {
    size = λ l k like. refl;
    room = λ l k like. refl;
    objects = λ l k like base. refl;
    runs = λ l k like env base d. refl;
  })

  evaluated_acts : (b : Bool) (e : Expr) (x : Noted) (i : runs.Item) → IsEffectOf numbering e x.part
      → ((l : c.Level) → core.counted b + x.part.size l ≡ i.size l) → ((l : c.Level) → x.part.room l ≡ i.room l) →
      ((l : c.Level) (base : ℕ) → no_made ≡ i.objects l base)
      → ((l : c.Level) (env : Env) (base : ℕ) (d : State) → runs.running
      (λ d. runs.with_value (x.part.effect l env base d) (λ v d. d)) d ≡ i.run l env base d)
      → Acts numbering (core.evaluated b (value e)) i
  evaluated_acts b e x i h size room objects is = acting_acts _ _ i
      (λ l env base d. runs.with_value (x.part.effect l env base d) (λ v d. d))
      (λ l k like. ap (λ n. core.counted b + n) (h.size l k like) ∙ size l) (λ l k like. h.room l k like ∙ room l)
      objects is
      (λ l k like env base d. ap (λ o. with_value o (λ v d. Some d)) (h.runs l k like env base d) ∙ with_same
      (x.part.effect l env base d) (λ v d. Some d) (λ v d. d) (λ v d. refl))

  -- an expression statement, and an expression of a `for`
  pub value_code : (e : Expr) (x : Noted) → IsEffectOf numbering e x.part → IsCodeOf numbering (tree.Value true e)
      (runs.node (statements.value_of x))
  value_code e x h = by_item _ _ _ (eq.does-Value true e)
      (evaluated_acts true e x (runs.node (statements.value_of x)) h (λ l. refl) (λ l. refl) (λ l base. refl)
      (λ l env base d. refl))

  pub part_code : (e : Expr) (x : Noted) → IsEffectOf numbering e x.part → Acts numbering
      (core.evaluated false (value e))
      (statements.value_of x)
  part_code e x h = evaluated_acts false e x (statements.value_of x) h (λ l. unchanged (x.part.size l)) (λ l. refl)
      (λ l base. refl) (λ l env base d. refl) where
        unchanged : (n : ℕ) → 0 + n ≡ n
        unchanged n = grind arith

  -- ---- jumps

  pub jump_acts : (kind : Kind) (bs : List Breach) (cx : runs.Context) → Acts numbering (core.jump kind)
      (statements.jump bs kind cx)
  jump_acts kind bs cx = acting_acts _ _ (statements.jump bs kind cx) (λ l env base. runs.become kind)
      (λ l k like. refl) (λ l k like. refl) (λ l base. refl)
      (λ l env base d. refl) (λ l k like env base d. refl)

  pub goto_code : (at : ℕ) (name : Name) (cx : runs.Context) → IsCodeOf numbering (tree.Goto name)
      (statements.goto_of at name cx)
  goto_code at name cx = by_item _ _ _ (eq.does-Goto name) (jump_acts (k.Going name) _ cx)

  pub continue_code : (at : ℕ) (cx : runs.Context) → IsCodeOf numbering tree.Continue (statements.continue_of at cx)
  continue_code at cx = by_item _ _ _ eq.does-Continue (jump_acts k.Continuing _ cx)

  pub break_code : (at : ℕ) (cx : runs.Context) → IsCodeOf numbering tree.Break (statements.break_of at cx)
  break_code at cx = by_item _ _ _ eq.does-Break (jump_acts k.Breaking _ cx)

  -- ---- labeled statements

  pub label_code : (at : ℕ) (name : Name) (bs : List Breach) (x : Code) (i : runs.Item) → IsCodeOf numbering x i
      → IsCodeOf numbering (tree.Label name x) (runs.node (runs.with_breaches bs
      (statements.arrived (at_label name) i)))
  label_code at name bs x i h = by_item _ _ _ (eq.does-Label name x) (record {
    size = λ l k like. ap (λ n. 1 + (0 + n)) (h.size l k like) ∙ once (i.size l);
    room = h.room;
    objects = h.objects;
    runs = λ l k like env base d. h.runs l k like env base (runs.arrive (at_label name) d);
  }) where
    once : (n : ℕ) → 1 + (0 + n) ≡ 1 + n
    once n = grind arith

  -- a case of a value, whose expression counts
  pub case_code : (z : ℤ) (e : Expr) (p : Part) (x : Code) (i : runs.Item) → IsValueOf numbering e p → IsCodeOf
      numbering x i
      → IsCodeOf numbering (tree.Case z e x) (record (statements.arrived (at_case (Some z)) i)
      { size = λ l. 1 + (p.size l + i.size l) })
  case_code z e p x i g h = by_item _ _ _ (eq.does-Case z e x) (record {
    size = λ l k like. ap₂ (λ a b. 1 + (a + b)) (g.size l k like) (h.size l k like);
    room = h.room;
    objects = h.objects;
    runs = λ l k like env base d. h.runs l k like env base (runs.arrive (at_case (Some z)) d);
  })

  pub default_code : (at : ℕ) (bs : List Breach) (x : Code) (i : runs.Item) → IsCodeOf numbering x i
      → IsCodeOf numbering (tree.Default x) (runs.node (runs.with_breaches bs
      (statements.chosen_by at None (statements.arrived at_default i))))
  default_code at bs x i h = by_item _ _ _ (eq.does-Default x) (record {
    size = λ l k like. ap (λ n. 1 + (0 + n)) (h.size l k like) ∙ once (i.size l);
    room = h.room;
    objects = h.objects;
    runs = λ l k like env base d. h.runs l k like env base (runs.arrive at_default d);
  }) where
    once : (n : ℕ) → 1 + (0 + n) ≡ 1 + n
    once n = grind arith

  -- ---- blocks

  pub lived_same : (x : Item Output) (i : runs.Item) → Acts numbering x i → (l : c.Level) (k : Level Output) → Like
      numbering l k → (env : Env) (base : ℕ) (d : State)
      → lived x k env base (as_done d) ≡ Some (as_done (runs.lived i l env base d))
  lived_same x i h l k like env base d =
      ap (λ ms. onward (x.run k (known ms env) base (born k.taking ms (as_done d))) (λ r. Some (dead ms r)))
      (h.objects l k like base)
      ∙ ap (λ s. onward (x.run k (known (i.objects l base) env) base s) (λ r. Some (dead (i.objects l base) r)))
      (born_same k.taking (i.objects l base) d like.taking)
      ∙ ap (λ o. onward o (λ r. Some (dead (i.objects l base) r)))
      (h.runs l k like (known (i.objects l base) env) base (runs.born (i.objects l base) d))
      ∙ ap (λ s. Some s) (dead_same (i.objects l base) (i.run l (known (i.objects l base) env) base
      (runs.born (i.objects l base) d)))

  -- a compound statement
  pub block_code : (xs : List Code) (i : runs.Item) → Acts numbering (in_turn (map code xs)) i → IsCodeOf numbering
      (tree.Block true xs) (runs.guarded (runs.closed (runs.node i)))
  block_code xs i h = by_item _ _ _ (eq.does-Block true xs) (acting_acts _ _ _ (runs.lived i)
      (λ l k like. ap (λ n. 1 + n) (h.size l k like)) h.room (λ l base. refl)
      (λ l env base d. refl) (λ l k like env base d. lived_same (in_turn (map code xs)) i h l k like env base d))

  -- a substatement that is no compound statement is a block too
  pub inner_code : (xs : List Code) (i : runs.Item) → Acts numbering (in_turn (map code xs)) i → IsCodeOf numbering
      (tree.Block false xs) (runs.without_cases (runs.guarded (runs.closed i)))
  inner_code xs i h = by_item _ _ _ (eq.does-Block false xs) (acting_acts _ _ _ (runs.lived i)
      (λ l k like. ap (λ n. 0 + n) (h.size l k like) ∙ unchanged (i.size l)) h.room (λ l base. refl)
      (λ l env base d. refl) (λ l k like env base d. lived_same (in_turn (map code xs)) i h l k like env base d))
    where
      unchanged : (n : ℕ) → 0 + n ≡ n
      unchanged n = grind arith

  -- ---- selection

  pub if_code : (at : ℕ) (e : Expr) (x y : Code) (n : Noted) (i j : runs.Item) → IsValueOf numbering e n.part → IsCodeOf
      numbering x i → IsCodeOf numbering y j
      → IsCodeOf numbering (tree.If at e x y) (statements.if_item at n i j)
  if_code at e x y n i j g h f = by_item _ _ _ (eq.does-If at e x y)
      (acting_acts _ _ (statements.if_item at n i j) (statements.if_runs at n i j)
      (λ l k like. ap₂ (λ a b. 1 + (a + b)) (g.size l k like) (ap₂ (λ a b. a + b) (h.size l k like) (f.size l k like)))
      (λ l k like. ap₂ (λ a b. a + b) (g.room l k like) (ap₂ (λ a b. a + b) (h.room l k like) (f.room l k like)))
      (λ l base. refl) (λ l env base d. refl)
      (λ l k like env base d. ap (λ o. with_value o (λ v. on_branch k.taking at v (λ b. one_of b
      ((code x).run k env (base + (value {O = Output} e).needs.room k.measures))
      ((code y).run k env (base + ((value {O = Output} e).needs.room k.measures + (code {O = Output} x).needs.room
      k.measures)))))) (g.runs l k like env base d)
      ∙ with_same (n.part.run l env base d) _ (λ v. forms.on_branch at v
      (λ b. statements.one_of b (i.run l env (base + n.part.room l))
      (j.run l env (base + (n.part.room l + i.room l)))))
      (λ z d. branch_arrow k.taking at z
      (λ b. one_of b ((code x).run k env (base + (value {O = Output} e).needs.room k.measures))
      ((code y).run k env (base + ((value {O = Output} e).needs.room k.measures + (code {O = Output} x).needs.room
      k.measures))))
      (λ b. statements.one_of b (i.run l env (base + n.part.room l))
      (j.run l env (base + (n.part.room l + i.room l)))) d like.taking
      (λ b d. one_arrow b ((code x).run k env (base + (value {O = Output} e).needs.room k.measures))
      ((code y).run k env (base + ((value {O = Output} e).needs.room k.measures + (code {O = Output} x).needs.room
      k.measures)))
      (i.run l env (base + n.part.room l)) (j.run l env (base + (n.part.room l + i.room l))) d
      (ap (λ m. (code x).run k env (base + m) (as_done d)) (g.room l k like) ∙ h.runs l k like env
      (base + n.part.room l) d)
      (ap₂ (λ m o. (code y).run k env (base + (m + o)) (as_done d)) (g.room l k like) (h.room l k like) ∙ f.runs l k
      like env (base + (n.part.room l + i.room l)) d)))))

  -- ---- `return`

  pub return_code : (at : ℕ) (e : Expr) (t : ValueType) (n : Noted) (cx : runs.Context)
      → Does numbering (value (expr.Convert t e)) n.part.size n.part.room
      (λ l env base d. c.◌>>=◌ (n.part.run l env base d) (λ v. Ok
      (values.converted_to (values.class_in cx.result) v.0, v.1)))
      → IsCodeOf numbering (tree.Return (Some (expr.Convert t e))) (statements.value_return at n cx)
  return_code at e t n cx h = by_item _ _ _ (eq.does-Return (Some (expr.Convert t e)))
      (acting_acts _ _ (statements.value_return at n cx) (statements.returns n cx.result)
      (λ l lv like. ap (λ a. 1 + a) (h.size l lv like)) h.room (λ l base. refl) (λ l env base d. refl)
      (λ l lv like env base d. ap (λ o. with_value o (λ v d. Some (record d { kind = k.Returning; value = Some v })))
      (h.runs l lv like env base d)
      ∙ returned (n.part.run l env base d) (values.class_in cx.result)))
    where
      returned : (o : c.Outcome ℤ) (cl : Class) → with_value (as_found
          (c.◌>>=◌ o (λ v. Ok (values.converted_to cl v.0, v.1))))
          (λ v d. Some (record d { kind = k.Returning; value = Some v }))
          ≡ Some (as_done (runs.with_value o (λ v d. record d {
            kind = k.Returning;
            value = Some
                (values.converted_to cl v);
          })))
      returned (Ok x) cl = refl
      returned (Err d) cl = refl

  pub bare_return_code : (at : ℕ) (cx : runs.Context) → IsCodeOf numbering (tree.Return None)
      (statements.bare_return at cx)
  bare_return_code at cx = by_item _ _ _ (eq.does-Return None) (jump_acts k.Returning _ cx)

  -- ---- iteration

  -- a test, by its core; none is always true
  pub record Tests (e : Option Expr) (t : statements.Test) (at : ℕ) : Type 0 where
    pub size : (l : c.Level) (k : Level Output) → Like numbering l k →
        (core.test_needs (option_map (value {O = Output}) e)).size k.measures ≡ t.item.size l
    pub room : (l : c.Level) (k : Level Output) → Like numbering l k →
        (core.test_needs (option_map (value {O = Output}) e)).room k.measures ≡ t.item.room l
    pub runs : (l : c.Level) (k : Level Output) → Like numbering l k → (env : Env) (base : ℕ) (f : Bool → Arrow Output)
        (g : Bool → runs.Arrow)
        → ((b : Bool) (d : State) → f b (as_done d) ≡ Some (as_done (g b d))) → (d : State)
        → core.tested at (option_map value e) k env base f (as_done d) ≡ Some (as_done (t.run l env base g d))

  pub no_test : (at : ℕ) (s : Scope) → Tests None (statements.always s) at
  no_test at s = record {
    size = λ l k like. refl;
    room = λ l k like. refl;
    runs = λ l k like env base f g h d. h
        true d;
  }

  pub a_test : (at : ℕ) (e : Expr) (n : Noted) → IsValueOf numbering e n.part → Tests (Some e)
      (statements.test_of at n) at
  a_test at e n h = record {
    size = h.size;
    room = h.room;
    runs = λ l k like env base f g same d. ap (λ o. with_value o (λ v. on_branch k.taking at v f))
        (h.runs l k like env base d)
        ∙ with_same (n.part.run l env base d) _ _ (λ z d. branch_arrow k.taking at z f g d like.taking same);
  }

  module _ (at : ℕ) (e : Option Expr) (t : statements.Test) (x : Item Output) (i : runs.Item) (s : Item Output)
      (j : runs.Item)
      (tests : Tests e t at) (h : Acts numbering x i) (g : Acts numbering s j) where
    turn_room : (l : c.Level) (k : Level Output) → Like numbering l k → (core.turn_needs (option_map value e) x s).room
        k.measures ≡ statements.turn_room t i j l
    turn_room l k like = ap₂ (λ a b. a + b) (tests.room l k like)
        (ap₂ (λ a b. a + b) (h.room l k like) (g.room l k like))

    -- what is left of a turn and the turns behind it
    abbrev Next : c.Level → Level Output → Env → ℕ → Type 0
    Next l k env n = (base : ℕ) (d : State) → core.turns_from at (option_map value e) x s k env n base (as_done d) ≡
        Some (as_done (statements.turns_from at t i j l env n base d))

    behind : (l : c.Level) (k : Level Output) → Like numbering l k → (env : Env) (n : ℕ) → Next l k env n → (base : ℕ)
        (d : State)
        → onward (s.run k env (base + ((core.test_needs (option_map (value {O = Output}) e)).room k.measures +
        x.needs.room k.measures)) (as_done d))
        (running (core.turns_from at (option_map value e) x s k env n
        (base + (core.turn_needs (option_map value e) x s).room k.measures)))
        ≡ Some (as_done (runs.running (statements.turns_from at t i j l env n (base + statements.turn_room t i j l))
        (j.run l env (base + (t.item.room l + i.room l)) d)))
    behind l k like env n next base d =
        ap₂ (λ a b. onward (s.run k env (base + (a + b)) (as_done d))
        (running (core.turns_from at (option_map value e) x s k env n
        (base + (core.turn_needs (option_map value e) x s).room k.measures))))
        (tests.room l k like) (h.room l k like)
        ∙ ap (λ o. onward o (running (core.turns_from at (option_map value e) x s k env n
        (base + (core.turn_needs (option_map value e) x s).room k.measures))))
        (g.runs l k like env (base + (t.item.room l + i.room l)) d)
        ∙ ap (λ m. running (core.turns_from at (option_map value e) x s k env n (base + m))
        (as_done (j.run l env (base + (t.item.room l + i.room l)) d))) (turn_room l k like)
        ∙ running_same (core.turns_from at (option_map value e) x s k env n (base + statements.turn_room t i j l))
        (statements.turns_from at t i j l env n (base + statements.turn_room t i j l))
        (j.run l env (base + (t.item.room l + i.room l)) d)
        (next (base + statements.turn_room t i j l) (j.run l env (base + (t.item.room l + i.room l)) d))

    -- what stands behind the test
    abbrev a_turn : Level Output → Env → ℕ → ℕ → Arrow Output
    a_turn k env n base d = onward (x.run k env (base + (core.test_needs (option_map (value {O = Output}) e)).room
        k.measures) d) (λ r. running (λ r. onward
        (s.run k env (base + ((core.test_needs (option_map (value {O = Output}) e)).room k.measures + x.needs.room
        k.measures)) r)
        (running (core.turns_from at (option_map value e) x s k env n
        (base + (core.turn_needs (option_map value e) x s).room k.measures))))
        (arrive past_continue r))

    abbrev c_turn : c.Level → Env → ℕ → ℕ → runs.Arrow
    c_turn l env n base d = runs.running (λ d. runs.running (statements.turns_from at t i j l env n
        (base + statements.turn_room t i j l))
        (j.run l env (base + (t.item.room l + i.room l)) d)) (runs.arrive past_continue
        (i.run l env (base + t.item.room l) d))

    turn_same : (l : c.Level) (k : Level Output) → Like numbering l k → (env : Env) (n : ℕ) → Next l k env n →
        (base : ℕ) (d : State)
        → a_turn k env n base (as_done d) ≡ Some (as_done (c_turn l env n base d))
    turn_same l k like env n next base d =
        ap (λ a. onward (x.run k env (base + a) (as_done d)) (λ r. running (λ r. onward
        (s.run k env (base + ((core.test_needs (option_map (value {O = Output}) e)).room k.measures + x.needs.room
        k.measures)) r)
        (running (core.turns_from at (option_map value e) x s k env n
        (base + (core.turn_needs (option_map value e) x s).room k.measures))))
        (arrive past_continue r))) (tests.room l k like)
        ∙ ap (λ o. onward o (λ r. running (λ r. onward
        (s.run k env (base + ((core.test_needs (option_map (value {O = Output}) e)).room k.measures + x.needs.room
        k.measures)) r)
        (running (core.turns_from at (option_map value e) x s k env n
        (base + (core.turn_needs (option_map value e) x s).room k.measures))))
        (arrive past_continue r))) (h.runs l k like env (base + t.item.room l) d)
        ∙ running_same (λ r. onward (s.run k env (base + ((core.test_needs (option_map (value {O = Output}) e)).room
        k.measures + x.needs.room k.measures)) r)
        (running (core.turns_from at (option_map value e) x s k env n
        (base + (core.turn_needs (option_map value e) x s).room k.measures))))
        (λ d. runs.running (statements.turns_from at t i j l env n (base + statements.turn_room t i j l))
        (j.run l env (base + (t.item.room l + i.room l)) d))
        (runs.arrive past_continue (i.run l env (base + t.item.room l) d))
        (behind l k like env n next base (runs.arrive past_continue (i.run l env (base + t.item.room l) d)))

    turns_same : (l : c.Level) (k : Level Output) → Like numbering l k → (env : Env) (n : ℕ) → Next l k env n
    turns_same l k like env zero base d =
        tests.runs l k like env base (λ b. one_of b (core.left_at at) stay)
        (λ b. statements.one_of b (statements.left_at at) (λ d. d))
        (λ b d. one_arrow b (core.left_at at) stay (statements.left_at at) (λ d. d) d refl refl) d
    turns_same l k like env (suc n) base d =
        tests.runs l k like env base (λ b. one_of b (a_turn k env n base) stay)
        (λ b. statements.one_of b (c_turn l env n base) (λ d. d))
        (λ b d. one_arrow b (a_turn k env n base) stay (c_turn l env n base) (λ d. d) d
        (turn_same l k like env n (turns_same l k like env n) base d) refl) d

    -- `while`, and `for` behind its first part
    pub looped_acts : (step : Option Expr) → core.maybe_evaluated (option_map value step) ≡ s
        → Acts numbering (core.looped at (option_map value e) (option_map value step) x) (statements.looped at t i j)
    looped_acts step is = subst (λ (y : Item Output). Acts numbering (loop_of y) (statements.looped at t i j)) (sym is)
        (acting_acts _ _ (statements.looped at t i j) (λ l env base d. runs.arrive past_break
        (statements.turns_from at t i j l env l.turns base d))
        (λ l k like. ap₂ (λ n z. 1 + (n + 1) * z) like.turns (ap₂ (λ a b. a + b) (tests.size l k like)
        (ap₂ (λ a b. a + b) (h.size l k like) (g.size l k like))))
        (λ l k like. ap₂ (λ n z. (n + 1) * z) like.turns (turn_room l k like))
        (λ l base. refl) (λ l env base d. refl)
        (λ l k like env base d. ap (λ n. core.broken_out (core.turns_from at (option_map value e) x s k env n base
        (as_done d))) like.turns
        ∙ ap core.broken_out (turns_same l k like env l.turns base d)))
      where
        loop_of : Item Output → Item Output
        loop_of y = core.acting (core.each_turn (core.turn_needs (option_map value e) x y))
            (λ k env base d. core.broken_out (core.turns_from at (option_map value e) x y k env k.measures.turns base
            d))

  -- ---- `do`

  module _ (at : ℕ) (e : Expr) (n : Noted) (x : Item Output) (i : runs.Item) (tests : IsValueOf numbering e n.part)
      (h : Acts numbering x i) where
    round_room : (l : c.Level) (k : Level Output) → Like numbering l k → x.needs.room k.measures +
        (value {O = Output} e).needs.room k.measures ≡ i.room l + n.part.room l
    round_room l k like = ap₂ (λ a b. a + b) (h.room l k like) (tests.room l k like)

    rounds_same : (l : c.Level) (k : Level Output) → Like numbering l k → (env : Env) (m base : ℕ) (d : State)
        → core.rounds_from at x (value e) k env m base (as_done d) ≡ Some
        (as_done (statements.rounds_from at i (statements.test_of at n) l env m base d))
    rounds_same l k like env zero base d = refl
    rounds_same l k like env (suc m) base d =
        ap (λ o. onward o (λ r. running (core.tested at (Some (value e)) k env (base + x.needs.room k.measures)
        (λ b. one_of b (core.rounds_from at x (value e) k env m (base +
        (x.needs.room k.measures + (value {O = Output} e).needs.room k.measures))) stay))
        (arrive past_continue r))) (h.runs l k like env base d)
        ∙ ap₂ (λ a z. running (core.tested at (Some (value e)) k env (base + a)
        (λ b. one_of b (core.rounds_from at x (value e) k env m (base + z)) stay))
        (as_done (runs.arrive past_continue (i.run l env base d)))) (h.room l k like) (round_room l k like)
        ∙ running_same (core.tested at (Some (value e)) k env (base + i.room l)
        (λ b. one_of b (core.rounds_from at x (value e) k env m (base + (i.room l + n.part.room l))) stay))
        ((statements.test_of at n).run l env (base + i.room l) (λ b. statements.one_of b
        (statements.rounds_from at i (statements.test_of at n) l env m (base + (i.room l + n.part.room l)))
        (λ d. d)))
        (runs.arrive past_continue (i.run l env base d))
        ((a_test at e n tests).runs l k like env (base + i.room l)
        (λ b. one_of b (core.rounds_from at x (value e) k env m (base + (i.room l + n.part.room l))) stay)
        (λ b. statements.one_of b (statements.rounds_from at i (statements.test_of at n) l env m
        (base + (i.room l + n.part.room l))) (λ d. d))
        (λ b d. one_arrow b (core.rounds_from at x (value e) k env m (base + (i.room l + n.part.room l))) stay
        (statements.rounds_from at i (statements.test_of at n) l env m (base + (i.room l + n.part.room l))) (λ d. d) d
        (rounds_same l k like env m (base + (i.room l + n.part.room l)) d) refl)
        (runs.arrive past_continue (i.run l env base d)))

    pub repeated_acts : Acts numbering (core.repeated at x (value e))
        (statements.repeated at i (statements.test_of at n))
    repeated_acts = acting_acts _ _ (statements.repeated at i (statements.test_of at n))
        (λ l env base d. runs.arrive past_break (statements.rounds_from at i (statements.test_of at n) l env l.turns
        base d))
        (λ l k like. ap₂ (λ n z. 1 + (n + 1) * z) like.turns (ap₂ (λ a b. a + b) (h.size l k like)
        (tests.size l k like)))
        (λ l k like. ap₂ (λ n z. (n + 1) * z) like.turns (round_room l k like))
        (λ l base. refl) (λ l env base d. refl)
        (λ l k like env base d. ap (λ m. core.broken_out (core.rounds_from at x (value e) k env m base (as_done d)))
        like.turns
        ∙ ap core.broken_out (rounds_same l k like env l.turns base d))

  pub do_code : (at : ℕ) (e : Expr) (n : Noted) (x : Code) (i : runs.Item) → IsValueOf numbering e n.part → IsCodeOf
      numbering x i
      → IsCodeOf numbering (tree.Repeat at e x) (statements.left_scope
      (statements.repeated at i (statements.test_of at n)))
  do_code at e n x i tests h = let r = repeated_acts at e n (code x) i tests h in
      by_item _ _ _ (eq.does-Repeat at e x) (record {
        size = r.size;
        room = r.room;
        objects = r.objects;
        runs =
            r.runs;
      })

  -- `while`
  pub while_code : (at : ℕ) (e : Expr) (n : Noted) (x : Code) (i : runs.Item) (s : Scope) → IsValueOf numbering e n.part
      → IsCodeOf numbering x i
      → IsCodeOf numbering (tree.Loop at (Some e) None x) (statements.left_scope
      (statements.looped at (statements.test_of at n) i (runs.nothing s)))
  while_code at e n x i s tests h =
      let r = looped_acts at (Some e) (statements.test_of at n) (code x) i core.nothing (runs.nothing s)
      (a_test at e n tests) h (no_item s) None refl in
      by_item _ _ _ (eq.does-Loop at (Some e) None x) (record {
        size = r.size;
        room = r.room;
        objects = r.objects;
        runs = r.runs;
      })

  -- `for`, behind what it begins with
  pub for_code : (at : ℕ) (e : Option Expr) (t : statements.Test) (f : Expr) (n : Noted) (x : Code) (i : runs.Item)
      (s : Scope) → Tests e t at → IsEffectOf numbering f n.part → IsCodeOf numbering x i
      → IsCodeOf numbering (tree.Loop at e (Some f) x) (record (statements.looped at t i (statements.value_of n))
      { after = s })
  for_code at e t f n x i s tests step h =
      let r = looped_acts at e t (code x) i (core.evaluated false (value f)) (statements.value_of n) tests h
      (part_code f n step) (Some f) refl in
      by_item _ _ _ (eq.does-Loop at e (Some f) x) (record {
        size = r.size;
        room = r.room;
        objects = r.objects;
        runs
            = r.runs;
      })

  -- ---- automatic objects

  -- one without initializer
  pub declare_code : (en : Entry) (n : ℕ) (s : Scope) → IsCodeOf numbering (tree.Declare en.at n false [])
      (statements.automatic en n initials.uninitialised s)
  declare_code en n s = by_item _ _ _ (eq.does-Declare en.at n false []) (record {
    size = λ l k like. refl;
    room = λ l k like. refl;
    objects = λ l k like base. refl;
    runs = λ l k like env base d. running_same (λ d. Some d) (λ d. d) d refl;
  })
