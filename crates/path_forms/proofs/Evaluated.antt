-- What each form of the core's expressions is, by what its parts are.
use Rattle.std.proofs.Common.{◌≡◌, ℕ, ◌+◌, ℤ, pos, List, ◌++◌, Bool, cond, refl, sym, ap, subst, ◌∙◌, arith, add-zero}
use Rattle.std.specs.Prelude.{unsigned_abs, not}
use Rattle.plain_data.specs.declared.run.Side.TheVariants as side
use Rattle.c_language.specs.Integers.{is_zero, number_of}
use Rattle.c_means.specs.Values.{address}
use Rattle.c_means.specs.Expressions.{behind}
use Rattle.c_store.specs.Store.{start}
use Rattle.core_tree.specs.declared.expr.Expr.{Expr}
use Rattle.core_tree.specs.declared.expr.Expr.TheVariants as expr
use Rattle.core_tree.specs.declared.types.Access.{Access}
use Rattle.core_tree.specs.declared.types.Answered.{Answered}
use Rattle.core_tree.specs.declared.types.Operator.{Operator}
use Rattle.core_tree.specs.declared.types.Turning.{Turning}
use Rattle.core_tree.specs.declared.types.ValueType.{ValueType}
use Rattle.core_tree.specs.declared.types.ValueType.TheVariants as vt
use Rattle.core_tree.specs.declared.types.WordType.{WordType}
use Rattle.core_tree.specs.Memory.{operated}
use Rattle.core_tree.specs.Numbers.{converted_to, turned}
use Rattle.core_tree.specs.States.{Done, Outcome, ◌>>=◌, found, or_stop, Needs}
use Rattle.core_tree.specs.Values.{Value, value, constant, fixed, local, loaded, on_value, over_one, operate, both, either, choose, comma, store, update, step}
use Rattle.core_tree.proofs.Equations.{worth-Constant, worth-Fixed, worth-Local, worth-Load, worth-Target, worth-Pointer, worth-Offset, worth-Convert, worth-Cast, worth-Turn, worth-Not, worth-Operate, worth-And, worth-Or, worth-Choose, worth-Store, worth-Update, worth-Step, worth-Comma}
use Rattle.term_bank.specs.declared.shape.Shape.{Shape}
use Rattle.term_bank.specs.Values.{Environment, Values, Models}
use Rattle.path_states.specs.declared.state.Walked.{Walked}
use Rattle.path_states.specs.States.{Held, IsRoomy}
use Rattle.path_states.specs.Ways.{Trial, Walks, tried}
use Rattle.path_steps.specs.Branches.{noted_at, takes, skips}
use Rattle.path_steps.specs.declared.leaf.Leaf.TheVariants as leaf
use Rattle.path_steps.specs.Leaves.{leaf_way}
use Rattle.path_steps.specs.Operands.{pushed, on_one, top, under}
use Rattle.path_forms.specs.declared.frame.Placed.{Placed}
use Rattle.path_forms.specs.declared.sides.Sides.{Sides}
use Rattle.path_forms.specs.Accesses.{IsAccess}
use Rattle.path_forms.specs.Around.{Around, level_at, env_at}
use Rattle.path_forms.specs.Reaching.{Reaches, Evaluates, Branches, Closes, Meets, TurnsTo, worth_way, value_way, operated_way, by_sides, by_way}
use Rattle.path_forms.specs.Steps.{recalled_way, raised_way, ReachesPlace}
use Rattle.path_forms.proofs.Outcomes.{one_pushed, load_pushed, two_pushed, comma_pushed, store_pushed, update_pushed, step_pushed, sides_pushed, same_found}
use Rattle.path_forms.proofs.Reached.{assoc, tried_same, reach_then, reach_where, reach_behind, walks_grown}
use Rattle.path_forms.proofs.SideLemmas.{beside_sides, beside_as, walks_met, walks_turned}

-- ---- places

pub further : (base place r p : ℕ) → p ≡ place + r → base + p ≡ (base + place) + r
further base place r p h = omega arith

farther : (base place r s p q : ℕ) → p ≡ place + r → q ≡ p + s → base + q ≡ ((base + place) + r) + s
farther base place r s p q h k = omega arith

pub two_rooms : (place r s p q : ℕ) → p ≡ place + r → q ≡ p + s → q ≡ place + (r + s)
two_rooms place r s p q h k = omega arith

three_rooms : (place r s t p q k : ℕ) → p ≡ place + r → q ≡ p + s → k ≡ q + t → k ≡ place + (r + (s + t))
three_rooms place r s t p q k h i j = omega arith

module _ (x : Around) (frame : List Placed) (room : ℕ) where
  -- by what the core says of the form
  pub evaluates_as : (t : Expr) (q : Value ℕ) (a b : List Shape) (w u : Walked) (place next : ℕ) (g : Trial) → value {O = ℕ} t ≡ q
      → next ≡ place + q.needs.room x.measures → Reaches room a b w u g
      → ((e : Environment) (v : Values) → Models b e v → IsRoomy room e → (h : Held) → g e v h ≡ worth_way x frame place q e v h)
      → Evaluates x frame room t a b w u place next
  evaluates_as t q a b w u place next g is n r same = record {
    ready = r.ready;
    after = n ∙ ap (λ (k : Value ℕ). place + k.needs.room x.measures) (sym is);
    reach = reach_where room a b w u g (value_way x frame place t)
        (λ e v m y h. same e v m y h ∙ ap (λ (k : Value ℕ). worth_way x frame place k e v h) (sym is)) r;
  }

  -- ---- forms without parts

  pub evaluates_constant : (z : ℤ) (a b : List Shape) (w u : Walked) (place : ℕ) → Reaches room a b w u (leaf_way (leaf.Constant z))
      → Evaluates x frame room (expr.Constant z) a b w u place place
  evaluates_constant z a b w u place r =
      evaluates_as (expr.Constant z) (constant z) a b w u place place (leaf_way (leaf.Constant z)) (worth-Constant z) (sym (add-zero place)) r
      (λ e v m y h. refl)

  pub evaluates_fixed : (p : ℕ) (a b : List Shape) (w u : Walked) (place : ℕ) → Reaches room a b w u (leaf_way (leaf.Fixed p))
      → Evaluates x frame room (expr.Fixed p) a b w u place place
  evaluates_fixed p a b w u place r =
      evaluates_as (expr.Fixed p) (fixed p) a b w u place place (leaf_way (leaf.Fixed p)) (worth-Fixed p) (sym (add-zero place)) r
      (λ e v m y h. refl)

  pub evaluates_local : (at : ℕ) (a b : List Shape) (w u : Walked) (place : ℕ) → ReachesPlace frame room at a b w u
      → Evaluates x frame room (expr.Local at) a b w u place place
  evaluates_local at a b w u place r =
      evaluates_as (expr.Local at) (local at) a b w u place place (leaf_way (leaf.Local r.offset)) (worth-Local at) (sym (add-zero place)) r.reach
      (λ e v m y h. ap (λ p. pushed h.operands (found (pos (start p)) h.done)) (sym (r.place.is e)))

  -- ---- forms over one part

  evaluates_one : (t y : Expr) (f : ℤ → Done ℕ → Outcome ℕ ℤ) (needs : Needs) (a b c : List Shape) (w w' u : Walked) (place next : ℕ)
      → value {O = ℕ} t ≡ on_value needs f (value y) → needs.room x.measures ≡ (value {O = ℕ} y).needs.room x.measures
      → Evaluates x frame room y a b w w' place next → Reaches room b c w' u (on_one (λ e z d. f z d))
      → Evaluates x frame room t a c w u place next
  evaluates_one t y f needs a b c w w' u place next is same h r =
      evaluates_as t (on_value needs f (value y)) a c w u place next
      (λ e v k. tried (value_way x frame place y e v k) (on_one (λ e z d. f z d) e v)) is
      (h.after ∙ ap (λ k. place + k) (sym same))
      (reach_then room a b c w w' u (value_way x frame place y) (on_one (λ e z d. f z d)) h.reach r)
      (λ e v m z k. one_pushed k.operands ((value {O = ℕ} y).run (level_at x e) (env_at frame e) (e.base + place) k.done) f)

  module _ (y : Expr) (a b c : List Shape) (w w' u : Walked) (place next : ℕ) (h : Evaluates x frame room y a b w w' place next) where
    pub evaluates_target : Reaches room b c w' u (leaf_way (leaf.Convert vt.Pointer)) → Evaluates x frame room (expr.Target y) a c w u place next
    evaluates_target r =
        evaluates_one (expr.Target y) y (λ z d. found (pos (address z)) d) (over_one (value {O = ℕ} y).needs) a b c w w' u place next
        (worth-Target y) refl h r

    pub evaluates_offset : (bytes : ℕ) → Reaches room b c w' u (leaf_way (leaf.Offset bytes))
        → Evaluates x frame room (expr.Offset bytes y) a c w u place next
    evaluates_offset bytes r =
        evaluates_one (expr.Offset bytes y) y (λ z d. found (pos (behind bytes (unsigned_abs z))) d) (over_one (value {O = ℕ} y).needs)
        a b c w w' u place next (worth-Offset bytes y) refl h r

    pub evaluates_convert : (to : ValueType) → Reaches room b c w' u (leaf_way (leaf.Convert to))
        → Evaluates x frame room (expr.Convert to y) a c w u place next
    evaluates_convert to r =
        evaluates_one (expr.Convert to y) y (λ z d. found (converted_to to z) d) (value {O = ℕ} y).needs a b c w w' u place next
        (worth-Convert to y) refl h r

    pub evaluates_cast : (to : ValueType) → Reaches room b c w' u (leaf_way (leaf.Convert to))
        → Evaluates x frame room (expr.Cast to y) a c w u place next
    evaluates_cast to r =
        evaluates_one (expr.Cast to y) y (λ z d. found (converted_to to z) d) (over_one (value {O = ℕ} y).needs) a b c w w' u place next
        (worth-Cast to y) refl h r

    pub evaluates_turn : (at : ℕ) (operator : Turning) (word : WordType) (is_constant : Bool) → Reaches room b c w' u (leaf_way (leaf.Turn at operator word))
        → Evaluates x frame room (expr.Turn at operator word is_constant y) a c w u place next
    evaluates_turn at operator word is_constant r =
        evaluates_one (expr.Turn at operator word is_constant y) y (λ z d. or_stop at (turned operator word z) d) (over_one (value {O = ℕ} y).needs)
        a b c w w' u place next (worth-Turn at operator word is_constant y) refl h r

    pub evaluates_not : Reaches room b c w' u (leaf_way leaf.Not) → Evaluates x frame room (expr.Not y) a c w u place next
    evaluates_not r =
        evaluates_one (expr.Not y) y (λ z d. found (number_of (is_zero z)) d) (over_one (value {O = ℕ} y).needs) a b c w w' u place next
        (worth-Not y) refl h r

    pub evaluates_load : (access : Access) → IsAccess x frame room access y → Reaches room b c w' u (leaf_way (leaf.Load access))
        → Evaluates x frame room (expr.Load access y) a c w u place next
    evaluates_load access can r =
        evaluates_as (expr.Load access y) (loaded access (value y)) a c w u place next
        (λ e v k. tried (value_way x frame place y e v k) (leaf_way (leaf.Load access) e v)) (worth-Load access y) h.after
        (reach_then room a b c w w' u (value_way x frame place y) (leaf_way (leaf.Load access)) h.reach r)
        (λ e v m z k. load_pushed access e v k.operands ((value {O = ℕ} y).run (level_at x e) (env_at frame e) (e.base + place) k.done)
        (can.near.near e z (e.base + place) k.done))

    pub evaluates_step : (at : ℕ) (operator : Operator) (access : Access) (answer : Answered) (d : List Shape) (w'' : Walked)
        → IsAccess x frame room access y → Reaches room b c w' w'' (recalled_way access) → Reaches room c d w'' u (raised_way at operator access answer)
        → Evaluates x frame room (expr.Step at operator access answer y) a d w u place next
    evaluates_step at operator access answer d w'' can r s =
        evaluates_as (expr.Step at operator access answer y) (step at operator access answer (value y)) a d w u place next
        (λ e v k. tried (tried (value_way x frame place y e v k) (recalled_way access e v)) (raised_way at operator access answer e v))
        (worth-Step at operator access answer y) h.after
        (reach_then room a c d w w'' u (λ e v k. tried (value_way x frame place y e v k) (recalled_way access e v))
        (raised_way at operator access answer) (reach_then room a b c w w' w'' (value_way x frame place y) (recalled_way access) h.reach r) s)
        (λ e v m z k. step_pushed at access e v operator answer k.operands
        ((value {O = ℕ} y).run (level_at x e) (env_at frame e) (e.base + place) k.done) (can.near.near e z (e.base + place) k.done))

  pub evaluates_pointer : (y : Expr) (a b : List Shape) (w u : Walked) (place next : ℕ) → Evaluates x frame room y a b w u place next
      → Evaluates x frame room (expr.Pointer y) a b w u place next
  evaluates_pointer y a b w u place next h =
      evaluates_as (expr.Pointer y) (on_value (over_one (value {O = ℕ} y).needs) (λ z d. found z d) (value y)) a b w u place next
      (value_way x frame place y) (worth-Pointer y) h.after h.reach
      (λ e v m z k. same_found k.operands ((value {O = ℕ} y).run (level_at x e) (env_at frame e) (e.base + place) k.done))

  -- ---- forms over two parts

  module _ (y z : Expr) (a b c d : List Shape) (w w' w'' u : Walked) (place p next : ℕ) (h : Evaluates x frame room y a b w w' place p)
    where
      -- what the second part does, from its first place
      abbrev second : Environment → Done ℕ → Outcome ℕ ℤ
      second e k =
          (value {O = ℕ} z).run (level_at x e) (env_at frame e) ((e.base + place) + (value {O = ℕ} y).needs.room x.measures) k

      pub evaluates_operate : (at : ℕ) (operator : Operator) (is_constant : Bool) → Evaluates x frame room z b c w' w'' p next
          → Reaches room c d w'' u (operated_way at operator) → Evaluates x frame room (expr.Operate at operator is_constant y z) a d w u place next
      evaluates_operate at operator is_constant i r =
          evaluates_as (expr.Operate at operator is_constant y z) (operate at operator (value y) (value z)) a d w u place next
          (λ e v k. tried (tried (value_way x frame place y e v k) (value_way x frame p z e v)) (operated_way at operator e v))
          (worth-Operate at operator is_constant y z) (two_rooms place _ _ p next h.after i.after)
          (reach_then room a c d w w'' u (λ e v k. tried (value_way x frame place y e v k) (value_way x frame p z e v)) (operated_way at operator)
          (reach_then room a b c w w' w'' (value_way x frame place y) (value_way x frame p z) h.reach i.reach) r)
          (λ e v m q k.
          ap (λ B. tried (tried (value_way x frame place y e v k) (λ n. pushed n.operands ((value {O = ℕ} z).run (level_at x e) (env_at frame e) B n.done)))
          (operated_way at operator e v)) (further e.base place _ p h.after)
          ∙ two_pushed k.operands ((value {O = ℕ} y).run (level_at x e) (env_at frame e) (e.base + place) k.done) (second e)
          (λ v w d. operated at operator v w d))

      pub evaluates_store : (at : ℕ) (access : Access) → IsAccess x frame room access y → Evaluates x frame room z b c w' w'' p next
          → Reaches room c d w'' u (leaf_way (leaf.Put at access)) → Evaluates x frame room (expr.Store at access y z) a d w u place next
      evaluates_store at access can i r =
          evaluates_as (expr.Store at access y z) (store at access (value y) (value z)) a d w u place next
          (λ e v k. tried (tried (value_way x frame place y e v k) (value_way x frame p z e v)) (leaf_way (leaf.Put at access) e v))
          (worth-Store at access y z) (two_rooms place _ _ p next h.after i.after)
          (reach_then room a c d w w'' u (λ e v k. tried (value_way x frame place y e v k) (value_way x frame p z e v)) (leaf_way (leaf.Put at access))
          (reach_then room a b c w w' w'' (value_way x frame place y) (value_way x frame p z) h.reach i.reach) r)
          (λ e v m q k.
          ap (λ B. tried (tried (value_way x frame place y e v k) (λ n. pushed n.operands ((value {O = ℕ} z).run (level_at x e) (env_at frame e) B n.done)))
          (leaf_way (leaf.Put at access) e v)) (further e.base place _ p h.after)
          ∙ store_pushed at access e v k.operands ((value {O = ℕ} y).run (level_at x e) (env_at frame e) (e.base + place) k.done) (second e)
          (can.near.near e q (e.base + place) k.done))

      pub evaluates_update : (at : ℕ) (operator : Operator) (access : Access) (f g : List Shape) (s t : Walked) → IsAccess x frame room access y
          → Reaches room b c w' w'' (recalled_way access) → Evaluates x frame room z c d w'' s p next → Reaches room d f s t (operated_way at operator)
          → Reaches room f g t u (leaf_way (leaf.Put at access)) → Evaluates x frame room (expr.Update at operator access y z) a g w u place next
      evaluates_update at operator access f g s t can n i r q =
          let one : Trial = λ e v k. tried (value_way x frame place y e v k) (recalled_way access e v) in
          let two : Trial = λ e v k. tried (one e v k) (value_way x frame p z e v) in
          let three : Trial = λ e v k. tried (two e v k) (operated_way at operator e v) in
          evaluates_as (expr.Update at operator access y z) (update at operator access (value y) (value z)) a g w u place next
          (λ e v k. tried (three e v k) (leaf_way (leaf.Put at access) e v)) (worth-Update at operator access y z)
          (two_rooms place _ _ p next h.after i.after)
          (reach_then room a f g w t u three (leaf_way (leaf.Put at access))
          (reach_then room a d f w s t two (operated_way at operator)
          (reach_then room a c d w w'' s one (value_way x frame p z)
          (reach_then room a b c w w' w'' (value_way x frame place y) (recalled_way access) h.reach n) i.reach) r) q)
          (λ e v m o k.
          ap (λ B. tried (tried (tried (tried (value_way x frame place y e v k) (recalled_way access e v))
          (λ n. pushed n.operands ((value {O = ℕ} z).run (level_at x e) (env_at frame e) B n.done))) (operated_way at operator e v))
          (leaf_way (leaf.Put at access) e v)) (further e.base place _ p h.after)
          ∙ update_pushed at access e v operator k.operands ((value {O = ℕ} y).run (level_at x e) (env_at frame e) (e.base + place) k.done) (second e)
          (can.near.near e o (e.base + place) k.done))

      pub evaluates_comma : Reaches room b c w' w'' (leaf_way leaf.Drop) → Evaluates x frame room z c d w'' u p next
          → Evaluates x frame room (expr.Comma y z) a d w u place next
      evaluates_comma r i =
          evaluates_as (expr.Comma y z) (comma (value y) (value z)) a d w u place next
          (λ e v k. tried (tried (value_way x frame place y e v k) (leaf_way leaf.Drop e v)) (value_way x frame p z e v))
          (worth-Comma y z) (two_rooms place _ _ p next h.after i.after)
          (reach_then room a c d w w'' u (λ e v k. tried (value_way x frame place y e v k) (leaf_way leaf.Drop e v)) (value_way x frame p z)
          (reach_then room a b c w w' w'' (value_way x frame place y) (leaf_way leaf.Drop) h.reach r) i.reach)
          (λ e v m q k.
          ap (λ B. tried (tried (value_way x frame place y e v k) (leaf_way leaf.Drop e v))
          (λ n. pushed n.operands ((value {O = ℕ} z).run (level_at x e) (env_at frame e) B n.done))) (further e.base place _ p h.after)
          ∙ comma_pushed e v k.operands ((value {O = ℕ} y).run (level_at x e) (env_at frame e) (e.base + place) k.done) (second e))

      -- ---- sides

      -- the second part's value as 0 or 1
      abbrev told : Environment → Done ℕ → Outcome ℕ ℤ
      told e k = second e k >>= (λ n. found (number_of (not (is_zero n.0))) n.1)

      told_pushed : (e : Environment) (v : Values) (k : Held)
          → tried (value_way x frame p z e v k) (leaf_way (leaf.Convert vt.Truth) e v) ≡ pushed k.operands (told e k.done)
      told_pushed e v k =
          ap (λ B. tried (pushed k.operands ((value {O = ℕ} z).run (level_at x e) (env_at frame e) B k.done)) (leaf_way (leaf.Convert vt.Truth) e v))
          (further e.base place _ p h.after)
          ∙ one_pushed k.operands (second e k.done) (λ n d. found (number_of (not (is_zero n))) d)

      pub evaluates_and : (at : ℕ) (q : Sides) → Branches b c w' at q → Evaluates x frame room z c d q.yes w'' p next
          → (f : List Shape) → Closes room d f (record { yes = w''; no = q.no; ended = q.ended }) u (leaf_way (leaf.Convert vt.Truth)) (leaf_way (leaf.Constant (pos 0)))
          → Evaluates x frame room (expr.And at y z) a f w u place next
      evaluates_and at q n i f k =
          let yes : Trial = λ e v o. tried (value_way x frame p z e v o) (leaf_way (leaf.Convert vt.Truth) e v) in
          let no : Trial = leaf_way (leaf.Constant (pos 0)) in
          evaluates_as (expr.And at y z) (both at (value y) (value z)) a f w u place next
          (λ e v o. tried (value_way x frame place y e v o) (by_sides at yes no e v)) (worth-And at y z)
          (two_rooms place _ _ p next h.after i.after)
          (reach_behind room a b f w w' u k.rest (value_way x frame place y) (by_sides at yes no) h.reach
          (k.closes b w'.going (λ e v o. tried (by_way (takes at) e v o) (value_way x frame p z e v)) (by_way (skips at)) (by_sides at yes no)
          (beside_as (λ e v o. tried (by_way (takes at) e v o) (yes e v))
          (λ e v o. tried (tried (by_way (takes at) e v o) (value_way x frame p z e v)) (leaf_way (leaf.Convert vt.Truth) e v))
          (λ e v o. tried (by_way (skips at) e v o) (no e v)) (λ e v o. tried (by_way (skips at) e v o) (no e v)) (by_sides at yes no)
          (λ e v o. sym (assoc (by_way (takes at) e v o) (value_way x frame p z e v) (leaf_way (leaf.Convert vt.Truth) e v))) (λ e v o. refl)
          (beside_sides at yes no))
          (i.reach.reaches b w'.going (by_way (takes at)) (n.yes room))
          (walks_grown room b c d i.reach.grows w'.going q.no (by_way (skips at)) (n.no room)))
          (k.ended ∙ ap (λ l. l ++ k.rest) n.ended) k.ready)
          (λ e v m r o.
          tried_same (value_way x frame place y e v o) (by_sides at yes no e v)
          (λ j. cond (is_zero (top j.operands)) (pushed (under j.operands) (found (pos 0) (noted_at at side.No j).done))
          (pushed (under j.operands) (told e (noted_at at side.Yes j).done)))
          (λ j. ap (λ t. cond (is_zero (top j.operands)) (no e v (noted_at at side.No j)) t) (told_pushed e v (noted_at at side.Yes j)))
          ∙ sides_pushed at x.log o.operands ((value {O = ℕ} y).run (level_at x e) (env_at frame e) (e.base + place) o.done) (told e)
          (λ j. found (pos 0) j))

      pub evaluates_or : (at : ℕ) (q : Sides) → Branches b c w' at q → Evaluates x frame room z c d q.no w'' p next
          → (f : List Shape) → Closes room d f (record { yes = q.yes; no = w''; ended = q.ended }) u (leaf_way (leaf.Constant (pos 1))) (leaf_way (leaf.Convert vt.Truth))
          → Evaluates x frame room (expr.Or at y z) a f w u place next
      evaluates_or at q n i f k =
          let yes : Trial = leaf_way (leaf.Constant (pos 1)) in
          let no : Trial = λ e v o. tried (value_way x frame p z e v o) (leaf_way (leaf.Convert vt.Truth) e v) in
          evaluates_as (expr.Or at y z) (either at (value y) (value z)) a f w u place next
          (λ e v o. tried (value_way x frame place y e v o) (by_sides at yes no e v)) (worth-Or at y z)
          (two_rooms place _ _ p next h.after i.after)
          (reach_behind room a b f w w' u k.rest (value_way x frame place y) (by_sides at yes no) h.reach
          (k.closes b w'.going (by_way (takes at)) (λ e v o. tried (by_way (skips at) e v o) (value_way x frame p z e v)) (by_sides at yes no)
          (beside_as (λ e v o. tried (by_way (takes at) e v o) (yes e v)) (λ e v o. tried (by_way (takes at) e v o) (yes e v))
          (λ e v o. tried (by_way (skips at) e v o) (no e v))
          (λ e v o. tried (tried (by_way (skips at) e v o) (value_way x frame p z e v)) (leaf_way (leaf.Convert vt.Truth) e v)) (by_sides at yes no)
          (λ e v o. refl) (λ e v o. sym (assoc (by_way (skips at) e v o) (value_way x frame p z e v) (leaf_way (leaf.Convert vt.Truth) e v)))
          (beside_sides at yes no))
          (walks_grown room b c d i.reach.grows w'.going q.yes (by_way (takes at)) (n.yes room))
          (i.reach.reaches b w'.going (by_way (skips at)) (n.no room)))
          (k.ended ∙ ap (λ l. l ++ k.rest) n.ended) k.ready)
          (λ e v m r o.
          tried_same (value_way x frame place y e v o) (by_sides at yes no e v)
          (λ j. cond (is_zero (top j.operands)) (pushed (under j.operands) (told e (noted_at at side.No j).done))
          (pushed (under j.operands) (found (pos 1) (noted_at at side.Yes j).done)))
          (λ j. ap (λ t. cond (is_zero (top j.operands)) t (yes e v (noted_at at side.Yes j))) (told_pushed e v (noted_at at side.No j)))
          ∙ sides_pushed at x.log o.operands ((value {O = ℕ} y).run (level_at x e) (env_at frame e) (e.base + place) o.done)
          (λ j. found (pos 1) j) (told e))

  -- ---- three parts

  pub evaluates_choose : (at : ℕ) (s y z : Expr) (a b c d f g k : List Shape) (w w' y' z' u : Walked) (q r : Sides) (place p p' next : ℕ)
      → Evaluates x frame room s a b w w' place p → Branches b c w' at q → Evaluates x frame room y c d q.yes y' p p'
      → TurnsTo d f (record { yes = y'; no = q.no; ended = q.ended }) r → Evaluates x frame room z f g r.no z' p' next
      → Meets g k (record { yes = r.yes; no = z'; ended = r.ended }) u
      → Evaluates x frame room (expr.Choose at s y z) a k w u place next
  evaluates_choose at s y z a b c d f g k w w' y' z' u q r place p p' next h n i t j m =
      let yes : Trial = value_way x frame p y in
      let no : Trial = value_way x frame p' z in
      let sides : Sides = record { yes = r.yes; no = z'; ended = r.ended } in
      let waits : Walks room b f w'.going r.no (by_way (skips at)) =
      let P : Walked → Type 0 = λ l. Walks room b f w'.going l (by_way (skips at)) in
      subst P (sym t.no) (walks_grown room b d f t.grows w'.going q.no (by_way (skips at))
      (walks_grown room b c d i.reach.grows w'.going q.no (by_way (skips at)) (n.no room))) in
      evaluates_as (expr.Choose at s y z) (choose at (value s) (value y) (value z)) a k w u place next
      (λ e v o. tried (value_way x frame place s e v o) (by_sides at yes no e v)) (worth-Choose at s y z)
      (three_rooms place _ _ _ p p' next h.after i.after j.after)
      (reach_behind room a b k w w' u (r.yes.ended ++ z'.ended) (value_way x frame place s) (by_sides at yes no) h.reach
      (walks_met room b g k w'.going sides u (λ e v o. tried (by_way (takes at) e v o) (yes e v)) (λ e v o. tried (by_way (skips at) e v o) (no e v))
      (by_sides at yes no) m (beside_sides at yes no)
      (walks_grown room b f g j.reach.grows w'.going r.yes (λ e v o. tried (by_way (takes at) e v o) (yes e v))
      (walks_turned room b d f w'.going (record { yes = y'; no = q.no; ended = q.ended }) r (λ e v o. tried (by_way (takes at) e v o) (yes e v)) t
      (i.reach.reaches b w'.going (by_way (takes at)) (n.yes room))))
      (j.reach.reaches b w'.going (by_way (skips at)) waits))
      (m.ended ∙ ap (λ l. l ++ (r.yes.ended ++ z'.ended)) (t.ended ∙ n.ended)) m.ready)
      (λ e v _ _ o.
      tried_same (value_way x frame place s e v o) (by_sides at yes no e v)
      (λ l. cond (is_zero (top l.operands))
      (pushed (under l.operands) ((value {O = ℕ} z).run (level_at x e) (env_at frame e)
      (((e.base + place) + (value {O = ℕ} s).needs.room x.measures) + (value {O = ℕ} y).needs.room x.measures) (noted_at at side.No l).done))
      (pushed (under l.operands) ((value {O = ℕ} y).run (level_at x e) (env_at frame e)
      ((e.base + place) + (value {O = ℕ} s).needs.room x.measures) (noted_at at side.Yes l).done)))
      (λ l.
      ap (λ B. cond (is_zero (top l.operands))
      (pushed (under l.operands) ((value {O = ℕ} z).run (level_at x e) (env_at frame e) B (noted_at at side.No l).done)) (yes e v (noted_at at side.Yes l)))
      (farther e.base place _ _ p p' h.after i.after)
      ∙ ap (λ B. cond (is_zero (top l.operands))
      (pushed (under l.operands) ((value {O = ℕ} z).run (level_at x e) (env_at frame e)
      (((e.base + place) + (value {O = ℕ} s).needs.room x.measures) + (value {O = ℕ} y).needs.room x.measures) (noted_at at side.No l).done))
      (pushed (under l.operands) ((value {O = ℕ} y).run (level_at x e) (env_at frame e) B (noted_at at side.Yes l).done)))
      (further e.base place _ p h.after))
      ∙ sides_pushed at x.log o.operands ((value {O = ℕ} s).run (level_at x e) (env_at frame e) (e.base + place) o.done)
      (λ l. (value {O = ℕ} y).run (level_at x e) (env_at frame e) ((e.base + place) + (value {O = ℕ} s).needs.room x.measures) l)
      (λ l. (value {O = ℕ} z).run (level_at x e) (env_at frame e)
      (((e.base + place) + (value {O = ℕ} s).needs.room x.measures) + (value {O = ℕ} y).needs.room x.measures) l))
