-- What holds code holds the forms over it.
use Rattle.std.proofs.Common.{◌≡◌, ◌+◌, ℕ, zero, suc, ℤ, Bool, true, false, cond, List, [], ◌∷◌, Option, Some, None, refl, sym, subst, ◌∙◌}
use Rattle.std.specs.Prelude.{map}
use Rattle.plain_data.specs.declared.run.Finish.TheVariants as finish
use Rattle.plain_data.specs.declared.run.Happening.TheVariants as happening
use Rattle.c_means.specs.declared.kind.Kind.{Kind}
use Rattle.c_means.specs.declared.kind.Kind.TheVariants as k
use Rattle.c_means.specs.Parts.{Env}
use Rattle.c_means.specs.Items.{Made, known, past_break, past_continue, past_switch}
use Rattle.core_tree.specs.declared.types.WordType.{WordType}
use Rattle.core_tree.specs.Codes.{Item, acting, nothing, followed, in_turn, lived, evaluated, value_of, jump, returns, return_of, block, arrived, if_of, if_runs, is_among, chosen, chosen_at, switch_of, switch_runs}
use Rattle.core_tree.specs.Numbers.{wrapped}
use Rattle.core_tree.specs.States.{along, Done, Acts, Arrow, Taking, Needs, Measures, onward, running, arrive, become, with_value, on_branch, one_of, note, born, dead, meet, with_store}
use Rattle.core_tree.specs.Values.{Value}
use Rattle.positions.specs.Sets.{has}
use Rattle.log_expr.specs.declared.flow.Flow.{Flow}
use Rattle.log_expr.specs.CodeWalks.{CoversActs}
use Rattle.log_expr.specs.Courses.{only_running, only_choosing, but_running, jumps}
use Rattle.log_expr.specs.Covers.{Whole, Pair, one, two, FlowAlike, CoversValue, CoversCode}
use Rattle.log_expr.specs.Flows.{Wider, place, Holds, Arrives, unchanged}
use Rattle.log_expr.specs.Tables.{Known}
use Rattle.log_expr.proofs.FlowWays.{flow_wider, flow_here, through, arriving, held_as, holds_as, where_it_runs, no_more_running, only_held, with_found, branching}

module _ (log : List ℕ) where
  pub born_out : (ms : List Made) (d : Done ℕ) → (born (along log) ms d).out ≡ d.out
  born_out [] d = refl
  born_out (m ∷ ms) d = born_out ms _

  pub born_kind : (ms : List Made) (d : Done ℕ) → (born (along log) ms d).kind ≡ d.kind
  born_kind [] d = refl
  born_kind (m ∷ ms) d = born_kind ms _

pub dead_out : (ms : List Made) (d : Done ℕ) → (dead ms d).out ≡ d.out
dead_out [] d = refl
dead_out (m ∷ ms) d = dead_out ms _

pub dead_kind : (ms : List Made) (d : Done ℕ) → (dead ms d).kind ≡ d.kind
dead_kind [] d = refl
dead_kind (m ∷ ms) d = dead_kind ms _

-- a flow holds what stands at one place
pub holds_same : (s : Flow) (d e : Done ℕ) → e.kind ≡ d.kind → e.out ≡ d.out → Holds s d → Holds s e
holds_same s d e p q h =
    subst (λ z. has (place s z) e.out ≡ true) (sym p) (subst (λ n. has (place s d.kind) n ≡ true) (sym q) h)

module _ (w : Whole) (turns : ℕ) (t : Known) where
  pub code_wider : (x : Item ℕ) (s u v : Flow) → Arrives unchanged u v → CoversCode w turns t x s u → CoversCode w turns t x s v
  code_wider x s u v g c = record { alike = λ p env base d h. flow_wider u v _ _ g (c.alike p env base d h) }

  pub code_narrower : (x : Item ℕ) (r s u : Flow) → Arrives unchanged r s → CoversCode w turns t x s u → CoversCode w turns t x r u
  code_narrower x r s u g c = record { alike = λ p env base d h. c.alike p env base d (g d.kind d.out h) }

  pub acts_running : (f : Acts ℕ) (s u : Flow) → Arrives unchanged (but_running s) u → CoversActs w turns t f (only_running s.running) u
      → CoversActs w turns t (λ l env base. running (f l env base)) s u
  acts_running f s u x c = record {
    alike = λ p env base d h. where_it_runs s u (f (one w turns p) env base) (f (two w turns p) env base) d h x
        (λ e m. c.alike p env base d (holds_as (only_running s.running) d k.Running e m));
  }

  pub covers_acting : (needs : Needs) (f : Acts ℕ) (s u : Flow) → Arrives unchanged (but_running s) u → CoversActs w turns t f (only_running s.running) u
      → CoversCode w turns t (acting needs f) s u
  covers_acting needs f s u x c = record { alike = λ p env base d h. (acts_running f s u x c).alike p env base d h }

  -- ---- items one behind the other

  pub covers_nothing : (s u : Flow) → Arrives unchanged s u → CoversCode w turns t nothing s u
  covers_nothing s u x = record { alike = λ p env base d h. flow_here u d (x d.kind d.out h) }

  pub covers_followed : (x y : Item ℕ) (s m u : Flow) → CoversCode w turns t x s m → CoversCode w turns t y m u → CoversCode w turns t (followed x y) s u
  covers_followed x y s m u c e = record {
    alike = λ p env base d h. through m u (x.run (one w turns p) env base d) (x.run (two w turns p) env base d)
        (y.run (one w turns p) env (base + x.needs.room (one w turns p).measures)) (y.run (two w turns p) env (base + x.needs.room (two w turns p).measures))
        (c.alike p env base d h) (λ d i. e.alike p env (base + x.needs.room (one w turns p).measures) d i);
  }

  pub covers_lived : (x : Item ℕ) (s u : Flow) → CoversCode w turns t x s u → CoversActs w turns t (lived x) s u
  covers_lived x s u c = record {
    alike = λ p env base d h.
        let ms : List Made = x.objects (one w turns p).measures base in
        let b : Done ℕ = born (along w.log) ms d in
        through u u (x.run (one w turns p) (known ms env) base b) (x.run (two w turns p) (known ms env) base b) (λ r. Some (dead ms r)) (λ r. Some (dead ms r))
        (c.alike p (known ms env) base b (holds_same s d b (born_kind w.log ms d) (born_out w.log ms d) h))
        (λ r i. flow_here u (dead ms r) (holds_same u r (dead ms r) (dead_kind ms r) (dead_out ms r) i));
  }

  pub covers_block : (is_node : Bool) (xs : List (Item ℕ)) (s u : Flow) → Arrives unchanged (but_running s) u → CoversCode w turns t (in_turn xs) (only_running s.running) u
      → CoversCode w turns t (block is_node xs) s u
  covers_block is_node xs s u x c = covers_acting _ (lived (in_turn xs)) s u x (covers_lived (in_turn xs) (only_running s.running) u c)

  -- ---- steps

  -- the expression's value goes into what is done behind it
  pub covers_with : (v : Value ℕ) (g : (p : Pair t) (env : Env) (base : ℕ) → ℤ → Arrow ℕ) (from mid ended : List ℕ) (u : Flow) → CoversValue w turns t v from mid ended → Wider ended u.ended
      → ((p : Pair t) (env : Env) (base : ℕ) (z : ℤ) (d : Done ℕ) → d.kind ≡ k.Running → has mid d.out ≡ true → FlowAlike u (g p env base z d) (g p env base z d))
      → (p : Pair t) (env : Env) (base : ℕ) (d : Done ℕ) → Holds (only_running from) d
      → FlowAlike u (with_value (v.run (one w turns p) env base d) (g p env base)) (with_value (v.run (two w turns p) env base d) (g p env base))
  covers_with v g from mid ended u c e n p env base d h =
      let r = only_held from d h in
      with_found mid ended u _ _ (g p env base) (g p env base) (c.alike p env base d r.0 r.1) e (n p env base)

  pub covers_evaluated : (is_node : Bool) (v : Value ℕ) (s u : Flow) (mid ended : List ℕ) → CoversValue w turns t v s.running mid ended → Wider mid u.running → Wider ended u.ended
      → Arrives unchanged (but_running s) u → CoversCode w turns t (evaluated is_node v) s u
  covers_evaluated is_node v s u mid ended c m e x = covers_acting _ (value_of v) s u x (record {
    alike = covers_with v (λ p env base z d. Some d) s.running mid ended u c e (λ p env base z d r i. flow_here u d (holds_as u d k.Running r (m d.out i)));
  })

  pub covers_jump : (kind : Kind) (s u : Flow) → Arrives (jumps kind) s u → CoversCode w turns t (jump kind) s u
  covers_jump kind s u x = covers_acting _ (λ l env base d. Some (become kind d)) s u (no_more_running kind s u x) (record {
    alike = λ p env base d h. flow_here u (become kind d) (x k.Running d.out (only_held s.running d h).1);
  })

  pub covers_return : (v : Value ℕ) (s u : Flow) (mid ended : List ℕ) → CoversValue w turns t v s.running mid ended → Wider mid u.returning → Wider ended u.ended
      → Arrives unchanged (but_running s) u → CoversCode w turns t (return_of (Some v)) s u
  covers_return v s u mid ended c m e x = covers_acting _ (returns v) s u x (record {
    alike = covers_with v (λ p env base z d. Some (record d { kind = k.Returning; value = Some z })) s.running mid ended u c e (λ p env base z d r i. record { same = refl; is = m d.out i });
  })

  pub covers_arrived : (f : Kind → Kind) (more : Measures → ℕ) (x : Item ℕ) (s m u : Flow) → Arrives f s m → CoversCode w turns t x m u → CoversCode w turns t (arrived f more x) s u
  covers_arrived f more x s m u a c = record { alike = λ p env base d h. c.alike p env base (arrive f d) (a d.kind d.out h) }

  -- ---- selection

  pub covers_if : (at : ℕ) (c : Value ℕ) (x y : Item ℕ) (s u : Flow) (mid ended : List ℕ) → CoversValue w turns t c s.running mid ended → Wider ended u.ended
      → CoversCode w turns t x (only_running mid) u → CoversCode w turns t y (only_running mid) u → Arrives unchanged (but_running s) u → CoversCode w turns t (if_of at c x y) s u
  covers_if at c x y s u mid ended cc' e cx cy g = covers_acting _ (if_runs at c x y) s u g (record {
    alike = λ p env base d h.
        let r = only_held s.running d h in
        let l = one w turns p in
        let l' = two w turns p in
        let left : ℕ = base + c.needs.room l.measures in
        let right : ℕ = base + (c.needs.room l.measures + x.needs.room l.measures) in
        with_found mid ended u _ _
        (λ v. on_branch (along w.log) at v (λ b. one_of b (x.run l env left) (y.run l env right)))
        (λ v. on_branch (along w.log) at v (λ b. one_of b (x.run l' env left) (y.run l' env right)))
        (cc'.alike p env base d r.0 r.1) e
        (λ v d q m. branching w.log at v u (λ b. one_of b (x.run l env left) (y.run l env right)) (λ b. one_of b (x.run l' env left) (y.run l' env right)) d q
        (λ b i n o. side p env left right b i (holds_as (only_running mid) i k.Running n (subst (λ z. has mid z ≡ true) (sym o) m))));
  })
    where
      side : (p : Pair t) (env : Env) (left right : ℕ) (b : Bool) (i : Done ℕ) → Holds (only_running mid) i
          → FlowAlike u (one_of b (x.run (one w turns p) env left) (y.run (one w turns p) env right) i) (one_of b (x.run (two w turns p) env left) (y.run (two w turns p) env right) i)
      side p env left right true i h = cx.alike p env left i h
      side p env left right false i h = cy.alike p env right i h

  pub covers_switch : (at : ℕ) (word : WordType) (cases : List ℤ) (c : Value ℕ) (is_node : Bool) (xs : List (Item ℕ)) (s m u : Flow) (mid ended : List ℕ) → CoversValue w turns t c s.running mid ended → Wider ended u.ended
      → CoversCode w turns t (in_turn xs) (only_choosing mid) m → Arrives past_switch m u → Arrives unchanged (but_running s) u → CoversCode w turns t (switch_of at word cases c is_node xs) s u
  covers_switch at word cases c is_node xs s m u mid ended cc' e cx a g = covers_acting _ (switch_runs at word cases c (in_turn xs)) s u g (record {
    alike = λ p env base d h.
        let r = only_held s.running d h in
        let l = one w turns p in
        let l' = two w turns p in
        let b : ℕ = base + c.needs.room l.measures in
        with_found mid ended u _ _
        (λ v d. onward (lived (in_turn xs) l env b (chosen_at (along w.log) at cases (wrapped word v) d)) (λ r. Some (arrive past_switch r)))
        (λ v d. onward (lived (in_turn xs) l' env b (chosen_at (along w.log) at cases (wrapped word v) d)) (λ r. Some (arrive past_switch r)))
        (cc'.alike p env base d r.0 r.1) e
        (λ v d q i. arriving past_switch m u _ _ a
        ((covers_lived (in_turn xs) (only_choosing mid) m cx).alike p env b (chosen_at (along w.log) at cases (wrapped word v) d) (chosen_held v d i (is_among (wrapped word v) cases))));
  })
    where
      chosen_held : (v : ℤ) (d : Done ℕ) → has mid d.out ≡ true → (b : Bool) → has (place (only_choosing mid) (cond b (k.Choosing (wrapped word v)) k.Defaulting)) d.out ≡ true
      chosen_held v d i true = i
      chosen_held v d i false = i
