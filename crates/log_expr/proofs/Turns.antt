-- Loops, turn by turn.
use Rattle.std.proofs.Common.{◌≡◌, ◌+◌, ◌<◌, ◌⊎◌, inl, inr, ℕ, zero, suc, ℤ, Bool, true, false, List, [], ◌∷◌, Option, Some, None, refl, sym, ap, subst, ◌∙◌, arith}
use Rattle.plain_data.specs.declared.run.Finish.TheVariants as finish
use Rattle.c_means.specs.declared.kind.Kind.{Kind}
use Rattle.c_means.specs.declared.kind.Kind.TheVariants as k
use Rattle.c_means.specs.Parts.{Env}
use Rattle.c_means.specs.Items.{past_break, past_continue}
use Rattle.core_tree.specs.Codes.{Item, left_at, tested, test_needs, turn_needs, turns_from, broken_out, looped, rounds_from, repeated, maybe_evaluated}
use Rattle.core_tree.specs.States.{along, Done, Acts, Arrow, Level, onward, running, stay, arrive, finished, on_branch, one_of}
use Rattle.core_tree.specs.Values.{Value}
use Rattle.positions.specs.Sets.{has}
use Rattle.log_expr.specs.declared.course.Course.{Course}
use Rattle.log_expr.specs.declared.flow.Flow.{Flow}
use Rattle.log_expr.specs.declared.table.Entry.{Entry}
use Rattle.log_expr.specs.Below.{Site, Extends}
use Rattle.log_expr.specs.CodeWalks.{CoversActs, CoversTest}
use Rattle.log_expr.specs.Courses.{only_running, but_running, turned, BeginsTurn}
use Rattle.log_expr.specs.Covers.{Whole, Pair, one, two, FlowAlike, CoversValue, CoversCode}
use Rattle.log_expr.specs.Flows.{Wider, place, Holds, Arrives, unchanged}
use Rattle.log_expr.specs.Tables.{Known, known_at, Grows}
use Rattle.log_expr.proofs.CodeForms.{covers_acting}
use Rattle.log_expr.proofs.FlowWays.{arrives_then, flow_here, through, arriving, holds_as, where_it_runs, only_held, with_found, branching}
use Rattle.log_expr.proofs.Growing.{extends_then, extends_same}

-- where a run stands in a loop, of where it stands behind
abbrev pub unbroken : Flow → Flow
unbroken u = record u { breaking = u.running }

unbroken_ends : (u : Flow) → Arrives past_break (unbroken u) u
unbroken_ends u k.Running y m = m
unbroken_ends u k.Breaking y m = m
unbroken_ends u k.Continuing y m = m
unbroken_ends u k.Returning y m = m
unbroken_ends u (k.Going l) y m = m
unbroken_ends u (k.Choosing z) y m = m
unbroken_ends u k.Defaulting y m = m
unbroken_ends u (k.Ended f) y m = m

turned_passes : (next : List ℕ) (u : Flow) → Arrives unchanged (but_running (turned next u)) (unbroken u)
turned_passes next u k.Running y m = absurd cc
turned_passes next u k.Breaking y m = m
turned_passes next u k.Continuing y m = m
turned_passes next u k.Returning y m = m
turned_passes next u (k.Going l) y m = m
turned_passes next u (k.Choosing z) y m = m
turned_passes next u k.Defaulting y m = m
turned_passes next u (k.Ended f) y m = m

pub turned_wider : (next : List ℕ) (u v : Flow) → Arrives unchanged u v → Arrives unchanged (turned next u) (turned next v)
turned_wider next u v x k.Running y m = m
turned_wider next u v x k.Breaking y m = x k.Running y m
turned_wider next u v x k.Continuing y m = x k.Continuing y m
turned_wider next u v x k.Returning y m = x k.Returning y m
turned_wider next u v x (k.Going l) y m = x (k.Going l) y m
turned_wider next u v x (k.Choosing z) y m = x (k.Choosing z) y m
turned_wider next u v x k.Defaulting y m = x k.Defaulting y m
turned_wider next u v x (k.Ended f) y m = x (k.Ended f) y m

pub only_wider : (xs ys : List ℕ) → Wider xs ys → Arrives unchanged (only_running xs) (only_running ys)
only_wider xs ys x k.Running y m = x y m
only_wider xs ys x k.Breaking y m = m
only_wider xs ys x k.Continuing y m = m
only_wider xs ys x k.Returning y m = m
only_wider xs ys x (k.Going l) y m = m
only_wider xs ys x (k.Choosing z) y m = m
only_wider xs ys x k.Defaulting y m = m
only_wider xs ys x (k.Ended f) y m = m

-- behind an expression runs are running, or have ended
pub ended_passes : (xs ys : List ℕ) (u : Flow) → Wider ys u.ended → Arrives unchanged (but_running (record (only_running xs) { ended = ys })) (unbroken u)
ended_passes xs ys u x k.Running y m = absurd cc
ended_passes xs ys u x k.Breaking y m = absurd cc
ended_passes xs ys u x k.Continuing y m = absurd cc
ended_passes xs ys u x k.Returning y m = absurd cc
ended_passes xs ys u x (k.Going l) y m = absurd cc
ended_passes xs ys u x (k.Choosing z) y m = absurd cc
ended_passes xs ys u x k.Defaulting y m = absurd cc
ended_passes xs ys u x (k.Ended f) y m = x y m

pub ended_wider : (u v : Flow) → Arrives unchanged u v → Wider u.ended v.ended
ended_wider u v x = x (k.Ended (finish.Left 0))

abbrev pub while_of : ℕ → Option (Value ℕ) → Item ℕ → Item ℕ → ℕ → Acts ℕ
while_of at test body step n l env base = turns_from at test body step l env n base

abbrev pub do_of : ℕ → Item ℕ → Value ℕ → ℕ → Acts ℕ
do_of at body test n l env base = rounds_from at body test l env n base

module _ (w : Whole) (turns : ℕ) (t : Known) where
  pub acts_narrower : (f : Acts ℕ) (r s u : Flow) → Arrives unchanged r s → CoversActs w turns t f s u → CoversActs w turns t f r u
  acts_narrower f r s u g c = record { alike = λ p env base d h. c.alike p env base d (g d.kind d.out h) }

  -- ---- tests

  pub test_none : (from to : List ℕ) (u : Flow) → Wider from to → CoversTest w turns t None from to u
  test_none from to u x = record { alike = λ p env base d r m at v f g e a b. a d r (x d.out m) }

  pub test_some : (c : Value ℕ) (from to ended : List ℕ) (u : Flow) → CoversValue w turns t c from to ended → Wider to u.running → Wider ended u.ended → CoversTest w turns t (Some c) from to u
  test_some c from to ended u cc' x y = record {
    alike = λ p env base d r m at v f g e a b.
        with_found to ended v _ _ (λ z. on_branch (along w.log) at z f) (λ z. on_branch (along w.log) at z g) (cc'.alike p env base d r m) (λ n i. e n (y n i))
        (λ z i q j. branching w.log at z v f g i q
        (λ s o n h. side s o n (subst (λ z. has to z ≡ true) (sym h) j) v f g a b));
  }
    where
      side : (s : Bool) (o : Done ℕ) → o.kind ≡ k.Running → has to o.out ≡ true → (v : Flow) (f g : Bool → Arrow ℕ)
          → ((e : Done ℕ) → e.kind ≡ k.Running → has to e.out ≡ true → FlowAlike v (f true e) (g true e))
          → ((e : Done ℕ) → e.kind ≡ k.Running → has u.running e.out ≡ true → FlowAlike v (f false e) (g false e))
          → FlowAlike v (f s o) (g s o)
      side true o n j v f g a b = a o n j
      side false o n j v f g a b = b o n (x o.out j)

  pub test_wider : (c : Option (Value ℕ)) (from to : List ℕ) (u v : Flow) → Arrives unchanged u v → CoversTest w turns t c from to u → CoversTest w turns t c from to v
  test_wider c from to u v x h = record {
    alike = λ p env base d r m at y f g e a b. h.alike p env base d r m at y f g (λ n i. e n (ended_wider u v x n i)) a (λ i q j. b i q (x k.Running i.out j));
  }

  -- ---- `while` and `for`

  module _ (at : ℕ) (c : Option (Value ℕ)) (body step : Item ℕ) (from mid : List ℕ) (u : Flow) (test : CoversTest w turns t c from mid u) where
    pub last_turn : Wider mid u.ended → CoversActs w turns t (while_of at c body step 0) (only_running from) (unbroken u)
    last_turn x = record {
      alike = λ p env base d h.
          let r = only_held from d h in
          test.alike p env base d r.0 r.1 at (unbroken u) (λ b. one_of b (left_at at) stay) (λ b. one_of b (left_at at) stay) (λ n i. i)
          (λ e q m. flow_here (unbroken u) (finished (finish.Left at) e) (x e.out m))
          (λ e q m. flow_here (unbroken u) e (holds_as (unbroken u) e k.Running q m));
    }

    pub more_turns : (b z : Flow) (next : List ℕ) (n : ℕ) → CoversCode w turns t body (only_running mid) b → Arrives past_continue b (turned next u) → CoversCode w turns t step (only_running next) z
        → Arrives unchanged (but_running z) (unbroken u) → CoversActs w turns t (while_of at c body step n) (only_running z.running) (unbroken u)
        → CoversActs w turns t (while_of at c body step (suc n)) (only_running from) (unbroken u)
    more_turns b z next n cb held cs passes more = record {
      alike = λ p env base d h.
          let r = only_held from d h in
          let l = one w turns p in
          let l' = two w turns p in
          let first : ℕ = base + (test_needs c).room l.measures in
          let second : ℕ = base + ((test_needs c).room l.measures + body.needs.room l.measures) in
          let third : ℕ = base + (turn_needs c body step).room l.measures in
          let on : Arrow ℕ = λ r. onward (step.run l env second r) (running (turns_from at c body step l env n third)) in
          let on' : Arrow ℕ = λ r. onward (step.run l' env second r) (running (turns_from at c body step l' env n third)) in
          test.alike p env base d r.0 r.1 at (unbroken u)
          (λ b. one_of b (λ d. onward (body.run l env first d) (λ r. running on (arrive past_continue r))) stay)
          (λ b. one_of b (λ d. onward (body.run l' env first d) (λ r. running on' (arrive past_continue r))) stay)
          (λ n i. i)
          (λ e q m. through b (unbroken u) (body.run l env first e) (body.run l' env first e) (λ r. running on (arrive past_continue r)) (λ r. running on' (arrive past_continue r))
          (cb.alike p env first e (holds_as (only_running mid) e k.Running q m))
          (λ i g. where_it_runs (turned next u) (unbroken u) on on' (arrive past_continue i) (held i.kind i.out g) (turned_passes next u)
          (λ f o. through z (unbroken u) (step.run l env second (arrive past_continue i)) (step.run l' env second (arrive past_continue i))
          (running (turns_from at c body step l env n third)) (running (turns_from at c body step l' env n third))
          (cs.alike p env second (arrive past_continue i) (holds_as (only_running next) (arrive past_continue i) k.Running f o))
          (λ j a. where_it_runs z (unbroken u) (turns_from at c body step l env n third) (turns_from at c body step l' env n third) j a passes
          (λ f o. more.alike p env third j (holds_as (only_running z.running) j k.Running f o))))))
          (λ e q m. flow_here (unbroken u) e (holds_as (unbroken u) e k.Running q m));
    }

  -- ---- `do`

  pub last_round : (at : ℕ) (body : Item ℕ) (c : Value ℕ) (from : List ℕ) (u : Flow) → Wider from u.ended → CoversActs w turns t (do_of at body c 0) (only_running from) (unbroken u)
  last_round at body c from u x = record { alike = λ p env base d h. flow_here (unbroken u) (finished (finish.Left at) d) (x d.out (only_held from d h).1) }

  pub more_rounds : (at : ℕ) (body : Item ℕ) (c : Value ℕ) (from : List ℕ) (u b : Flow) (next to : List ℕ) (n : ℕ) → CoversCode w turns t body (only_running from) b → Arrives past_continue b (turned next u)
      → CoversTest w turns t (Some c) next to u → CoversActs w turns t (do_of at body c n) (only_running to) (unbroken u) → CoversActs w turns t (do_of at body c (suc n)) (only_running from) (unbroken u)
  more_rounds at body c from u b next to n cb held test more = record {
    alike = λ p env base d h.
        let l = one w turns p in
        let l' = two w turns p in
        let second : ℕ = base + body.needs.room l.measures in
        let third : ℕ = base + (body.needs.room l.measures + c.needs.room l.measures) in
        let go : Bool → Arrow ℕ = λ b. one_of b (rounds_from at body c l env n third) stay in
        let go' : Bool → Arrow ℕ = λ b. one_of b (rounds_from at body c l' env n third) stay in
        through b (unbroken u) (body.run l env base d) (body.run l' env base d)
        (λ r. running (tested at (Some c) l env second go) (arrive past_continue r)) (λ r. running (tested at (Some c) l' env second go') (arrive past_continue r))
        (cb.alike p env base d h)
        (λ i g. where_it_runs (turned next u) (unbroken u) (tested at (Some c) l env second go) (tested at (Some c) l' env second go') (arrive past_continue i) (held i.kind i.out g) (turned_passes next u)
        (λ f o. test.alike p env second (arrive past_continue i) f o at (unbroken u) go go' (λ n i. i)
        (λ e q m. more.alike p env third e (holds_as (only_running to) e k.Running q m))
        (λ e q m. flow_here (unbroken u) e (holds_as (unbroken u) e k.Running q m))));
  }

  -- ---- the whole

  pub covers_looped : (at : ℕ) (c after : Option (Value ℕ)) (body : Item ℕ) (s u : Flow) → CoversActs w turns t (while_of at c body (maybe_evaluated after) turns) (only_running s.running) (unbroken u)
      → Arrives unchanged (but_running s) u → CoversCode w turns t (looped at c after body) s u
  covers_looped at c after body s u h x =
      let f : Acts ℕ = λ l env base d. broken_out (turns_from at c body (maybe_evaluated after) l env l.measures.turns base d) in
      covers_acting w turns t _ f s u x (record { alike = λ p env base d g. arriving past_break (unbroken u) u _ _ (unbroken_ends u) (h.alike p env base d g) })

  pub covers_repeated : (at : ℕ) (body : Item ℕ) (c : Value ℕ) (s u : Flow) → CoversActs w turns t (do_of at body c turns) (only_running s.running) (unbroken u)
      → Arrives unchanged (but_running s) u → CoversCode w turns t (repeated at body c) s u
  covers_repeated at body c s u h x =
      let f : Acts ℕ = λ l env base d. broken_out (rounds_from at body c l env l.measures.turns base d) in
      covers_acting w turns t _ f s u x (record { alike = λ p env base d g. arriving past_break (unbroken u) u _ _ (unbroken_ends u) (h.alike p env base d g) })

-- ---- turns in order

module _ (x : Site) (loop : ℕ → Acts ℕ) where
  abbrev Rows : Type 0
  Rows = List (List Entry)

  abbrev pub Turns : Rows → ℕ → List ℕ → Flow → Type 0
  Turns rows n from u = CoversActs x.whole x.turns (known_at rows x.left) (loop n) (only_running from) (unbroken u)

  -- the turns that are left lead on from where turns begin, whatever holds where they lead
  pub record LoopLeads (rows rows' : Rows) (turns left : ℕ) (old now : Course) : Type 0 where
    pub extends_ : Extends x.whole rows rows'
    pub at : now.at ≡ only_running now.starts
    pub outer : now.outer ≡ old.outer
    pub passing : Arrives unchanged old.passing now.passing
    pub leads : (last : Rows) (u : Flow) → Grows rows' last → Arrives unchanged now.passing u → Turns last left now.starts u → Turns last turns old.starts u

  -- from where turns begin a turn leads to where the next one begins
  abbrev pub IsTurn : Rows → Course → List ℕ → Flow → Type 0
  IsTurn rows now next passing = (last : Rows) (u : Flow) → Grows rows last → Arrives unchanged passing u → (n : ℕ) → Turns last n next u → Turns last (suc n) now.starts u

  pub loop_start : (rows : Rows) (turns : ℕ) (now : Course) → now.at ≡ only_running now.starts → LoopLeads rows rows turns turns now now
  loop_start rows turns now e = record { extends_ = extends_same x.whole rows; at = e; outer = refl; passing = λ kind y m. m; leads = λ last u g a h. h }

  pub loop_more : (rows mid rows' : Rows) (turns left n left' : ℕ) (old now walked new : Course) → LoopLeads rows mid turns left old now → left ≡ suc n → Extends x.whole mid rows'
      → walked.outer ≡ now.outer → walked.starts ≡ now.starts → Arrives unchanged now.passing walked.passing → IsTurn rows' now walked.at.running new.passing
      → BeginsTurn n walked new left' → LoopLeads rows rows' turns left' old new
  loop_more rows mid rows' turns left n left' old now walked new l e g o s a turn b = record {
    extends_ = extends_then x.whole rows mid rows' l.extends_ g;
    at = b.at;
    outer = b.outer ∙ o ∙ l.outer;
    passing = arrives_then old.passing now.passing new.passing l.passing now_new;
    leads = λ last u gr ar h. l.leads last u (λ f d i e m. gr f d i e (g.grows f d i e m)) (arrives_then now.passing new.passing u now_new ar) (subst (λ j. Turns last j now.starts u) (sym e) (left_over last u gr ar h b.again));
  }
    where
      now_new : Arrives unchanged now.passing new.passing
      now_new = arrives_then now.passing walked.passing new.passing a b.passing

      starts_in : Wider now.starts new.starts
      starts_in y m = b.kept y (subst (λ z. has z y ≡ true) (sym s) m)

      narrower : (last : Rows) (u : Flow) (j : ℕ) (from from' : List ℕ) → Wider from' from → Turns last j from u → Turns last j from' u
      narrower last u j from from' y h = acts_narrower x.whole x.turns (known_at last x.left) (loop j) (only_running from') (only_running from) (unbroken u) (only_wider from' from y) h

      -- where turns begin nowhere else, as many as one likes lead there
      closed : (last : Rows) (u : Flow) → Grows rows' last → Arrives unchanged new.passing u → Turns last 0 new.starts u → Wider new.starts now.starts → (j : ℕ) → Turns last j new.starts u
      closed last u gr ar h y zero = h
      closed last u gr ar h y (suc j) = narrower last u (suc j) now.starts new.starts y (turn last u gr ar j (narrower last u j new.starts walked.at.running b.next (closed last u gr ar h y j)))

      left_over : (last : Rows) (u : Flow) → Grows rows' last → Arrives unchanged new.passing u → Turns last left' new.starts u → (left' ≡ n) ⊎ ((left' ≡ 0) × Wider new.starts walked.starts) → Turns last (suc n) now.starts u
      left_over last u gr ar h (inl q) = turn last u gr ar n (narrower last u n new.starts walked.at.running b.next (subst (λ j. Turns last j new.starts u) q h))
      left_over last u gr ar h (inr q) =
          narrower last u (suc n) new.starts now.starts starts_in
          (closed last u gr ar (subst (λ j. Turns last j new.starts u) q.0 h) (λ y m. subst (λ z. has z y ≡ true) s (q.1 y m)) (suc n))
