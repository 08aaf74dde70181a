-- Items one behind the other, and the turns of loops.
use Rattle.std.proofs.Common.{◌≡◌, ◌<◌, ◌≤◌, ℕ, suc, ◌+◌, ◌-◌, ◌*◌, List, [], ◌∷◌, ◌++◌, Option, Some, None, drop, length, get_or, refl, sym, ap, ap₂, subst, ◌∙◌, arith, add-zero}
use Rattle.std.proofs.lemmas.List.{drop_more, drop_all}
use Rattle.std.specs.Prelude.{option_map, Result, IfOk}
use Rattle.path_forms.specs.declared.fault.WalkFault.{WalkFault}
use Rattle.c_means.specs.declared.kind.Kind.{Kind}
use Rattle.c_means.specs.declared.kind.Kind.TheVariants as k
use Rattle.c_means.specs.Items.{past_break, past_continue}
use Rattle.core_tree.specs.declared.code.Code.{Code}
use Rattle.core_tree.specs.declared.expr.Expr.{Expr}
use Rattle.core_tree.specs.States.{Done, Arrow, arrive, onward, running, where_running, one_of}
use Rattle.core_tree.specs.Values.{value}
use Rattle.core_tree.specs.Codes as form
use Rattle.core_tree.specs.Codes.{Item, code, left_at}
use Rattle.term_bank.specs.declared.shape.Shape.{Shape}
use Rattle.term_bank.specs.Values.{Environment, Grows}
use Rattle.term_bank.proofs.BankLemmas.{grows_on, stays}
use Rattle.path_states.specs.declared.state.State.{State}
use Rattle.path_states.specs.States.{Held, AreStates}
use Rattle.path_states.specs.Ways.{Goes, stay, to_list, ◌>>=◌}
use Rattle.path_steps.specs.declared.parting.Parted.{Parted}
use Rattle.path_steps.specs.Branches.{PartsAll}
use Rattle.path_arrows.specs.declared.sifting.Sifted.{Sifted}
use Rattle.path_arrows.specs.Arrows.{by_arrow, bared, Sifts}
use Rattle.path_forms.specs.declared.frame.Placed.{Placed}
use Rattle.path_forms.specs.Around.{Around, level_at, env_at}
use Rattle.path_rooms.specs.Rooms.{item_of, items_room, option_room, code_room, loop_room, repeat_room}
use Rattle.path_rooms.proofs.CodeCounts.{step_room}
use Rattle.path_states.proofs.Growth.{states_joined, states_grown}
use Rattle.path_codes.specs.declared.below.Coded.{Coded}
use Rattle.path_codes.specs.declared.below.Evaluated.{Evaluated}
use Rattle.path_codes.specs.Courses.{Splits, on_top}
use Rattle.path_codes.specs.Walks.{WalksItem, EvaluatesTo, TestsTo, TurnsTo, RoundsTo, item_arrow, test_arrow, turns_arrow, rounds_arrow, step_of}
use Rattle.path_codes.specs.Turns.{SequenceOn, TurnsOn}
use Rattle.path_codes.proofs.Courses.{arrows_then, arrows_as, splits_then, splits_on, splits_behind, splits_joined, splits_close, toward_next, toward_end}
use Rattle.path_codes.proofs.Pieces.{splits_sift, splits_running, where_it_runs, branched, splits_branch}
use Rattle.path_codes.proofs.Statements.{walks_by, goes_at}
use Rattle.path_forms.specs.Calling.{Stays}
use Rattle.path_forms.proofs.Started.{stays_on}

-- ---- items one behind the other

pub rest_of : {X : Type 0} (cs : List X) (i : ℕ) (x : X) → i < length cs → x ≡ get_or cs i x → drop i cs ≡ x ∷ drop (i + 1) cs
rest_of cs i x h is = drop_more cs i x h ∙ ap (λ y. y ∷ drop (i + 1) cs) (sym is)

pub none_left : {X : Type 0} (cs : List X) (i : ℕ) → length cs ≤ i → drop i cs ≡ []
none_left cs i h = drop_all i cs h

plus : (base place next n : ℕ) → next ≡ place + n → base + next ≡ (base + place) + n
plus base place next n h = omega (arith, h)

module _ (x : Around) (frame : List Placed) (room : ℕ) (begun : List Shape → Type 0) where
  pub sequence_start : (cs : List Code) (a : List Shape) (ss ts : List State) (place : ℕ) → Stays begun a
      → Goes room a a ss ts (by_arrow (λ e d. Some d)) → SequenceOn x frame room begun cs cs a a ss ts place place
  sequence_start cs a ss ts place g h = record {
    begun = g;
    states = h.states;
    rooms = refl;
    toward = record { arrow = λ e d. Some d; goes = h; leads = λ e d. refl };
  }

  pub sequence_next : (all rest cs : List Code) (c : Code) (a b d : List Shape) (ss ts : List State) (place next : ℕ) (y : Coded)
      → rest ≡ c ∷ cs → SequenceOn x frame room begun all rest a b ss ts place next
      → WalksItem x frame room (code c) b d ts next y → SequenceOn x frame room begun all cs a d ss y.states place y.next
  sequence_next all rest cs c a b d ss ts place next y is h i =
      by (subst (λ r. SequenceOn x frame room begun all r a b ss ts place next) is h)
    where
      counted : (place next n m all : ℕ) → y.next ≡ next + n → next + (n + m) ≡ place + all → y.next + m ≡ place + all
      counted place next n m all k l = omega (arith, k, l)

      same : (e : Environment) (q : Done ℕ)
          → onward (item_arrow x frame next (code c) e q) (item_arrow x frame y.next (item_of cs) e)
          ≡ item_arrow x frame next (item_of (c ∷ cs)) e q
      same e q =
          ap (λ p. onward (item_arrow x frame next (code c) e q) ((item_of cs).run (level_at x e) (env_at frame e) p))
          (plus e.base next y.next (code_room x.measures c) i.after)

      by : SequenceOn x frame room begun all (c ∷ cs) a b ss ts place next
          → SequenceOn x frame room begun all cs a d ss y.states place y.next
      by h = record {
        begun = stays_on h.begun i.grows;
        states = i.states;
        rooms = counted place next (code_room x.measures c) (items_room x.measures cs) (items_room x.measures all) i.after h.rooms;
        toward = toward_next room a b d ss ts y.states (item_arrow x frame next (code c)) (item_arrow x frame y.next (item_of cs))
            (item_arrow x frame next (item_of (c ∷ cs))) (item_arrow x frame place (item_of all)) h.toward same i.goes;
      }

  pub sequence_end : (all rest : List Code) (a b : List Shape) (ss ts : List State) (place next : ℕ) → rest ≡ []
      → SequenceOn x frame room begun all rest a b ss ts place next
      → WalksItem x frame room (item_of all) a b ss place (record { states = ts; next = next })
  sequence_end all rest a b ss ts place next is h =
      by (subst (λ r. SequenceOn x frame room begun all r a b ss ts place next) is h)
    where
      by : SequenceOn x frame room begun all [] a b ss ts place next
          → WalksItem x frame room (item_of all) a b ss place (record { states = ts; next = next })
      by h =
          walks_by room (item_arrow x frame place (item_of all)) (items_room x.measures all) a b ss ts place next
          (sym (add-zero next) ∙ h.rooms)
          (toward_end room a b ss ts (item_arrow x frame next (item_of [])) (item_arrow x frame place (item_of all)) h.toward
          (λ e d. refl))

-- ---- tests

module _ (x : Around) (frame : List Placed) (room at : ℕ) where
  pub tests_condition : (t : Expr) (a b c : List Shape) (ss ns : List State) (place : ℕ) (y : Evaluated) (p : Parted)
      → EvaluatesTo x frame room t a b ss place y → PartsAll b c y.on at p → Goes room c c p.no ns (by_arrow (λ e d. Some d))
      → TestsTo x frame room at (Some t) a c ss place (record { over = y.over ++ ns; on = p.yes; next = y.next })
  tests_condition t a b c ss ns place y p h i j = record {
    grows = grows_on h.grows i.grows;
    over = states_joined c y.over ns (states_grown i.grows y.over h.over) j.states;
    on = i.yes_states;
    after = h.after;
    splits = λ go.
        let ends : Environment → Arrow ℕ = λ e d. Some d in
        splits_then room a b c ss y.over y.on (on_top (branched at x.log go ends)) (by_arrow (λ e. running (test_arrow x frame place at (Some t) go e)))
        ns p.yes (by_arrow go) (h.splits (branched at x.log go ends)) (splits_branch room at x.log b c c y.on ns p go ends i j);
  }

  pub tests_none : (a : List Shape) (ss : List State) (place : ℕ) (p : Sifted) → Sifts a ss p
      → TestsTo x frame room at None a a ss place (record { over = p.others; on = p.running; next = place })
  tests_none a ss place p h = record {
    grows = stays;
    over = h.other_states;
    on = h.running_states;
    after = sym (add-zero place);
    splits = λ go. splits_sift room a ss p go h;
  }

pub tests_as : (x : Around) (frame : List Placed) (room at : ℕ) (t u : Option Expr) (a b : List Shape) (ss : List State) (place : ℕ)
    (r : Result Evaluated WalkFault) → t ≡ u → IfOk r (λ y. TestsTo x frame room at u a b ss place y)
    → IfOk r (λ y. TestsTo x frame room at t a b ss place y)
tests_as x frame room at t u a b ss place r is h =
    subst (λ w. IfOk r (λ y. TestsTo x frame room at w a b ss place y)) (sym is) h

-- ---- steps that only states take that are running

by_step : (kind : Kind) (r : Done ℕ) (o t : Option (Done ℕ)) (next : Arrow ℕ) → next r ≡ where_running kind t (Some r)
    → where_running kind (onward (where_running kind o (Some r)) next) (Some r) ≡ onward (where_running kind o (Some r)) next
by_step k.Running r o t next h = refl
by_step k.Breaking r o t next h = sym h
by_step k.Continuing r o t next h = sym h
by_step k.Returning r o t next h = sym h
by_step (k.Going label) r o t next h = sym h
by_step (k.Choosing value) r o t next h = sym h
by_step k.Defaulting r o t next h = sym h
by_step (k.Ended finish) r o t next h = sym h

twice : (kind : Kind) (r : Done ℕ) (o : Option (Done ℕ)) → where_running kind (where_running kind o (Some r)) (Some r) ≡ where_running kind o (Some r)
twice k.Running r o = refl
twice k.Breaking r o = refl
twice k.Continuing r o = refl
twice k.Returning r o = refl
twice (k.Going label) r o = refl
twice (k.Choosing value) r o = refl
twice k.Defaulting r o = refl
twice (k.Ended finish) r o = refl

step_passes : (x : Around) (e : Environment) (frame : List Placed) (step : Option Expr) (place : ℕ) (next : Arrow ℕ) (r : Done ℕ)
    → running (λ d. onward ((step_of step).run (level_at x e) (env_at frame e) place d) (running next)) r
    ≡ onward ((step_of step).run (level_at x e) (env_at frame e) place r) (running next)
step_passes x e frame None place next r = twice r.kind r (next r)
step_passes x e frame (Some t) place next r =
    by_step r.kind r (form.value_of (value t) (level_at x e) (env_at frame e) place r) (next r) (running next) refl

-- ---- a turn of a `while` or `for`

module _ (x : Around) (frame : List Placed) (room at : ℕ) (test : Option Expr) (body : Code) (step : Option Expr) where
  abbrev test_places : ℕ
  test_places = (form.test_needs {O = ℕ} (option_map value test)).room x.measures

  abbrev body_places : ℕ
  body_places = (code {O = ℕ} body).needs.room x.measures

  abbrev step_places : ℕ
  step_places = (step_of step).needs.room x.measures

  -- the body, the end of the turn, and the step
  abbrev inner : ℕ → Environment → Arrow ℕ
  inner place e d = onward
      (onward ((code body).run (level_at x e) (env_at frame e) ((e.base + place) + test_places) d) (λ r. Some (arrive past_continue r)))
      ((step_of step).run (level_at x e) (env_at frame e) ((e.base + place) + (test_places + body_places)))

  -- what a turn does whose test is true
  abbrev taken : ℕ → ℕ → Environment → Arrow ℕ
  taken left place e d = onward ((code body).run (level_at x e) (env_at frame e) ((e.base + place) + test_places) d)
      (λ r. running (λ r. onward ((step_of step).run (level_at x e) (env_at frame e) ((e.base + place) + (test_places + body_places)) r)
      (running (form.turns_from at (option_map value test) (code body) (step_of step) (level_at x e) (env_at frame e) left
      ((e.base + place) + (test_places + (body_places + step_places))))))
      (arrive past_continue r))

  goes_round : (o : Option (Done ℕ)) (s : Arrow ℕ) (go : Arrow ℕ)
      → ((r : Done ℕ) → running (λ d. onward (s d) (running go)) r ≡ onward (s r) (running go))
      → onward (onward (onward o (λ r. Some (arrive past_continue r))) s) (running go)
      ≡ onward o (λ r. running (λ d. onward (s d) (running go)) (arrive past_continue r))
  goes_round None s go h = refl
  goes_round (Some r) s go h = sym (h (arrive past_continue r))

  bare_on : (o : Option (Done ℕ)) (g : Arrow ℕ) → bared o >>= (λ h. bared (g h.done)) ≡ bared (onward o g)
  bare_on None g = refl
  bare_on (Some d) g = refl

  pub turns_to : (a b c d : List Shape) (ss there : List State) (place : ℕ) (y : Evaluated) (ran stepped : Coded)
      → TestsTo x frame room at test a b ss place y → WalksItem x frame room (code body) b c y.on y.next ran
      → Goes room c c ran.states there (by_arrow (λ e q. Some (arrive past_continue q)))
      → WalksItem x frame room (step_of step) c d there ran.next stepped
      → TurnsTo x frame room at test body step a d ss place (record { over = y.over; on = stepped.states; next = stepped.next })
  turns_to a b c d ss there place y ran stepped h i j l = record {
    grows = grows_on h.grows (grows_on i.grows l.grows);
    over = states_grown (grows_on i.grows l.grows) y.over h.over;
    on = l.states;
    splits = λ left.
        splits_on room a b d ss y.over y.on (by_arrow (taken left place))
        (by_arrow (λ e. running (turns_arrow x frame at test body step (suc left) place e)))
        stepped.states (by_arrow (inner place)) (by_arrow (λ e. running (turns_arrow x frame at test body step left stepped.next e)))
        (h.splits (taken left place)) (λ e v q. follows left e q.done) moves;
  } where
    sum : (place p q t b : ℕ) → p ≡ place + t → q ≡ p + b → q ≡ place + (t + b)
    sum place p q t b h i = omega (arith, h, i)

    last : (place p q r t b s : ℕ) → p ≡ place + t → q ≡ p + b → r ≡ q + s → r ≡ place + (t + (b + s))
    last place p q r t b s h i j = omega (arith, h, i, j)

    moves : Goes room b d y.on stepped.states (by_arrow (inner place))
    moves =
        arrows_then room b c d y.on there stepped.states
        (λ e q. onward ((code body).run (level_at x e) (env_at frame e) ((e.base + place) + test_places) q) (λ r. Some (arrive past_continue r)))
        (λ e. (step_of step).run (level_at x e) (env_at frame e) ((e.base + place) + (test_places + body_places)))
        (arrows_then room b c c y.on ran.states there
        (λ e. (code body).run (level_at x e) (env_at frame e) ((e.base + place) + test_places))
        (λ e q. Some (arrive past_continue q)) (goes_at x frame room (code body) b c y.on place y.next test_places ran h.after i) j)
        (goes_at x frame room (step_of step) c d there place ran.next (test_places + body_places) stepped
        (sum place y.next ran.next test_places body_places h.after i.after) l)

    follows : (left : ℕ) (e : Environment) (q : Done ℕ)
        → bared (inner place e q) >>= (λ h. bared (running (turns_arrow x frame at test body step left stepped.next e) h.done))
        ≡ bared (taken left place e q)
    follows left e q =
        bare_on (inner place e q) (running (turns_arrow x frame at test body step left stepped.next e))
        ∙ ap (λ p. bared (onward (inner place e q) (running (form.turns_from at (option_map value test) (code body) (step_of step)
        (level_at x e) (env_at frame e) left p))))
        (plus e.base place stepped.next (test_places + (body_places + step_places))
        (last place y.next ran.next stepped.next test_places body_places step_places h.after i.after l.after))
        ∙ ap bared (goes_round ((code body).run (level_at x e) (env_at frame e) ((e.base + place) + test_places) q)
        ((step_of step).run (level_at x e) (env_at frame e) ((e.base + place) + (test_places + body_places)))
        (form.turns_from at (option_map value test) (code body) (step_of step) (level_at x e) (env_at frame e) left
        ((e.base + place) + (test_places + (body_places + step_places))))
        (step_passes x e frame step ((e.base + place) + (test_places + body_places))
        (form.turns_from at (option_map value test) (code body) (step_of step) (level_at x e) (env_at frame e) left
        ((e.base + place) + (test_places + (body_places + step_places))))))

-- ---- a turn of a `do`

module _ (x : Around) (frame : List Placed) (room at : ℕ) (body : Code) (test : Expr) where
  abbrev done_places : ℕ
  done_places = (code {O = ℕ} body).needs.room x.measures

  abbrev asked_places : ℕ
  asked_places = (value {O = ℕ} test).needs.room x.measures

  abbrev done : ℕ → Environment → Arrow ℕ
  done place e d =
      onward ((code body).run (level_at x e) (env_at frame e) (e.base + place) d) (λ r. Some (arrive past_continue r))

  pub rounds_to : (a b c : List Shape) (ss there : List State) (place : ℕ) (ran : Coded) (y : Evaluated)
      → WalksItem x frame room (code body) a b ss place ran
      → Goes room b b ran.states there (by_arrow (λ e q. Some (arrive past_continue q)))
      → TestsTo x frame room at (Some test) b c there ran.next y → RoundsTo x frame room at body test a c ss place y
  rounds_to a b c ss there place ran y h i j = record {
    grows = grows_on h.grows j.grows;
    over = j.over;
    on = j.on;
    splits = λ left.
        splits_behind room a b c ss [] there
        (by_arrow (λ e. running (test_arrow x frame ran.next at (Some test) (rounds_arrow x frame at body test left y.next) e)))
        (by_arrow (rounds_arrow x frame at body test (suc left) place)) y.over y.on (by_arrow (done place))
        (by_arrow (rounds_arrow x frame at body test left y.next))
        (arrows_then room a b b ss ran.states there (item_arrow x frame place (code body)) (λ e q. Some (arrive past_continue q)) h.goes i)
        (j.splits (rounds_arrow x frame at body test left y.next)) (λ e v q. follows left e q.done);
  } where
    then_asked : (o : Option (Done ℕ)) (f : Arrow ℕ)
        → onward (onward o (λ r. Some (arrive past_continue r))) f ≡ onward o (λ r. f (arrive past_continue r))
    then_asked None f = refl
    then_asked (Some d) f = refl

    bare_on : (o : Option (Done ℕ)) (g : Arrow ℕ) → bared o >>= (λ h. bared (g h.done)) ≡ bared (onward o g)
    bare_on None g = refl
    bare_on (Some d) g = refl

    sum : (place p q b t : ℕ) → p ≡ place + b → q ≡ p + t → q ≡ place + (b + t)
    sum place p q b t h i = omega (arith, h, i)

    go_on : Arrow ℕ
    go_on d = Some d

    asks : ℕ → Environment → ℕ → ℕ → Arrow ℕ
    asks left e p q = running (form.tested at (Some (value test)) (level_at x e) (env_at frame e) p
        (λ b. one_of b (form.rounds_from at (code body) (value test) (level_at x e) (env_at frame e) left q) go_on))

    follows : (left : ℕ) (e : Environment) (d : Done ℕ)
        → bared (done place e d)
        >>= (λ h. bared (running (test_arrow x frame ran.next at (Some test) (rounds_arrow x frame at body test left y.next) e) h.done))
        ≡ bared (rounds_arrow x frame at body test (suc left) place e d)
    follows left e d =
        bare_on (done place e d) (asks left e (e.base + ran.next) (e.base + y.next))
        ∙ ap₂ (λ p q. bared (onward (done place e d) (asks left e p q)))
        (plus e.base place ran.next done_places h.after)
        (plus e.base place y.next (done_places + asked_places) (sum place ran.next y.next done_places asked_places h.after j.after))
        ∙ ap bared (then_asked ((code body).run (level_at x e) (env_at frame e) (e.base + place) d)
        (asks left e ((e.base + place) + done_places) ((e.base + place) + (done_places + asked_places))))

-- ---- all turns

pub goes_nowhere : (room : ℕ) (a : List Shape) (ss : List State) → Goes room a a ss [] (λ e v h. None)
goes_nowhere room a ss = record {
  grows = stays;
  states = tt;
  stands = λ e v m r o j s. none o;
  sized = λ e v m r h s. tt;
} where
  none : (o : Option Held) → ◌≡◌ {A = List Held} [] (to_list (o >>= (λ h. None)))
  none None = refl
  none (Some h) = refl

module _ (room : ℕ) (start : List Shape → Type 0) (a : List Shape) (ss : List State) where
  pub turns_start : (ts : List State) (whole : Environment → Arrow ℕ) → Stays start a
      → Goes room a a ss ts (by_arrow (λ e d. Some d)) → TurnsOn room start a a ss [] ts whole whole
  turns_start ts whole g h = record {
    begun = g;
    over = tt;
    on = h.states;
    splits = record {
      over_way = λ e v x. None;
      on_way = by_arrow (λ e d. Some d);
      over = goes_nowhere room a ss;
      on = h;
      leads = λ e v x. refl;
    };
  }

  pub turns_next : (b c d : List Shape) (over on over2 on2 ts : List State) (rest rest2 whole : Environment → Arrow ℕ)
      → TurnsOn room start a b ss over on rest whole → Splits room b c on over2 on2 (by_arrow rest2) (by_arrow rest)
      → AreStates c on2 → Goes room c d (over ++ over2) ts stay → TurnsOn room start a d ss ts on2 rest2 whole
  turns_next b c d over on over2 on2 ts rest rest2 whole h i are j = record {
    begun = stays_on h.begun (grows_on i.over.grows j.grows);
    over = j.states;
    on = states_grown j.grows on2 are;
    splits = splits_joined room a c d ss (over ++ over2) on2 (by_arrow rest2) (by_arrow whole) ts
        (splits_then room a b c ss over on (by_arrow rest) (by_arrow whole) over2 on2 (by_arrow rest2) h.splits i) are j;
  }

one_less : (left : ℕ) → 0 < left → suc (left - 1) ≡ left
one_less left h = omega arith

module _ (x : Around) (frame : List Placed) (room at : ℕ) (test : Option Expr) (body : Code) (step : Option Expr)
    (start : List Shape → Type 0) (a : List Shape) (ss : List State) where
  abbrev goes_on : ℕ → ℕ → Environment → Arrow ℕ
  goes_on left place e = running (turns_arrow x frame at test body step left place e)

  pub turn_next : (b c d : List Shape) (over on ts : List State) (left next : ℕ) (y : Evaluated) (whole : Environment → Arrow ℕ)
      → 0 < left → TurnsOn room start a b ss over on (goes_on left next) whole
      → TurnsTo x frame room at test body step b c on next y → Goes room c d (over ++ y.over) ts stay
      → TurnsOn room start a d ss ts y.on (goes_on (left - 1) y.next) whole
  turn_next b c d over on ts left next y whole some h i j =
      let P : ℕ → Type 0 = λ n. Splits room b c on y.over y.on (by_arrow (goes_on (left - 1) y.next)) (by_arrow (goes_on n next)) in
      turns_next room start a ss b c d over on y.over y.on ts (goes_on left next) (goes_on (left - 1) y.next) whole h
      (subst P (one_less left some) (i.splits (left - 1))) i.on j

  pub turns_done : (b c d : List Shape) (over on gone ts : List State) (left next : ℕ) (y : Evaluated) (whole : Environment → Arrow ℕ)
      → left ≡ 0 → TurnsOn room start a b ss over on (goes_on left next) whole
      → TestsTo x frame room at test b c on next y → Goes room c c y.on gone (by_arrow (λ e. left_at at))
      → Goes room c d ((over ++ y.over) ++ gone) ts stay → Goes room a d ss ts (by_arrow whole)
  turns_done b c d over on gone ts left next y whole none h i j l =
      let P : ℕ → Type 0 = λ n. Splits room a b ss over on (by_arrow (goes_on n next)) (by_arrow whole) in
      splits_close room a c c d ss (over ++ y.over) y.on gone ts (by_arrow (λ e. left_at at)) (by_arrow whole)
      (splits_then room a b c ss over on (by_arrow (goes_on 0 next)) (by_arrow whole) y.over y.on (by_arrow (λ e. left_at at))
      (subst P none h.splits) (i.splits (λ e. left_at at))) j l

module _ (x : Around) (frame : List Placed) (room at : ℕ) (body : Code) (test : Expr) (start : List Shape → Type 0) (a : List Shape) (ss : List State) where
  pub round_next : (b c d : List Shape) (over on ts : List State) (left next : ℕ) (y : Evaluated) (whole : Environment → Arrow ℕ)
      → 0 < left → TurnsOn room start a b ss over on (rounds_arrow x frame at body test left next) whole
      → RoundsTo x frame room at body test b c on next y → Goes room c d (over ++ y.over) ts stay
      → TurnsOn room start a d ss ts y.on (rounds_arrow x frame at body test (left - 1) y.next) whole
  round_next b c d over on ts left next y whole some h i j =
      let P : ℕ → Type 0 = λ n. Splits room b c on y.over y.on (by_arrow (rounds_arrow x frame at body test (left - 1) y.next))
      (by_arrow (rounds_arrow x frame at body test n next)) in
      turns_next room start a ss b c d over on y.over y.on ts (rounds_arrow x frame at body test left next)
      (rounds_arrow x frame at body test (left - 1) y.next) whole h (subst P (one_less left some) (i.splits (left - 1))) i.on j

  pub rounds_done : (b c : List Shape) (over on gone ts : List State) (left next : ℕ) (whole : Environment → Arrow ℕ)
      → left ≡ 0 → TurnsOn room start a b ss over on (rounds_arrow x frame at body test left next) whole
      → Goes room b b on gone (by_arrow (λ e. left_at at)) → Goes room b c (over ++ gone) ts stay → Goes room a c ss ts (by_arrow whole)
  rounds_done b c over on gone ts left next whole none h i j =
      let P : ℕ → Type 0 = λ n. Splits room a b ss over on (by_arrow (rounds_arrow x frame at body test n next)) (by_arrow whole) in
      splits_close room a b b c ss over on gone ts (by_arrow (λ e. left_at at)) (by_arrow whole) (subst P none h.splits) i j

-- ---- a loop, entered by states that are running, and what `break` leaves

module _ (x : Around) (frame : List Placed) (room : ℕ) where
  walks_turned : (i : Item ℕ) (turn : Environment → Arrow ℕ) (a b c : List Shape) (ss ran there ts : List State) (place next : ℕ)
      (p : Sifted) (g : Environment → Arrow ℕ)
      → ((e : Environment) (d : Done ℕ) → item_arrow x frame place i e d ≡ running (λ q. form.broken_out (turn e q)) d)
      → next ≡ place + i.needs.room x.measures → Sifts a ss p
      → ((e : Environment) (d : Done ℕ) → d.kind ≡ k.Running → g e d ≡ turn e d)
      → Goes room a b p.running ran (by_arrow g) → Goes room b b ran there (by_arrow (λ e d. Some (arrive past_break d)))
      → Goes room b c (p.others ++ there) ts stay → WalksItem x frame room i a c ss place (record { states = ts; next = next })
  walks_turned i turn a b c ss ran there ts place next p g is after h same goes broken joined =
      let breaks : Environment → Arrow ℕ = λ e d. onward (g e d) (λ r. Some (arrive past_break r)) in
      let all : Environment → Arrow ℕ = λ e q. form.broken_out (turn e q) in
      walks_by room (item_arrow x frame place i) (i.needs.room x.measures) a c ss ts place next after
      (arrows_as room a c ss ts (λ e. running (all e)) (item_arrow x frame place i) (λ e d. sym (is e d))
      (splits_close room a a b c ss p.others p.running there ts (by_arrow breaks) (by_arrow (λ e. running (all e)))
      (splits_running room a ss p breaks all h (λ e d runs. ap (λ o. onward o (λ r. Some (arrive past_break r))) (same e d runs)))
      (arrows_then room a b b p.running ran there g (λ e d. Some (arrive past_break d)) goes broken) joined))

  pub walks_looped : (at : ℕ) (test step : Option Expr) (body : Code) (a b c : List Shape) (ss ran there ts : List State)
      (place next : ℕ) (p : Sifted) → next ≡ place + loop_room x.measures test body step → Sifts a ss p
      → Goes room a b p.running ran (by_arrow (λ e. running (turns_arrow x frame at test body step x.measures.turns place e)))
      → Goes room b b ran there (by_arrow (λ e d. Some (arrive past_break d))) → Goes room b c (p.others ++ there) ts stay
      → WalksItem x frame room (form.looped at (option_map value test) (option_map value step) (code body)) a c ss place
      (record { states = ts; next = next })
  walks_looped at test step body a b c ss ran there ts place next p after h goes broken joined =
      walks_turned (form.looped at (option_map value test) (option_map value step) (code body))
      (turns_arrow x frame at test body step x.measures.turns place) a b c ss ran there ts place next p
      (λ e. running (turns_arrow x frame at test body step x.measures.turns place e)) (λ e d. refl)
      (after ∙ ap (λ n. place + (x.measures.turns + 1) * (option_room x.measures test + (code_room x.measures body + n)))
      (sym (step_room x.measures step))) h
      (λ e d runs. where_it_runs d (turns_arrow x frame at test body step x.measures.turns place e) runs) goes broken joined

  pub walks_repeated : (at : ℕ) (test : Expr) (body : Code) (a b c : List Shape) (ss ran there ts : List State)
      (place next : ℕ) (p : Sifted) → next ≡ place + repeat_room x.measures body test → Sifts a ss p
      → Goes room a b p.running ran (by_arrow (rounds_arrow x frame at body test x.measures.turns place))
      → Goes room b b ran there (by_arrow (λ e d. Some (arrive past_break d))) → Goes room b c (p.others ++ there) ts stay
      → WalksItem x frame room (form.repeated at (code body) (value test)) a c ss place (record { states = ts; next = next })
  walks_repeated at test body a b c ss ran there ts place next p after h goes broken joined =
      walks_turned (form.repeated at (code body) (value test)) (rounds_arrow x frame at body test x.measures.turns place)
      a b c ss ran there ts place next p (rounds_arrow x frame at body test x.measures.turns place) (λ e d. refl) after h
      (λ e d runs. refl) goes broken joined
