-- The case of a `switch` that a value takes.
use Rattle.std.proofs.Common.{◌≡◌, ℕ, ◌+◌, ℤ, List, [], ◌∷◌, ◌++◌, Bool, true, false, not, cond, Option, Some, None, map, refl, sym, ap, subst, ◌∙◌, arith, append_assoc}
use Rattle.std.specs.Prelude.{Ok, Err, int_lt, ◌||◌}
use Rattle.plain_data.specs.declared.run.Happening.TheVariants as happening
use Rattle.plain_data.specs.declared.run.Side.{Side}
use Rattle.plain_data.specs.declared.run.Side.TheVariants as side
use Rattle.plain_data.specs.Words.{word}
use Rattle.plain_data.proofs.WordLaws.{word_below}
use Rattle.c_language.specs.Integers.{is_zero, number_of}
use Rattle.c_language.specs.Operators.{Answer}
use Rattle.c_means.specs.declared.kind.Kind.{Kind}
use Rattle.c_means.specs.declared.kind.Kind.TheVariants as k
use Rattle.c_means.specs.Items.{same, past_switch}
use Rattle.core_tree.specs.declared.code.Code.{Code}
use Rattle.core_tree.specs.declared.expr.Expr.{Expr}
use Rattle.core_tree.specs.declared.types.Arithmetic.TheVariants as o
use Rattle.core_tree.specs.declared.types.WordType.{WordType}
use Rattle.core_tree.specs.Numbers.{wrapped, worked, is_in, value_of_word}
use Rattle.core_tree.specs.States.{Done, Arrow, along, note, become, arrive, onward}
use Rattle.core_tree.specs.Values.{value}
use Rattle.core_tree.specs.Codes as form
use Rattle.core_tree.specs.Codes.{code, lived, is_among, chosen_at}
use Rattle.term_bank.specs.declared.sort.Sort.TheVariants as sort
use Rattle.term_bank.specs.declared.sort.Node.{Node}
use Rattle.term_bank.specs.declared.shape.Shape.{Shape}
use Rattle.term_bank.specs.Terms.{IsTerm}
use Rattle.term_bank.specs.Values.{Environment, Values, Models, Grows}
use Rattle.term_bank.proofs.BankLemmas.{weaken, stays, grows_on}
use Rattle.term_bank.proofs.TermLemmas.{term_grown}
use Rattle.path_states.specs.declared.state.Number.{Number}
use Rattle.path_states.specs.declared.state.State.{State}
use Rattle.path_states.specs.States.{Held, IsNumber, IsState, AreStates, run_in, done_in, number_in, onto, standing}
use Rattle.path_states.specs.Ways.{Goes, Halves, stay, ◌>>=◌}
use Rattle.path_states.proofs.Growth.{number_grown, state_grown, states_grown, states_joined, standing_joined}
use Rattle.path_states.proofs.Paths.{goes_none, goes_more, goes_then, goes_as}
use Rattle.path_numbers.specs.declared.tested.Fault.{Fault}
use Rattle.path_numbers.specs.declared.tested.Tested.{Tested}
use Rattle.path_numbers.specs.Answers.{Numbered, Truthful, Answers, failing}
use Rattle.path_numbers.proofs.Nodes.{value_of_in}
use Rattle.path_numbers.proofs.WordSums.{wrapped_is, word_of_value}
use Rattle.path_steps.specs.Operands.{Pops, top}
use Rattle.path_steps.proofs.Trials.{done_same}
use Rattle.path_arrows.specs.Arrows.{bare, bared, by_arrow}
use Rattle.path_forms.specs.declared.frame.Placed.{Placed}
use Rattle.path_forms.specs.Around.{Around, level_at, env_at}
use Rattle.path_rooms.specs.Rooms.{item_of, items_room}
use Rattle.path_codes.specs.declared.below.Coded.{Coded}
use Rattle.path_codes.specs.declared.below.Evaluated.{Evaluated}
use Rattle.path_codes.specs.Courses.{on_top}
use Rattle.path_codes.specs.Selecting.{Tells, SelectsCase, Selects, SelectsOne, SelectsAll, IsOnItsWay, looks, selects}
use Rattle.path_codes.specs.Walks.{WalksItem, WalksLived, EvaluatesTo, item_arrow, lived_arrow}
use Rattle.path_codes.proofs.Courses.{splits_close}
use Rattle.path_codes.proofs.Statements.{walks_by}

-- ---- a number compared with a case

same_true : (y z : ℤ) → same y z ≡ true → y ≡ z
same_true y z h = grind (arith, h)

compared : (y z : ℤ) → not (int_lt y z || int_lt z y) ≡ same y z
compared y z = grind arith

told : (b : Bool) → not (is_zero (number_of b)) ≡ b
told true = refl
told false = refl

answered : (v : Values) (f g : Option Fault) (x y : ℤ) → failing v f (failing v g (Ok x)) ≡ Ok y → x ≡ y
answered v None None x y h = ok h
  where
    ok : ◌≡◌ {A = Answer} (Ok x) (Ok y) → x ≡ y
    ok e = cc
answered v None (Some g) x y h = by (v g.truth.index).truth h
  where
    by : (c : Bool) → ◌≡◌ {A = Answer} (cond c (Err g.kind) (Ok x)) (Ok y) → x ≡ y
    by true e = absurd (cc)
    by false e = cc
answered v (Some f) None x y h = by (v f.truth.index).truth h
  where
    by : (c : Bool) → ◌≡◌ {A = Answer} (cond c (Err f.kind) (Ok x)) (Ok y) → x ≡ y
    by true e = absurd (cc)
    by false e = cc
answered v (Some f) (Some g) x y h = by (v f.truth.index).truth (v g.truth.index).truth h
  where
    by : (c d : Bool) → ◌≡◌ {A = Answer} (cond c (Err f.kind) (cond d (Err g.kind) (Ok x))) (Ok y) → x ≡ y
    by true d e = absurd (cc)
    by false true e = absurd (cc)
    by false false e = cc

twice : (t : WordType) (z : ℤ) → wrapped t (wrapped t z) ≡ wrapped t z
twice t z =
    wrapped_is t (wrapped t z) ∙ ap (λ y. value_of_word t (word t.width y)) (wrapped_is t z)
    ∙ ap (value_of_word t) (word_of_value t.is_signed t.width (word t.width z) (word_below t.width z)) ∙ sym (wrapped_is t z)

pub tells_case : (a b c d : List Shape) (t : WordType) (x label : Number) (tested : Tested) (n : Node) (z : ℤ) → is_in t z ≡ true
    → Numbered a b label (λ v. z) → Answers b c tested (λ v. worked o.Equal t (number_in v x) (number_in v label))
    → Truthful c d n (λ v. not (is_zero (number_in v tested.number))) → Tells a d n t x z
tells_case a b c d t x label tested n z inside h i j = record {
  grows = grows_on h.grows (grows_on i.grows j.grows);
  term = j.term;
  is = λ e v m w x_is.
      let mc = weaken j.grows m in
      let label_is : number_in v label ≡ z = h.is e v (weaken i.grows mc) in
      let differ : ℤ → ℤ → Bool = λ p q. not (int_lt p q || int_lt q p) in
      let own : wrapped t z ≡ z = wrapped_is t z ∙ value_of_in t z inside in
      j.is e v m
      ∙ ap (λ y. not (is_zero y)) (answered v tested.first tested.second (number_in v tested.number)
      (number_of (differ (wrapped t (number_in v x)) (wrapped t (number_in v label)))) (i.is e v mc))
      ∙ told (differ (wrapped t (number_in v x)) (wrapped t (number_in v label)))
      ∙ ap (λ p. differ (wrapped t p) (wrapped t (number_in v label))) x_is
      ∙ ap (λ p. differ p (wrapped t (number_in v label))) (twice t w)
      ∙ ap (λ q. differ (wrapped t w) (wrapped t q)) label_is
      ∙ ap (λ q. differ (wrapped t w) q) own
      ∙ compared (wrapped t w) z;
}

-- ---- one state

module _ (a b : List Shape) (s t : State) (guard : Node) (kind : Kind) (at : ℕ) (side : Side) (h : IsOnItsWay a b s guard kind at side t) where
  way_state : IsState a s → IsTerm a sort.Truth guard → IsState b t
  way_state is g =
      let now = state_grown h.happened.grows s is in
      subst (λ (u : State). IsState b u) (sym h.is) (record {
        guard = term_grown a b _ guard h.happened.grows g;
        kind = tt;
        memory = now.memory;
        value = now.value;
        events = h.happened.term;
        operands = tt;
      })

  way_guard : (v : Values) → (v t.guard.index).truth ≡ (v guard.index).truth
  way_guard v = ap (λ (u : State). (v u.guard.index).truth) h.is

  way_run : (e : Environment) (v : Values) → Models b e v
      → run_in v t ≡ bare (become kind (note (along []) (happening.Branch at side) (done_in v s)))
  way_run e v m = ap (λ (u : State). run_in v u) h.is ∙ ap (λ l. bare (record (done_in v s) { kind = kind; events = l })) (h.happened.is e v m)

pub guarded_state : (a b : List Shape) (s : State) (n : Node) → Grows a b → IsState a s → IsTerm b sort.Truth n
    → IsState b (record s { guard = n })
guarded_state a b s n g is h =
    let now = state_grown g s is in
    record { guard = h; kind = now.kind; memory = now.memory; value = now.value; events = now.events; operands = now.operands }

one_more : (v : Values) (before : List State) (t : State) (h : Held) → run_in v t ≡ h
    → standing v (before ++ t ∷ []) ≡ standing v before ++ cond (v t.guard.index).truth (h ∷ []) []
one_more v before t h is =
    standing_joined v before (t ∷ []) ∙ ap (λ r. standing v before ++ cond (v t.guard.index).truth (r ∷ []) []) is

either_way : (g c : Bool) (q r : Bool) (here rest all : Held) → q ≡ cond g c false → r ≡ cond g (not c) false
    → (c ≡ true → here ≡ all) → (c ≡ false → rest ≡ all)
    → cond q (here ∷ []) [] ++ cond r (rest ∷ []) [] ≡ cond g (all ∷ []) []
either_way true true q r here rest all h i j l = rw (h, i) (ap (λ x. x ∷ []) (j refl))
either_way true false q r here rest all h i j l = rw (h, i) (ap (λ x. x ∷ []) (l refl))
either_way false c q r here rest all h i j l = rw (h, i) refl

found : (at : ℕ) (z case : ℤ) (rest : List ℤ) (d : Done ℕ) → same z case ≡ true
    → bare (become (k.Choosing case) (note (along []) (happening.Branch at (side.Case case)) d)) ≡ bare (looks at (case ∷ rest) z d)
found at z case rest d h =
    ap (λ y. bare (become (k.Choosing y) (note (along []) (happening.Branch at (side.Case y)) d))) (sym (same_true z case h))
    ∙ ap (λ b. bare (become (cond (b || is_among z rest) (k.Choosing z) k.Defaulting)
    (note (along []) (happening.Branch at (cond (b || is_among z rest) (side.Case z) side.Otherwise)) d))) (sym h)

passed_by : (at : ℕ) (z case : ℤ) (rest : List ℤ) (d : Done ℕ) → same z case ≡ false
    → bare (looks at rest z d) ≡ bare (looks at (case ∷ rest) z d)
passed_by at z case rest d h =
    ap (λ b. bare (become (cond (b || is_among z rest) (k.Choosing z) k.Defaulting)
    (note (along []) (happening.Branch at (cond (b || is_among z rest) (side.Case z) side.Otherwise)) d))) (sym h)

module _ (at : ℕ) (t : WordType) (x : Number) (s : State) where
  pub selects_last : (a b : List Shape) (before : List State) (last : State) → IsState a s → AreStates a before
      → IsOnItsWay a b s s.guard k.Defaulting at side.Otherwise last → Selects a b at t x [] s before (before ++ last ∷ [])
  selects_last a b before last is are h =
      let g = h.happened.grows in
      record {
        grows = g;
        states = states_joined b before (last ∷ []) (states_grown g before are)
            (way_state a b s last s.guard k.Defaulting at side.Otherwise h is is.guard, tt);
        stands = λ e v m w is.
            one_more v before last (bare (looks at [] (wrapped t w) (done_in v s)))
            (way_run a b s last s.guard k.Defaulting at side.Otherwise h e v m)
            ∙ ap (λ (q : Bool). standing v before ++ cond q (bare (looks at [] (wrapped t w) (done_in v s)) ∷ []) [])
            (way_guard a b s last s.guard k.Defaulting at side.Otherwise h v);
      }

  pub selects_next : (a b c d f : List Shape) (before after : List State) (case : ℤ) (rest : List ℤ) (same_is one other : Node) (here : State)
      → Tells a b same_is t x case → Halves b c s.guard same_is one other
      → IsOnItsWay c d s one (k.Choosing case) at (side.Case case) here
      → Selects d f at t x rest (record s { guard = other }) (before ++ here ∷ []) after
      → Selects a f at t x (case ∷ rest) s before after
  selects_next a b c d f before after case rest same_is one other here h i j l = record {
    grows = grows_on h.grows (grows_on i.grows (grows_on j.happened.grows l.grows));
    states = l.states;
    stands = λ e v m w is.
        let md = weaken l.grows m in
        let mc = weaken j.happened.grows md in
        let mb = weaken i.grows mc in
        let z = wrapped t w in
        let taken = bare (become (k.Choosing case) (note (along []) (happening.Branch at (side.Case case)) (done_in v s))) in
        let left = bare (looks at rest z (done_in v s)) in
        l.stands e v m w is
        ∙ ap (λ l. l ++ cond (v other.index).truth (left ∷ []) [])
        (one_more v before here taken (way_run c d s here one (k.Choosing case) at (side.Case case) j e v md)
        ∙ ap (λ (q : Bool). standing v before ++ cond q (taken ∷ []) [])
        (way_guard c d s here one (k.Choosing case) at (side.Case case) j v))
        ∙ append_assoc (standing v before) (cond (v one.index).truth (taken ∷ []) []) (cond (v other.index).truth (left ∷ []) [])
        ∙ ap (λ l. standing v before ++ l)
        (either_way (v s.guard.index).truth (v same_is.index).truth (v one.index).truth (v other.index).truth taken left
        (bare (looks at (case ∷ rest) z (done_in v s))) (i.yes_is e v mc) (i.no_is e v mc)
        (λ so. found at z case rest (done_in v s) (sym (h.is e v mb w is) ∙ so))
        (λ so. passed_by at z case rest (done_in v s) (sym (h.is e v mb w is) ∙ so)));
  }

pub selects_case : (at : ℕ) (t : WordType) (x : Number) (s : State) (a b c d : List Shape) (before : List State) (case : ℤ)
    (same_is one other : Node) (here : State) → IsState a s → IsNumber a x → AreStates a before
    → Tells a b same_is t x case → Halves b c s.guard same_is one other
    → IsOnItsWay c d s one (k.Choosing case) at (side.Case case) here
    → SelectsCase a d at t x case s before (before ++ here ∷ []) (record s { guard = other })
selects_case at t x s a b c d before case same_is one other here is number are h i j =
    let cd = j.happened.grows in
    let ac = grows_on h.grows i.grows in
    let g = grows_on ac cd in
    record {
      grows = g;
      state = guarded_state a d s other g is (term_grown c d _ other cd i.no_term);
      number = number_grown g x number;
      states = states_joined d before (here ∷ []) (states_grown g before are)
          (way_state c d s here one (k.Choosing case) at (side.Case case) j (state_grown ac s is) i.yes_term, tt);
      next = λ f rest after l. selects_next at t x s a b c d f before after case rest same_is one other here h i j l;
    }

-- ---- states

pub selects_popped : (a b c d : List Shape) (at : ℕ) (t : WordType) (cases : List ℤ) (s u : State) (y x : Number) (ts : List State)
    → Pops a b s u y → Numbered b c x (λ v. wrapped t (number_in v y)) → Selects c d at t x cases u [] ts → SelectsOne a d at t cases s ts
selects_popped a b c d at t cases s u y x ts h i j = record {
  steps = λ room. record {
    grows = grows_on h.grows (grows_on i.grows j.grows);
    states = j.states;
    stands = λ e v m r k.
        let mc = weaken j.grows m in
        let mb = weaken i.grows mc in
        j.stands e v m (number_in v y) (i.is e v mc)
        ∙ ap (λ (q : State). cond (v q.guard.index).truth (bare (looks at cases (wrapped t (number_in v y)) (done_in v u)) ∷ []) []) h.same
        ∙ ap (λ z. cond (v s.guard.index).truth (bare (looks at cases (wrapped t z) (done_in v u)) ∷ []) []) (h.is e v mb)
        ∙ ap (λ (q : Done ℕ). cond (v s.guard.index).truth (bare (looks at cases (wrapped t (top (onto v [] s.operands))) q) ∷ []) [])
        (done_same v s u h.same);
    sized = λ e v m r q k. k;
  };
}

pub selects_none : (a : List Shape) (at : ℕ) (t : WordType) (cases : List ℤ) → SelectsAll a a at t cases [] []
selects_none a at t cases = record {
  grows = stays;
  states = tt;
  goes = λ room. goes_none room a (on_top (selects at t cases)) (λ e v m r h k. k);
}

pub selects_more : (a b c : List Shape) (at : ℕ) (t : WordType) (cases : List ℤ) (ss ts us : List State) (s : State)
    → SelectsAll a b at t cases ss ts → SelectsOne b c at t cases s us → SelectsAll a c at t cases (ss ++ s ∷ []) (ts ++ us)
selects_more a b c at t cases ss ts us s h i =
    let g = (i.steps 0).grows in
    record {
      grows = grows_on h.grows g;
      states = states_joined c ts us (states_grown g ts h.states) (i.steps 0).states;
      goes = λ room. goes_more room a b c ss ts us s (on_top (selects at t cases)) (h.goes room) (i.steps room);
    }

-- ---- the statement

module _ (x : Around) (frame : List Placed) (room at : ℕ) (t : WordType) (cases : List ℤ) (e : Expr) (cs : List Code) where
  pub walks_switch : (is_node : Bool) (a b c d f : List Shape) (ss us there ts : List State) (place : ℕ) (y : Evaluated) (ran : Coded)
      → EvaluatesTo x frame room e a b ss place y → SelectsAll b c at t cases y.on us → WalksLived x frame room cs c d us y.next ran
      → Goes room d d ran.states there (by_arrow (λ e q. Some (arrive past_switch q))) → Goes room d f (y.over ++ there) ts stay
      → WalksItem x frame room (form.switch_of at t cases (value e) is_node (map code cs)) a f ss place (record { states = ts; next = ran.next })
  walks_switch is_node a b c d f ss us there ts place y ran h i j l m =
      let whole = item_arrow x frame place (form.switch_of at t cases (value e) is_node (map code cs)) in
      walks_by room whole (first + items_room x.measures cs) a f ss ts place ran.next
      (counted place y.next ran.next first (items_room x.measures cs) h.after j.after)
      (splits_close room a b d f ss y.over y.on there ts (on_top inside) (by_arrow whole) (h.splits inside) goes m)
    where
      first : ℕ
      first = (value {O = ℕ} e).needs.room x.measures

      counted : (place p q n k : ℕ) → p ≡ place + n → q ≡ p + k → q ≡ place + (n + k)
      counted place p q n k h i = omega (arith, h, i)

      plus : (base place p n : ℕ) → p ≡ place + n → base + p ≡ (base + place) + n
      plus base place p n h = omega (arith, h)

      body : Environment → ℕ → Arrow ℕ
      body env p = lived (item_of cs) (level_at x env) (env_at frame env) p

      inside : Environment → ℤ → Arrow ℕ
      inside env z q = onward (body env ((env.base + place) + first) (chosen_at (along x.log) at cases (wrapped t z) q))
          (λ r. Some (arrive past_switch r))

      bare_on : (o : Option (Done ℕ)) (g : Arrow ℕ) → bared o >>= (λ h. bared (g h.done)) ≡ bared (onward o g)
      bare_on None g = refl
      bare_on (Some d) g = refl

      goes : Goes room b d y.on there (on_top inside)
      goes =
          goes_as room b d y.on there
          (λ env v q. (on_top (selects at t cases) env v q >>= by_arrow (lived_arrow x frame y.next cs) env v) >>= by_arrow (λ _ r. Some (arrive past_switch r)) env v)
          (on_top inside)
          (λ env v q.
          bare_on (body env (env.base + y.next) (looks at cases (wrapped t (top q.operands)) q.done)) (λ r. Some (arrive past_switch r))
          ∙ ap (λ p. bared (onward (body env p (looks at cases (wrapped t (top q.operands)) q.done)) (λ r. Some (arrive past_switch r))))
          (plus env.base place y.next first h.after))
          (goes_then room b d d y.on ran.states there
          (λ env v q. on_top (selects at t cases) env v q >>= by_arrow (lived_arrow x frame y.next cs) env v)
          (by_arrow (λ _ r. Some (arrive past_switch r)))
          (goes_then room b c d y.on us ran.states (on_top (selects at t cases)) (by_arrow (lived_arrow x frame y.next cs)) (i.goes room) j.goes) l)
