-- Calls of a level: by summaries, where no run makes them, and where no level is left.
use Rattle.std.proofs.Common.{◌≡◌, ℕ, zero, suc, ℤ, ◌+◌, ◌<◌, ◌≤◌, List, [], ◌∷◌, length, Bool, true, false, cond, Option, Some, None, refl, sym, ap, subst, ◌∙◌, arith, append-nil}
use Rattle.std.specs.Prelude.{slice_get, Err}
use Rattle.plain_data.specs.declared.run.Event.{Event}
use Rattle.plain_data.specs.declared.run.Finish.TheVariants as finish
use Rattle.c_means.specs.declared.kind.Kind.TheVariants as k
use Rattle.c_means.specs.Parts.{World}
use Rattle.c_store.specs.Store.{Store}
use Rattle.core_tree.specs.declared.expr.Callee.TheVariants as callee
use Rattle.core_tree.specs.declared.program.Function.{Function}
use Rattle.core_tree.specs.Callees.{body_call}
use Rattle.core_tree.specs.Programs.{measures_of}
use Rattle.core_tree.specs.States.{Calls, Done, along, entered, finished}
use Rattle.log_expr.specs.declared.table.Ends.{Ends}
use Rattle.log_expr.specs.Sound.{where_known}
use Rattle.log_expr.specs.Tables.{ends_at}
use Rattle.term_bank.specs.declared.shape.Shape.{Shape}
use Rattle.term_bank.specs.Values.{Environment, Values}
use Rattle.term_bank.proofs.BankLemmas.{stays}
use Rattle.path_states.specs.declared.state.Number.{Number}
use Rattle.path_states.specs.declared.kinds.StateKind.TheVariants.{Known}
use Rattle.path_states.specs.declared.state.State.{State}
use Rattle.path_states.specs.declared.state.Walked.{Walked}
use Rattle.path_states.specs.States.{Held, IsState, IsRoomy, IsSized, AllSized, run_in}
use Rattle.path_states.specs.Ways.{Tries, going, ending, to_list}
use Rattle.path_arrows.specs.Arrows.{bared}
use Rattle.path_calls.specs.Begun.{Begins, begun}
use Rattle.path_forms.specs.declared.calling.CallSite.{CallSite}
use Rattle.path_forms.specs.declared.frame.Placed.{Placed}
use Rattle.path_forms.specs.Around.{Around}
use Rattle.path_forms.specs.Calling.{taken, below, call_way}
use Rattle.summary_compose.specs.declared.summary.Summary.{Summary}
use Rattle.summary_compose.specs.Summaries.{world_in, given, entry_values, Answers}
use Rattle.summary_compose.proofs.Composed.{by_call, called_so, call_sized, taken_long}
use Rattle.log_expr.specs.Tours.{Tour}
use Rattle.path_summaries.specs.Tours.{measures_in, room_in, does, around_in, types_of, StandsFor, IsComplete}
use Rattle.path_summaries.specs.declared.table.Kept.{Kept}
use Rattle.path_summaries.specs.Tables.{HoldsRooms, IsReady, Counts, has_ends}
use Rattle.path_summaries.proofs.Alike.{does_given}
use Rattle.path_summaries.proofs.Passing.{words_for, entries_for}

-- ---- rooms

pub room_is : (t : Tour) (n f : ℕ) (g fn : Function) → slice_get t.core.functions f ≡ Some fn
    → (measures_in t (suc n) g).room f ≡ room_in t n fn
unfolding measures_of
room_is t n f g fn is = rw is refl

same_function : (fs : List Function) (f : ℕ) (x y : Function) → slice_get fs f ≡ Some x → slice_get fs f ≡ Some y → x ≡ y
same_function fs f x y h k = cc (h, k)

pub no_room : (t : Tour) (f : ℕ) (g : Function) → (measures_in t zero g).room f ≡ 0
unfolding measures_of
no_room t f g = refl

pub room_of_none : (t : Tour) (n f : ℕ) (g : Function) → slice_get t.core.functions f ≡ None → (measures_in t (suc n) g).room f ≡ 0
unfolding measures_of
room_of_none t n f g is = rw is refl

pub turns_are : (t : Tour) (n : ℕ) (g : Function) → (measures_in t n g).turns ≡ cond g.is_prelude t.limits.texts t.limits.turns
unfolding measures_of
turns_are t zero g = refl
turns_are t (suc n) g = refl

-- ---- what calls do with one level more

abbrev pub calls_with : Tour → ℕ → World → Calls ℕ
calls_with t n w f vs base s o = where_known (ends_at t.ends f (suc n) o) (does t n w f vs base s o) None

-- from a key, a store stays sized
key_sized : (t : Tour) (n f o : ℕ) (b : List Shape) (s : Summary) (e : Environment) (vs : List ℤ) (q : Store) → (h : StandsFor t b f n o s)
    → IsRoomy (room_in t n h.function) e → length vs ≡ length s.parameters → IsSized q
    → AllSized (bared (does t n (world_in e) f vs e.base q o))
key_sized t n f o b s e vs q h r long sized =
    let other : Environment = record e { parameters = words_for s.parameters vs } in
    let P : List ℤ → Type 0 = λ zs. AllSized (bared (does t n (world_in e) f zs e.base q o)) in
    let given_sized : P (given s.parameters vs) =
    subst P (entries_for e s.parameters vs h.scalars long) (h.sized other (record { places = r.places }) q sized) in
    let typed : P (given (types_of h.function.parameters) vs) = subst (λ ts. P (given ts vs)) h.parameters given_sized in
    subst (λ d. AllSized (bared d)) (does_given t n f h.function (world_in e) vs e.base q o h.is) typed

calls_sized : (t : Tour) (n f : ℕ) (fn : Function) (b : List Shape) (e : Environment) (vs : List ℤ) (q : Store) (o : ℕ)
    → IsComplete t b (suc n) → slice_get t.core.functions f ≡ Some fn → IsRoomy (room_in t n fn) e
    → length vs ≡ length fn.parameters → IsSized q
    → AllSized (bared (calls_with t n (world_in e) f vs e.base q o))
calls_sized t n f fn b e vs q o complete is r long sized = by (ends_at t.ends f (suc n) o) refl where
  typed_long : (ps : List _) → length (types_of ps) ≡ length ps
  typed_long [] = refl
  typed_long (p ∷ ps) = ap suc (typed_long ps)

  by : (x : Option Ends) → ends_at t.ends f (suc n) o ≡ x → AllSized (bared (where_known x (does t n (world_in e) f vs e.base q o) None))
  by None h = tt
  by (Some ends) h =
      let key = complete f o ends h in
      let same : key.1.function ≡ fn = same_function t.core.functions f key.1.function fn key.1.is is in
      let room : IsRoomy (room_in t n key.1.function) e = subst (λ x. IsRoomy (room_in t n x) e) (sym same) r in
      let longs : length vs ≡ length key.0.parameters =
      long ∙ ap (λ (x : Function). length x.parameters) (sym same) ∙ sym (typed_long key.1.function.parameters) ∙ ap length (sym key.1.parameters) in
      key_sized t n f o b key.0 e vs q key.1 room longs sized

where_given : (x : Option Ends) (a b : Option (Done ℕ)) → a ≡ b → where_known x a None ≡ where_known x b None
where_given x a b h = ap (λ c. where_known x c None) h

-- ---- by a summary

pub answers_by : (t : Tour) (n f start room : ℕ) (g : Function) (site : CallSite) (b : List Shape) (s : Summary) (ends : Ends)
    → IsComplete t b (suc n) → ends_at t.ends f (suc n) start ≡ Some ends → (h : StandsFor t b f n start s)
    → site.place + room_in t n h.function ≤ room → Answers (around_in t (suc n) g) room site f start b s
answers_by t n f start room g site b s ends complete key h fits = record {
  calls = calls_with t n;
  are = λ e. refl;
  own = room_in t n h.function;
  fits = fits;
  is_function = record {
    converts = λ w vs base q o. where_given (ends_at t.ends f (suc n) o) _ _
        (ap (λ ts. does t n w f (given ts vs) base q o) h.parameters ∙ does_given t n f h.function w vs base q o h.is);
    sized = λ e r vs q o long sized. calls_sized t n f h.function b e vs q o complete h.is r (typed vs long) sized;
  };
  begun = b;
  grown = stays;
  stands = record {
    states = h.states;
    stands = λ e v m r sized.
        h.stands e v m r sized
        ∙ ap (λ x. to_list (bared (where_known x (does t n (world_in e) f (entry_values e 0 s.parameters) e.base e.entry start) None))) (sym key);
  };
} where
  typed_long : (ps : List _) → length (types_of ps) ≡ length ps
  typed_long [] = refl
  typed_long (p ∷ ps) = ap suc (typed_long ps)

  typed : (vs : List ℤ) → length vs ≡ length s.parameters → length vs ≡ length h.function.parameters
  typed vs long = long ∙ ap length h.parameters ∙ typed_long h.function.parameters

-- ---- where no run makes the call

nothing_so : {A : Type 0} (g : Bool) → ◌≡◌ {A = List A} [] (cond g [] [])
nothing_so true = refl
nothing_so false = refl

no_call : (site : CallSite) (zs : List ℤ) (d : Done ℕ) (x : Option Ends) (o : Option (Done ℕ)) → x ≡ None
    → by_call site zs d (where_known x o None) ≡ None
no_call site zs d x o h = rw h refl

module _ (t : Tour) (n f room own : ℕ) (g fn : Function) (site : CallSite) (b : List Shape) (complete : IsComplete t b (suc n))
    (is : slice_get t.core.functions f ≡ Some fn) (count : length fn.parameters ≡ site.count)
    (own_is : own ≡ (measures_in t (suc n) g).room f) (fits : site.place + own ≤ room) where
  kept : (e : Environment) (v : Values) (frame : List Placed) → IsRoomy room e → (y : Held) → IsSized y.done.store
      → AllSized (going (call_way (around_in t (suc n) g) frame (callee.Body f) site e v y))
      × AllSized (ending (call_way (around_in t (suc n) g) frame (callee.Body f) site e v y))
  kept e v frame r y sized =
      let other : Environment = record e { base = e.base + site.place } in
      let own_same : own ≡ room_in t n fn = own_is ∙ room_is t n f g fn is in
      let fits_so : site.place + room_in t n fn ≤ room = subst (λ q. site.place + q ≤ room) own_same fits in
      let roomy : IsRoomy (room_in t n fn) other = record { places = omega (arith, fits_so, r.places) } in
      let vs : List ℤ = taken site.count y.operands in
      rw (called_so (around_in t (suc n) g) frame f site e v y (calls_with t n (world_in e)) refl)
      (call_sized site (below site.count y.operands) y.done _
      (calls_sized t n f fn b other vs y.done.store y.done.out complete is roomy (taken_long site.count y.operands ∙ sym count) sized))

  pub never_tries : (frame : List Placed) (s : State) → ends_at t.ends f (suc n) s.position ≡ None
      → Tries room b b s (record { going = []; ended = [] }) (call_way (around_in t (suc n) g) frame (callee.Body f) site)
  never_tries frame s none =
      let way : (e : Environment) (v : Values) → call_way (around_in t (suc n) g) frame (callee.Body f) site e v (run_in v s) ≡ None =
      λ e v. called_so (around_in t (suc n) g) frame f site e v (run_in v s) (calls_with t n (world_in e)) refl
      ∙ no_call site (below site.count (run_in v s).operands) (run_in v s).done (ends_at t.ends f (suc n) s.position) _ none in
      record {
        going = record {
          grows = stays;
          states = tt;
          stands = λ e v m r k.
              nothing_so (v s.guard.index).truth ∙ ap (λ o. cond (v s.guard.index).truth (to_list (going o)) []) (sym (way e v));
          sized = λ e v m r y k. (kept e v frame r y k).0;
        };
        ended = record {
          grows = stays;
          states = tt;
          stands = λ e v m r k.
              nothing_so (v s.guard.index).truth ∙ ap (λ o. cond (v s.guard.index).truth (to_list (ending o)) []) (sym (way e v));
          sized = λ e v m r y k. (kept e v frame r y k).1;
        };
      }

-- ---- where no level is left

left_call : (x : Around) (frame : List Placed) (f : ℕ) (site : CallSite) (e : Environment) (v : Values) (h : Held) → x.calls e ≡ None
    → call_way x frame (callee.Body f) site e v h
    ≡ by_call site (below site.count h.operands) h.done
    (Some (finished (finish.Left site.at) (entered (along []) h.done.store h.done.out)))
left_call x frame f site e v h is =
    ap (λ (c : Option (Calls ℕ)). by_call site (below site.count h.operands) h.done
    (body_call c (along x.log) site.at f (taken site.count h.operands) (e.base + site.place) h.done.store h.done.out)) is

-- the run that has left the bounds
abbrev pub left_run : CallSite → Held → Done ℕ
left_run site h = record (begun site h).done { kind = k.Ended (finish.Left site.at) }

left_is : (site : CallSite) (zs : List ℤ) (h : Held)
    → by_call site zs h.done (Some (finished (finish.Left site.at) (entered (along []) h.done.store h.done.out)))
    ≡ Some (Err (left_run site h))
left_is site zs h =
    ap (λ (l : List Event). Some (Err (record (left_run site h) { events = l }))) (append-nil (begun site h).done.events)

abbrev pub left_state : State → CallSite → State
left_state u site = record u { kind = Known (k.Ended (finish.Left site.at)); operands = [] }

left_state_is : (b : List Shape) (u : State) (site : CallSite) → IsState b u → IsState b (left_state u site)
left_state_is b u site is = record { guard = is.guard; kind = tt; memory = is.memory; value = is.value; events = is.events; operands = tt }

pub beyond_tries : (a b : List Shape) (s u : State) (site : CallSite) (xs : List Number) (x : Around) (frame : List Placed) (room f : ℕ)
    → Begins a b s u site xs → ((e : Environment) → x.calls e ≡ None)
    → Tries room a b s (record { going = []; ended = left_state u site ∷ [] }) (call_way x frame (callee.Body f) site)
beyond_tries a b s u site xs x frame room f h none =
    let way : (e : Environment) (v : Values) (y : Held) → call_way x frame (callee.Body f) site e v y ≡ Some (Err (left_run site y)) =
    λ e v y. left_call x frame f site e v y (none e) ∙ left_is site (below site.count y.operands) y in
    let guard : (v : Values) → (v u.guard.index).truth ≡ (v s.guard.index).truth = λ v. ap (λ m. (v m.index).truth) h.guard in
    record {
      going = record {
        grows = h.grows;
        states = tt;
        stands = λ e v m r q.
            nothing_so (v s.guard.index).truth
            ∙ ap (λ o. cond (v s.guard.index).truth (to_list (going o)) []) (sym (way e v (run_in v s)));
        sized = λ e v m r y q. rw (way e v y) tt;
      };
      ended = record {
        grows = h.grows;
        states = (left_state_is b u site h.state, tt);
        stands = λ e v m r q.
            ap (λ (c : Bool). cond c (run_in v (left_state u site) ∷ []) []) (guard v)
            ∙ ap (λ (y : Held). cond (v s.guard.index).truth (record { operands = []; done = record y.done { kind = k.Ended (finish.Left site.at) } } ∷ []) [])
            (h.run e v m)
            ∙ ap (λ o. cond (v s.guard.index).truth (to_list (ending o)) []) (sym (way e v (run_in v s)));
        sized = λ e v m r y q. rw (way e v y) q;
      };
    }

-- ---- by the levels that are left

found_at : (fs : List Function) (i : ℕ) → i < length fs → (f : Function) × (slice_get fs i ≡ Some f)
found_at [] i h = absurd (omega (arith, h))
found_at (f ∷ fs) zero h = (f, refl)
found_at (f ∷ fs) (suc i) h = found_at fs i (omega (arith, h))

missing_at : (fs : List Function) (i : ℕ) → length fs ≤ i → slice_get fs i ≡ None
missing_at [] i h = refl
missing_at (f ∷ fs) zero h = absurd (omega (arith, h))
missing_at (f ∷ fs) (suc i) h = missing_at fs i (omega (arith, h))

pub room_found : (t : Tour) (n f r : ℕ) (g : Function) (rs : List (Option ℕ)) → HoldsRooms t n rs → (n ≡ 0 → ⊥)
    → f < length t.core.functions → slice_get rs f ≡ Some (Some r) → r ≡ (measures_in t n g).room f
room_found t zero f r g rs h some within is = absurd (some refl)
room_found t (suc n) f r g rs h some within is =
    let fn = found_at t.core.functions f within in
    h n refl f r fn.0 is fn.1 ∙ sym (room_is t n f g fn.0 fn.1)

pub room_missing : (t : Tour) (n f : ℕ) (g : Function) → length t.core.functions ≤ f → 0 ≡ (measures_in t n g).room f
room_missing t zero f g past = sym (no_room t f g)
room_missing t (suc n) f g past = sym (room_of_none t n f g (missing_at t.core.functions f past))

pub room_where_none : (t : Tour) (n f : ℕ) (g : Function) → n ≡ 0 → 0 ≡ (measures_in t n g).room f
room_where_none t n f g h = rw h (sym (no_room t f g))

pub none_left : (t : Tour) (n : ℕ) (g : Function) → n ≡ 0 → (e : Environment) → (around_in t n g).calls e ≡ None
none_left t n g h e = rw h refl

pub never_at : (t : Tour) (left n f room own count : ℕ) (g : Function) (site : CallSite) (b : List Shape) (table : List (List Kept))
    (s : State) (w : Walked) → left ≡ suc n → IsReady t left table b → Counts t.core f count → count ≡ site.count
    → own ≡ (measures_in t left g).room f → site.place + own ≤ room → has_ends (ends_at t.ends f left s.position) ≡ false
    → w ≡ record { going = []; ended = [] } → (frame : List Placed)
    → Tries room b b s w (call_way (around_in t left g) frame (callee.Body f) site)
never_at t left n f room own count g site b table s w is ready counts same own_is fits none at frame = by left is ready own_is (none_of (ends_at t.ends f left s.position) none) where
  none_of : (x : Option Ends) → has_ends x ≡ false → x ≡ None
  none_of None h = refl
  none_of (Some e) h = absurd (cc)

  by : (l : ℕ) → l ≡ suc n → IsReady t l table b → own ≡ (measures_in t l g).room f → ends_at t.ends f l s.position ≡ None
      → Tries room b b s w (call_way (around_in t l g) frame (callee.Body f) site)
  by zero h r o x = absurd (cc)
  by (suc m) h r o x =
      rw at (never_tries t m f room own g counts.function site b r.complete counts.is (sym counts.count ∙ same) o fits frame s x)

pub answered_at : (t : Tour) (left n f room own : ℕ) (g : Function) (site : CallSite) (b : List Shape) (table : List (List Kept))
    (start : ℕ) (s : Summary) → left ≡ suc n → IsReady t left table b → own ≡ (measures_in t left g).room f
    → site.place + own ≤ room → has_ends (ends_at t.ends f left start) ≡ true → StandsFor t b f n start s
    → Answers (around_in t left g) room site f start b s
answered_at t left n f room own g site b table start s is ready own_is fits some h =
    by left is ready own_is (ends_at t.ends f left start) refl some where
      by : (l : ℕ) → l ≡ suc n → IsReady t l table b → own ≡ (measures_in t l g).room f
          → (x : Option Ends) → ends_at t.ends f l start ≡ x → has_ends x ≡ true → Answers (around_in t l g) room site f start b s
      by zero p r o x y z = absurd (cc)
      by (suc m) p r o None y z = absurd (cc)
      by (suc m) p r o (Some e) y z =
          let same : n ≡ m = cc in
          let stands : StandsFor t b f m start s = subst (λ i. StandsFor t b f i start s) same h in
          let own_same : own ≡ room_in t m stands.function = o ∙ room_is t m f g stands.function stands.is in
          answers_by t m f start room g site b s e r.complete y stands (subst (λ i. site.place + i ≤ room) own_same fits)
