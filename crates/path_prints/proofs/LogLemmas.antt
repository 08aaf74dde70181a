-- A log call these a whole.
use Rattle.std.proofs.Common.{◌≡◌, ℕ, zero, suc, ◌+◌, ◌-◌, ℤ, pos, List, [], ◌∷◌, ◌++◌, length, drop, Bool, true, false, cond, Option, Some, None, refl, sym, ap, subst, ◌∙◌}
use Rattle.std.specs.Prelude.{Ok, Err}
use Rattle.plain_data.specs.declared.run.Finish.TheVariants as finish
use Rattle.plain_data.specs.declared.run.Undefined.TheVariants as undefined
use Rattle.c_means.specs.declared.kind.Kind.TheVariants as k
use Rattle.c_means.specs.Calls.{pointers_in}
use Rattle.printf_text.specs.declared.piece.Arg.{Arg}
use Rattle.printf_text.specs.declared.piece.Piece.{Piece}
use Rattle.core_tree.specs.declared.expr.Callee.TheVariants as callee
use Rattle.core_tree.specs.declared.expr.Watched.{Watched}
use Rattle.core_tree.specs.declared.types.WordType.{WordType}
use Rattle.core_tree.specs.Callees.{Spoken, spoken, called, prints, printed, says_all, seen_all, arguments_of, answers_int, print_noted}
use Rattle.core_tree.specs.Numbers.{int, wrapped, converted_to}
use Rattle.core_tree.specs.States.{Done, along, meets, entered, finished}
use Rattle.term_bank.specs.declared.shape.Shape.{Shape}
use Rattle.term_bank.specs.Values.{Environment, Values, Models, Grows}
use Rattle.term_bank.proofs.BankLemmas.{weaken, grows_on}
use Rattle.path_states.specs.declared.state.Number.{Number}
use Rattle.path_states.specs.declared.state.State.{State}
use Rattle.path_states.specs.States.{Held, IsRoomy, IsSized, AllSized, run_in, standing, onto, numbers_in}
use Rattle.path_states.specs.Ways.{to_list, ◌>>=◌, Way, Trial, going, ending, Steps, Goes, Tries}
use Rattle.path_states.proofs.Growth.{states_grown}
use Rattle.path_states.proofs.Paths.{goes_none, goes_more, goes_then}
use Rattle.path_steps.proofs.Trials.{Keeps, nothing_so}
use Rattle.path_forms.specs.declared.calling.CallSite.{CallSite}
use Rattle.path_forms.specs.declared.frame.Placed.{Placed}
use Rattle.path_forms.specs.Around.{Around, level_at, env_at}
use Rattle.path_forms.specs.Calling.{taken, below, call_way}
use Rattle.path_forms.specs.Reaching.{passing}
use Rattle.path_calls.specs.Begun.{Begins, begun}
use Rattle.path_calls.proofs.CallTrials.{call_answers, call_ends, call_leaves}
use Rattle.path_prints.specs.Arguments.{args_in, integer_args, Speaks}
use Rattle.path_prints.specs.Says.{at_position, pieces_way, AreIntegers, SaysAll}
use Rattle.path_prints.specs.Prints.{print_events, print_way, PrintsBy}
use Rattle.path_prints.specs.Watches.{SeesAll}
use Rattle.path_prints.proofs.ArgumentLemmas.{says_in, Forms, formed_all, pieces_say, args_dropped, integers_dropped, args_long, integers_long}

-- ---- states one behind the other

pub goes_grown : (room : ℕ) (a b c : List Shape) (ss ts : List State) (f : Way) → Grows b c → Goes room a b ss ts f → Goes room a c ss ts f
goes_grown room a b c ss ts f g h = record {
  grows = grows_on h.grows g;
  states = states_grown g ts h.states;
  stands = λ e v m r o j k. h.stands e v (weaken g m) r o j k;
  sized = λ e v m r d k. h.sized e v (weaken g m) r d k;
}

pub begins_goes : (room : ℕ) (a b : List Shape) (s t : State) (site : CallSite) (xs : List Number) → Begins a b s t site xs
    → Goes room a b (s ∷ []) (t ∷ []) (λ e v h. Some (begun site h))
begins_goes room a b s t site xs h =
    let f : Way = λ e v x. Some (begun site x) in
    goes_more room a a b [] [] (t ∷ []) s f (goes_none room a f (λ e v m r x k. k))
    (record {
      grows = h.grows;
      states = (h.state, tt);
      stands = λ e v m r k.
          ap (λ n. cond (v n.index).truth (run_in v t ∷ []) []) h.guard
          ∙ ap (λ q. cond (v s.guard.index).truth (q ∷ []) []) (h.run e v m);
      sized = λ e v m r x k. k;
    })

alone_by : (g : Bool) (x : Held) (f : Held → Option Held) (ts : List Held)
    → ((o : Option Held) → cond g (x ∷ []) [] ≡ to_list o → AllSized o → ts ≡ to_list (o >>= f))
    → (g ≡ true → IsSized x.done.store) → ts ≡ cond g (to_list (f x)) []
alone_by true x f ts h k = h (Some x) refl (k refl)
alone_by false x f ts h k = h None refl tt

pub one_goes : (room : ℕ) (a b : List Shape) (s : State) (ts : List State) (f : Way) → Goes room a b (s ∷ []) ts f → Steps room a b s ts f
one_goes room a b s ts f h = record {
  grows = h.grows;
  states = h.states;
  stands = λ e v m r k. alone_by (v s.guard.index).truth (run_in v s) (f e v) (standing v ts) (h.stands e v m r) k;
  sized = h.sized;
}

-- states that go on by a trial which ends no run of theirs
when_going : (g : Bool) (x y : Option Held) → x ≡ y → cond g (to_list x) [] ≡ cond g (to_list y) []
when_going g x y h = ap (λ o. cond g (to_list o) []) h

going_passing : (o : Option Held) → o ≡ going (passing o)
going_passing None = refl
going_passing (Some h) = refl

ending_passing : (o : Option Held) → None ≡ ending (passing o)
ending_passing None = refl
ending_passing (Some h) = refl

pub tries_passing : (room : ℕ) (a b : List Shape) (s : State) (ts : List State) (f : Way) (g : Trial) → Steps room a b s ts f
    → ((e : Environment) (v : Values) → Models b e v → IsRoomy room e → g e v (run_in v s) ≡ passing (f e v (run_in v s)))
    → Keeps g → Tries room a b s (record { going = ts; ended = [] }) g
tries_passing room a b s ts f g h same keep = record {
  going = record {
    grows = h.grows;
    states = h.states;
    stands = λ e v m r k.
        h.stands e v m r k
        ∙ when_going (v s.guard.index).truth (f e v (run_in v s)) (going (g e v (run_in v s)))
        (going_passing (f e v (run_in v s)) ∙ ap going (sym (same e v m r)));
    sized = λ e v m r d k. (keep.keeps e v d k).0;
  };
  ended = record {
    grows = h.grows;
    states = tt;
    stands = λ e v m r k.
        nothing_so (v s.guard.index).truth
        ∙ when_going (v s.guard.index).truth None (ending (g e v (run_in v s)))
        (ending_passing (f e v (run_in v s)) ∙ ap ending (sym (same e v m r)));
    sized = λ e v m r d k. (keep.keeps e v d k).1;
  };
}

-- ---- what the core does

meets_same : (log : List ℕ) (p n : ℕ) (d : Done ℕ) → meets (along log) p n d ≡ d
meets_same log p zero d = refl
meets_same log p (suc n) d = meets_same log (suc p) n d

module _ (x : Around) (frame : List Placed) (ps : List Piece) (before : ℕ) (types : List WordType) (watched : List Watched) (site : CallSite)
    (e : Environment) (h : Held) where
  pieces_args : List Spoken
  pieces_args = drop before (spoken types (taken site.count h.operands))

  shown_values : List ℤ
  shown_values = seen_all (env_at frame e) h.done.store watched

  log_called : called (level_at x e) (callee.Log ps before types watched) site.at site.answer (env_at frame e) (taken site.count h.operands)
      (e.base + site.place) h.done.store h.done.out
      ≡ prints (along x.log) site.at site.answer ps shown_values
      (arguments_of (level_at x e) ps pieces_args (e.base + site.place + 4) h.done.store) (entered (along x.log) h.done.store h.done.out)
  unfolding pieces_args shown_values
  log_called =
      ap (prints (along x.log) site.at site.answer ps (seen_all (env_at frame e) h.done.store watched)
      (arguments_of (level_at x e) ps (drop before (spoken types (taken site.count h.operands))) (e.base + site.place + 4) h.done.store))
      (meets_same x.log (e.base + site.place + 4) (pointers_in ps) (entered (along x.log) h.done.store h.done.out))

  -- what is answered where the format was taken up to a position
  printed_to : (n o : ℕ) (shown : List ℤ)
      → answers_int site.answer (pos n) (record (print_noted (along x.log) site.at n shown (entered (along x.log) h.done.store h.done.out)) { out = o })
      ≡ record {
        kind = k.Running;
        value = Some (converted_to site.answer (wrapped int (pos n)));
        store = h.done.store;
        events = print_events site.at h.done.out n shown;
        out = o;
      }
  printed_to zero o shown = refl
  printed_to (suc n) o shown = refl

  log_answers : (v : Values) (args : List Arg) (o : ℕ)
      → arguments_of (level_at x e) ps pieces_args (e.base + site.place + 4) h.done.store ≡ Some args
      → says_all (along x.log) ps args h.done.out ≡ Some o
      → call_way x frame (callee.Log ps before types watched) site e v h
      ≡ Some (Ok (record {
        operands = converted_to site.answer (wrapped int (pos (o - h.done.out))) ∷ below site.count h.operands;
        done = record h.done {
          events = (begun site h).done.events ++ print_events site.at h.done.out (o - h.done.out) shown_values;
          out = o;
        };
      }))
  log_answers v args o is said =
      call_answers x frame (callee.Log ps before types watched) site e v h (converted_to site.answer (wrapped int (pos (o - h.done.out))))
      (print_events site.at h.done.out (o - h.done.out) shown_values) o
      (log_called
      ∙ ap (λ these. prints (along x.log) site.at site.answer ps shown_values these (entered (along x.log) h.done.store h.done.out)) is
      ∙ ap (printed (along x.log) site.at site.answer shown_values (entered (along x.log) h.done.store h.done.out)) said
      ∙ ap (λ d. Some d) (printed_to (o - h.done.out) o shown_values))

  log_leaves : (v : Values) (args : List Arg) → arguments_of (level_at x e) ps pieces_args (e.base + site.place + 4) h.done.store ≡ Some args
      → says_all (along x.log) ps args h.done.out ≡ None → call_way x frame (callee.Log ps before types watched) site e v h ≡ None
  log_leaves v args is said =
      call_leaves x frame (callee.Log ps before types watched) site e v h
      (log_called
      ∙ ap (λ these. prints (along x.log) site.at site.answer ps shown_values these (entered (along x.log) h.done.store h.done.out)) is
      ∙ ap (printed (along x.log) site.at site.answer shown_values (entered (along x.log) h.done.store h.done.out)) said)

  log_stops : (v : Values) → arguments_of (level_at x e) ps pieces_args (e.base + site.place + 4) h.done.store ≡ None
      → call_way x frame (callee.Log ps before types watched) site e v h
      ≡ Some (Err (finished (finish.Stopped undefined.Dereference site.at) (record h.done { events = (begun site h).done.events ++ []; out = h.done.out })))
  log_stops v is =
      call_ends x frame (callee.Log ps before types watched) site e v h (finish.Stopped undefined.Dereference site.at) [] h.done.out
      (log_called ∙ ap (λ these. prints (along x.log) site.at site.answer ps shown_values these (entered (along x.log) h.done.store h.done.out)) is)

  -- a call whose integers stand in numbers
  log_passes : (v : Values) (own shown : List Number) (from : ℕ) → args_in v own ≡ integer_args pieces_args → AreIntegers ps (length own)
      → from ≡ h.done.out → numbers_in v shown ≡ shown_values
      → call_way x frame (callee.Log ps before types watched) site e v h
      ≡ passing (pieces_way x.log ps own e v (begun site h) >>= print_way site.at site.answer from shown e v)
  log_passes v own shown from same integers start values =
      let long : length own ≡ length pieces_args = sym (args_long v own) ∙ ap length same ∙ integers_long pieces_args in
      let r = formed_all (level_at x e) x.log ps pieces_args (e.base + site.place + 4) h.done.store (subst (AreIntegers ps) long integers) in
      by r (says_in x.log ps (args_in v own) h.done.out) refl
    where
      said : (r : Forms (level_at x e) x.log ps pieces_args (e.base + site.place + 4) h.done.store)
          → says_all (along x.log) ps r.args h.done.out ≡ says_in x.log ps (args_in v own) h.done.out
      said r = r.says h.done.out ∙ ap (λ these. says_in x.log ps these h.done.out) (sym same)

      taken_so : (o : Option ℕ) → says_in x.log ps (args_in v own) h.done.out ≡ o
          → at_position (begun site h) o >>= print_way site.at site.answer from shown e v
          ≡ pieces_way x.log ps own e v (begun site h) >>= print_way site.at site.answer from shown e v
      taken_so o is =
          ap (λ q. at_position (begun site h) q >>= print_way site.at site.answer from shown e v) (sym is)
          ∙ ap (λ q. q >>= print_way site.at site.answer from shown e v) (sym (pieces_say x.log ps own e v (begun site h)))

      by : (r : Forms (level_at x e) x.log ps pieces_args (e.base + site.place + 4) h.done.store) (o : Option ℕ)
          → says_in x.log ps (args_in v own) h.done.out ≡ o
          → call_way x frame (callee.Log ps before types watched) site e v h
          ≡ passing (pieces_way x.log ps own e v (begun site h) >>= print_way site.at site.answer from shown e v)
      by r None is = log_leaves v r.args r.are (said r ∙ is) ∙ ap passing (taken_so None is)
      by r (Some o) is =
          log_answers v r.args o r.are (said r ∙ is)
          ∙ ap (λ j. Some (Ok (record {
            operands = converted_to site.answer (wrapped int (pos (o - j))) ∷ below site.count h.operands;
            done = record h.done { events = (begun site h).done.events ++ print_events site.at j (o - j) shown_values; out = o };
          }))) (sym start)
          ∙ ap (λ l. Some (Ok (record {
            operands = converted_to site.answer (wrapped int (pos (o - from))) ∷ below site.count h.operands;
            done = record h.done { events = (begun site h).done.events ++ print_events site.at from (o - from) l; out = o };
          }))) (sym values)
          ∙ ap passing (taken_so (Some o) is)

  log_keeps_by : (v : Values) → IsSized h.done.store
      → AllSized (going (call_way x frame (callee.Log ps before types watched) site e v h))
      × AllSized (ending (call_way x frame (callee.Log ps before types watched) site e v h))
  log_keeps_by v sized = by (arguments_of (level_at x e) ps pieces_args (e.base + site.place + 4) h.done.store) refl
    where
      more : (args : List Arg) → arguments_of (level_at x e) ps pieces_args (e.base + site.place + 4) h.done.store ≡ Some args → (o : Option ℕ)
          → says_all (along x.log) ps args h.done.out ≡ o
          → AllSized (going (call_way x frame (callee.Log ps before types watched) site e v h))
          × AllSized (ending (call_way x frame (callee.Log ps before types watched) site e v h))
      more args is None said = rw (log_leaves v args is said) (tt, tt)
      more args is (Some o) said = rw (log_answers v args o is said) (sized, tt)

      by : (these : Option (List Arg)) → arguments_of (level_at x e) ps pieces_args (e.base + site.place + 4) h.done.store ≡ these
          → AllSized (going (call_way x frame (callee.Log ps before types watched) site e v h))
          × AllSized (ending (call_way x frame (callee.Log ps before types watched) site e v h))
      by None is = rw (log_stops v is) (tt, sized)
      by (Some args) is = more args is (says_all (along x.log) ps args h.done.out) refl

pub log_keeps : (x : Around) (frame : List Placed) (ps : List Piece) (before : ℕ) (types : List WordType) (watched : List Watched)
    (site : CallSite) → Keeps (call_way x frame (callee.Log ps before types watched) site)
log_keeps x frame ps before types watched site = record {
  keeps = λ e v h sized. log_keeps_by x frame ps before types watched site e h v sized;
}

-- ---- the whole

pub prints_format : (x : Around) (room : ℕ) (a b c d f g : List Shape) (log : List ℕ) (frame : List Placed) (ps : List Piece) (before : ℕ)
    (types : List WordType) (watched : List Watched) (site : CallSite) (s t : State) (arguments spoken_ones own shown : List Number)
    (from : ℕ) (us ts : List State) → x.log ≡ log → Begins a b s t site arguments → Speaks b c types arguments [] spoken_ones
    → SeesAll c d frame room t.memory watched [] shown → from ≡ t.position → own ≡ drop before spoken_ones
    → SaysAll d f log ps own (t ∷ []) us → ((q : ℕ) → Goes q f g us ts (print_way site.at site.answer from shown))
    → PrintsBy x room a g s frame ps before types watched site (record { going = ts; ended = [] })
unfolding pieces_args shown_values
prints_format x room a b c d f g log frame ps before types watched site s t arguments spoken_ones own shown from us ts at hb hs hw start front ha hp =
    record {
      tries =
          let bd = grows_on hs.grows hw.grows in
          let first = goes_grown room a b d (s ∷ []) (t ∷ []) (λ e v h. Some (begun site h)) bd (begins_goes room a b s t site arguments hb) in
          let two = goes_then room a d f (s ∷ []) (t ∷ []) us (λ e v h. Some (begun site h)) (pieces_way log ps own) first (ha.goes room) in
          let all = goes_then room a f g (s ∷ []) us ts (λ e v h. pieces_way log ps own e v (begun site h))
          (print_way site.at site.answer from shown) two (hp room) in
          tries_passing room a g s ts (λ e v h. pieces_way log ps own e v (begun site h) >>= print_way site.at site.answer from shown e v)
          (call_way x frame (callee.Log ps before types watched) site)
          (one_goes room a g s ts (λ e v h. pieces_way log ps own e v (begun site h) >>= print_way site.at site.answer from shown e v) all)
          (λ e v m r.
          let mf = weaken (hp 0).grows m in let md = weaken ha.grows mf in let mc = weaken hw.grows md in let mb = weaken hs.grows mc in
          let run = hb.run e v mb in
          log_passes x frame ps before types watched site e (run_in v s) v own shown from
          (ap (args_in v) front ∙ args_dropped v before spoken_ones ∙ ap (drop before) (hs.are e v mc)
          ∙ ap (λ l. drop before (integer_args (spoken types l))) (hb.arguments e v mb)
          ∙ sym (integers_dropped before (spoken types (taken site.count (onto v [] s.operands)))))
          ha.integers (start ∙ hb.position)
          (hw.are e v md r
          ∙ ap (λ (q : Held). seen_all (env_at frame e) q.done.store watched) run)
          ∙ ap (λ l. passing (pieces_way l ps own e v (begun site (run_in v s)) >>= print_way site.at site.answer from shown e v)) at)
          (log_keeps x frame ps before types watched site);
    }
