-- What calls by rule make of one state.
use Rattle.std.proofs.Common.{◌≡◌, ℕ, ◌+◌, ◌<◌, ℤ, pos, List, [], ◌∷◌, ◌++◌, Bool, cond, Some, None, refl, sym, ap, ◌∙◌, append-nil}
use Rattle.std.specs.Prelude.{Ok, Err}
use Rattle.plain_data.specs.declared.run.Event.{Event}
use Rattle.plain_data.specs.declared.run.Finish.{Finish}
use Rattle.plain_data.specs.declared.run.Finish.TheVariants as finish
use Rattle.plain_data.specs.declared.run.Happening.TheVariants as happening
use Rattle.c_means.specs.declared.kind.Kind.TheVariants as k
use Rattle.core_tree.specs.declared.expr.Callee.{Callee}
use Rattle.core_tree.specs.declared.expr.Callee.TheVariants as callee
use Rattle.core_tree.specs.declared.expr.OutsideAnswer.TheVariants as answer
use Rattle.core_tree.specs.declared.types.ValueType.{ValueType}
use Rattle.core_tree.specs.Callees.{called, value_or_zero, asked}
use Rattle.core_tree.specs.Numbers.{converted_to}
use Rattle.core_tree.specs.States.{Done, along, note, returned, found, finished, ◌>>=◌}
use Rattle.core_tree.specs.Values.{needed}
use Rattle.term_bank.specs.declared.shape.Shape.{Shape}
use Rattle.term_bank.specs.Values.{Environment, Values, Models, Grows}
use Rattle.term_bank.proofs.BankLemmas.{weaken, stays, grows_on}
use Rattle.path_states.specs.declared.state.Number.{Number}
use Rattle.path_states.specs.declared.kinds.StateKind.TheVariants.{Known, Exited}
use Rattle.path_states.specs.declared.state.State.{State}
use Rattle.path_states.specs.declared.state.Walked.{Walked}
use Rattle.path_states.specs.States.{Held, IsState, IsRoomy, AreStates, run_in, done_in, standing, onto, number_in, numbers_in}
use Rattle.path_states.specs.Ways.{to_list, Trial, going, ending, Tries}
use Rattle.path_states.proofs.Growth.{onto_pushed, state_grown}
use Rattle.path_numbers.specs.Answers.{Numbered}
use Rattle.path_steps.specs.Operands.{pushed}
use Rattle.path_steps.proofs.Trials.{Keeps, nothing_so, with_operand}
use Rattle.path_forms.specs.declared.calling.CallSite.{CallSite}
use Rattle.path_forms.specs.declared.frame.Placed.{Placed}
use Rattle.path_forms.specs.Around.{Around, level_at, env_at}
use Rattle.path_forms.specs.Calling.{taken, below, call_way}
use Rattle.path_calls.specs.Begun.{Begins, begun, AnswersBy, CallsBy}
use Rattle.path_calls.specs.Outside.{AsksAt}

-- ---- one state that goes on, or ends

pub goes_to : (room : ℕ) (a b : List Shape) (s t : State) (f : Trial) → Grows a b → IsState b t → t.guard ≡ s.guard
    → ((e : Environment) (v : Values) → Models b e v → IsRoomy room e → f e v (run_in v s) ≡ Some (Ok (run_in v t)))
    → Keeps f → Tries room a b s (record { going = t ∷ []; ended = [] }) f
goes_to room a b s t f g is guard same keep = record {
  going = record {
    grows = g;
    states = (is, tt);
    stands = λ e v m r k.
        ap (λ n. cond (v n.index).truth (run_in v t ∷ []) []) guard
        ∙ ap (λ o. cond (v s.guard.index).truth (to_list (going o)) []) (sym (same e v m r));
    sized = λ e v m r d k. (keep.keeps e v d k).0;
  };
  ended = record {
    grows = g;
    states = tt;
    stands = λ e v m r k.
        nothing_so (v s.guard.index).truth ∙ ap (λ o. cond (v s.guard.index).truth (to_list (ending o)) []) (sym (same e v m r));
    sized = λ e v m r d k. (keep.keeps e v d k).1;
  };
}

pub ends_to : (room : ℕ) (a b : List Shape) (s : State) (es : List State) (f : Trial) (d : Values → Done ℕ) → Grows a b → AreStates b es
    → ((e : Environment) (v : Values) → Models b e v
    → standing v es ≡ cond (v s.guard.index).truth (record { operands = []; done = d v } ∷ []) [])
    → ((e : Environment) (v : Values) → Models b e v → f e v (run_in v s) ≡ Some (Err (d v)))
    → Keeps f → Tries room a b s (record { going = []; ended = es }) f
ends_to room a b s es f d g are stand same keep = record {
  going = record {
    grows = g;
    states = tt;
    stands = λ e v m r k.
        nothing_so (v s.guard.index).truth ∙ ap (λ o. cond (v s.guard.index).truth (to_list (going o)) []) (sym (same e v m));
    sized = λ e v m r d k. (keep.keeps e v d k).0;
  };
  ended = record {
    grows = g;
    states = are;
    stands = λ e v m r k.
        stand e v m ∙ ap (λ o. cond (v s.guard.index).truth (to_list (ending o)) []) (sym (same e v m));
    sized = λ e v m r d k. (keep.keeps e v d k).1;
  };
}

-- ---- what the core's calls are, by what the callee leaves

needed_some : (used : Bool) (at : ℕ) (t : ValueType) (z : ℤ) (d : Done ℕ) → needed used at t (Some z) d ≡ found z d
needed_some used at t z d = refl

-- a callee that comes back with a value, having noted events and printed up to a position
pub call_answers : (x : Around) (frame : List Placed) (c : Callee) (site : CallSite) (e : Environment) (v : Values) (h : Held) (z : ℤ)
    (es : List Event) (o : ℕ)
    → called (level_at x e) c site.at site.answer (env_at frame e) (taken site.count h.operands) (e.base + site.place) h.done.store h.done.out
    ≡ Some (record { kind = k.Running; value = Some z; store = h.done.store; events = es; out = o })
    → call_way x frame c site e v h
    ≡ Some (Ok (record {
      operands = z ∷ below site.count h.operands;
      done = record h.done { events = (begun site h).done.events ++ es; out = o };
    }))
call_answers x frame c site e v h z es o is =
    ap (λ r. pushed (below site.count h.operands)
    (returned (along x.log) (note (along x.log) (happening.Call site.at) h.done) r
    >>= (λ w. needed site.is_used site.at site.answer w.0 w.1))) is

-- one that ends the run
pub call_ends : (x : Around) (frame : List Placed) (c : Callee) (site : CallSite) (e : Environment) (v : Values) (h : Held) (f : Finish)
    (es : List Event) (o : ℕ)
    → called (level_at x e) c site.at site.answer (env_at frame e) (taken site.count h.operands) (e.base + site.place) h.done.store h.done.out
    ≡ Some (record { kind = k.Ended f; value = None; store = h.done.store; events = es; out = o })
    → call_way x frame c site e v h
    ≡ Some (Err (finished f (record h.done { events = (begun site h).done.events ++ es; out = o })))
call_ends x frame c site e v h f es o is =
    ap (λ r. pushed (below site.count h.operands)
    (returned (along x.log) (note (along x.log) (happening.Call site.at) h.done) r
    >>= (λ w. needed site.is_used site.at site.answer w.0 w.1))) is

-- one that leaves the log
pub call_leaves : (x : Around) (frame : List Placed) (c : Callee) (site : CallSite) (e : Environment) (v : Values) (h : Held)
    → called (level_at x e) c site.at site.answer (env_at frame e) (taken site.count h.operands) (e.base + site.place) h.done.store h.done.out
    ≡ None → call_way x frame c site e v h ≡ None
call_leaves x frame c site e v h is =
    ap (λ r. pushed (below site.count h.operands)
    (returned (along x.log) (note (along x.log) (happening.Call site.at) h.done) r
    >>= (λ w. needed site.is_used site.at site.answer w.0 w.1))) is

-- what notes and prints nothing
pub record AnswersAs (f : Trial) (site : CallSite) (z : Environment → Held → ℤ) : Type 0 where
  pub is : (e : Environment) (v : Values) (h : Held)
      → f e v h ≡ Some (Ok (record { operands = converted_to site.answer (z e h) ∷ below site.count h.operands; done = (begun site h).done }))

pub record EndsAs (f : Trial) (site : CallSite) (z : Held → Finish) : Type 0 where
  pub is : (e : Environment) (v : Values) (h : Held) → f e v h ≡ Some (Err (finished (z h) (begun site h).done))

pub nothing_more : (site : CallSite) (h : Held)
    → record h.done { events = (begun site h).done.events ++ []; out = h.done.out } ≡ (begun site h).done
nothing_more site h = ap (λ l. record h.done { events = l }) (append-nil (begun site h).done.events)

pub identity_as : (x : Around) (frame : List Placed) (site : CallSite) (i : ℕ)
    → AnswersAs (call_way x frame (callee.Identity i) site) site (λ e h. value_or_zero (taken site.count h.operands) i)
identity_as x frame site i = record {
  is = λ e v h.
      let z = converted_to site.answer (value_or_zero (taken site.count h.operands) i) in
      call_answers x frame (callee.Identity i) site e v h z [] h.done.out refl
      ∙ ap (λ d. Some (Ok (record { operands = z ∷ below site.count h.operands; done = d }))) (nothing_more site h);
}

pub nothing_as : (x : Around) (frame : List Placed) (site : CallSite)
    → AnswersAs (call_way x frame (callee.Outside answer.Nothing None) site) site (λ e h. pos 0)
nothing_as x frame site = record {
  is = λ e v h.
      let z = converted_to site.answer (pos 0) in
      call_answers x frame (callee.Outside answer.Nothing None) site e v h z [] h.done.out refl
      ∙ ap (λ d. Some (Ok (record { operands = z ∷ below site.count h.operands; done = d }))) (nothing_more site h);
}

pub number_as : (x : Around) (frame : List Placed) (site : CallSite)
    → AnswersAs (call_way x frame (callee.Outside answer.Number None) site) site
    (λ e h. pos (asked (level_at x e) (e.base + site.place)))
number_as x frame site = record {
  is = λ e v h.
      let z = converted_to site.answer (pos (asked (level_at x e) (e.base + site.place))) in
      call_answers x frame (callee.Outside answer.Number None) site e v h z [] h.done.out refl
      ∙ ap (λ d. Some (Ok (record { operands = z ∷ below site.count h.operands; done = d }))) (nothing_more site h);
}

pub abort_as : (x : Around) (frame : List Placed) (site : CallSite) → EndsAs (call_way x frame callee.Abort site) site (λ h. finish.Abort)
abort_as x frame site = record {
  is = λ e v h.
      call_ends x frame callee.Abort site e v h finish.Abort [] h.done.out refl
      ∙ ap (λ d. Some (Err (finished finish.Abort d))) (nothing_more site h);
}

pub exit_as : (x : Around) (frame : List Placed) (site : CallSite)
    → EndsAs (call_way x frame callee.Exit site) site (λ h. finish.Exit (value_or_zero (taken site.count h.operands) 0))
exit_as x frame site = record {
  is = λ e v h.
      let f = finish.Exit (value_or_zero (taken site.count h.operands) 0) in
      call_ends x frame callee.Exit site e v h f [] h.done.out refl
      ∙ ap (λ d. Some (Err (finished f d))) (nothing_more site h);
}

-- ---- stores stay as they are

answers_keep : (f : Trial) (site : CallSite) (z : Environment → Held → ℤ) → AnswersAs f site z → Keeps f
answers_keep f site z h = record { keeps = λ e v d k. rw (h.is e v d) (k, tt) }

ends_keep : (f : Trial) (site : CallSite) (z : Held → Finish) → EndsAs f site z → Keeps f
ends_keep f site z h = record { keeps = λ e v d k. rw (h.is e v d) (tt, k) }

-- ---- states

pub answered : (room : ℕ) (a b c d : List Shape) (s t : State) (site : CallSite) (xs : List Number) (x : Number) (w : Walked) (f : Trial)
    (z : Environment → Held → ℤ) → Begins a b s t site xs → Grows b c → AnswersBy c d t site.answer x w → AnswersAs f site z
    → ((e : Environment) (v : Values) → Models d e v → IsRoomy room e → number_in v x ≡ z e (run_in v s)) → Tries room a d s w f
answered room a b c d s t site xs x w f z h g i like means =
    let last = i.numbered in
    let bd = grows_on g last.grows in
    let u : State = record t { operands = t.operands ++ i.last ∷ [] } in
    rw i.is
    (goes_to room a d s u f (grows_on h.grows bd) (with_operand d t t.operands i.last (state_grown bd t h.state) last.number) h.guard
    (λ e v m r.
    let run = h.run e v (weaken bd m) in
    like.is e v (run_in v s)
    ∙ ap (λ n. Some (Ok (record { operands = converted_to site.answer n ∷ below site.count (onto v [] s.operands); done = (begun site (run_in v s)).done })))
    (sym (means e v m r))
    ∙ ap (λ n. Some (Ok (record { operands = n ∷ below site.count (onto v [] s.operands); done = (begun site (run_in v s)).done })))
    (sym (last.is e v m))
    ∙ ap (λ (q : Held). Some (Ok (record { operands = number_in v i.last ∷ q.operands; done = q.done }))) (sym run)
    ∙ ap (λ l. Some (Ok (record { operands = l; done = done_in v t }))) (sym (onto_pushed v [] t.operands i.last)))
    (answers_keep f site z like))

pub ended_by : (room : ℕ) (a b c : List Shape) (s t : State) (site : CallSite) (xs : List Number) (es : List State) (f : Trial)
    (z : Held → Finish) (y : Values → Finish) → Begins a b s t site xs → Grows b c → AreStates c es
    → ((e : Environment) (v : Values) → Models c e v
    → standing v es ≡ cond (v t.guard.index).truth (record { operands = []; done = finished (y v) (done_in v t) } ∷ []) [])
    → ((e : Environment) (v : Values) → Models c e v → y v ≡ z (run_in v s))
    → EndsAs f site z → Tries room a c s (record { going = []; ended = es }) f
ended_by room a b c s t site xs es f z y h g are stand means like =
    ends_to room a c s es f (λ v. finished (y v) (done_in v t)) (grows_on h.grows g) are
    (λ e v m. stand e v m ∙ ap (λ n. cond (v n.index).truth (record { operands = []; done = finished (y v) (done_in v t) } ∷ []) []) h.guard)
    (λ e v m.
    like.is e v (run_in v s)
    ∙ ap (λ n. Some (Err (finished n (begun site (run_in v s)).done))) (sym (means e v m))
    ∙ ap (λ (q : Held). Some (Err (finished (y v) q.done))) (sym (h.run e v (weaken g m))))
    (ends_keep f site z like)

-- ---- each kind of callee

pub identity_calls : (a b c d : List Shape) (s t : State) (site : CallSite) (xs : List Number) (x : Number) (i : ℕ) (w : Walked)
    → Begins a b s t site xs → Numbered b c x (λ v. value_or_zero (numbers_in v xs) i) → AnswersBy c d t site.answer x w
    → (room : ℕ) → CallsBy room a d s (callee.Identity i) site w
identity_calls a b c d s t site xs x i w h n j room = record {
  tries = λ y frame.
      answered room a b c d s t site xs x w (call_way y frame (callee.Identity i) site) (λ e k. value_or_zero (taken site.count k.operands) i) h n.grows
      j (identity_as y frame site i)
      (λ e v m r.
      let mc = weaken j.numbered.grows m in
      n.is e v mc ∙ ap (λ l. value_or_zero l i) (h.arguments e v (weaken n.grows mc)));
}

pub nothing_calls : (a b c d : List Shape) (s t : State) (site : CallSite) (xs : List Number) (x : Number) (w : Walked)
    → Begins a b s t site xs → Numbered b c x (λ v. pos 0) → AnswersBy c d t site.answer x w
    → (room : ℕ) → CallsBy room a d s (callee.Outside answer.Nothing None) site w
nothing_calls a b c d s t site xs x w h n j room = record {
  tries = λ y frame.
      answered room a b c d s t site xs x w (call_way y frame (callee.Outside answer.Nothing None) site) (λ e k. pos 0) h n.grows j
      (nothing_as y frame site) (λ e v m r. n.is e v (weaken j.numbered.grows m));
}

pub number_calls : (room : ℕ) (a b c d : List Shape) (s t : State) (site : CallSite) (xs : List Number) (x : Number) (w : Walked)
    → site.place < room → Begins a b s t site xs → AsksAt b c site.place x → AnswersBy c d t site.answer x w
    → CallsBy room a d s (callee.Outside answer.Number None) site w
number_calls room a b c d s t site xs x w within h n j = record {
  tries = λ y frame.
      answered room a b c d s t site xs x w (call_way y frame (callee.Outside answer.Number None) site)
      (λ e k. pos (asked (level_at y e) (e.base + site.place))) h n.grows j (number_as y frame site)
      (λ e v m r. n.is room within e v (weaken j.numbered.grows m) r);
}

pub abort_calls : (a b : List Shape) (s t : State) (site : CallSite) (xs : List Number) (w : Walked) → Begins a b s t site xs
    → w ≡ record { going = []; ended = record t { kind = Known (k.Ended finish.Abort); operands = [] } ∷ [] }
    → (room : ℕ) → CallsBy room a b s callee.Abort site w
abort_calls a b s t site xs w h is room = record {
  tries = λ y frame.
      rw is
      (ended_by room a b b s t site xs (record t { kind = Known (k.Ended finish.Abort); operands = [] } ∷ []) (call_way y frame callee.Abort site)
      (λ q. finish.Abort) (λ v. finish.Abort) h stays
      (record { guard = h.state.guard; kind = tt; memory = h.state.memory; value = h.state.value; events = h.state.events; operands = tt }, tt)
      (λ e v m. refl) (λ e v m. refl) (abort_as y frame site));
}

pub exit_calls : (a b c : List Shape) (s t : State) (site : CallSite) (xs : List Number) (x : Number) (w : Walked) → Begins a b s t site xs
    → Numbered b c x (λ v. value_or_zero (numbers_in v xs) 0)
    → w ≡ record { going = []; ended = record t { kind = Exited x; operands = [] } ∷ [] }
    → (room : ℕ) → CallsBy room a c s callee.Exit site w
exit_calls a b c s t site xs x w h n is room =
    let now = state_grown n.grows t h.state in
    record {
      tries = λ y frame.
          rw is
          (ended_by room a b c s t site xs (record t { kind = Exited x; operands = [] } ∷ []) (call_way y frame callee.Exit site)
          (λ q. finish.Exit (value_or_zero (taken site.count q.operands) 0)) (λ v. finish.Exit (number_in v x)) h n.grows
          (record { guard = now.guard; kind = n.number; memory = now.memory; value = now.value; events = now.events; operands = tt }, tt)
          (λ e v m. refl)
          (λ e v m. ap (λ z. finish.Exit z) (n.is e v m ∙ ap (λ l. value_or_zero l 0) (h.arguments e v (weaken n.grows m))))
          (exit_as y frame site));
    }
