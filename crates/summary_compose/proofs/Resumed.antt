-- The caller behind the ends of the callee.
use Rattle.std.proofs.Common.{◌≡◌, ℕ, ℤ, pos, List, [], ◌∷◌, ◌++◌, Bool, true, false, cond, Option, Some, None, refl, sym, ap, ◌∙◌, append-nil}
use Rattle.std.specs.Prelude.{◌&&◌, Ok, Err}
use Rattle.plain_data.specs.declared.run.Event.{Event}
use Rattle.plain_data.specs.declared.run.Finish.{Finish}
use Rattle.plain_data.specs.declared.run.Finish.TheVariants as finish
use Rattle.plain_data.specs.declared.run.Happening.TheVariants as happening
use Rattle.plain_data.specs.declared.run.Undefined.TheVariants.{MissingValue}
use Rattle.c_means.specs.declared.kind.Kind.TheVariants as k
use Rattle.core_tree.specs.declared.types.ValueType.{ValueType}
use Rattle.core_tree.specs.declared.types.ValueType.TheVariants as vt
use Rattle.core_tree.specs.States.{Done, ◌>>=◌, along, note, returned_in}
use Rattle.core_tree.specs.Values.{needed}
use Rattle.term_bank.specs.declared.sort.Node.{Node}
use Rattle.term_bank.specs.declared.shape.Shape.{Shape}
use Rattle.term_bank.specs.declared.shape.Shape.TheVariants.{Connect, CallEvent, EventsBehind}
use Rattle.term_bank.specs.declared.shape.Connective.TheVariants.{And}
use Rattle.term_bank.specs.Terms.{Makes}
use Rattle.term_bank.specs.Values.{Environment, Worth, Values, Models, Grows}
use Rattle.term_bank.proofs.BankLemmas.{weaken, stays, grows_on}
use Rattle.term_bank.proofs.TermLemmas.{term_grown}
use Rattle.path_states.specs.declared.kinds.StateKind.{StateKind}
use Rattle.path_states.specs.declared.kinds.StateKind.TheVariants.{Known, Exited}
use Rattle.path_states.specs.declared.state.Number.{Number}
use Rattle.path_states.specs.declared.state.State.{State}
use Rattle.path_states.specs.declared.state.Walked.{Walked}
use Rattle.path_states.specs.States.{Held, IsNumber, IsMaybeNumber, IsStateKind, IsState}
use Rattle.path_states.specs.States.{number_in, maybe_number, onto, kind_in, done_in, run_in, standing}
use Rattle.path_states.specs.Ways.{going, ending, to_list}
use Rattle.path_states.proofs.Growth.{kind_grown, state_grown, states_grown, states_joined, standing_joined, numbers_joined, onto_pushed}
use Rattle.path_numbers.specs.Answers.{Numbered}
use Rattle.path_steps.specs.Operands.{pushed}
use Rattle.path_forms.specs.declared.calling.CallSite.{CallSite}
use Rattle.summary_compose.specs.Composing.{answered, goes_on, ends_there, Continues, Ends, Gives, GoesOn, Resumes, must_give, gives_any, needed_by}
use Rattle.summary_compose.specs.Renaming.{each_of}
use Rattle.summary_compose.proofs.Lists.{each_joined}

-- ---- the caller with what an end left and noted

abbrev pub after_end : State → State → Node → Node → State
after_end caller end guard events = record caller { guard = guard; position = end.position; memory = end.memory; events = events }

pub continued : (a b c d : List Shape) (site : CallSite) (caller end : State) (guard called events : Node) → IsState a caller → IsState a end
    → Makes a b (Connect And caller.guard.index end.guard.index) (Ok guard)
    → Makes b c (CallEvent caller.events.index caller.position site.at) (Ok called)
    → Makes c d (EventsBehind called.index end.events.index) (Ok events)
    → Continues a d site caller end (after_end caller end guard events)
continued a b c d site caller end guard called events h k mg mc me =
    let bd = grows_on mc.grows me.grows in
    let ad = grows_on mg.grows bd in
    let one = state_grown ad caller h in
    let other = state_grown ad end k in
    record {
      grows = ad;
      state = record {
        guard = term_grown b d _ guard bd mg.node;
        kind = one.kind;
        memory = other.memory;
        value = one.value;
        events = me.node;
        operands = one.operands;
      };
      operands = refl;
      guard = λ e v m. ap (λ (x : Worth). x.truth) (mg.value.is e v (weaken bd m));
      is = λ e v m.
          ap (λ l. record (done_in v caller) { store = (v end.memory.index).store; events = l; out = end.position })
          (ap (λ (x : Worth). x.events) (me.value.is e v m)
          ∙ ap (λ (x : Worth). x.events ++ (v end.events.index).events) (mc.value.is e v (weaken me.grows m)));
    }

-- ---- the value

nothing_so : {A : Type 0} (g : Bool) → ◌≡◌ {A = List A} [] (cond g [] [])
nothing_so true = refl
nothing_so false = refl

with_number : (b : List Shape) (s : State) (x : Number) → IsState b s → IsNumber b x → IsState b (record s { operands = s.operands ++ x ∷ [] })
with_number b s x is h = record {
  guard = is.guard;
  kind = is.kind;
  memory = is.memory;
  value = is.value;
  events = is.events;
  operands = numbers_joined b s.operands (x ∷ []) is.operands (h, tt);
}

-- with a value
gives_value : (a b : List Shape) (site : CallSite) (z : Option Number) (s : State) (x : Number) → IsState a s → Grows a b → IsNumber b x
    → ((e : Environment) (v : Values) → Models b e v → needed_by site (maybe_number v z) (run_in v s)
    ≡ Some (Ok (record { operands = number_in v x ∷ onto v [] s.operands; done = done_in v s })))
    → Gives a b site z s (record { going = record s { operands = s.operands ++ x ∷ [] } ∷ []; ended = [] })
gives_value a b site z s x is g h means = record {
  grows = g;
  going_states = (with_number b s x (state_grown g s is) h, tt);
  ended_states = tt;
  going = λ e v m.
      ap (λ l. cond (v s.guard.index).truth (record { operands = l; done = done_in v s } ∷ []) []) (onto_pushed v [] s.operands x)
      ∙ ap (λ o. cond (v s.guard.index).truth (to_list (going o)) []) (sym (means e v m));
  ended = λ e v m. nothing_so (v s.guard.index).truth ∙ ap (λ o. cond (v s.guard.index).truth (to_list (ending o)) []) (sym (means e v m));
}

pub gives_some : (a : List Shape) (site : CallSite) (z : Option Number) (x : Number) (s : State) (w : Walked) → IsState a s
    → IsMaybeNumber a z → z ≡ Some x → w ≡ record { going = record s { operands = s.operands ++ x ∷ [] } ∷ []; ended = [] }
    → Gives a a site z s w
gives_some a site z x s w is h at same =
    rw (same, at) (gives_value a a site (Some x) s x is stays (rw at at h) (λ e v m. refl))

zero_needed : (used : Bool) (at : ℕ) (t : ValueType) (zs : List ℤ) (d : Done ℕ) → gives_any t && used ≡ false
    → pushed zs (needed used at t None d) ≡ Some (Ok (record { operands = pos 0 ∷ zs; done = d }))
zero_needed false at t zs d h = refl
zero_needed true at vt.Void zs d h = refl
zero_needed true at vt.Truth zs d h = absurd (cc)
zero_needed true at (vt.Word t) zs d h = absurd (cc)
zero_needed true at vt.Pointer zs d h = absurd (cc)
zero_needed true at (vt.Block bytes) zs d h = absurd (cc)

zero_found : (v : Values) (site : CallSite) (x : Number) (s : State) → must_give site ≡ false → number_in v x ≡ pos 0
    → needed_by site (maybe_number v None) (run_in v s) ≡ Some (Ok (record { operands = number_in v x ∷ onto v [] s.operands; done = done_in v s }))
zero_found v site x s h is = rw is (zero_needed site.is_used site.at site.answer (onto v [] s.operands) (done_in v s) h)

pub gives_zero : (a b : List Shape) (site : CallSite) (z : Option Number) (x : Number) (s : State) (w : Walked) → IsState a s
    → Numbered a b x (λ v. pos 0) → must_give site ≡ false → z ≡ None
    → w ≡ record { going = record s { operands = s.operands ++ x ∷ [] } ∷ []; ended = [] } → Gives a b site z s w
gives_zero a b site z x s w is h needed at same =
    rw (same, at) (gives_value a b site None s x is h.grows h.number (λ e v m. zero_found v site x s needed (h.is e v m)))

abbrev pub ended_by : StateKind → State → State
ended_by kind s = record s { kind = kind; operands = [] }

ended_state : (b : List Shape) (kind : StateKind) (s : State) → IsStateKind b kind → IsState b s → IsState b (ended_by kind s)
ended_state b kind s h is = record { guard = is.guard; kind = h; memory = is.memory; value = is.value; events = is.events; operands = tt }

missing_needed : (used : Bool) (at : ℕ) (t : ValueType) (zs : List ℤ) (d : Done ℕ) → gives_any t && used ≡ true
    → pushed zs (needed used at t None d) ≡ Some (Err (record d { kind = k.Ended (finish.Stopped MissingValue at) }))
missing_needed false at vt.Void zs d h = absurd (cc)
missing_needed false at vt.Truth zs d h = absurd (cc)
missing_needed false at (vt.Word t) zs d h = absurd (cc)
missing_needed false at vt.Pointer zs d h = absurd (cc)
missing_needed false at (vt.Block bytes) zs d h = absurd (cc)
missing_needed true at vt.Void zs d h = absurd (cc)
missing_needed true at vt.Truth zs d h = refl
missing_needed true at (vt.Word t) zs d h = refl
missing_needed true at vt.Pointer zs d h = refl
missing_needed true at (vt.Block bytes) zs d h = refl

-- without one that is needed
gives_none : (a : List Shape) (site : CallSite) (s : State) → IsState a s → must_give site ≡ true
    → Gives a a site None s (record { going = []; ended = ended_by (Known (k.Ended (finish.Stopped MissingValue site.at))) s ∷ [] })
gives_none a site s is h =
    let means : (v : Values) → needed_by site None (run_in v s) ≡ Some (Err (record (done_in v s) { kind = k.Ended (finish.Stopped MissingValue site.at) })) =
    λ v. missing_needed site.is_used site.at site.answer (onto v [] s.operands) (done_in v s) h in
    record {
      grows = stays;
      going_states = tt;
      ended_states = (ended_state a (Known (k.Ended (finish.Stopped MissingValue site.at))) s tt is, tt);
      going = λ e v m. nothing_so (v s.guard.index).truth ∙ ap (λ o. cond (v s.guard.index).truth (to_list (going o)) []) (sym (means v));
      ended = λ e v m. ap (λ o. cond (v s.guard.index).truth (to_list (ending o)) []) (sym (means v));
    }

-- ---- one end

pub gives_missing : (a : List Shape) (site : CallSite) (z : Option Number) (s : State) (w : Walked) → IsState a s → must_give site ≡ true
    → z ≡ None → w ≡ record { going = []; ended = ended_by (Known (k.Ended (finish.Stopped MissingValue site.at))) s ∷ [] } → Gives a a site z s w
gives_missing a site z s w is h at same = rw (same, at) (gives_none a site s is h)

both_guards : {A : Type 0} (g h : Bool) (xs : List A) (q : Bool) → q ≡ cond g h false → cond q xs [] ≡ cond g (cond h xs [] ++ []) []
both_guards true true xs q is = rw is (sym (append-nil xs))
both_guards true false xs q is = rw is refl
both_guards false h xs q is = rw is refl

each_one : (f : Held → List Held) (h : Bool) (r : Held) → each_of f (cond h (r ∷ []) []) ≡ cond h (f r) [] ++ []
each_one f true r = refl
each_one f false r = refl

-- what stands where both guards are true
by_both : (f : Held → List Held) (g h q : Bool) (r : Held) (xs ys : List Held) → q ≡ cond g h false → xs ≡ cond q ys [] → ys ≡ f r
    → xs ≡ cond g (each_of f (cond h (r ∷ []) [])) []
by_both f g h q r xs ys is at same =
    at ∙ ap (λ l. cond q l []) same ∙ both_guards g h (f r) q is ∙ ap (λ l. cond g l []) (sym (each_one f h r))

pub resumes_ended : (a b : List Shape) (site : CallSite) (caller end t : State) → IsStateKind a end.kind → Ends end.kind
    → Continues a b site caller end t
    → Resumes a b site caller (end ∷ []) (record { going = []; ended = ended_by end.kind t ∷ [] })
resumes_ended a b site caller end t stands is h =
    let ends : (e : Environment) (v : Values) → Models b e v → answered site (run_in v caller) (run_in v end)
    ≡ Some (Err (record (done_in v t) { kind = kind_in v end.kind })) =
    λ e v m. ap (λ o. pushed (onto v [] caller.operands) (o >>= (λ w. needed site.is_used site.at site.answer w.0 w.1)))
    (is.over v (note (along []) (happening.Call site.at) (done_in v caller)) (done_in v end))
    ∙ ap (λ (d : Done ℕ). Some (Err (record d { kind = kind_in v end.kind }))) (sym (h.is e v m)) in
    record {
      grows = h.grows;
      going_states = tt;
      ended_states = (ended_state b end.kind t (kind_grown h.grows end.kind stands) h.state, tt);
      going = λ e v m.
          by_both (goes_on site (run_in v caller)) (v caller.guard.index).truth (v end.guard.index).truth (v t.guard.index).truth (run_in v end) [] []
          (h.guard e v m) (nothing_so (v t.guard.index).truth) (ap (λ o. to_list (going o)) (sym (ends e v m)));
      ended = λ e v m.
          by_both (ends_there site (run_in v caller)) (v caller.guard.index).truth (v end.guard.index).truth (v t.guard.index).truth (run_in v end)
          (standing v (ended_by end.kind t ∷ [])) (run_in v (ended_by end.kind t) ∷ [])
          (h.guard e v m) refl (ap (λ o. to_list (ending o)) (sym (ends e v m)));
    }

pub resumes_given : (a b c : List Shape) (site : CallSite) (caller end t : State) (w : Walked) → GoesOn end.kind
    → Continues a b site caller end t → Gives b c site end.value t w → Resumes a c site caller (end ∷ []) w
resumes_given a b c site caller end t w on h g =
    let is : (e : Environment) (v : Values) → Models c e v → answered site (run_in v caller) (run_in v end)
    ≡ needed_by site (maybe_number v end.value) (run_in v t) =
    λ e v m. ap (λ o. pushed (onto v [] caller.operands) (o >>= (λ w. needed site.is_used site.at site.answer w.0 w.1)))
    (on.on v (note (along []) (happening.Call site.at) (done_in v caller)) (done_in v end))
    ∙ ap (λ (d : Done ℕ). pushed (onto v [] caller.operands) (needed site.is_used site.at site.answer (maybe_number v end.value) d))
    (sym (h.is e v (weaken g.grows m)))
    ∙ ap (λ l. pushed (onto v [] l) (needed site.is_used site.at site.answer (maybe_number v end.value) (done_in v t))) (sym h.operands) in
    record {
      grows = grows_on h.grows g.grows;
      going_states = g.going_states;
      ended_states = g.ended_states;
      going = λ e v m.
          by_both (goes_on site (run_in v caller)) (v caller.guard.index).truth (v end.guard.index).truth (v t.guard.index).truth (run_in v end)
          (standing v w.going) (to_list (going (needed_by site (maybe_number v end.value) (run_in v t))))
          (h.guard e v (weaken g.grows m)) (g.going e v m) (ap (λ o. to_list (going o)) (sym (is e v m)));
      ended = λ e v m.
          by_both (ends_there site (run_in v caller)) (v caller.guard.index).truth (v end.guard.index).truth (v t.guard.index).truth (run_in v end)
          (standing v w.ended) (to_list (ending (needed_by site (maybe_number v end.value) (run_in v t))))
          (h.guard e v (weaken g.grows m)) (g.ended e v m) (ap (λ o. to_list (ending o)) (sym (is e v m)));
    }

-- ---- all ends

pub resumes_none : (a : List Shape) (site : CallSite) (caller : State) → Resumes a a site caller [] (record { going = []; ended = [] })
resumes_none a site caller = record {
  grows = stays;
  going_states = tt;
  ended_states = tt;
  going = λ e v m. nothing_so (v caller.guard.index).truth;
  ended = λ e v m. nothing_so (v caller.guard.index).truth;
}

both_lists : {A : Type 0} (g : Bool) (xs ys : List A) → cond g xs [] ++ cond g ys [] ≡ cond g (xs ++ ys) []
both_lists true xs ys = refl
both_lists false xs ys = refl

two_lists : (f : Held → List Held) (g : Bool) (all xs ys hs rs : List Held) → all ≡ xs ++ ys → xs ≡ cond g (each_of f hs) []
    → ys ≡ cond g (each_of f rs) [] → all ≡ cond g (each_of f (hs ++ rs)) []
two_lists f g all xs ys hs rs is h k =
    is ∙ rw (h, k) (both_lists g (each_of f hs) (each_of f rs)) ∙ ap (λ l. cond g l []) (sym (each_joined f hs rs))

pub resumes_more : (a b c : List Shape) (site : CallSite) (caller : State) (ends : List State) (end : State) (w u : Walked)
    → Resumes a b site caller ends w → Resumes b c site caller (end ∷ []) u
    → Resumes a c site caller (ends ++ end ∷ []) (record { going = w.going ++ u.going; ended = w.ended ++ u.ended })
resumes_more a b c site caller ends end w u h i = record {
  grows = grows_on h.grows i.grows;
  going_states = states_joined c w.going u.going (states_grown i.grows w.going h.going_states) i.going_states;
  ended_states = states_joined c w.ended u.ended (states_grown i.grows w.ended h.ended_states) i.ended_states;
  going = λ e v m.
      two_lists (goes_on site (run_in v caller)) (v caller.guard.index).truth (standing v (w.going ++ u.going)) (standing v w.going)
      (standing v u.going) (standing v ends) (standing v (end ∷ [])) (standing_joined v w.going u.going) (h.going e v (weaken i.grows m))
      (i.going e v m)
      ∙ ap (λ l. cond (v caller.guard.index).truth (each_of (goes_on site (run_in v caller)) l) []) (sym (standing_joined v ends (end ∷ [])));
  ended = λ e v m.
      two_lists (ends_there site (run_in v caller)) (v caller.guard.index).truth (standing v (w.ended ++ u.ended)) (standing v w.ended)
      (standing v u.ended) (standing v ends) (standing v (end ∷ [])) (standing_joined v w.ended u.ended) (h.ended e v (weaken i.grows m))
      (i.ended e v m)
      ∙ ap (λ l. cond (v caller.guard.index).truth (each_of (ends_there site (run_in v caller)) l) []) (sym (standing_joined v ends (end ∷ [])));
}
