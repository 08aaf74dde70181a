-- A call by a summary.
use Rattle.std.proofs.Common.{◌≡◌, ℕ, zero, suc, ℤ, ◌+◌, List, [], ◌∷◌, length, Bool, true, false, cond, Option, Some, None, refl, sym, ap, subst, ◌∙◌, arith, append-nil}
use Rattle.std.specs.Prelude.{Result}
use Rattle.plain_data.specs.declared.run.Happening.TheVariants as happening
use Rattle.c_means.specs.declared.kind.Kind.{Kind}
use Rattle.c_means.specs.declared.kind.Kind.TheVariants as k
use Rattle.core_tree.specs.declared.types.ValueType.{ValueType}
use Rattle.core_tree.specs.declared.types.ValueType.TheVariants as vt
use Rattle.core_tree.specs.declared.expr.Callee.TheVariants as callee
use Rattle.core_tree.specs.States.{Calls, Done, ◌>>=◌, along, note, returned, returned_in}
use Rattle.core_tree.specs.Callees.{body_call}
use Rattle.core_tree.specs.Values.{needed}
use Rattle.term_bank.specs.declared.binding.Binding.{Binding}
use Rattle.term_bank.specs.declared.sort.Node.{Node}
use Rattle.term_bank.specs.declared.shape.Shape.{Shape}
use Rattle.term_bank.specs.Banks.{IsBank}
use Rattle.term_bank.specs.Bindings.{IsBinding, bound}
use Rattle.term_bank.specs.Shapes.{Each, IsNode}
use Rattle.term_bank.specs.Values.{Environment, Values, Models, Grows}
use Rattle.term_bank.proofs.BankLemmas.{weaken, grows_on, node_grown}
use Rattle.term_bank.proofs.TermLemmas.{node_of, term_grown}
use Rattle.path_states.specs.declared.state.Number.{Number}
use Rattle.path_states.specs.declared.state.State.{State}
use Rattle.path_states.specs.declared.state.Walked.{Walked}
use Rattle.path_states.specs.States.{Held, IsRoomy, IsSized, AllSized, onto, run_in, done_in, standing}
use Rattle.path_states.specs.Ways.{Tries, going, ending, to_list}
use Rattle.path_steps.specs.Operands.{pushed, top, under}
use Rattle.path_arrows.specs.Arrows.{bare, bared}
use Rattle.path_arrows.specs.Objects.{Places}
use Rattle.path_forms.specs.declared.calling.CallSite.{CallSite}
use Rattle.path_forms.specs.declared.frame.Placed.{Placed}
use Rattle.path_forms.specs.Around.{Around}
use Rattle.path_forms.specs.Calling.{taken, below, call_way}
use Rattle.summary_compose.specs.declared.summary.Summary.{Summary}
use Rattle.summary_compose.specs.Summaries.{world_in, entry_values, given, Answers}
use Rattle.summary_compose.specs.Renaming.{each_of}
use Rattle.summary_compose.specs.Composing.{answered, read_all, Takes, Passes, PutsIn, Resumes}
use Rattle.summary_compose.proofs.Passed.{entries_given, one_longer}

-- ---- the call in the core

-- what a call is to the caller, by what the function that is called does
abbrev pub by_call : CallSite → List ℤ → Done ℕ → Option (Done ℕ) → Option (Result Held (Done ℕ))
by_call site zs d o =
    pushed zs (returned (along []) (note (along []) (happening.Call site.at) d) o
    >>= (λ w. needed site.is_used site.at site.answer w.0 w.1))

pub called_so : (x : Around) (frame : List Placed) (f : ℕ) (site : CallSite) (e : Environment) (v : Values) (h : Held) (calls : Calls ℕ)
    → x.calls e ≡ Some calls
    → call_way x frame (callee.Body f) site e v h
    ≡ by_call site (below site.count h.operands) h.done (calls f (taken site.count h.operands) (e.base + site.place) h.done.store h.done.out)
called_so x frame f site e v h calls is =
    ap (λ (c : Option (Calls ℕ)). by_call site (below site.count h.operands) h.done
    (body_call c (along x.log) site.at f (taken site.count h.operands) (e.base + site.place) h.done.store h.done.out)) is

-- ---- ends that stand

by_ends : (f : Held → List Held) (g : Option (Done ℕ) → List Held) (o : Option (Done ℕ)) → g None ≡ [] → ((r : Done ℕ) → f (bare r) ≡ g (Some r))
    → each_of f (to_list (bared o)) ≡ g o
by_ends f g None h k = sym h
by_ends f g (Some r) h k = append-nil (f (bare r)) ∙ k r

-- ---- stores stay sized

needed_sized : (used : Bool) (at : ℕ) (t : ValueType) (zs : List ℤ) (z : Option ℤ) (d : Done ℕ) → IsSized d.store
    → AllSized (going (pushed zs (needed used at t z d))) × AllSized (ending (pushed zs (needed used at t z d)))
needed_sized used at t zs (Some z) d h = (h, tt)
needed_sized false at t zs None d h = (h, tt)
needed_sized true at vt.Void zs None d h = (h, tt)
needed_sized true at vt.Truth zs None d h = (tt, h)
needed_sized true at (vt.Word w) zs None d h = (tt, h)
needed_sized true at vt.Pointer zs None d h = (tt, h)
needed_sized true at (vt.Block bytes) zs None d h = (tt, h)

kind_sized : (site : CallSite) (zs : List ℤ) (d r : Done ℕ) (kind : Kind) → IsSized r.store
    → let o = pushed zs (returned_in (along []) d r kind >>= (λ w. needed site.is_used site.at site.answer w.0 w.1)) in
    AllSized (going o) × AllSized (ending o)
kind_sized site zs d r (k.Ended f) h = (tt, h)
kind_sized site zs d r k.Running h = needed_sized site.is_used site.at site.answer zs r.value _ h
kind_sized site zs d r k.Breaking h = needed_sized site.is_used site.at site.answer zs r.value _ h
kind_sized site zs d r k.Continuing h = needed_sized site.is_used site.at site.answer zs r.value _ h
kind_sized site zs d r k.Returning h = needed_sized site.is_used site.at site.answer zs r.value _ h
kind_sized site zs d r (k.Going l) h = needed_sized site.is_used site.at site.answer zs r.value _ h
kind_sized site zs d r (k.Choosing z) h = needed_sized site.is_used site.at site.answer zs r.value _ h
kind_sized site zs d r k.Defaulting h = needed_sized site.is_used site.at site.answer zs r.value _ h

pub call_sized : (site : CallSite) (zs : List ℤ) (d : Done ℕ) (o : Option (Done ℕ)) → AllSized (bared o)
    → AllSized (going (by_call site zs d o)) × AllSized (ending (by_call site zs d o))
call_sized site zs d None h = (tt, tt)
call_sized site zs d (Some r) h = kind_sized site zs (note (along []) (happening.Call site.at) d) r r.kind h

-- ---- how many arguments there are

pub taken_long : (n : ℕ) (zs : List ℤ) → length (taken n zs) ≡ n
taken_long zero zs = refl
taken_long (suc n) zs = one_longer (taken n (under zs)) (top zs) n (taken_long n (under zs))

-- ---- what is put in

each_grown : (c d : List Shape) (ns : List Node) → Grows c d → Each (IsNode c) ns → Each (IsNode d) ns
each_grown c d [] g h = tt
each_grown c d (n ∷ ns) g h = (node_grown c d n g h.0, each_grown c d ns g h.1)

pub binds : (a b c d : List Shape) (s t : State) (count : ℕ) (ts : List ValueType) (xs : List Number) (ns : List Node) (base : Node) (place : ℕ)
    → Takes a b s t count xs → Passes b c ts xs [] ns → Places c d base place
    → IsBinding d (record { entry = t.memory; parameters = ns; base = base })
binds a b c d s t count ts xs ns base place takes passes places =
    let memory = term_grown b d _ t.memory (grows_on passes.grows places.grows) takes.state.memory in
    record {
      entry = node_of d _ t.memory memory;
      entry_sort = memory.same;
      parameters = subst (λ l. Each (IsNode d) l) (sym passes.behind) (each_grown c d passes.more places.grows passes.nodes);
      base = node_of d _ base places.term;
      base_sort = places.term.same;
    }

-- ---- the summary where it is put in

module _ (a b c d f g : List Shape) (s t : State) (site : CallSite) (summary : Summary) (xs : List Number) (parameters : List Node)
    (base : Node) (ends : List State) (w : Walked) (takes : Takes a b s t site.count xs)
    (passes : Passes b c summary.parameters xs [] parameters) (places : Places c d base site.place) (bank : IsBank d)
    (puts : PutsIn d f (record { entry = t.memory; parameters = parameters; base = base }) summary.states ends)
    (resumes : Resumes f g site t ends w) where
  abbrev put : Binding
  put = record { entry = t.memory; parameters = parameters; base = base }

  done_same : (v : Values) → done_in v t ≡ done_in v s
  done_same v = ap (λ (u : State). done_in v u) takes.same

  given_same : (e : Environment) (v : Values) → Models d e v
      → entry_values (bound e v put) 0 summary.parameters ≡ given summary.parameters (taken site.count (onto v [] s.operands))
  given_same e v m =
      let mc = weaken places.grows m in
      let mb = weaken passes.grows mc in
      let same : passes.more ≡ parameters = sym passes.behind in
      entries_given e v put summary.parameters (taken site.count (onto v [] s.operands)) (ap length (sym same) ∙ passes.long)
      (ap (λ l. read_parameters v l) (sym same) ∙ passes.are e v mc ∙ ap (λ l. given summary.parameters l) (takes.are e v mb)) where
        read_parameters : Values → List Node → List ℤ
        read_parameters v l = read_all summary.parameters l v

  module _ (x : Around) (room h : ℕ) (answers : Answers x room site h s.position a summary) where
    own_room : (e : Environment) (v : Values) → Models d e v → IsRoomy room e → IsRoomy answers.own (bound e v put)
    own_room e v m r =
        let is = ((places.placed room (omega (arith, answers.fits))).is e v m r) in
        record { places = omega (arith, is, answers.fits, r.places) }

    -- what the ends say, by what the function does
    ends_are : (e : Environment) (v : Values) → Models f e v → IsRoomy room e → IsSized (run_in v s).done.store
        → standing v ends ≡ to_list (bared (answers.calls (world_in e) h (taken site.count (onto v [] s.operands)) (e.base + site.place)
        (run_in v s).done.store s.position))
    ends_are e v m r sized =
        let md = weaken puts.grows m in
        let other = bank.valued (bound e v put) in
        let placed_at : (v base.index).word ≡ e.base + site.place = (places.placed room (omega (arith, answers.fits))).is e v md r in
        let store_same : (v t.memory.index).store ≡ (run_in v s).done.store = ap (λ (q : Done ℕ). q.store) (done_same v) in
        let begun = weaken (grows_on answers.grown (grows_on takes.grows (grows_on passes.grows places.grows))) other.1 in
        puts.same e v other.0 m other.1
        ∙ answers.stands.stands (bound e v put) other.0 begun (own_room e v md r) (rw store_same sized)
        ∙ ap (λ l. to_list (bared (answers.calls (world_in e) h l (v base.index).word (v t.memory.index).store s.position))) (given_same e v md)
        ∙ ap (λ o. to_list (bared o)) (answers.is_function.converts (world_in e) (taken site.count (onto v [] s.operands)) (v base.index).word
        (v t.memory.index).store s.position)
        ∙ ap (λ n. to_list (bared (answers.calls (world_in e) h (taken site.count (onto v [] s.operands)) n (v t.memory.index).store s.position))) placed_at
        ∙ ap (λ q. to_list (bared (answers.calls (world_in e) h (taken site.count (onto v [] s.operands)) (e.base + site.place) q s.position))) store_same

    -- the caller, its arguments taken off
    held_same : (e : Environment) (v : Values) → Models b e v
        → run_in v t ≡ record { operands = below site.count (onto v [] s.operands); done = done_in v s }
    held_same e v m = rw (takes.rest e v m) (ap (λ q. record { operands = below site.count (onto v [] s.operands); done = q }) (done_same v))

    by_guard : (q p : Bool) (xs ys : List Held) → q ≡ p → (p ≡ true → xs ≡ ys) → cond q xs [] ≡ cond p ys []
    by_guard q true xs ys is same = rw is (same refl)
    by_guard q false xs ys is same = rw is refl

    said : (part : Option (Result Held (Done ℕ)) → Option Held) (e : Environment) (v : Values) (frame : List Placed) → part None ≡ None → Models f e v → IsRoomy room e
        → ((v s.guard.index).truth ≡ true → IsSized (run_in v s).done.store)
        → cond (v t.guard.index).truth (each_of (λ r. to_list (part (answered site (run_in v t) r))) (standing v ends)) []
        ≡ cond (v s.guard.index).truth (to_list (part (call_way x frame (callee.Body h) site e v (run_in v s)))) []
    said part e v frame none m r sized =
        let mb = weaken (grows_on passes.grows (grows_on places.grows puts.grows)) m in
        let zs : List ℤ = below site.count (onto v [] s.operands) in
        let o : Option (Done ℕ) = answers.calls (world_in e) h (taken site.count (onto v [] s.operands)) (e.base + site.place) (run_in v s).done.store s.position in
        let same : (q : (v s.guard.index).truth ≡ true) → each_of (λ r. to_list (part (answered site (run_in v t) r))) (standing v ends)
        ≡ to_list (part (call_way x frame (callee.Body h) site e v (run_in v s))) =
        λ q. ap (λ l. each_of (λ r. to_list (part (answered site (run_in v t) r))) l) (ends_are e v m r (sized q))
        ∙ ap (λ y. each_of (λ r. to_list (part (answered site y r))) (to_list (bared o))) (held_same e v mb)
        ∙ by_ends (λ r. to_list (part (answered site (record { operands = zs; done = done_in v s }) r)))
        (λ p. to_list (part (by_call site zs (done_in v s) p))) o (ap to_list none) (λ r. refl)
        ∙ ap (λ p. to_list (part p)) (sym (called_so x frame h site e v (run_in v s) (answers.calls (world_in e)) (answers.are e))) in
        by_guard (v t.guard.index).truth (v s.guard.index).truth _ _ (ap (λ (u : State). (v u.guard.index).truth) takes.same) same

    kept : (e : Environment) (v : Values) (frame : List Placed) → IsRoomy room e → (y : Held) → IsSized y.done.store
        → AllSized (going (call_way x frame (callee.Body h) site e v y)) × AllSized (ending (call_way x frame (callee.Body h) site e v y))
    kept e v frame r y sized =
        let other : Environment = record e { base = e.base + site.place } in
        let long : length (taken site.count y.operands) ≡ length summary.parameters = taken_long site.count y.operands ∙ sym takes.counted ∙ passes.alike in
        let own : IsRoomy answers.own other = record { places = omega (arith, answers.fits, r.places) } in
        rw (called_so x frame h site e v y (answers.calls (world_in e)) (answers.are e))
        (call_sized site (below site.count y.operands) y.done _
        (answers.is_function.sized other own (taken site.count y.operands) y.done.store y.done.out long sized))

    pub composed : (frame : List Placed) → Tries room a g s w (call_way x frame (callee.Body h) site)
    composed frame =
        let ag = grows_on takes.grows (grows_on passes.grows (grows_on places.grows (grows_on puts.grows resumes.grows))) in
        record {
          going = record {
            grows = ag;
            states = resumes.going_states;
            stands = λ e v m r sized. resumes.going e v m ∙ said going e v frame refl (weaken resumes.grows m) r sized;
            sized = λ e v m r y sized. (kept e v frame r y sized).0;
          };
          ended = record {
            grows = ag;
            states = resumes.ended_states;
            stands = λ e v m r sized. resumes.ended e v m ∙ said ending e v frame refl (weaken resumes.grows m) r sized;
            sized = λ e v m r y sized. (kept e v frame r y sized).1;
          };
        }
