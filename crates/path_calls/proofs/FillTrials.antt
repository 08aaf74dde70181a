-- What calls of functions outside that fill buffers make of one state.
use Rattle.std.proofs.Common.{◌≡◌, ℕ, ◌+◌, ◌<◌, ℤ, pos, negsuc, List, [], ◌∷◌, ◌++◌, Bool, true, false, not, cond, Option, Some, refl, sym, ap, ◌∙◌, subst, append-nil}
use Rattle.std.specs.Prelude.{Result, Ok, Err}
use Rattle.plain_data.specs.declared.bounds.Bounds.{Bounds}
use Rattle.plain_data.specs.declared.run.Finish.TheVariants as finish
use Rattle.plain_data.specs.declared.run.Happening.TheVariants as happening
use Rattle.plain_data.specs.declared.run.Undefined.{Undefined}
use Rattle.plain_data.specs.declared.run.Undefined.TheVariants.{Dereference, LiteralWrite}
use Rattle.c_store.specs.Store.{Store}
use Rattle.c_store.specs.Access.{can_access, can_write}
use Rattle.core_tree.specs.declared.expr.Callee.TheVariants as callee
use Rattle.core_tree.specs.declared.expr.Fill.{Fill}
use Rattle.core_tree.specs.declared.expr.OutsideAnswer.{OutsideAnswer}
use Rattle.core_tree.specs.Callees.{is_odd}
use Rattle.core_tree.specs.Numbers.{converted_to}
use Rattle.core_tree.specs.States.{Done, along, entered, note, returned, finished, ◌>>=◌}
use Rattle.core_tree.specs.Values.{needed}
use Rattle.term_bank.specs.declared.shape.Shape.{Shape}
use Rattle.term_bank.specs.Values.{Environment, Values, Models, Grows}
use Rattle.term_bank.proofs.BankLemmas.{weaken, grows_on}
use Rattle.path_states.specs.declared.state.Number.{Number}
use Rattle.path_states.specs.declared.state.State.{State}
use Rattle.path_states.specs.declared.state.Walked.{Walked}
use Rattle.path_states.specs.States.{Held, IsSized, AllSized, IsRoomy, run_in, done_in, onto, number_in}
use Rattle.path_states.specs.Ways.{to_list, Trial, going, ending, Tries}
use Rattle.path_states.proofs.Growth.{onto_pushed}
use Rattle.path_steps.specs.declared.settling.Exit.{Exit}
use Rattle.path_steps.specs.Exits.{settled_in, Settles}
use Rattle.path_steps.specs.Operands.{pushed}
use Rattle.path_steps.proofs.Trials.{Keeps}
use Rattle.path_forms.specs.declared.calling.CallSite.{CallSite}
use Rattle.path_forms.specs.declared.frame.Placed.{Placed}
use Rattle.path_forms.specs.Around.{Around}
use Rattle.path_forms.specs.Calling.{taken, below, call_way}
use Rattle.path_calls.specs.declared.fills.FillReply.{FillReply}
use Rattle.path_calls.specs.Begun.{Begins, begun}
use Rattle.path_calls.specs.Places.{IsWithin, CallsWithin}
use Rattle.path_calls.specs.Replies.{word_in, value_by, store_by, IsSmall}
use Rattle.path_calls.specs.Fills.{buffer_by, count_by, laid_by, fails_by, fill_value, fill_store, RepliesIn, RepliesFilled}
use Rattle.path_calls.specs.FillCalls.{SettlesFill}
use Rattle.path_calls.proofs.OutsideTrials.{gone_on, back_with, outside_done, store_sized, store_begun}

-- ---- states whose events and operands are others

when_so : (g : Bool) (x y : Option (Result Held (Done ℕ))) (f : Option (Result Held (Done ℕ)) → Option Held) → (g ≡ true → x ≡ y)
    → cond g (to_list (f x)) [] ≡ cond g (to_list (f y)) []
when_so true x y f h = ap (λ o. to_list (f o)) (h refl)
when_so false x y f h = refl

tries_guarded : (room : ℕ) (a b c : List Shape) (s t next : State) (x y : Option Exit) (w : Walked) (f : Trial) → Grows a b
    → t.guard ≡ s.guard → Settles b c t next x y w
    → ((e : Environment) (v : Values) → Models c e v → IsRoomy room e → IsSized (run_in v s).done.store
    → settled_in v t next x y ≡ f e v (run_in v s))
    → Keeps f → Tries room a c s w f
tries_guarded room a b c s t next x y w f g same h means keep =
    let guard : (v : Values) → (v t.guard.index).truth ≡ (v s.guard.index).truth = λ v. ap (λ n. (v n.index).truth) same in
    record {
      going = record {
        grows = grows_on g h.grows;
        states = h.going_states;
        stands = λ e v m r k.
            h.going_is e v m
            ∙ ap (λ (q : Bool). cond q (to_list (going (settled_in v t next x y))) []) (guard v)
            ∙ when_so (v s.guard.index).truth (settled_in v t next x y) (f e v (run_in v s)) going (λ q. means e v m r (k q));
        sized = λ e v m r d k. (keep.keeps e v d k).0;
      };
      ended = record {
        grows = grows_on g h.grows;
        states = h.ended_states;
        stands = λ e v m r k.
            h.ended_is e v m
            ∙ ap (λ (q : Bool). cond q (to_list (ending (settled_in v t next x y))) []) (guard v)
            ∙ when_so (v s.guard.index).truth (settled_in v t next x y) (f e v (run_in v s)) ending (λ q. means e v m r (k q));
        sized = λ e v m r d k. (keep.keeps e v d k).1;
      };
    }

-- ---- what the core's call is

abbrev after_call : Around → CallSite → Held → Done ℕ → Option (Result Held (Done ℕ))
after_call x site h r =
    pushed (below site.count h.operands)
    (returned (along x.log) (note (along x.log) (happening.Call site.at) h.done) (Some r)
    >>= (λ w. needed site.is_used site.at site.answer w.0 w.1))

abbrev stopped_at : CallSite → Undefined → Held → Option (Result Held (Done ℕ))
stopped_at site u h = Some (Err (finished (finish.Stopped u site.at) (begun site h).done))

abbrev came_back : CallSite → Done ℕ → ℤ → Store → Done ℕ
came_back site d z s = record d { value = Some (converted_to site.answer z); store = s }

ends_with : (x : Around) (site : CallSite) (h : Held) (u : Undefined)
    → after_call x site h (finished (finish.Stopped u site.at) (entered (along x.log) h.done.store h.done.out)) ≡ stopped_at site u h
ends_with x site h u =
    ap (λ l. Some (Err (finished (finish.Stopped u site.at) (record h.done { events = l })))) (append-nil (begun site h).done.events)

outcome_is : (x : Around) (site : CallSite) (h : Held) (odd c w : Bool) (z y : ℤ) (s : Store)
    → let d = entered (along x.log) h.done.store h.done.out in
    after_call x site h (cond odd (came_back site d z h.done.store)
    (cond c (cond w (came_back site d y s) (finished (finish.Stopped LiteralWrite site.at) d)) (finished (finish.Stopped Dereference site.at) d)))
    ≡ cond (cond odd false (not c)) (stopped_at site Dereference h)
    (cond (cond odd false (not w)) (stopped_at site LiteralWrite h) (gone_on site (cond odd z y) (cond odd h.done.store s) h))
outcome_is x site h true c w z y s = back_with x site h z h.done.store
outcome_is x site h false true true z y s = back_with x site h y s
outcome_is x site h false true false z y s = ends_with x site h LiteralWrite
outcome_is x site h false false w z y s = ends_with x site h Dereference

-- by the bounds on what is filled, and on strings
abbrev fill_outcome : ℕ → ℕ → CallSite → OutsideAnswer → Fill → Environment → Held → Option (Result Held (Done ℕ))
fill_outcome heap outside site x f e h =
    let q = e.base + site.place in
    let zs = taken site.count h.operands in
    let s = h.done.store in
    cond (cond (fails_by f e q) false (not (can_access s (buffer_by f zs) (count_by heap f e q zs)))) (stopped_at site Dereference h)
    (cond (cond (fails_by f e q) false (not (can_write s (buffer_by f zs) (count_by heap f e q zs)))) (stopped_at site LiteralWrite h)
    (gone_on site (fill_value heap f x e q zs) (fill_store heap outside f x e q zs s) h))

fill_way : (y : Around) (frame : List Placed) (site : CallSite) (x : OutsideAnswer) (f : Fill) (e : Environment) (v : Values) (h : Held)
    → call_way y frame (callee.Outside x (Some f)) site e v h ≡ fill_outcome y.limits.heap y.limits.outside site x f e h
fill_way y frame site x f e v h = by f.buffer f.length f.counts
  where
    by : (buffer length : ℕ) (counts : Bool)
        → let g : Fill = record { buffer = buffer; length = length; counts = counts } in
        call_way y frame (callee.Outside x (Some g)) site e v h ≡ fill_outcome y.limits.heap y.limits.outside site x g e h
    by buffer length false =
        let g : Fill = record { buffer = buffer; length = length; counts = false } in
        let q = e.base + site.place in let zs = taken site.count h.operands in let s = h.done.store in
        let d = entered (along y.log) s h.done.out in
        let c = can_access s (buffer_by g zs) (count_by y.limits.heap g e q zs) in
        let w = can_write s (buffer_by g zs) (count_by y.limits.heap g e q zs) in
        let t = laid_by y.limits.heap g e q zs s in
        ap (λ (r : Done ℕ). after_call y site h
        (cond c (cond w r (finished (finish.Stopped LiteralWrite site.at) d)) (finished (finish.Stopped Dereference site.at) d)))
        (outside_done y e site.answer x q (record d { store = t }))
        ∙ outcome_is y site h false c w (pos 0) (value_by x (word_in e q) q) (store_by y.limits.outside x (word_in e q) q t)
    by buffer length true =
        let g : Fill = record { buffer = buffer; length = length; counts = true } in
        let q = e.base + site.place in let zs = taken site.count h.operands in let s = h.done.store in
        let n = count_by y.limits.heap g e q zs in
        outcome_is y site h (is_odd (word_in e (q + 3))) (can_access s (buffer_by g zs) n) (can_write s (buffer_by g zs) n) (negsuc 0) (pos n)
        (laid_by y.limits.heap g e q zs s)

-- ---- sizes

fill_sized : (c odd : Bool) (most : ℕ) (x : OutsideAnswer) (w q : ℕ) (s t : Store) → (c ≡ false → IsSmall most x) → IsSized s → IsSized t
    → IsSized (cond c (cond odd s t) (store_by most x w q t))
fill_sized true true most x w q s t small h k = h
fill_sized true false most x w q s t small h k = k
fill_sized false odd most x w q s t small h k = store_sized most x w q t (small refl) k

outcome_sized : (p q : Bool) (site : CallSite) (h : Held) (z : ℤ) (s : Store) → IsSized h.done.store → IsSized s
    → AllSized (going (cond p (stopped_at site Dereference h) (cond q (stopped_at site LiteralWrite h) (gone_on site z s h))))
    × AllSized (ending (cond p (stopped_at site Dereference h) (cond q (stopped_at site LiteralWrite h) (gone_on site z s h))))
outcome_sized true q site h z s k l = (tt, k)
outcome_sized false true site h z s k l = (tt, k)
outcome_sized false false site h z s k l = (l, tt)

fill_keeps : (y : Around) (frame : List Placed) (site : CallSite) (x : OutsideAnswer) (f : Fill)
    → (f.counts ≡ false → IsSmall y.limits.outside x) → Keeps (call_way y frame (callee.Outside x (Some f)) site)
fill_keeps y frame site x f small = record {
  keeps = λ e v h k.
      let q = e.base + site.place in let zs = taken site.count h.operands in let s = h.done.store in
      rw (fill_way y frame site x f e v h)
      (outcome_sized (cond (fails_by f e q) false (not (can_access s (buffer_by f zs) (count_by y.limits.heap f e q zs))))
      (cond (fails_by f e q) false (not (can_write s (buffer_by f zs) (count_by y.limits.heap f e q zs)))) site h
      (fill_value y.limits.heap f x e q zs) (fill_store y.limits.heap y.limits.outside f x e q zs s) k
      (fill_sized f.counts (is_odd (word_in e (q + 3))) y.limits.outside x (word_in e q) q s (laid_by y.limits.heap f e q zs s) small k
      (record { sizes = k.sizes })));
}

-- ---- states

where_going : (fails c w : Bool) (d l x y : Option (Result Held (Done ℕ))) → (cond fails true c ≡ true → x ≡ y)
    → cond (cond fails false (not c)) d (cond (cond fails false (not w)) l x)
    ≡ cond (cond fails false (not c)) d (cond (cond fails false (not w)) l y)
where_going true c w d l x y h = h refl
where_going false true w d l x y h = ap (λ q. cond (not w) l q) (h refl)
where_going false false w d l x y h = refl

module _ (b : Bounds) (room : ℕ) (a c d f : List Shape) (s t : State) (site : CallSite) (xs : List Number) (x : OutsideAnswer) (fill : Fill)
    (r : FillReply) (w : Walked) (within : site.place + 3 < room) (h : Begins a c s t site xs)
    (i : RepliesFilled c d b fill x site.place xs t.memory r) (j : SettlesFill d f t site r w) where
  abbrev next : State
  next = record t { memory = r.reply.memory; operands = t.operands ++ j.last ∷ [] }

  given_in : (e : Environment) (v : Values) → Models d e v → IsRoomy room e
      → RepliesIn b fill x e (e.base + site.place) (taken site.count (onto v [] s.operands)) (v s.memory.index).store v r
  given_in e v m roomy =
      let mc = weaken i.grows m in
      let P : List ℤ → Store → Type 0 = λ l z. RepliesIn b fill x e (e.base + site.place) l z v r in
      subst (λ z. P (taken site.count (onto v [] s.operands)) z) (store_begun site (run_in v s) (run_in v t) (h.run e v mc))
      (subst (λ l. P l (v t.memory.index).store) (h.arguments e v mc) (i.is room within e v m roomy))

  goes_in : (e : Environment) (v : Values) → Models f e v → IsRoomy room e → IsSized (v s.memory.index).store
      → let q = e.base + site.place in
      let zs = taken site.count (onto v [] s.operands) in
      cond (fails_by fill e q) true (can_access (v s.memory.index).store (buffer_by fill zs) (count_by b.heap fill e q zs)) ≡ true
      → ◌≡◌ {A = Option (Result Held (Done ℕ))} (Some (Ok (run_in v next)))
      (gone_on site (fill_value b.heap fill x e q zs) (fill_store b.heap b.outside fill x e q zs (v s.memory.index).store) (run_in v s))
  goes_in e v m roomy sized so =
      let mm = weaken j.settles.grows m in let md = weaken j.numbered.grows mm in
      let given = given_in e v md roomy in
      let run = h.run e v (weaken i.grows md) in
      ap (λ l. Some (Ok (record { operands = l; done = record (done_in v t) { store = (v r.reply.memory.index).store } })))
      (onto_pushed v [] t.operands j.last)
      ∙ ap (λ (k : Held). Some (Ok (record {
        operands = number_in v j.last ∷ k.operands;
        done = record k.done { store = (v r.reply.memory.index).store };
      }))) run
      ∙ ap (λ n. Some (Ok (record {
        operands = n ∷ below site.count (onto v [] s.operands);
        done = record (begun site (run_in v s)).done { store = (v r.reply.memory.index).store };
      }))) (j.numbered.is e v mm)
      ∙ ap (λ n. gone_on site n (v r.reply.memory.index).store (run_in v s)) given.value
      ∙ ap (λ z. gone_on site (fill_value b.heap fill x e (e.base + site.place) (taken site.count (onto v [] s.operands))) z (run_in v s))
      (given.store sized so)

  fills_in : (y : Around) (frame : List Placed) → IsWithin y b → (e : Environment) (v : Values) → Models f e v → IsRoomy room e
      → IsSized (v s.memory.index).store
      → settled_in v t next (Some (record { truth = r.no_access; finish = finish.Stopped Dereference site.at }))
      (Some (record { truth = r.no_write; finish = finish.Stopped LiteralWrite site.at }))
      ≡ call_way y frame (callee.Outside x (Some fill)) site e v (run_in v s)
  fills_in y frame bound e v m roomy sized =
      let md = weaken j.numbered.grows (weaken j.settles.grows m) in
      let given = given_in e v md roomy in
      let run = h.run e v (weaken i.grows md) in
      let q = e.base + site.place in let zs = taken site.count (onto v [] s.operands) in let z = (v s.memory.index).store in
      let fails = fails_by fill e q in
      let can = can_access z (buffer_by fill zs) (count_by b.heap fill e q zs) in
      let may = can_write z (buffer_by fill zs) (count_by b.heap fill e q zs) in
      let last : Option (Result Held (Done ℕ)) = Some (Ok (run_in v next)) in
      ap (λ (k : Held). cond (v r.no_access.index).truth (Some (Err (finished (finish.Stopped Dereference site.at) k.done)))
      (cond (v r.no_write.index).truth (Some (Err (finished (finish.Stopped LiteralWrite site.at) k.done))) last)) run
      ∙ ap (λ g. cond g (stopped_at site Dereference (run_in v s))
      (cond (v r.no_write.index).truth (stopped_at site LiteralWrite (run_in v s)) last)) given.access
      ∙ ap (λ g. cond (cond fails false (not can)) (stopped_at site Dereference (run_in v s))
      (cond g (stopped_at site LiteralWrite (run_in v s)) last)) given.write
      ∙ where_going fails can may (stopped_at site Dereference (run_in v s)) (stopped_at site LiteralWrite (run_in v s)) last
      (gone_on site (fill_value b.heap fill x e q zs) (fill_store b.heap b.outside fill x e q zs z) (run_in v s))
      (λ so. goes_in e v m roomy sized so)
      ∙ ap (λ n. fill_outcome n b.outside site x fill e (run_in v s)) (sym bound.heap)
      ∙ ap (λ n. fill_outcome y.limits.heap n site x fill e (run_in v s)) (sym bound.outside)
      ∙ sym (fill_way y frame site x fill e v (run_in v s))

  pub fill_calls : CallsWithin b room a f s (callee.Outside x (Some fill)) site w
  fill_calls = record {
    tries = λ y frame bound.
        tries_guarded room a j.middle f s t next (Some (record { truth = r.no_access; finish = finish.Stopped Dereference site.at }))
        (Some (record { truth = r.no_write; finish = finish.Stopped LiteralWrite site.at })) w (call_way y frame (callee.Outside x (Some fill)) site)
        (grows_on h.grows (grows_on i.grows j.numbered.grows)) h.guard j.settles
        (λ e v m roomy sized. fills_in y frame bound e v m roomy sized)
        (fill_keeps y frame site x fill (λ so. subst (λ n. IsSmall n x) (sym bound.outside) (i.small so)));
  }
