-- What calls of functions outside make of one state.
use Rattle.std.proofs.Common.{◌≡◌, ℕ, ◌+◌, ◌^◌, ◌<◌, ℤ, pos, List, [], ◌∷◌, ◌++◌, Bool, true, false, not, cond, Option, Some, None, refl, sym, ap, ◌∙◌, subst, append-nil}
use Rattle.std.specs.Prelude.{Result, Ok, nat_eq, ◌&&◌}
use Rattle.plain_data.specs.declared.bounds.Bounds.{Bounds}
use Rattle.plain_data.specs.declared.run.Happening.TheVariants as happening
use Rattle.c_store.specs.declared.object.Object.{Object}
use Rattle.c_store.specs.declared.object.ObjectKind.TheVariants.{Outside}
use Rattle.c_store.specs.Store.{Store, start, make}
use Rattle.c_means.specs.declared.kind.Kind.TheVariants as k
use Rattle.core_tree.specs.declared.expr.Callee.{Callee}
use Rattle.core_tree.specs.declared.expr.Callee.TheVariants as callee
use Rattle.core_tree.specs.declared.expr.OutsideAnswer.{OutsideAnswer}
use Rattle.core_tree.specs.declared.expr.OutsideAnswer.TheVariants as answer
use Rattle.core_tree.specs.declared.expr.Pointee.{Pointee}
use Rattle.core_tree.specs.declared.expr.Pointee.TheVariants as pointee
use Rattle.core_tree.specs.declared.types.ValueType.{ValueType}
use Rattle.core_tree.specs.Callees.{called, outside_answer, outside_object}
use Rattle.core_tree.specs.Numbers.{converted_to}
use Rattle.core_tree.specs.States.{Done, along, entered, note, returned, ◌>>=◌}
use Rattle.core_tree.specs.Values.{needed}
use Rattle.term_bank.specs.declared.sort.Sort.TheVariants.{Memory}
use Rattle.term_bank.specs.declared.sort.Node.{Node}
use Rattle.term_bank.specs.declared.shape.Shape.{Shape}
use Rattle.term_bank.specs.Terms.{IsTerm}
use Rattle.term_bank.specs.Values.{Environment, Values, Models}
use Rattle.term_bank.proofs.BankLemmas.{weaken, grows_on}
use Rattle.term_bank.proofs.TermLemmas.{term_grown}
use Rattle.path_states.specs.declared.state.Number.{Number}
use Rattle.path_states.specs.declared.state.State.{State}
use Rattle.path_states.specs.declared.state.Walked.{Walked}
use Rattle.path_states.specs.States.{Held, IsState, IsSized, IsRoomy, run_in, done_in, onto, number_in}
use Rattle.path_states.proofs.Growth.{onto_pushed, state_grown}
use Rattle.path_steps.specs.Operands.{pushed}
use Rattle.path_steps.proofs.Trials.{with_operand}
use Rattle.path_forms.specs.declared.calling.CallSite.{CallSite}
use Rattle.path_forms.specs.declared.frame.Placed.{Placed}
use Rattle.path_forms.specs.Around.{Around, level_at, env_at}
use Rattle.path_forms.specs.Calling.{taken, below, call_way}
use Rattle.path_calls.specs.declared.outside_pointers.Reply.{Reply}
use Rattle.path_calls.specs.Begun.{Begins, begun, AnswersBy, CallsBy}
use Rattle.path_calls.specs.Places.{IsWithin, CallsWithin}
use Rattle.path_calls.specs.Replies.{size_by, object_by, word_in, value_by, store_by, IsSmall, Replies}
use Rattle.path_calls.proofs.CallTrials.{goes_to}

-- ---- what does not depend on bounds

pub within_bounds : (b : Bounds) (room : ℕ) (old new : List Shape) (s : State) (c : Callee) (site : CallSite) (w : Walked)
    → CallsBy room old new s c site w → CallsWithin b room old new s c site w
within_bounds b room old new s c site w h = record { tries = λ x frame bound. h.tries x frame }

-- ---- a callee that comes back with a value and a store

abbrev pub gone_on : CallSite → ℤ → Store → Held → Option (Result Held (Done ℕ))
gone_on site z s h = Some (Ok (record {
  operands = converted_to site.answer z ∷ below site.count h.operands;
  done = record (begun site h).done { store = s };
}))

pub back_with : (x : Around) (site : CallSite) (h : Held) (z : ℤ) (s : Store)
    → pushed (below site.count h.operands)
    (returned (along x.log) (note (along x.log) (happening.Call site.at) h.done)
    (Some (record { kind = k.Running; value = Some (converted_to site.answer z); store = s; events = []; out = h.done.out }))
    >>= (λ w. needed site.is_used site.at site.answer w.0 w.1))
    ≡ gone_on site z s h
back_with x site h z s =
    ap (λ l. Some (Ok (record {
      operands = converted_to site.answer z ∷ below site.count h.operands;
      done = record h.done { store = s; events = l };
    }))) (append-nil (begun site h).done.events)

pub call_leads : (x : Around) (frame : List Placed) (c : Callee) (site : CallSite) (e : Environment) (v : Values) (h : Held) (z : ℤ) (s : Store)
    → called (level_at x e) c site.at site.answer (env_at frame e) (taken site.count h.operands) (e.base + site.place) h.done.store h.done.out
    ≡ Some (record { kind = k.Running; value = Some (converted_to site.answer z); store = s; events = []; out = h.done.out })
    → call_way x frame c site e v h ≡ gone_on site z s h
call_leads x frame c site e v h z s is =
    ap (λ r. pushed (below site.count h.operands)
    (returned (along x.log) (note (along x.log) (happening.Call site.at) h.done) r
    >>= (λ w. needed site.is_used site.at site.answer w.0 w.1))) is
    ∙ back_with x site h z s

-- ---- what a function outside answers

object_same : (y : Around) (e : Environment) (x : Pointee) (q : ℕ) (s : Store)
    → outside_object (level_at y e) x q s ≡ object_by y.limits.outside x q s
object_same y e pointee.Text q s = refl
object_same y e (pointee.Bytes n) q s = refl

either_done : (c : Bool) (type : ValueType) (z : ℤ) (s t : Store) (d : Done ℕ) → s ≡ t
    → cond c (record d { value = Some (converted_to type (pos 0)) }) (record d { value = Some (converted_to type z); store = s })
    ≡ record d { value = Some (converted_to type (cond c (pos 0) z)); store = cond c d.store t }
either_done true type z s t d h = refl
either_done false type z s t d h = ap (λ q. record d { value = Some (converted_to type z); store = q }) h

pub outside_done : (y : Around) (e : Environment) (type : ValueType) (x : OutsideAnswer) (q : ℕ) (d : Done ℕ)
    → outside_answer (level_at y e) type x q d
    ≡ record d {
      value = Some (converted_to type (value_by x (word_in e q) q));
      store = store_by y.limits.outside x (word_in e q) q d.store;
    }
outside_done y e type answer.Nothing q d = refl
outside_done y e type answer.Number q d = refl
outside_done y e type (answer.Pointer never_null x) q d =
    either_done (nat_eq (word_in e q) 0 && not never_null) type (pos (start q)) (outside_object (level_at y e) x q d.store)
    (object_by y.limits.outside x q d.store) d (object_same y e x q d.store)

reply_way : (y : Around) (frame : List Placed) (site : CallSite) (x : OutsideAnswer) (e : Environment) (v : Values) (h : Held)
    → call_way y frame (callee.Outside x None) site e v h
    ≡ gone_on site (value_by x (word_in e (e.base + site.place)) (e.base + site.place))
    (store_by y.limits.outside x (word_in e (e.base + site.place)) (e.base + site.place) h.done.store) h
reply_way y frame site x e v h =
    let q = e.base + site.place in
    call_leads y frame (callee.Outside x None) site e v h (value_by x (word_in e q) q)
    (store_by y.limits.outside x (word_in e q) q h.done.store)
    (ap (λ d. Some d) (outside_done y e site.answer x q (entered (along y.log) h.done.store h.done.out)))

-- ---- sizes

pub made_sized : (q size : ℕ) (s : Store) → size < 2 ^ 32 → IsSized s → IsSized (make q (record { kind = Outside; size = size }) s)
made_sized q size s small h = record { sizes = λ p o is. by p o (nat_eq p q) is } where
  by : (p : ℕ) (o : Object) (c : Bool) → cond c (Some (record { kind = Outside; size = size })) (s.objects p) ≡ Some o → o.size < 2 ^ 32
  by p o true is = let same : ◌≡◌ {A = Object} (record { kind = Outside; size = size }) o = cc in
      let P : Object → Type 0 = λ x. x.size < 2 ^ 32 in
      subst P same small
  by p o false is = h.sizes p o is

object_sized : (most : ℕ) (x : Pointee) (q : ℕ) (s : Store) → size_by most x < 2 ^ 32 → IsSized s → IsSized (object_by most x q s)
object_sized most pointee.Text q s small h = record { sizes = (made_sized q (size_by most pointee.Text) s small h).sizes }
object_sized most (pointee.Bytes n) q s small h = made_sized q n s small h

pub store_sized : (most : ℕ) (x : OutsideAnswer) (w q : ℕ) (s : Store) → IsSmall most x → IsSized s → IsSized (store_by most x w q s)
store_sized most answer.Nothing w q s small h = h
store_sized most answer.Number w q s small h = h
store_sized most (answer.Pointer never_null x) w q s small h = by (nat_eq w 0 && not never_null) where
  by : (c : Bool) → IsSized (cond c s (object_by most x q s))
  by true = h
  by false = object_sized most x q s small h

-- ---- states

pub with_memory : (b : List Shape) (s : State) (n : Node) → IsState b s → IsTerm b Memory n → IsState b (record s { memory = n })
with_memory b s n is h = record { guard = is.guard; kind = is.kind; memory = h; value = is.value; events = is.events; operands = is.operands }

pub store_begun : (site : CallSite) (h k : Held) → k ≡ begun site h → k.done.store ≡ h.done.store
store_begun site h k is = ap (λ (q : Held). q.done.store) is

module _ (b : Bounds) (room : ℕ) (a c d f : List Shape) (s t : State) (site : CallSite) (xs : List Number) (x : OutsideAnswer) (r : Reply)
    (w : Walked) (within : site.place < room) (h : Begins a c s t site xs) (i : Replies c d b.outside x site.place t.memory r)
    (j : AnswersBy d f (record t { memory = r.memory }) site.answer r.number w) where
  abbrev after : State
  after = record t { memory = r.memory }

  abbrev last : State
  last = record after { operands = t.operands ++ j.last ∷ [] }

  replies_in : (y : Around) (frame : List Placed) → IsWithin y b → (e : Environment) (v : Values) → Models f e v → IsRoomy room e
      → call_way y frame (callee.Outside x None) site e v (run_in v s) ≡ Some (Ok (run_in v last))
  replies_in y frame bound e v m roomy =
      let md = weaken j.numbered.grows m in let mc = weaken i.grows md in
      let q = e.base + site.place in let word = word_in e q in
      let run = h.run e v mc in
      reply_way y frame site x e v (run_in v s)
      ∙ ap (λ most. gone_on site (value_by x word q) (store_by most x word q (v s.memory.index).store) (run_in v s)) bound.outside
      ∙ ap (λ z. gone_on site z (store_by b.outside x word q (v s.memory.index).store) (run_in v s)) (sym (i.value room within e v md roomy))
      ∙ ap (λ z. gone_on site (number_in v r.number) (store_by b.outside x word q z) (run_in v s)) (sym (store_begun site (run_in v s) (run_in v t) run))
      ∙ ap (λ z. gone_on site (number_in v r.number) z (run_in v s)) (sym (i.store room within e v md roomy))
      ∙ ap (λ n. Some (Ok (record {
        operands = n ∷ below site.count (onto v [] s.operands);
        done = record (begun site (run_in v s)).done { store = (v r.memory.index).store };
      }))) (sym (j.numbered.is e v m))
      ∙ ap (λ (q : Held). Some (Ok (record {
        operands = number_in v j.last ∷ q.operands;
        done = record q.done { store = (v r.memory.index).store };
      }))) (sym run)
      ∙ ap (λ l. Some (Ok (record { operands = l; done = done_in v after }))) (sym (onto_pushed v [] t.operands j.last))

  pub replied : CallsWithin b room a f s (callee.Outside x None) site w
  replied = record {
    tries = λ y frame bound.
        let df = j.numbered.grows in
        rw j.is
        (goes_to room a f s last (call_way y frame (callee.Outside x None) site) (grows_on h.grows (grows_on i.grows df))
        (with_operand f after t.operands j.last
        (with_memory f t r.memory (state_grown (grows_on i.grows df) t h.state) (term_grown d f Memory r.memory df i.term)) j.numbered.number)
        h.guard (λ e v m roomy. replies_in y frame bound e v m roomy)
        (record {
          keeps = λ e v q k.
              rw (reply_way y frame site x e v q) (
                store_sized y.limits.outside x (word_in e (e.base + site.place)) (e.base + site.place) q.done.store
                    (subst (λ n. IsSmall n x) (sym bound.outside) i.small) k,
                tt,
              );
        }));
  }
