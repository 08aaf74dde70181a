-- What calls of the heap's functions make of one state.
use Rattle.std.proofs.Common.{◌≡◌, ℕ, ◌+◌, ◌*◌, ◌^◌, ◌<◌, ℤ, pos, List, [], ◌∷◌, ◌++◌, Bool, true, false, cond, not, nat_eq, nat_lt}
use Rattle.std.proofs.Common.{Option, Some, None, refl, sym, ap, subst, ◌∙◌, arith}
use Rattle.std.specs.Prelude.{Result, Ok, Err}
use Rattle.plain_data.specs.declared.bounds.Bounds.{Bounds}
use Rattle.plain_data.specs.declared.run.Finish.{Finish}
use Rattle.plain_data.specs.declared.run.Finish.TheVariants as finish
use Rattle.plain_data.specs.declared.run.Happening.TheVariants as happening
use Rattle.plain_data.specs.declared.run.Undefined.TheVariants as undefined
use Rattle.c_means.specs.Values.{address}
use Rattle.c_store.specs.Access.{can_free}
use Rattle.c_store.specs.Store.{Store, start, end, object_of}
use Rattle.core_tree.specs.declared.expr.Callee.{Callee}
use Rattle.core_tree.specs.declared.expr.Callee.TheVariants as callee
use Rattle.core_tree.specs.declared.types.ValueType.{ValueType}
use Rattle.core_tree.specs.declared.types.ValueType.TheVariants as vt
use Rattle.core_tree.specs.Callees.{value_or_zero, answers, freed, heap_object}
use Rattle.core_tree.specs.Numbers.{converted_to}
use Rattle.core_tree.specs.States.{Done, along, entered, finished, found, note, returned, with_store, ◌>>=◌}
use Rattle.core_tree.specs.Values.{needed}
use Rattle.term_bank.specs.declared.shape.Shape.{Shape}
use Rattle.term_bank.specs.Values.{Environment, Values, Models, Grows}
use Rattle.term_bank.proofs.BankLemmas.{weaken, grows_on}
use Rattle.path_states.specs.declared.state.Number.{Number}
use Rattle.path_states.specs.declared.state.State.{State}
use Rattle.path_states.specs.declared.state.Walked.{Walked}
use Rattle.path_states.specs.States.{Held, IsSized, AllSized, number_in, numbers_in, run_in}
use Rattle.path_states.specs.Ways.{Trial, Steps, Tries, to_list, going, ending}
use Rattle.path_numbers.specs.Answers.{Numbered}
use Rattle.path_steps.specs.Operands.{pushed}
use Rattle.path_steps.proofs.Trials.{Keeps}
use Rattle.path_forms.specs.declared.calling.CallSite.{CallSite}
use Rattle.path_forms.specs.declared.frame.Placed.{Placed}
use Rattle.path_forms.specs.Around.{Around, level_at}
use Rattle.path_forms.specs.Calling.{taken, below, call_way}
use Rattle.path_calls.specs.declared.requests.Request.{Request}
use Rattle.path_calls.specs.Allocations.{with_object, is_null, allocated, released, misses_value, Requests}
use Rattle.path_calls.specs.Begun.{Begins, begun, CallsBy}
use Rattle.path_calls.specs.Places.{CallsWithin}
use Rattle.path_calls.proofs.CallTrials.{nothing_more}
use Rattle.path_calls.proofs.HeapLemmas.{allocated_sized, released_sized}

-- ---- from where the call has begun

held_sized : (h k : Held) → h ≡ k → IsSized h.done.store → IsSized k.done.store
held_sized h k same sized =
    let P : Held → Type 0 = λ q. IsSized q.done.store in
    subst P same sized

module _ (room : ℕ) (a b c d : List Shape) (s t : State) (site : CallSite) (xs : List Number) (h : Begins a b s t site xs) (g : Grows b c) where
  steps_begun : (ts : List State) (f k : Environment → Values → Held → Option Held) → Steps room c d t ts f
      → ((e : Environment) (v : Values) → Models d e v → k e v (run_in v s) ≡ f e v (begun site (run_in v s)))
      → ((e : Environment) (v : Values) (q : Held) → IsSized q.done.store → AllSized (k e v q)) → Steps room a d s ts k
  steps_begun ts f k i same sized = record {
    grows = grows_on h.grows (grows_on g i.grows);
    states = i.states;
    stands = λ e v m r u.
        let run = h.run e v (weaken (grows_on g i.grows) m) in
        i.stands e v m r (λ q. held_sized (begun site (run_in v s)) (run_in v t) (sym run) (u (sym (ap (λ n. (v n.index).truth) h.guard) ∙ q)))
        ∙ ap (λ n. cond (v n.index).truth (to_list (f e v (run_in v t))) []) h.guard
        ∙ ap (λ q. cond (v s.guard.index).truth (to_list (f e v q)) []) run
        ∙ ap (λ o. cond (v s.guard.index).truth (to_list o) []) (sym (same e v m));
    sized = λ e v m r q u. sized e v q u;
  }

  pub tries_begun : (w : Walked) (f k : Trial) → Tries room c d t w f
      → ((e : Environment) (v : Values) → Models d e v → k e v (run_in v s) ≡ f e v (begun site (run_in v s)))
      → Keeps k → Tries room a d s w k
  tries_begun w f k i same keep = record {
    going = steps_begun w.going (λ e v q. going (f e v q)) (λ e v q. going (k e v q)) i.going (λ e v m. ap going (same e v m))
        (λ e v q u. (keep.keeps e v q u).0);
    ended = steps_begun w.ended (λ e v q. ending (f e v q)) (λ e v q. ending (k e v q)) i.ended (λ e v m. ap ending (same e v m))
        (λ e v q u. (keep.keeps e v q u).1);
  }

-- ---- what the core's calls are

-- the caller goes on behind a state that the callee leaves
abbrev came_back : Around → CallSite → Held → Done ℕ → Option (Result Held (Done ℕ))
came_back x site h r =
    pushed (below site.count h.operands)
    (returned (along x.log) (note (along x.log) (happening.Call site.at) h.done) (Some r)
    >>= (λ w. needed site.is_used site.at site.answer w.0 w.1))

abbrev called_in : Around → Held → Done ℕ
called_in x h = entered (along x.log) h.done.store h.done.out

-- the caller goes on with a value and a store, from a state in which the call is noted
abbrev finds : CallSite → Held → ℤ → Store → Done ℕ → Option (Result Held (Done ℕ))
finds site h z s k = Some (Ok (record { operands = z ∷ below site.count h.operands; done = with_store s k }))

abbrev stops : Finish → Done ℕ → Option (Result Held (Done ℕ))
stops f k = Some (Err (finished f k))

heap_by : (x : Around) (site : CallSite) (h : Held) (p : ℕ) (there : Store) (beyond none : Bool)
    → came_back x site h (cond beyond (finished (finish.Left site.at) (called_in x h))
    (cond none (answers site.answer (pos 0) (called_in x h)) (answers site.answer (pos p) (with_store there (called_in x h)))))
    ≡ cond beyond (stops (finish.Left site.at) (begun site h).done)
    (finds site h (converted_to site.answer (pos (cond none 0 p))) (cond none h.done.store there) (begun site h).done)
heap_by x site h p there true none = ap (stops (finish.Left site.at)) (nothing_more site h)
heap_by x site h p there false true = ap (finds site h (converted_to site.answer (pos 0)) h.done.store) (nothing_more site h)
heap_by x site h p there false false = ap (finds site h (converted_to site.answer (pos p)) there) (nothing_more site h)

heap_called : (x : Around) (site : CallSite) (e : Environment) (h : Held) (n : ℕ) (zeroes : Bool)
    → came_back x site h (heap_object (level_at x e) site.at site.answer n (e.base + site.place) zeroes (called_in x h))
    ≡ allocated x.limits.heap site n zeroes e (begun site h)
heap_called x site e h n zeroes =
    let q = e.base + site.place in
    heap_by x site h (start q) (with_object zeroes q n h.done.store) (nat_lt x.limits.heap n) (is_null e q)

-- a call whose value isn't there, where none is used
unused : (used : Bool) (at : ℕ) (type : ValueType) (d : Done ℕ) → misses_value used type ≡ false → needed used at type None d ≡ found (pos 0) d
unused false at type d h = refl
unused true at vt.Void d h = refl
unused true at vt.Truth d h = absurd (cc)
unused true at (vt.Word w) d h = absurd (cc)
unused true at vt.Pointer d h = absurd (cc)
unused true at (vt.Block n) d h = absurd (cc)

free_found : (x : Around) (site : CallSite) (h : Held) (s : Store) → misses_value site.is_used site.answer ≡ false
    → came_back x site h (with_store s (called_in x h)) ≡ finds site h (pos 0) s (begun site h).done
free_found x site h s none =
    ap (pushed (below site.count h.operands))
    (unused site.is_used site.at site.answer
    (record h.done { store = s; events = (begun site h).done.events ++ []; out = h.done.out }) none)
    ∙ ap (finds site h (pos 0) s) (nothing_more site h)

free_by : (x : Around) (site : CallSite) (h : Held) (there : Store) (may null : Bool) → misses_value site.is_used site.answer ≡ false
    → came_back x site h (cond may (cond null (called_in x h) (with_store there (called_in x h)))
    (finished (finish.Stopped undefined.Free site.at) (called_in x h)))
    ≡ cond (not may) (stops (finish.Stopped undefined.Free site.at) (begun site h).done)
    (finds site h (pos 0) (cond null h.done.store there) (begun site h).done)
free_by x site h there false null none = ap (stops (finish.Stopped undefined.Free site.at)) (nothing_more site h)
free_by x site h there true true none = free_found x site h h.done.store none
free_by x site h there true false none = free_found x site h there none

free_called : (x : Around) (site : CallSite) (h : Held) (a : ℕ) → misses_value site.is_used site.answer ≡ false
    → came_back x site h (freed site.at a (called_in x h)) ≡ released site a (begun site h)
free_called x site h a none = free_by x site h (end (object_of a) h.done.store) (can_free h.done.store a) (nat_eq a 0) none

-- ---- each callee

abbrev bytes_asked : List ℤ → ℕ
bytes_asked zs = address (value_or_zero zs 0)

abbrev array_asked : List ℤ → ℕ
array_asked zs = address (value_or_zero zs 0) * address (value_or_zero zs 1)

malloc_as : (x : Around) (frame : List Placed) (site : CallSite) (e : Environment) (v : Values) (h : Held)
    → call_way x frame callee.Malloc site e v h
    ≡ allocated x.limits.heap site (bytes_asked (taken site.count h.operands)) false e (begun site h)
malloc_as x frame site e v h = heap_called x site e h (bytes_asked (taken site.count h.operands)) false

calloc_as : (x : Around) (frame : List Placed) (site : CallSite) (e : Environment) (v : Values) (h : Held)
    → call_way x frame callee.Calloc site e v h
    ≡ allocated x.limits.heap site (array_asked (taken site.count h.operands)) true e (begun site h)
calloc_as x frame site e v h = heap_called x site e h (array_asked (taken site.count h.operands)) true

free_as : (x : Around) (frame : List Placed) (site : CallSite) (e : Environment) (v : Values) (h : Held)
    → misses_value site.is_used site.answer ≡ false
    → call_way x frame callee.Free site e v h ≡ released site (bytes_asked (taken site.count h.operands)) (begun site h)
free_as x frame site e v h none = free_called x site h (bytes_asked (taken site.count h.operands)) none

pub heap_within : (bounds : Bounds) → bounds.heap < 2 ^ 32
heap_within bounds = let most = bounds.heap_in_range.1 in omega arith

as_sized : (f : Trial) (g : Environment → Held → Option (Result Held (Done ℕ)))
    → ((e : Environment) (v : Values) (h : Held) → f e v h ≡ g e h)
    → ((e : Environment) (h : Held) → IsSized h.done.store → AllSized (going (g e h)) × AllSized (ending (g e h))) → Keeps f
as_sized f g same sized = record {
  keeps = λ e v h k.
      let P : Option (Result Held (Done ℕ)) → Type 0 = λ o. AllSized (going o) × AllSized (ending o) in
      subst P (sym (same e v h)) (sized e h k);
}

heap_calls : (bounds : Bounds) (room : ℕ) (a b c d : List Shape) (s t : State) (site : CallSite) (xs : List Number) (w : Walked) (f : Callee)
    (zeroes : Bool) (asks : List ℤ → ℕ) (n : Values → ℕ)
    → ((x : Around) (frame : List Placed) (e : Environment) (v : Values) (h : Held)
    → call_way x frame f site e v h ≡ allocated x.limits.heap site (asks (taken site.count h.operands)) zeroes e (begun site h))
    → Begins a b s t site xs → Grows b c → Tries room c d t w (λ e v h. allocated bounds.heap site (n v) zeroes e h)
    → ((e : Environment) (v : Values) → Models c e v → n v ≡ asks (numbers_in v xs)) → CallsWithin bounds room a d s f site w
heap_calls bounds room a b c d s t site xs w f zeroes asks n is h g i means = record {
  tries = λ x frame same.
      let most = same.heap in
      tries_begun room a b c d s t site xs h g w (λ e v k. allocated bounds.heap site (n v) zeroes e k) (call_way x frame f site) i
      (λ e v m.
      let mc = weaken i.going.grows m in
      is x frame e v (run_in v s)
      ∙ ap (λ k. allocated k site (asks (taken site.count (run_in v s).operands)) zeroes e (begun site (run_in v s))) most
      ∙ ap (λ k. allocated bounds.heap site k zeroes e (begun site (run_in v s)))
      (sym (means e v mc ∙ ap asks (h.arguments e v (weaken g mc)))))
      (as_sized (call_way x frame f site)
      (λ e k. allocated x.limits.heap site (asks (taken site.count k.operands)) zeroes e (begun site k))
      (λ e v k. is x frame e v k)
      (λ e k sized.
      allocated_sized x.limits.heap site (asks (taken site.count k.operands)) zeroes e (begun site k) (rw most (heap_within bounds)) sized));
}

pub malloc_calls : (bounds : Bounds) (room : ℕ) (a b c d f : List Shape) (s t : State) (site : CallSite) (xs : List Number) (x : Number)
    (y : Request) (w : Walked) → Begins a b s t site xs → Numbered b c x (λ v. value_or_zero (numbers_in v xs) 0)
    → Requests c d bounds.heap y (λ v. address (number_in v x))
    → Tries room d f t w (λ e v h. allocated bounds.heap site (address (number_in v x)) false e h)
    → CallsWithin bounds room a f s callee.Malloc site w
malloc_calls bounds room a b c d f s t site xs x y w h hx hy i =
    heap_calls bounds room a b d f s t site xs w callee.Malloc false bytes_asked (λ v. address (number_in v x))
    (λ z frame e v k. malloc_as z frame site e v k) h (grows_on hx.grows hy.grows) i
    (λ e v m. ap address (hx.is e v (weaken hy.grows m)))

pub calloc_calls : (bounds : Bounds) (room : ℕ) (a b c d f g : List Shape) (s t : State) (site : CallSite) (xs : List Number) (x y : Number)
    (z : Request) (w : Walked) → Begins a b s t site xs → Numbered b c x (λ v. value_or_zero (numbers_in v xs) 0)
    → Numbered c d y (λ v. value_or_zero (numbers_in v xs) 1)
    → Requests d f bounds.heap z (λ v. address (number_in v x) * address (number_in v y))
    → Tries room f g t w (λ e v h. allocated bounds.heap site (address (number_in v x) * address (number_in v y)) true e h)
    → CallsWithin bounds room a g s callee.Calloc site w
calloc_calls bounds room a b c d f g s t site xs x y z w h hx hy hz i =
    heap_calls bounds room a b f g s t site xs w callee.Calloc true array_asked (λ v. address (number_in v x) * address (number_in v y))
    (λ u frame e v k. calloc_as u frame site e v k) h (grows_on hx.grows (grows_on hy.grows hz.grows)) i
    (λ e v m.
    let md = weaken hz.grows m in
    ap (λ k. address k * address (number_in v y)) (hx.is e v (weaken hy.grows md))
    ∙ ap (λ k. address (value_or_zero (numbers_in v xs) 0) * address k) (hy.is e v md))

pub free_calls : (a b c d : List Shape) (s t : State) (site : CallSite) (xs : List Number) (x : Number) (w : Walked)
    → misses_value site.is_used site.answer ≡ false → Begins a b s t site xs → Numbered b c x (λ v. value_or_zero (numbers_in v xs) 0)
    → ((room : ℕ) → Tries room c d t w (λ e v h. released site (address (number_in v x)) h))
    → (room : ℕ) → CallsBy room a d s callee.Free site w
free_calls a b c d s t site xs x w none h hx i room = record {
  tries = λ y frame.
      tries_begun room a b c d s t site xs h hx.grows w (λ e v k. released site (address (number_in v x)) k) (call_way y frame callee.Free site)
      (i room)
      (λ e v m.
      let mc = weaken (i room).going.grows m in
      free_as y frame site e v (run_in v s) none
      ∙ ap (λ k. released site k (begun site (run_in v s)))
      (sym (ap address (hx.is e v mc ∙ ap (λ l. value_or_zero l 0) (h.arguments e v (weaken hx.grows mc))))))
      (as_sized (call_way y frame callee.Free site) (λ e k. released site (bytes_asked (taken site.count k.operands)) (begun site k))
      (λ e v k. free_as y frame site e v k none)
      (λ e k sized. released_sized site (bytes_asked (taken site.count k.operands)) (begun site k) sized));
}
