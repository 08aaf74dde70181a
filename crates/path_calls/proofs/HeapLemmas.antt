-- Objects that calls make and end, as nodes and as runs.
use Rattle.std.proofs.Common.{◌≡◌, ℕ, ◌+◌, ◌%◌, ◌^◌, ◌<◌, ◌≤◌, pos, List, [], ◌∷◌, ◌++◌, Bool, true, false, cond, not, nat_eq, nat_lt}
use Rattle.std.proofs.Common.{Some, None, refl, ap, subst, ◌∙◌, arith}
use Rattle.std.specs.Prelude.{Ok, Err}
use Rattle.std.proofs.lemmas.Bool.Decides.{nat_tests}
use Rattle.plain_data.specs.declared.run.Finish.TheVariants as finish
use Rattle.plain_data.specs.declared.run.Undefined.TheVariants as undefined
use Rattle.plain_data.specs.declared.width.Width.TheVariants.{W64}
use Rattle.c_store.specs.declared.object.Object.{Object}
use Rattle.c_store.specs.declared.object.ObjectKind.TheVariants as object
use Rattle.c_store.specs.Access.{can_free}
use Rattle.c_store.specs.Store.{Store, start, object_of, make, end}
use Rattle.core_tree.specs.Callees.{zeroed_if}
use Rattle.core_tree.specs.Numbers.{converted_to}
use Rattle.core_tree.specs.States.{Done, finished, with_store}
use Rattle.mem_terms.specs.Truths.{Gives}
use Rattle.mem_terms.proofs.Space.{zero_store}
use Rattle.term_bank.specs.Memories as wrapping
use Rattle.term_bank.specs.declared.sort.Sort.TheVariants as sort
use Rattle.term_bank.specs.declared.sort.Node.{Node}
use Rattle.term_bank.specs.declared.shape.Shape.{Shape}
use Rattle.term_bank.specs.declared.shape.Shape.TheVariants.{Constant, WorldWord, Choose, Not, Made, Ended, ZeroRange}
use Rattle.term_bank.specs.Terms.{Makes}
use Rattle.term_bank.specs.Values.{Environment, Worth, Values, Models, of_truth, of_word}
use Rattle.term_bank.proofs.BankLemmas.{weaken, grows_on}
use Rattle.term_bank.proofs.TermLemmas.{term_grown}
use Rattle.path_states.specs.declared.state.Number.{Number}
use Rattle.path_states.specs.declared.state.State.{State}
use Rattle.path_states.specs.declared.state.Walked.{Walked}
use Rattle.path_states.specs.States.{Held, IsRoomy, IsSized, AllSized, number_in, run_in, done_in, onto}
use Rattle.path_states.specs.Ways.{going, ending, Tries}
use Rattle.path_states.proofs.Growth.{onto_pushed}
use Rattle.path_numbers.specs.Answers.{Numbered, Truthful, Worded}
use Rattle.path_numbers.proofs.Nodes.{truth_is, word_is}
use Rattle.path_steps.specs.Exits.{Settles}
use Rattle.path_steps.proofs.Trials.{tries_settled}
use Rattle.path_forms.specs.declared.calling.CallSite.{CallSite}
use Rattle.path_calls.specs.declared.heap.Allocation.{Allocation}
use Rattle.path_calls.specs.declared.requests.Request.{Request}
use Rattle.path_calls.specs.Allocations.{with_object, is_null, allocated, without, released, Requests, Remakes, Allots, Frees}
use Rattle.path_calls.specs.Places.{Tells}

store_is : {x y : Worth} → x ≡ y → x.store ≡ y.store
store_is h = ap (λ (w : Worth). w.store) h

word_chosen : (c : Bool) (x y : Worth) → (cond c x y).word ≡ cond c x.word y.word
word_chosen true x y = refl
word_chosen false x y = refl

store_chosen : (c : Bool) (x y : Worth) → (cond c x y).store ≡ cond c x.store y.store
store_chosen true x y = refl
store_chosen false x y = refl

-- ---- memories

heap_made : (v : Values) (memory number size : Node) (q : ℕ) → (v number.index).word ≡ q
    → make (v number.index).word (record { kind = object.Heap; size = (v size.index).word }) (v memory.index).store
    ≡ make q (record { kind = object.Heap; size = (v size.index).word }) (v memory.index).store
heap_made v memory number size q at =
    ap (λ p. make p (record { kind = object.Heap; size = (v size.index).word }) (v memory.index).store) at

pub remade_plain : (place : ℕ) (a b c : List Shape) (memory number n size : Node) → Tells a b place (λ p. p) number
    → Makes b c (Made object.Heap memory.index number.index size.index) (Ok n) → Remakes a c place memory size false n
remade_plain place a b c memory number n size hp h = record {
  grows = grows_on hp.grows h.grows;
  term = h.node;
  is = λ room within e v m r fits.
      store_is (h.value.is e v m)
      ∙ heap_made v memory number size (e.base + place) (hp.is room within e v (weaken h.grows m) r);
}

ends_within : (p n : ℕ) → p < 2 ^ 32 → n < 2 ^ 32 → start p + n ≤ 2 ^ 64
ends_within p n h k = omega arith

pub remade_zeroed : (place : ℕ) (a b c d f : List Shape) (memory number n first zeroed size : Node) → Tells a b place (λ p. p) number
    → Makes b c (Made object.Heap memory.index number.index size.index) (Ok n) → Tells c d place start first
    → Makes d f (ZeroRange n.index first.index size.index) (Ok zeroed) → Remakes a f place memory size true zeroed
remade_zeroed place a b c d f memory number n first zeroed size hp h hf i = record {
  grows = grows_on hp.grows (grows_on h.grows (grows_on hf.grows i.grows));
  term = i.node;
  is = λ room within e v m r fits.
      let q = e.base + place in
      let k = (v size.index).word in
      let low : q < 2 ^ 32 = omega (arith, r.places, within) in
      let md = weaken i.grows m in let mc = weaken hf.grows md in
      store_is (i.value.is e v m)
      ∙ ap (λ p. wrapping.zero_range p k (v n.index).store) (hf.is room within e v md r)
      ∙ ap (λ s. wrapping.zero_range (start q) k s)
      (store_is (h.value.is e v mc) ∙ heap_made v memory number size q (hp.is room within e v (weaken h.grows mc) r))
      ∙ zero_store (start q) k (make q (record { kind = object.Heap; size = k }) (v memory.index).store) (ends_within q k low fits);
}

pub allotted : (place : ℕ) (a b c d f g h i j : List Shape) (memory size number word null object zero first node behind : Node) (zeroes : Bool)
    → Tells a b place (λ p. p) number → Makes b c (WorldWord W64 number.index) (Ok word)
    → Truthful c d null (λ v. nat_eq (v word.index).word 0) → Remakes d f place memory size zeroes object
    → Makes f g (Constant 0 W64) (Ok zero) → Tells g h place start first
    → Makes h i (Choose (sort.Word W64) null.index zero.index first.index) (Ok node)
    → Makes i j (Choose sort.Memory null.index memory.index object.index) (Ok behind)
    → Allots a j place memory size zeroes
    (record { memory = behind; pointer = record { node = node; word = record { width = W64; is_signed = false } } })
allotted place a b c d f g h i j memory size number word null object zero first node behind zeroes hx hw hn ho hz hf hp hm =
    let hj = grows_on hp.grows hm.grows in let gj = grows_on hf.grows hj in let fj = grows_on hz.grows gj in
    let dj = grows_on ho.grows fj in let cj = grows_on hn.grows dj in let bj = grows_on hw.grows cj in
    let none : (room : ℕ) → place < room → (e : Environment) (v : Values) → Models j e v → IsRoomy room e
    → (v null.index).truth ≡ is_null e (e.base + place) =
    λ room within e v m r.
    hn.is e v (weaken dj m)
    ∙ ap (λ k. nat_eq k 0) (word_is (hw.value.is e v (weaken cj m)))
    ∙ ap (λ q. nat_eq (e.words q % 2 ^ 64) 0) (hx.is room within e v (weaken bj m) r) in
    record {
      grows = grows_on hx.grows bj;
      term = hm.node;
      number = record { term = term_grown i j _ node hm.grows hp.node };
      pointer = λ room within e v m r.
          ap pos (word_is (hp.value.is e v (weaken hm.grows m))
          ∙ word_chosen (v null.index).truth (v zero.index) (v first.index)
          ∙ ap (λ t. cond t (v zero.index).word (v first.index).word) (none room within e v m r)
          ∙ ap (λ k. cond (is_null e (e.base + place)) k (v first.index).word) (word_is (hz.value.is e v (weaken gj m)))
          ∙ ap (λ k. cond (is_null e (e.base + place)) 0 k) (hf.is room within e v (weaken hj m) r));
      remade = λ room within e v m r fits.
          store_is (hm.value.is e v m)
          ∙ store_chosen (v null.index).truth (v memory.index) (v object.index)
          ∙ ap (λ t. cond t (v memory.index).store (v object.index).store) (none room within e v m r)
          ∙ ap (λ s. cond (is_null e (e.base + place)) (v memory.index).store s) (ho.is room within e v (weaken fj m) r fits);
    }

pub freed_memory : (a b c d f : List Shape) (memory at null number ended behind : Node) → Truthful a b null (λ v. nat_eq (v at.index).word 0)
    → Gives b c (sort.Word W64) (λ v. of_word (object_of (v at.index).word)) (Ok number) → Makes c d (Ended memory.index number.index) (Ok ended)
    → Makes d f (Choose sort.Memory null.index memory.index ended.index) (Ok behind) → Frees a f memory at behind
freed_memory a b c d f memory at null number ended behind hn ho he hm = record {
  grows = grows_on hn.grows (grows_on ho.grows (grows_on he.grows hm.grows));
  term = hm.node;
  is = λ e v m.
      let md = weaken hm.grows m in let mc = weaken he.grows md in
      store_is (hm.value.is e v m)
      ∙ store_chosen (v null.index).truth (v memory.index) (v ended.index)
      ∙ ap (λ t. cond t (v memory.index).store (v ended.index).store) (hn.is e v (weaken ho.grows mc))
      ∙ ap (λ s. cond (nat_eq (v at.index).word 0) (v memory.index).store s)
      (store_is (he.value.is e v md) ∙ ap (λ p. end p (v memory.index).store) (word_is (ho.value.is e v mc)));
}

-- ---- sizes

made_sized : (p : ℕ) (x : Object) (s : Store) → x.size < 2 ^ 32 → IsSized s → IsSized (make p x s)
made_sized p x s small h = record { sizes = λ q o k. by q o (nat_eq q p) k }
  where
    by : (q : ℕ) (o : Object) (c : Bool) → cond c (Some x) (s.objects q) ≡ Some o → o.size < 2 ^ 32
    by q o true k =
        let same : x ≡ o = cc in
        let P : Object → Type 0 = λ y. y.size < 2 ^ 32 in
        subst P same small
    by q o false k = h.sizes q o k

ended_sized : (p : ℕ) (s : Store) → IsSized s → IsSized (end p s)
ended_sized p s h = record { sizes = λ q o k. by q o (nat_eq q p) k }
  where
    by : (q : ℕ) (o : Object) (c : Bool) → cond c None (s.objects q) ≡ Some o → o.size < 2 ^ 32
    by q o true k = absurd (cc)
    by q o false k = h.sizes q o k

zeroed_sized : (zeroes : Bool) (a n : ℕ) (s : Store) → IsSized s → IsSized (zeroed_if zeroes a n s)
zeroed_sized true a n s h = record { sizes = h.sizes }
zeroed_sized false a n s h = h

either_sized : (c : Bool) (s t : Store) → IsSized s → IsSized t → IsSized (cond c s t)
either_sized true s t h k = h
either_sized false s t h k = k

within_most : (most n : ℕ) → most < 2 ^ 32 → nat_lt most n ≡ false → n < 2 ^ 32
within_most most n small h = grind (arith, nat_tests)

either_outcome : (c : Bool) (d : Done ℕ) (h : Held) → IsSized d.store → (c ≡ false → IsSized h.done.store)
    → AllSized (going (cond c (Some (Err d)) (Some (Ok h)))) × AllSized (ending (cond c (Some (Err d)) (Some (Ok h))))
either_outcome true d h k i = (tt, k)
either_outcome false d h k i = (i refl, tt)

pub allocated_sized : (most : ℕ) (site : CallSite) (n : ℕ) (zeroes : Bool) (e : Environment) (h : Held) → most < 2 ^ 32
    → IsSized h.done.store
    → AllSized (going (allocated most site n zeroes e h)) × AllSized (ending (allocated most site n zeroes e h))
allocated_sized most site n zeroes e h small k =
    let q = e.base + site.place in
    let x : Object = record { kind = object.Heap; size = n } in
    let there = with_object zeroes q n h.done.store in
    either_outcome (nat_lt most n) (finished (finish.Left site.at) h.done)
    (record {
      operands = converted_to site.answer (pos (cond (is_null e q) 0 (start q))) ∷ h.operands;
      done = with_store (cond (is_null e q) h.done.store there) h.done;
    })
    k
    (λ no.
    either_sized (is_null e q) h.done.store there k
    (zeroed_sized zeroes (start q) n (make q x h.done.store) (made_sized q x h.done.store (within_most most n small no) k)))

pub released_sized : (site : CallSite) (a : ℕ) (h : Held) → IsSized h.done.store
    → AllSized (going (released site a h)) × AllSized (ending (released site a h))
released_sized site a h k =
    let there = end (object_of a) h.done.store in
    either_outcome (not (can_free h.done.store a)) (finished (finish.Stopped undefined.Free site.at) h.done)
    (record { operands = pos 0 ∷ h.operands; done = with_store (cond (nat_eq a 0) h.done.store there) h.done }) k
    (λ no. either_sized (nat_eq a 0) h.done.store there k (ended_sized (object_of a) h.done.store k))

-- ---- runs at which a call has begun

unless : {A : Type 0} (p q : Bool) (x y z : A) → p ≡ q → (q ≡ false → y ≡ z) → cond p x y ≡ cond q x z
unless p true x y z h k = ap (λ t. cond t x y) h
unless p false x y z h k = ap (λ t. cond t x y) h ∙ k refl

pub allocate_tries : (room most : ℕ) (z a b c d : List Shape) (t : State) (site : CallSite) (x : Request) (n : Values → ℕ) (zeroes : Bool)
    (y : Allocation) (number : Number) (w : Walked) → most < 2 ^ 32 → site.place < room → Requests z a most x n
    → Allots a b site.place t.memory x.size zeroes y → Numbered b c number (λ v. converted_to site.answer (number_in v y.pointer))
    → Settles c d t (record t { operands = t.operands ++ number ∷ []; memory = y.memory })
    (Some (record { truth = x.exceeds; finish = finish.Left site.at })) None w
    → Tries room a d t w (λ e v h. allocated most site (n v) zeroes e h)
allocate_tries room most z a b c d t site x n zeroes y number w small within hr ha hn hs =
    let next : State = record t { operands = t.operands ++ number ∷ []; memory = y.memory } in
    tries_settled room a c d t t next (Some (record { truth = x.exceeds; finish = finish.Left site.at })) None w
    (λ e v h. allocated most site (n v) zeroes e h) (grows_on ha.grows hn.grows) refl hs
    (λ e v m r g k.
    let mc = weaken hs.grows m in let mb = weaken hn.grows mc in let ma = weaken ha.grows mb in
    let q = e.base + site.place in
    let here = done_in v t in
    unless (v x.exceeds.index).truth (nat_lt most (n v)) (Some (Err (finished (finish.Left site.at) here))) (Some (Ok (run_in v next)))
    (Some (Ok (record {
      operands = converted_to site.answer (pos (cond (is_null e q) 0 (start q))) ∷ onto v [] t.operands;
      done = with_store (cond (is_null e q) here.store (with_object zeroes q (n v) here.store)) here;
    })))
    (hr.beyond e v ma)
    (λ no.
    let bytes = hr.bytes e v ma no in
    let fits : (v x.size.index).word < 2 ^ 32 = rw bytes (within_most most (n v) small no) in
    ap (λ l. Some (Ok (record { operands = l; done = with_store (v y.memory.index).store here }))) (onto_pushed v [] t.operands number)
    ∙ ap (λ p. Some (Ok (record { operands = p ∷ onto v [] t.operands; done = with_store (v y.memory.index).store here })))
    (hn.is e v mc ∙ ap (converted_to site.answer) (ha.pointer room within e v mb r))
    ∙ ap (λ s. Some (Ok (record {
      operands = converted_to site.answer (pos (cond (is_null e q) 0 (start q))) ∷ onto v [] t.operands;
      done = with_store s here;
    })))
    (ha.remade room within e v mb r fits
    ∙ ap (λ p. cond (is_null e q) here.store (with_object zeroes q p here.store)) bytes)))
    (record { keeps = λ e v h k. allocated_sized most site (n v) zeroes e h small k })

pub release_tries : (room : ℕ) (a b c d f g h : List Shape) (t : State) (site : CallSite) (x : Values → ℕ) (at allowed refused memory : Node)
    (number : Number) (w : Walked) → Worded a b W64 at x
    → Gives b c sort.Truth (λ v. of_truth (can_free (v t.memory.index).store (v at.index).word)) (Ok allowed)
    → Makes c d (Not allowed.index) (Ok refused) → Frees d f t.memory at memory → Numbered f g number (λ v. pos 0)
    → Settles g h t (record t { operands = t.operands ++ number ∷ []; memory = memory })
    (Some (record { truth = refused; finish = finish.Stopped undefined.Free site.at })) None w
    → Tries room a h t w (λ e v k. released site (x v) k)
release_tries room a b c d f g h t site x at allowed refused memory number w ha hl hr hm hn hs =
    let next : State = record t { operands = t.operands ++ number ∷ []; memory = memory } in
    tries_settled room a g h t t next (Some (record { truth = refused; finish = finish.Stopped undefined.Free site.at })) None w
    (λ e v k. released site (x v) k)
    (grows_on ha.grows (grows_on hl.grows (grows_on hr.grows (grows_on hm.grows hn.grows)))) refl hs
    (λ e v m r gd k.
    let mg = weaken hs.grows m in let mf = weaken hn.grows mg in let md = weaken hm.grows mf in let mc = weaken hr.grows md in
    let mb = weaken hl.grows mc in
    let here = done_in v t in
    let address = ha.is e v mb in
    unless (v refused.index).truth (not (can_free here.store (x v))) (Some (Err (finished (finish.Stopped undefined.Free site.at) here)))
    (Some (Ok (run_in v next)))
    (Some (Ok (record { operands = pos 0 ∷ onto v [] t.operands; done = with_store (without (x v) here.store) here })))
    (truth_is (hr.value.is e v md) ∙ ap not (truth_is (hl.value.is e v mc) ∙ ap (can_free here.store) address))
    (λ no.
    ap (λ l. Some (Ok (record { operands = l; done = with_store (v memory.index).store here }))) (onto_pushed v [] t.operands number)
    ∙ ap (λ q. Some (Ok (record { operands = q ∷ onto v [] t.operands; done = with_store (v memory.index).store here }))) (hn.is e v mg)
    ∙ ap (λ s. Some (Ok (record { operands = pos 0 ∷ onto v [] t.operands; done = with_store s here })))
    (hm.is e v mf ∙ ap (λ q. without q here.store) address)))
    (record { keeps = λ e v q k. released_sized site (x v) q k })
