-- Memories in which a run begins.
use Rattle.std.proofs.Common.{◌≡◌, ◌<◌, ◌≤◌, ◌+◌, ◌-◌, ◌^◌, ◌%◌, ℕ, zero, suc, List, [], ◌∷◌, ◌++◌}
use Rattle.std.proofs.Common.{Bool, true, false, cond, Some, refl, sym, ap, subst, ◌∙◌, arith, nat_eq, length, get_or}
use Rattle.std.specs.Prelude.{Ok}
use Rattle.plain_data.specs.declared.width.Width.TheVariants.{W64}
use Rattle.c_store.specs.declared.object.Object.{Object}
use Rattle.c_store.specs.declared.object.ObjectKind.{ObjectKind}
use Rattle.c_store.specs.Store.{Store, start, make, lay, zero_range, initial}
use Rattle.core_tree.specs.declared.program.LastingObject.{LastingObject}
use Rattle.term_bank.specs.declared.sort.Sort.TheVariants.{Memory}
use Rattle.term_bank.specs.declared.sort.Node.{Node}
use Rattle.term_bank.specs.declared.shape.Shape.{Shape}
use Rattle.term_bank.specs.declared.shape.Shape.TheVariants as shape
use Rattle.term_bank.specs.Memories as wrapping
use Rattle.term_bank.specs.Terms.{IsTerm, Makes}
use Rattle.term_bank.specs.Values.{Worth}
use Rattle.term_bank.proofs.BankLemmas.{weaken, stays, grows_on}
use Rattle.mem_terms.proofs.Space.{lay_store, zero_store}
use Rattle.path_states.specs.States.{IsSized}
use Rattle.path_codes.specs.Settings.{Lays}
use Rattle.run_formula.specs.Starts.{made_in, made_all, Becomes, Begins}

-- ---- one behind the other

pub becomes_same : (a : List Shape) (m : Node) → IsTerm a Memory m → Becomes a a m m (λ s. s)
becomes_same a m h = record { grows = stays; term = h; is = λ e v k. refl; sized = λ s i. i }

pub becomes_then : (a b c : List Shape) (m n p : Node) (f g : Store → Store) → Becomes a b m n f → Becomes b c n p g
    → Becomes a c m p (λ s. g (f s))
becomes_then a b c m n p f g h i = record {
  grows = grows_on h.grows i.grows;
  term = i.term;
  is = λ e v k. i.is e v k ∙ ap g (h.is e v (weaken i.grows k));
  sized = λ s k. i.sized (f s) (h.sized s k);
}

pub becomes_as : (a b : List Shape) (m n : Node) (f g : Store → Store) → ((s : Store) → f s ≡ g s) → Becomes a b m n f → Becomes a b m n g
becomes_as a b m n f g same h = record {
  grows = h.grows;
  term = h.term;
  is = λ e v k. h.is e v k ∙ same (v m.index).store;
  sized = λ s k. subst IsSized (same s) (h.sized s k);
}

-- ---- bytes

pub lay_sized : (a n : ℕ) (f : ℕ → ℕ) (s : Store) → IsSized s → IsSized (lay a n f s)
lay_sized a n f s h = record { sizes = h.sizes }

pub ends : (p n : ℕ) → p < 2 ^ 32 → n < 2 ^ 32 → start p + n ≤ 2 ^ 64
ends p n h k = omega (arith, h, k)

pub zeroed : (a b c d : List Shape) (m from length n : Node) (address count : ℕ) → address + count ≤ 2 ^ 64
    → Makes a b (shape.Constant address W64) (Ok from) → Makes b c (shape.Constant count W64) (Ok length)
    → Makes c d (shape.ZeroRange m.index from.index length.index) (Ok n) → Becomes a d m n (zero_range address count)
zeroed a b c d m from length n address count within hf hl hn = record {
  grows = grows_on hf.grows (grows_on hl.grows hn.grows);
  term = hn.node;
  is = λ e v k.
      let kc = weaken hn.grows k in
      ap (λ (w : Worth). w.store) (hn.value.is e v k)
      ∙ ap (λ p. wrapping.zero_range p (v length.index).word (v m.index).store)
      (ap (λ (w : Worth). w.word) (hf.value.is e v (weaken hl.grows kc)))
      ∙ ap (λ z. wrapping.zero_range address z (v m.index).store) (ap (λ (w : Worth). w.word) (hl.value.is e v kc))
      ∙ zero_store address count (v m.index).store within;
  sized = λ s h. lay_sized address count (λ _. 0) s h;
}

pub laid : (a b c : List Shape) (m from n : Node) (place size : ℕ) (f : ℕ → ℕ) → place < 2 ^ 32 → size < 2 ^ 32
    → Makes a b (shape.Constant (start place) W64) (Ok from) → Lays b c m from n size f → Becomes a c m n (lay (start place) size f)
laid a b c m from n place size f low small hf hn = record {
  grows = grows_on hf.grows hn.grows;
  term = hn.term;
  is = λ e v k.
      let s = (v m.index).store in
      hn.is e v k
      ∙ ap (λ (w : Worth). wrapping.lay w.word size f s) (hf.value.is e v (weaken hn.grows k))
      ∙ lay_store (start place) size f s (ends place size low small);
  sized = λ s h. lay_sized (start place) size f s h;
}

-- ---- objects

pub made_sized : (p size : ℕ) (kind : ObjectKind) (s : Store) → size < 2 ^ 32 → IsSized s → IsSized (make p (record { kind = kind; size = size }) s)
made_sized p size kind s small h = record { sizes = λ q o k. by q o (nat_eq q p) k } where
  by : (q : ℕ) (o : Object) (c : Bool) → cond c (Some (record { kind = kind; size = size })) (s.objects q) ≡ Some o → o.size < 2 ^ 32
  by q o true k =
      let same : ◌≡◌ {A = Object} (record { kind = kind; size = size }) o = cc in
      let P : Object → Type 0 = λ x. x.size < 2 ^ 32 in
      subst P same small
  by q o false k = h.sizes q o k

pub object_made : (a b c d : List Shape) (m number bytes n : Node) (p size : ℕ) (kind : ObjectKind) → size < 2 ^ 32
    → Makes a b (shape.Constant p W64) (Ok number) → Makes b c (shape.Constant size W64) (Ok bytes)
    → Makes c d (shape.Made kind m.index number.index bytes.index) (Ok n)
    → Becomes a d m n (make p (record { kind = kind; size = size }))
object_made a b c d m number bytes n p size kind small hp hs hm = record {
  grows = grows_on hp.grows (grows_on hs.grows hm.grows);
  term = hm.node;
  is = λ e v k.
      let kc = weaken hm.grows k in
      ap (λ (w : Worth). w.store) (hm.value.is e v k)
      ∙ ap (λ q. make q (record { kind = kind; size = (v bytes.index).word }) (v m.index).store)
      (ap (λ (w : Worth). w.word) (hp.value.is e v (weaken hs.grows kc)))
      ∙ ap (λ z. make p (record { kind = kind; size = z }) (v m.index).store) (ap (λ (w : Worth). w.word) (hs.value.is e v kc));
  sized = λ s i. made_sized p size kind s small i;
}

-- ---- all objects

none_sized : (world : ℕ → ℕ) → IsSized (initial world)
none_sized world = record { sizes = λ p o k. absurd (cc) }

made_more : (xs : List LastingObject) (x : LastingObject) (s : Store) → made_in x (made_all xs s) ≡ made_all (xs ++ x ∷ []) s
made_more [] x s = refl
made_more (y ∷ ys) x s = made_more ys x (made_in y s)

pub begins_none : (a b : List Shape) (n : Node) → Makes a b shape.Initial (Ok n) → Begins a b n (made_all [])
begins_none a b n h = record {
  grows = h.grows;
  term = h.node;
  is = λ e v k. ap (λ (w : Worth). w.store) (h.value.is e v k);
  sized = λ s i. i;
}

pub begins_more : (a b c : List Shape) (n p : Node) (xs : List LastingObject) (x : LastingObject) → Begins a b n (made_all xs)
    → Becomes b c n p (made_in x) → Begins a c p (made_all (xs ++ x ∷ []))
begins_more a b c n p xs x h k = record {
  grows = grows_on h.grows k.grows;
  term = k.term;
  is = λ e v m. k.is e v m ∙ ap (made_in x) (h.is e v (weaken k.grows m)) ∙ made_more xs x (initial e.bytes);
  sized = λ s i. subst IsSized (made_more xs x s) (k.sized (made_all xs s) (h.sized s i));
}

pub start_sized : (world : ℕ → ℕ) (a b : List Shape) (n : Node) (f : Store → Store) → Begins a b n f → IsSized (f (initial world))
start_sized world a b n f h = h.sized (initial world) (none_sized world)
