-- Objects that are made and ended.
use Rattle.std.proofs.Common.{◌≡◌, ℕ, ◌+◌, ◌%◌, ◌^◌, ◌<◌, ◌≤◌, List, [], ◌∷◌, ◌++◌, Bool, true, false, cond, Some, None, refl, sym, ap, subst, ◌∙◌, arith}
use Rattle.std.specs.Prelude.{Ok, nat_eq}
use Rattle.std.proofs.Math.Nat.{mod-eq_of_lt}
use Rattle.plain_data.specs.declared.width.Width.TheVariants.{W64}
use Rattle.c_store.specs.declared.object.Object.{Object as StoredObject}
use Rattle.c_store.specs.declared.object.ObjectKind.TheVariants.{Automatic}
use Rattle.c_store.specs.Store.{Store, make, end}
use Rattle.c_means.specs.Items.{Made}
use Rattle.core_tree.specs.States.{Done, along, born, dead, with_store}
use Rattle.term_bank.specs.declared.sort.Sort.TheVariants.{Memory}
use Rattle.term_bank.specs.declared.sort.Node.{Node}
use Rattle.term_bank.specs.declared.shape.Shape.{Shape}
use Rattle.term_bank.specs.declared.shape.Shape.TheVariants as shape
use Rattle.term_bank.specs.declared.shape.WordOperator.TheVariants as operator
use Rattle.term_bank.specs.Terms.{IsTerm, Makes}
use Rattle.term_bank.specs.Values.{Environment, Worth, result_of}
use Rattle.term_bank.proofs.BankLemmas.{weaken, stays, grows_on}
use Rattle.path_states.specs.declared.state.State.{State}
use Rattle.path_states.specs.States.{IsState, IsSized, AllSized, done_in}
use Rattle.path_states.specs.Ways.{Steps, Goes}
use Rattle.path_states.proofs.Growth.{state_grown}
use Rattle.path_states.proofs.Paths.{goes_none}
use Rattle.path_arrows.specs.declared.objects.Object.{Object}
use Rattle.path_arrows.specs.Arrows.{bare, bared, by_arrow}
use Rattle.path_arrows.specs.Objects.{made_at, Fit, stored_born, stored_dead, Places, Bears, Buries}

-- ---- places

placed : (base offset room : ℕ) → base + room ≤ 2 ^ 32 → offset ≤ room → ((base % 2 ^ 64) + offset) % 2 ^ 64 ≡ base + offset
placed base offset room h k =
    let small : base < 2 ^ 64 = omega arith in
    let sum : base + offset < 2 ^ 64 = omega arith in
    ap (λ n. (n + offset) % 2 ^ 64) (mod-eq_of_lt small) ∙ mod-eq_of_lt sum

pub places : (offset : ℕ) (a b c d : List Shape) (base more n : Node) → Makes a b shape.Base (Ok base) → Makes b c (shape.Constant offset W64) (Ok more)
    → Makes c d (shape.Binary operator.Add W64 base.index more.index) (Ok n) → Places a d n offset
unfolding result_of
places offset a b c d base more n hb hm hp = record {
  grows = grows_on hb.grows (grows_on hm.grows hp.grows);
  term = hp.node;
  placed = λ room within. record {
    is = λ e v m r.
        let mc = weaken hp.grows m in
        ap (λ (w : Worth). w.word) (hp.value.is e v m)
        ∙ ap (λ k. (k + (v more.index).word) % 2 ^ 64) (ap (λ (w : Worth). w.word) (hb.value.is e v (weaken hm.grows mc)))
        ∙ ap (λ k. ((e.base % 2 ^ 64) + k) % 2 ^ 64) (ap (λ (w : Worth). w.word) (hm.value.is e v mc))
        ∙ placed e.base offset room r.places within;
  };
}

-- ---- memories

pub bears_one : (a b c d : List Shape) (m number size n : Node) (x : Object) → Places a b number x.offset
    → Makes b c (shape.Constant x.size W64) (Ok size) → Makes c d (shape.Made Automatic m.index number.index size.index) (Ok n)
    → Bears a d m n (x ∷ [])
bears_one a b c d m number size n x hp hs hm = record {
  grows = grows_on hp.grows (grows_on hs.grows hm.grows);
  term = hm.node;
  remakes = λ room fit. record {
    is = λ e v k r.
        let kc = weaken hm.grows k in
        ap (λ (w : Worth). w.store) (hm.value.is e v k)
        ∙ ap (λ p. make p (record { kind = Automatic; size = (v size.index).word }) (v m.index).store)
        (((hp.placed room (omega (arith, fit.0.0))).is e v (weaken hs.grows kc)) r)
        ∙ ap (λ z. make (e.base + x.offset) (record { kind = Automatic; size = z }) (v m.index).store)
        (ap (λ (w : Worth). w.word) (hs.value.is e v kc));
  };
}

pub buries_one : (a b c : List Shape) (m number n : Node) (x : Object) → Places a b number x.offset
    → Makes b c (shape.Ended m.index number.index) (Ok n) → Buries a c m n (x ∷ [])
buries_one a b c m number n x hp hm = record {
  grows = grows_on hp.grows hm.grows;
  term = hm.node;
  remakes = λ room fit. record {
    is = λ e v k r.
        ap (λ (w : Worth). w.store) (hm.value.is e v k)
        ∙ ap (λ p. end p (v m.index).store) ((hp.placed room (omega (arith, fit.0.0))).is e v (weaken hm.grows k) r);
  };
}

fit_front : (room : ℕ) (xs : List Object) (x : Object) → Fit room (xs ++ x ∷ []) → Fit room xs × Fit room (x ∷ [])
fit_front room [] x h = (tt, h)
fit_front room (y ∷ ys) x h = let k = fit_front room ys x h.1 in ((h.0, k.0), k.1)

born_more : (base : ℕ) (xs : List Object) (x : Object) (s : Store)
    → stored_born (made_at base (xs ++ x ∷ [])) s ≡ stored_born (made_at base (x ∷ [])) (stored_born (made_at base xs) s)
born_more base [] x s = refl
born_more base (y ∷ ys) x s = born_more base ys x (make (base + y.offset) (record { kind = Automatic; size = y.size }) s)

dead_more : (base : ℕ) (xs : List Object) (x : Object) (s : Store)
    → stored_dead (made_at base (xs ++ x ∷ [])) s ≡ stored_dead (made_at base (x ∷ [])) (stored_dead (made_at base xs) s)
dead_more base [] x s = refl
dead_more base (y ∷ ys) x s = dead_more base ys x (end (base + y.offset) s)

pub bears_none : (a : List Shape) (m : Node) → IsTerm a Memory m → Bears a a m m []
bears_none a m h = record { grows = stays; term = h; remakes = λ room fit. record { is = λ e v k r. refl } }

pub buries_none : (a : List Shape) (m : Node) → IsTerm a Memory m → Buries a a m m []
buries_none a m h = record { grows = stays; term = h; remakes = λ room fit. record { is = λ e v k r. refl } }

pub bears_more : (a b c : List Shape) (m n p : Node) (xs : List Object) (x : Object) → Bears a b m n xs → Bears b c n p (x ∷ [])
    → Bears a c m p (xs ++ x ∷ [])
bears_more a b c m n p xs x h i = record {
  grows = grows_on h.grows i.grows;
  term = i.term;
  remakes = λ room fit.
      let both = fit_front room xs x fit in
      record {
        is = λ e v k r.
            (i.remakes room both.1).is e v k r
            ∙ ap (λ s. stored_born (made_at e.base (x ∷ [])) s) ((h.remakes room both.0).is e v (weaken i.grows k) r)
            ∙ sym (born_more e.base xs x (v m.index).store);
      };
}

pub buries_more : (a b c : List Shape) (m n p : Node) (xs : List Object) (x : Object) → Buries a b m n xs → Buries b c n p (x ∷ [])
    → Buries a c m p (xs ++ x ∷ [])
buries_more a b c m n p xs x h i = record {
  grows = grows_on h.grows i.grows;
  term = i.term;
  remakes = λ room fit.
      let both = fit_front room xs x fit in
      record {
        is = λ e v k r.
            (i.remakes room both.1).is e v k r
            ∙ ap (λ s. stored_dead (made_at e.base (x ∷ [])) s) ((h.remakes room both.0).is e v (weaken i.grows k) r)
            ∙ sym (dead_more e.base xs x (v m.index).store);
      };
}

-- ---- the core's states

pub born_store : (log : List ℕ) (ms : List Made) (d : Done ℕ) → born (along log) ms d ≡ with_store (stored_born ms d.store) d
born_store log [] d = refl
born_store log (m ∷ ms) d =
    born_store log ms (with_store (make m.place (record { kind = Automatic; size = m.size }) d.store) d)

pub dead_store : (ms : List Made) (d : Done ℕ) → dead ms d ≡ with_store (stored_dead ms d.store) d
dead_store [] d = refl
dead_store (m ∷ ms) d = dead_store ms (with_store (end m.place d.store) d)

-- ---- sizes

made_sized : (p size : ℕ) (s : Store) → size < 2 ^ 32 → IsSized s → IsSized (make p (record { kind = Automatic; size = size }) s)
made_sized p size s small h = record { sizes = λ q o k. by q o (nat_eq q p) k } where
  by : (q : ℕ) (o : StoredObject) (c : Bool) → cond c (Some (record { kind = Automatic; size = size })) (s.objects q) ≡ Some o → o.size < 2 ^ 32
  by q o true k = let same : ◌≡◌ {A = StoredObject} (record { kind = Automatic; size = size }) o = cc in
      let P : StoredObject → Type 0 = λ x. x.size < 2 ^ 32 in
      subst P same small
  by q o false k = h.sizes q o k

ended_sized : (p : ℕ) (s : Store) → IsSized s → IsSized (end p s)
ended_sized p s h = record { sizes = λ q o k. by q o (nat_eq q p) k } where
  by : (q : ℕ) (o : StoredObject) (c : Bool) → cond c None (s.objects q) ≡ Some o → o.size < 2 ^ 32
  by q o true k = absurd (cc)
  by q o false k = h.sizes q o k

born_sized : (base room : ℕ) (xs : List Object) (s : Store) → Fit room xs → IsSized s → IsSized (stored_born (made_at base xs) s)
born_sized base room [] s fit h = h
born_sized base room (x ∷ xs) s fit h =
    born_sized base room xs (make (base + x.offset) (record { kind = Automatic; size = x.size }) s) fit.1
    (made_sized (base + x.offset) x.size s fit.0.1 h)

dead_sized : (base : ℕ) (xs : List Object) (s : Store) → IsSized s → IsSized (stored_dead (made_at base xs) s)
dead_sized base [] s h = h
dead_sized base (x ∷ xs) s h = dead_sized base xs (end (base + x.offset) s) (ended_sized (base + x.offset) s h)

-- ---- states

as_sized : (d e : Done ℕ) → d ≡ e → IsSized e.store → AllSized (bared (Some d))
as_sized d e same h =
    let P : Done ℕ → Type 0 = λ q. AllSized (bared (Some q)) in
    subst P (sym same) h

with_memory : (b : List Shape) (s : State) (n : Node) → IsState b s → IsTerm b Memory n → IsState b (record s { memory = n; operands = [] })
with_memory b s n is h = record { guard = is.guard; kind = is.kind; memory = h; value = is.value; events = is.events; operands = tt }

module _ (room : ℕ) (log : List ℕ) (xs : List Object) (fit : Fit room xs) where
  birth_sized : (e : Environment) (d : Done ℕ) → IsSized d.store → AllSized (bared (Some (born (along log) (made_at e.base xs) d)))
  birth_sized e d h =
      as_sized (born (along log) (made_at e.base xs) d) (with_store (stored_born (made_at e.base xs) d.store) d)
      (born_store log (made_at e.base xs) d) (born_sized e.base room xs d.store fit h)

  pub born_none : (a : List Shape) → Goes room a a [] [] (by_arrow (λ e d. Some (born (along log) (made_at e.base xs) d)))
  born_none a =
      goes_none room a (by_arrow (λ e d. Some (born (along log) (made_at e.base xs) d))) (λ e v m r h k. birth_sized e h.done k)

  pub born_one : (a b : List Shape) (s : State) (n : Node) → IsState a s → Bears a b s.memory n xs
      → Steps room a b s (record s { memory = n; operands = [] } ∷ []) (by_arrow (λ e d. Some (born (along log) (made_at e.base xs) d)))
  born_one a b s n is h = record {
    grows = h.grows;
    states = (with_memory b s n (state_grown h.grows s is) h.term, tt);
    stands = λ e v m r k.
        ap (λ q. cond (v s.guard.index).truth (bare (with_store q (done_in v s)) ∷ []) []) ((h.remakes room fit).is e v m r)
        ∙ ap (λ d. cond (v s.guard.index).truth (bare d ∷ []) []) (sym (born_store log (made_at e.base xs) (done_in v s)));
    sized = λ e v m r q k. birth_sized e q.done k;
  }

  death_sized : (e : Environment) (d : Done ℕ) → IsSized d.store → AllSized (bared (Some (dead (made_at e.base xs) d)))
  death_sized e d h =
      as_sized (dead (made_at e.base xs) d) (with_store (stored_dead (made_at e.base xs) d.store) d)
      (dead_store (made_at e.base xs) d) (dead_sized e.base xs d.store h)

  pub dead_none : (a : List Shape) → Goes room a a [] [] (by_arrow (λ e d. Some (dead (made_at e.base xs) d)))
  dead_none a =
      goes_none room a (by_arrow (λ e d. Some (dead (made_at e.base xs) d))) (λ e v m r h k. death_sized e h.done k)

  pub dead_one : (a b : List Shape) (s : State) (n : Node) → IsState a s → Buries a b s.memory n xs
      → Steps room a b s (record s { memory = n; operands = [] } ∷ []) (by_arrow (λ e d. Some (dead (made_at e.base xs) d)))
  dead_one a b s n is h = record {
    grows = h.grows;
    states = (with_memory b s n (state_grown h.grows s is) h.term, tt);
    stands = λ e v m r k.
        ap (λ q. cond (v s.guard.index).truth (bare (with_store q (done_in v s)) ∷ []) []) ((h.remakes room fit).is e v m r)
        ∙ ap (λ d. cond (v s.guard.index).truth (bare d ∷ []) []) (sym (dead_store (made_at e.base xs) (done_in v s)));
    sized = λ e v m r q k. death_sized e q.done k;
  }
