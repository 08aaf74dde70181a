-- Bytes that are laid one behind the other, and texts in objects that are there.
use Rattle.std.proofs.Common.{◌≡◌, ℕ, zero, suc, ◌+◌, ◌%◌, ◌^◌, ◌<◌, ◌≤◌, pos, List, [], ◌∷◌, ◌++◌, length, get_or}
use Rattle.std.proofs.Common.{Bool, true, false, cond, nat_eq, nat_lt, Some, refl, sym, ap, subst, ◌∙◌, arith, add-zero}
use Rattle.std.specs.Prelude.{Ok}
use Rattle.std.proofs.Math.Nat.{mod-eq_of_lt}
use Rattle.std.proofs.lemmas.Bool.Decides.{nat_tests}
use Rattle.plain_data.specs.declared.width.Width.TheVariants.{W8, W64}
use Rattle.plain_data.specs.Words.{word}
use Rattle.c_store.specs.Store.{Store, start, byte_of}
use Rattle.c_store.specs.Store as stores
use Rattle.c_store.proofs.Laws.{store_ext}
use Rattle.c_means.specs.Expressions as means
use Rattle.c_means.specs.Initials.{text_byte}
use Rattle.core_tree.specs.declared.code.Setting.TheVariants as setting
use Rattle.core_tree.specs.States.{Done, with_store}
use Rattle.term_bank.specs.declared.sort.Sort.TheVariants.{Memory, Word}
use Rattle.term_bank.specs.declared.sort.Node.{Node}
use Rattle.term_bank.specs.declared.shape.Shape.{Shape}
use Rattle.term_bank.specs.declared.shape.Shape.TheVariants.{Binary, Constant, Write}
use Rattle.term_bank.specs.declared.shape.WordOperator.TheVariants as operator
use Rattle.term_bank.specs.Memories.{behind, distance, is_within, lay, write}
use Rattle.term_bank.specs.Terms.{IsTerm, Makes}
use Rattle.term_bank.specs.Values.{Worth, result_of}
use Rattle.term_bank.proofs.BankLemmas.{weaken, stays, grows_on}
use Rattle.term_bank.proofs.BindingLemmas.{node_sorted}
use Rattle.term_bank.proofs.TermLemmas.{part_of, term_grown}
use Rattle.mem_terms.proofs.Space.{lay_store}
use Rattle.path_states.specs.declared.state.Number.{Number}
use Rattle.path_states.specs.declared.state.State.{State}
use Rattle.path_states.specs.declared.state.Walked.{Walked}
use Rattle.path_states.specs.States.{Held, IsSized, done_in, number_in, onto}
use Rattle.path_states.specs.Ways.{Way, Goes, stay, going, tried, ◌>>=◌}
use Rattle.path_states.proofs.Growth.{state_grown, states_grown, states_joined}
use Rattle.path_states.proofs.Paths.{goes_none, goes_more, goes_then}
use Rattle.path_numbers.specs.Answers.{Worded}
use Rattle.path_numbers.proofs.WordSums.{word-pos}
use Rattle.path_steps.specs.declared.leaf.Leaf.TheVariants as leaf
use Rattle.path_steps.specs.Leaves.{leaf_way, Follows, WalksBy}
use Rattle.path_steps.specs.Operands.{Pops, top}
use Rattle.path_steps.proofs.Trials.{done_same}
use Rattle.path_arrows.specs.declared.sifting.Sifted.{Sifted}
use Rattle.path_arrows.specs.Arrows.{bare, by_arrow, Sifts}
use Rattle.path_forms.specs.declared.frame.Placed.{Placed}
use Rattle.path_forms.specs.Around.{Around}
use Rattle.path_forms.proofs.Reached.{goes_where}
use Rattle.path_codes.specs.Settings.{Lays, LaysAll, LaysAt, LaysOne, WalksSet, WritesByte, laying, lays, set_arrow}
use Rattle.path_codes.proofs.Courses.{splits_close}
use Rattle.path_codes.proofs.Pieces.{splits_sift}
use Rattle.path_codes.proofs.Statements.{walks_by}

-- ---- a byte of a text, where it has one

pub byte_found : (text : List ℕ) (i x : ℕ) → i < length text → x ≡ get_or text i x → x ≡ text_byte text i
byte_found [] i x h is = absurd (omega (arith, h))
byte_found (b ∷ text) zero x h is = is
byte_found (b ∷ text) (suc i) x h is = byte_found text i x (omega (arith, h)) is

pub byte_behind : (text : List ℕ) (i : ℕ) → length text ≤ i → 0 ≡ text_byte text i
byte_behind [] i h = refl
byte_behind (b ∷ text) zero h = absurd (omega (arith, h))
byte_behind (b ∷ text) (suc i) h = byte_behind text i (omega (arith, h))

-- ---- one byte more

lay_byte : (a n : ℕ) (f : ℕ → ℕ) (s : Store) (b : ℕ) → (lay a n f s).bytes b ≡ cond (is_within a n b) (f (distance a b)) (s.bytes b)
unfolding lay
lay_byte a n f s b = refl

lay_objects : (a n : ℕ) (f : ℕ → ℕ) (s : Store) (p : ℕ) → (lay a n f s).objects p ≡ s.objects p
unfolding lay
lay_objects a n f s p = refl

write_lays : (a x : ℕ) (s : Store) → write 1 a x s ≡ lay a 1 (byte_of x) s
unfolding write
write_lays a x s = refl

within_by : (a n b : ℕ) → b < 2 ^ 64 → is_within a n b ≡ nat_lt (distance a b) n
unfolding is_within
within_by a n b h = let below : nat_lt b (2 ^ 64) ≡ true = grind (arith, nat_tests) in rw below refl

within_beyond : (a n b : ℕ) → 2 ^ 64 ≤ b → is_within a n b ≡ false
unfolding is_within
within_beyond a n b h = grind (arith, nat_tests)

at_next : (a i b : ℕ) → a < 2 ^ 64 → i < 2 ^ 64 → b < 2 ^ 64 → distance a b ≡ i → distance (behind a i) b ≡ 0
unfolding distance behind
at_next a i b h k l is = omega (arith, h, k, l, is)

only_next : (a i b : ℕ) → a < 2 ^ 64 → i < 2 ^ 64 → b < 2 ^ 64 → distance (behind a i) b ≡ 0 → distance a b ≡ i
unfolding distance behind
only_next a i b h k l is = omega (arith, h, k, l, is)

lay_none : (a : ℕ) (f : ℕ → ℕ) (s : Store) → s ≡ lay a 0 f s
lay_none a f s = store_ext s (lay a 0 f s) (λ b. sym (lay_byte a 0 f s b ∙ each b (nat_lt b (2 ^ 64)) refl)) (λ p. sym (lay_objects a 0 f s p))
  where
    less : (b : ℕ) → nat_lt b (2 ^ 64) ≡ true → b < 2 ^ 64
    less b h = grind (arith, nat_tests)

    more : (b : ℕ) → nat_lt b (2 ^ 64) ≡ false → 2 ^ 64 ≤ b
    more b h = grind (arith, nat_tests)

    never : (d : ℕ) → nat_lt d 0 ≡ false
    never d = grind (arith, nat_tests)

    each : (b : ℕ) (t : Bool) → nat_lt b (2 ^ 64) ≡ t → cond (is_within a 0 b) (f (distance a b)) (s.bytes b) ≡ s.bytes b
    each b true is = rw (within_by a 0 b (less b is), never (distance a b)) refl
    each b false is = rw (within_beyond a 0 b (more b is)) refl

-- a byte behind others
next_byte : (d e i x y z : ℕ) (f : ℕ → ℕ) → x < 256 → x ≡ f i → (d ≡ i → e ≡ 0) → (e ≡ 0 → d ≡ i)
    → cond (nat_lt e 1) (byte_of x e) (cond (nat_lt d i) (f d) z) ≡ cond (nat_lt d (suc i)) (f d) z
next_byte d e i x y z f small is to from = each (nat_eq d i) refl where
  each : (t : Bool) → nat_eq d i ≡ t → cond (nat_lt e 1) (byte_of x e) (cond (nat_lt d i) (f d) z) ≡ cond (nat_lt d (suc i)) (f d) z
  each true here =
      let far : d ≡ i = grind (arith, nat_tests, here) in
      let none : e ≡ 0 = to far in
      let all : nat_lt i (suc i) ≡ true = grind (arith, nat_tests) in
      let same : x % 256 ≡ x = omega (arith, small) in
      rw (none, far, all) (same ∙ is)
  each false here =
      let some : nat_lt e 1 ≡ false = grind (arith, nat_tests, here, from) in
      let all : nat_lt d (suc i) ≡ nat_lt d i = grind (arith, nat_tests, here) in
      rw (some, all) refl

lay_more : (a i : ℕ) (f : ℕ → ℕ) (x : ℕ) (s : Store) → a < 2 ^ 64 → i < 2 ^ 64 → x < 256 → x ≡ f i
    → write 1 (behind a i) x (lay a i f s) ≡ lay a (suc i) f s
lay_more a i f x s low near small is =
    write_lays (behind a i) x (lay a i f s)
    ∙ store_ext (lay (behind a i) 1 (byte_of x) (lay a i f s)) (lay a (suc i) f s)
    (λ b. lay_byte (behind a i) 1 (byte_of x) (lay a i f s) b
    ∙ ap (λ y. cond (is_within (behind a i) 1 b) (byte_of x (distance (behind a i) b)) y) (lay_byte a i f s b)
    ∙ each b (nat_lt b (2 ^ 64)) refl ∙ sym (lay_byte a (suc i) f s b))
    (λ p. lay_objects (behind a i) 1 (byte_of x) (lay a i f s) p ∙ lay_objects a i f s p ∙ sym (lay_objects a (suc i) f s p))
  where
    less : (b : ℕ) → nat_lt b (2 ^ 64) ≡ true → b < 2 ^ 64
    less b h = grind (arith, nat_tests)

    more : (b : ℕ) → nat_lt b (2 ^ 64) ≡ false → 2 ^ 64 ≤ b
    more b h = grind (arith, nat_tests)

    each : (b : ℕ) (t : Bool) → nat_lt b (2 ^ 64) ≡ t
        → cond (is_within (behind a i) 1 b) (byte_of x (distance (behind a i) b)) (cond (is_within a i b) (f (distance a b)) (s.bytes b))
        ≡ cond (is_within a (suc i) b) (f (distance a b)) (s.bytes b)
    each b true below =
        let l = less b below in
        rw (within_by (behind a i) 1 b l, within_by a i b l, within_by a (suc i) b l)
        (next_byte (distance a b) (distance (behind a i) b) i x 0 (s.bytes b) f small is (at_next a i b low near l) (only_next a i b low near l))
    each b false beyond =
        let l = more b beyond in
        rw (within_beyond (behind a i) 1 b l, within_beyond a i b l, within_beyond a (suc i) b l) refl

-- ---- memories

sum_behind : (a i : ℕ) → result_of operator.Add W64 a i ≡ behind a i
unfolding result_of behind
sum_behind a i = refl

pub byte_written : (a b c d f : List Shape) (m from more to value n : Node) (at byte : ℕ) → Makes a b (Constant at W64) (Ok more)
    → Makes b c (Binary operator.Add W64 from.index more.index) (Ok to) → Makes c d (Constant byte W8) (Ok value)
    → Makes d f (Write W8 m.index to.index value.index) (Ok n) → WritesByte a f m from n at byte
byte_written a b c d f m from more to value n at byte hm ht hv hn = record {
  grows = grows_on hm.grows (grows_on ht.grows (grows_on hv.grows hn.grows));
  bank = hn.bank;
  term = hn.node;
  is = λ e v k.
      let kd = weaken hn.grows k in
      let kc = weaken hv.grows kd in
      let s = (v m.index).store in
      ap (λ (w : Worth). w.store) (hn.value.is e v k)
      ∙ ap (λ (w : Worth). write 1 (v to.index).word w.word s) (hv.value.is e v kd)
      ∙ ap (λ (w : Worth). write 1 w.word byte s) (ht.value.is e v kc)
      ∙ ap (λ (w : Worth). write 1 (result_of operator.Add W64 (v from.index).word w.word) byte s) (hm.value.is e v (weaken ht.grows kc))
      ∙ ap (λ p. write 1 p byte s) (sum_behind (v from.index).word at);
}

pub laid_none : (b : List Shape) (m from : Node) (f : ℕ → ℕ) → IsTerm b Memory m → Lays b b m from m 0 f
laid_none b m from f h = record {
  grows = stays;
  term = h;
  is = λ e v k. lay_none (v from.index).word f (v m.index).store;
}

pub laid_more : (a b c : List Shape) (m from n p : Node) (i x : ℕ) (f : ℕ → ℕ) → IsTerm b (Word W64) from → i < 2 ^ 64 → x < 256 → x ≡ f i
    → Lays a b m from n i f → WritesByte b c n from p i x → Lays a c m from p (i + 1) f
laid_more a b c m from n p i x f term near small is h k =
    subst (λ j. Lays a c m from p j f) next
    (record {
      grows = grows_on h.grows k.grows;
      term = k.term;
      is = λ e v l.
          let sorted = node_sorted c e v (record { index = from.index; sort = Word W64 }) k.bank (part_of c (Word W64) from there) l in
          k.is e v l
          ∙ ap (write 1 (behind (v from.index).word i) x) (h.is e v (weaken k.grows l))
          ∙ lay_more (v from.index).word i f x (v m.index).store sorted.1 near small is;
    })
  where
    next : suc i ≡ i + 1
    next = omega arith

    there : IsTerm c (Word W64) from
    there = term_grown b c (Word W64) from k.grows term

-- ---- states

lay_sized : (a n : ℕ) (f : ℕ → ℕ) (s : Store) → IsSized s → IsSized (lay a n f s)
unfolding lay
lay_sized a n f s h = record { sizes = h.sizes }

pub lays_one : (a b c d : List Shape) (s u : State) (y : Number) (from memory : Node) (size : ℕ) (f : ℕ → ℕ) → Pops a b s u y
    → Worded b c W64 from (λ v. word W64 (number_in v y)) → Lays c d u.memory from memory size f
    → LaysOne a d size f s (record u { memory = memory; operands = [] })
lays_one a b c d s u y from memory size f h i l =
    let bd = grows_on i.grows l.grows in
    let is = state_grown bd u h.state in
    record {
      steps = λ room. record {
        grows = grows_on h.grows bd;
        states = (record { guard = is.guard; kind = is.kind; memory = l.term; value = is.value; events = is.events; operands = tt }, tt);
        stands = λ e v m r sized.
            let above = word W64 (top (onto v [] s.operands)) in
            ap (λ q. cond (v u.guard.index).truth (bare (with_store q (done_in v u)) ∷ []) [])
            (l.is e v m
            ∙ ap (λ p. lay p size f (v u.memory.index).store) (i.is e v (weaken l.grows m))
            ∙ ap (λ z. lay (word W64 z) size f (v u.memory.index).store) (h.is e v (weaken bd m)))
            ∙ ap (λ (q : State). cond (v q.guard.index).truth
            (bare (with_store (lay above size f (v u.memory.index).store) (done_in v u)) ∷ []) []) h.same
            ∙ ap (λ (q : Done ℕ). cond (v s.guard.index).truth (bare (with_store (lay above size f q.store) q) ∷ []) []) (done_same v s u h.same);
        sized = λ e v m r q i. lay_sized (word W64 (top q.operands)) size f q.done.store i;
      };
    }

pub lays_none : (a : List Shape) (size : ℕ) (f : ℕ → ℕ) → LaysAll a a size f [] []
lays_none a size f = record {
  grows = stays;
  states = tt;
  goes = λ room. goes_none room a (laying size f) (λ e v m r h i. lay_sized (word W64 (top h.operands)) size f h.done.store i);
}

pub lays_more : (a b c : List Shape) (size : ℕ) (f : ℕ → ℕ) (ss ts : List State) (s t : State) → LaysAll a b size f ss ts → LaysOne b c size f s t
    → LaysAll a c size f (ss ++ s ∷ []) (ts ++ t ∷ [])
lays_more a b c size f ss ts s t h i =
    let g = (i.steps 0).grows in
    record {
      grows = grows_on h.grows g;
      states = states_joined c ts (t ∷ []) (states_grown g ts h.states) (i.steps 0).states;
      goes = λ room. goes_more room a b c ss ts (t ∷ []) s (laying size f) (h.goes room) (i.steps room);
    }

-- ---- the object of a place

pub lays_at : (room object bytes size : ℕ) (f : ℕ → ℕ) (a b c d : List Shape) (ss ts : List State) (w u : Walked) → object < room
    → bytes + size < 2 ^ 32 → WalksBy a b ss (leaf.Local object) w → Follows b c w u (leaf.Offset bytes) → LaysAll c d size f u.going ts
    → LaysAt room object bytes size f a d ss ts
lays_at room object bytes size f a b c d ss ts w u inside small h i j =
    let placed : Way = λ e v q. going (tried (leaf_way (leaf.Local object) e v q) (leaf_way (leaf.Offset bytes) e v)) in
    let goes = goes_where room a d ss ts (λ e v q. placed e v q >>= laying size f e v) (by_arrow (lays object bytes size f))
    (λ e v m r q. same e.base q (low e.base object room r.places inside))
    (goes_then room a c d ss u.going ts placed (laying size f)
    (i.follows room tt a ss (leaf_way (leaf.Local object)) (h.walks room inside)).going (j.goes room)) in
    record { grows = goes.grows; states = goes.states; goes = goes }
  where
    low : (base object room : ℕ) → base + room ≤ 2 ^ 32 → object < room → base + object < 2 ^ 32
    low base object room h i = omega arith

    below : (p : ℕ) → p < 2 ^ 32 → start p + bytes < 2 ^ 64
    below p h = omega (arith, h, small)

    ends : (p : ℕ) → p < 2 ^ 32 → (start p + bytes) + size ≤ 2 ^ 64
    ends p h = omega (arith, h, small)

    same : (base : ℕ) (q : Held) → base + object < 2 ^ 32
        → Some (bare (with_store (lay (word W64 (pos (means.behind bytes (start (base + object))))) size f q.done.store) q.done))
        ≡ Some (bare (with_store (stores.lay (start (base + object) + bytes) size f q.done.store) q.done))
    same base q h =
        let at = start (base + object) + bytes in
        let near = below (base + object) h in
        let laid : ℕ → Held = λ p. bare (with_store (lay p size f q.done.store) q.done) in
        ap (λ p. Some (laid (word W64 (pos p)))) (mod-eq_of_lt near)
        ∙ ap (λ p. Some (laid p)) (word-pos W64 at near)
        ∙ ap (λ s. Some (bare (with_store s q.done))) (lay_store at size f q.done.store (ends (base + object) h))

-- ---- a text that is set

pub walks_text : (x : Around) (frame : List Placed) (room object bytes size : ℕ) (text : List ℕ) (a b c : List Shape) (ss us ts : List State)
    (place : ℕ) (p : Sifted) → Sifts a ss p → LaysAt room object bytes size (text_byte text) a b p.running us
    → Goes room b c (p.others ++ us) ts stay
    → WalksSet x frame room object (setting.Text bytes size text) a c ss place (record { states = ts; next = place })
walks_text x frame room object bytes size text a b c ss us ts place p h i j =
    let whole = set_arrow x frame object (setting.Text bytes size text) place in
    let laid = lays object bytes size (text_byte text) in
    walks_by room whole 0 a c ss ts place place (sym (add-zero place))
    (splits_close room a a b c ss p.others p.running us ts (by_arrow laid) (by_arrow whole) (splits_sift room a ss p laid h) i.goes j)
