-- Accesses of scalars: what is read and written, and where a run ends.
use Rattle.std.proofs.Common.{◌≡◌, ℕ, zero, suc, ◌+◌, ◌^◌, ◌<◌, ◌≤◌, ℤ, pos, List, ◌∷◌, Bool, true, false, not, cond, Option, Some, None, refl, ap, ◌∙◌, arith}
use Rattle.std.specs.Prelude.{Result, Ok, Err, nat_eq, nat_le, ◌||◌}
use Rattle.std.proofs.lemmas.Bool.Decides.{nat_tests}
use Rattle.plain_data.specs.declared.width.Width.{Width}
use Rattle.plain_data.specs.declared.width.Width.TheVariants as width
use Rattle.plain_data.specs.declared.run.Finish.{Finish}
use Rattle.plain_data.specs.declared.run.Finish.TheVariants as finish
use Rattle.plain_data.specs.declared.run.Undefined.TheVariants.{Dereference, LiteralWrite}
use Rattle.c_store.specs.declared.object.Object.{Object}
use Rattle.c_store.specs.Store.{Store, object_of, offset_of}
use Rattle.c_store.specs.Store as stores
use Rattle.c_store.specs.Access.{can_access, can_write, is_live, reaches}
use Rattle.c_language.specs.Integers.{is_zero, number_of, bytes_in}
use Rattle.core_tree.specs.declared.types.Access.{Access}
use Rattle.core_tree.specs.declared.types.ValueType.{ValueType}
use Rattle.core_tree.specs.declared.types.ValueType.TheVariants as vt
use Rattle.core_tree.specs.declared.types.WordType.{WordType}
use Rattle.core_tree.specs.Numbers.{size_of, converted_to, value_of_bytes, bytes_of_value}
use Rattle.core_tree.specs.Memory.{load, put}
use Rattle.core_tree.specs.States.{Done, finished, with_store, found, stop}
use Rattle.term_bank.specs.Memories as wrapping
use Rattle.term_bank.specs.Memories.{octets}
use Rattle.term_bank.specs.declared.sort.Sort.TheVariants as sort
use Rattle.term_bank.specs.declared.sort.Node.{Node}
use Rattle.term_bank.specs.declared.shape.Shape.{Shape}
use Rattle.term_bank.specs.declared.shape.Shape.TheVariants.{Constant, Not}
use Rattle.term_bank.specs.Banks.{IsBank}
use Rattle.term_bank.specs.Terms.{IsTerm, Makes}
use Rattle.term_bank.specs.Values.{Worth, Values, of_truth}
use Rattle.term_bank.proofs.BankLemmas.{weaken, stays, grows_on}
use Rattle.mem_terms.specs.Truths.{Gives}
use Rattle.mem_terms.proofs.Space.{read_store, write_store}
use Rattle.path_states.specs.declared.state.Number.{Number}
use Rattle.path_states.specs.States.{Held, IsSized, AllSized, number_in}
use Rattle.path_states.specs.Ways.{going, ending}
use Rattle.path_numbers.specs.Answers.{Numbered, Truthful}
use Rattle.path_steps.specs.Operands.{pushed}
use Rattle.path_steps.specs.Memories.{IsScalar, width_of, load_by, put_by, Guards}

-- ---- sizes

bytes_octets : (w : Width) → bytes_in w ≡ octets w
bytes_octets width.W8 = refl
bytes_octets width.W16 = refl
bytes_octets width.W32 = refl
bytes_octets width.W64 = refl

pub size_octets : (t : ValueType) → IsScalar t → size_of t ≡ octets (width_of t)
size_octets vt.Truth h = refl
size_octets (vt.Word t) h = bytes_octets t.width
size_octets vt.Pointer h = refl
size_octets vt.Void h = absurd h
size_octets (vt.Block bytes) h = absurd h

-- ---- an access of a live object ends below 2^64

le_true : (m n : ℕ) → nat_le m n ≡ true → m ≤ n
le_true m n h = grind (arith, nat_tests)

eq_zero : (n : ℕ) → nat_eq n 0 ≡ true → n ≡ 0
eq_zero n h = grind (arith, nat_tests)

reached : (s : Store) (a n : ℕ) → IsSized s → a < 2 ^ 64 → (o : Option Object) → s.objects (object_of a) ≡ o
    → reaches o (offset_of a + n) ≡ true → a + n ≤ 2 ^ 64
reached s a n k small None e h = cc
reached s a n k small (Some o) e h =
    omega (arith, le_true (offset_of a + n) o.size h, k.sizes (object_of a) o e)

live_small : (s : Store) (a n : ℕ) → IsSized s → a < 2 ^ 64 → is_live s a n ≡ true → a + n ≤ 2 ^ 64
live_small s a n k small h = reached s a n k small (s.objects (object_of a)) refl h

either_true : (p q : Bool) → (p || q) ≡ true → (p ≡ false → q ≡ true)
either_true true q h e = cc
either_true false q h e = h

pub access_small : (s : Store) (a n : ℕ) → IsSized s → a < 2 ^ 64 → can_access s a n ≡ true → a + n ≤ 2 ^ 64
access_small s a n k small h = by (nat_eq n 0) refl
  where
    by : (c : Bool) → nat_eq n 0 ≡ c → a + n ≤ 2 ^ 64
    by true e = omega (arith, eq_zero n e)
    by false e = live_small s a n k small (either_true (nat_eq n 0) (is_live s a n) h e)

-- ---- scalars by the words that were read

nonzero_flag : (n : ℕ) → not (is_zero (pos n)) ≡ not (nat_eq n 0)
nonzero_flag zero = refl
nonzero_flag (suc n) = grind (arith, nat_tests)

pub spelled_word : (b : List Shape) (n : Node) (t : WordType) → IsBank b → IsTerm b (sort.Word t.width) n
    → Numbered b b (record { node = n; word = t }) (λ v. value_of_bytes (vt.Word t) (v n.index).word)
spelled_word b n t bank term = record { grows = stays; bank = bank; number = record { term = term }; is = λ e v m. refl }

pub spelled_address : (b : List Shape) (n : Node) → IsBank b → IsTerm b (sort.Word width.W64) n
    → Numbered b b (record { node = n; word = record { width = width.W64; is_signed = false } }) (λ v. pos (v n.index).word)
spelled_address b n bank term = record { grows = stays; bank = bank; number = record { term = term }; is = λ e v m. refl }

pub spelled_truth : (a b c : List Shape) (n t : Node) (x : Number)
    → Truthful a b t (λ v. not (is_zero (number_in v (record { node = n; word = record { width = width.W8; is_signed = false } }))))
    → Numbered b c x (λ v. number_of (v t.index).truth) → Numbered a c x (λ v. number_of (not (nat_eq (v n.index).word 0)))
spelled_truth a b c n t x h i = record {
  grows = grows_on h.grows i.grows;
  bank = i.bank;
  number = i.number;
  is = λ e v m. i.is e v m ∙ ap number_of (h.is e v (weaken i.grows m) ∙ nonzero_flag (v n.index).word);
}

-- ---- exits

no_exit : (s c : Bool) (f : Finish) (d : Done ℕ) (r : Option (Result Held (Done ℕ))) → s ≡ false
    → r ≡ cond (cond s c false) (Some (Err (finished f d))) r
no_exit s c f d r h = rw h refl

pub guards_none : (a : List Shape) (f : Finish) (s : Bool) (t : Values → Bool) → s ≡ false → Guards a a None f (λ v. cond s (t v) false)
guards_none a f s t h = record { grows = stays; exit = tt; is = λ e v m d r. no_exit s (t v) f d r h }

an_exit : (s c k : Bool) (f : Finish) (d : Done ℕ) (r : Option (Result Held (Done ℕ))) → s ≡ true → k ≡ c
    → cond k (Some (Err (finished f d))) r ≡ cond (cond s c false) (Some (Err (finished f d))) r
an_exit s c k f d r h e = rw (h, e) refl

pub guards_some : (a b c d : List Shape) (f : Finish) (s : Bool) (size k : ℕ) (length allowed n : Node) (t : Values → ℕ → Bool) → s ≡ true
    → k ≡ size → Makes a b (Constant k width.W64) (Ok length) → Gives b c sort.Truth (λ v. of_truth (t v (v length.index).word)) (Ok allowed)
    → Makes c d (Not allowed.index) (Ok n)
    → Guards a d (Some (record { truth = n; finish = f })) f (λ v. cond s (not (t v size)) false)
guards_some a b c d f s size k length allowed n t h same hl ha hn = record {
  grows = grows_on hl.grows (grows_on ha.grows hn.grows);
  exit = record { term = hn.node };
  is = λ e v m x r.
      let mc = weaken hn.grows m in
      an_exit s (not (t v size)) (v n.index).truth f x r h
      (ap (λ (w : Worth). w.truth) (hn.value.is e v m)
      ∙ ap not (ap (λ (w : Worth). w.truth) (ha.value.is e v mc)
      ∙ ap (t v) (ap (λ (w : Worth). w.word) (hl.value.is e v (weaken ha.grows mc)) ∙ same)));
}

-- ---- loads

pub load_near : (x : Access) (a : ℕ) (d : Done ℕ) → a + size_of x.stored ≤ 2 ^ 64 → load_by x a d ≡ load x a d
load_near x a d h = by x.at x.stored x.is_tested h
  where
    by : (at : ℕ) (t : ValueType) (s : Bool) → a + size_of t ≤ 2 ^ 64
        → load_by (record { at = at; stored = t; is_tested = s }) a d ≡ load (record { at = at; stored = t; is_tested = s }) a d
    by at t true h = refl
    by at t false h = ap (λ n. found (value_of_bytes t n) d) (read_store (size_of t) a d.store h)

loaded_where : (at : ℕ) (t : ValueType) (a : ℕ) (d : Done ℕ) (zs : List ℤ) (c : Bool) → can_access d.store a (size_of t) ≡ c
    → (c ≡ true → a + size_of t ≤ 2 ^ 64)
    → cond (not c) (Some (Err (finished (finish.Stopped Dereference at) d)))
    (Some (Ok (record { operands = value_of_bytes t (wrapping.read (size_of t) d.store a) ∷ zs; done = d })))
    ≡ pushed zs (cond c (found (value_of_bytes t (stores.read (size_of t) d.store a)) d) (stop at Dereference d))
loaded_where at t a d zs true e h =
    ap (λ n. Some (Ok (record { operands = value_of_bytes t n ∷ zs; done = d }))) (read_store (size_of t) a d.store (h refl))
loaded_where at t a d zs false e h = refl

pub loaded : (x : Access) (a n : ℕ) (d : Done ℕ) (zs : List ℤ) → size_of x.stored ≡ n → IsSized d.store → a < 2 ^ 64
    → cond (cond x.is_tested (not (can_access d.store a n)) false) (Some (Err (finished (finish.Stopped Dereference x.at) d)))
    (Some (Ok (record { operands = value_of_bytes x.stored (wrapping.read n d.store a) ∷ zs; done = d })))
    ≡ pushed zs (load_by x a d)
loaded x a n d zs same k small = rw (← same) (by x.at x.stored x.is_tested)
  where
    by : (at : ℕ) (t : ValueType) (s : Bool)
        → cond (cond s (not (can_access d.store a (size_of t))) false) (Some (Err (finished (finish.Stopped Dereference at) d)))
        (Some (Ok (record { operands = value_of_bytes t (wrapping.read (size_of t) d.store a) ∷ zs; done = d })))
        ≡ pushed zs (load_by (record { at = at; stored = t; is_tested = s }) a d)
    by at t true =
        loaded_where at t a d zs (can_access d.store a (size_of t)) refl (λ h. access_small d.store a (size_of t) k small h)
    by at t false = refl

pub load_keeps : (zs : List ℤ) (x : Access) (a : ℕ) (d : Done ℕ) → IsSized d.store
    → AllSized (going (pushed zs (load_by x a d))) × AllSized (ending (pushed zs (load_by x a d)))
load_keeps zs x a d k = by x.at x.stored x.is_tested
  where
    one : (at : ℕ) (z : ℤ) (c : Bool)
        → AllSized (going (pushed zs (cond c (found z d) (stop at Dereference d))))
        × AllSized (ending (pushed zs (cond c (found z d) (stop at Dereference d))))
    one at z true = (k, tt)
    one at z false = (tt, k)

    by : (at : ℕ) (t : ValueType) (s : Bool)
        → AllSized (going (pushed zs (load_by (record { at = at; stored = t; is_tested = s }) a d)))
        × AllSized (ending (pushed zs (load_by (record { at = at; stored = t; is_tested = s }) a d)))
    by at t true = one at (value_of_bytes t (stores.read (size_of t) d.store a)) (can_access d.store a (size_of t))
    by at t false = (k, tt)

-- ---- stores

stored_where : (at p : ℕ) (t : ValueType) (a m : ℕ) (z : ℤ) (d : Done ℕ) (zs : List ℤ) (c w : Bool) → (c ≡ true → a + size_of t ≤ 2 ^ 64)
    → cond (not c) (Some (Err (finished (finish.Stopped Dereference p) d)))
    (cond (not w) (Some (Err (finished (finish.Stopped LiteralWrite at) d)))
    (Some (Ok (record { operands = z ∷ zs; done = with_store (wrapping.write (size_of t) a m d.store) d }))))
    ≡ pushed zs (cond c (cond w (found z (with_store (stores.write (size_of t) a m d.store) d)) (stop at LiteralWrite d))
    (stop p Dereference d))
stored_where at p t a m z d zs true true h =
    ap (λ s. Some (Ok (record { operands = z ∷ zs; done = with_store s d }))) (write_store (size_of t) a m d.store (h refl))
stored_where at p t a m z d zs true false h = refl
stored_where at p t a m z d zs false w h = refl

pub put_near : (at : ℕ) (x : Access) (a : ℕ) (z : ℤ) (d : Done ℕ) → a + size_of x.stored ≤ 2 ^ 64 → put_by at x a z d ≡ put at x a z d
put_near at x a z d h = by x.at x.stored x.is_tested h
  where
    by : (p : ℕ) (t : ValueType) (s : Bool) → a + size_of t ≤ 2 ^ 64
        → put_by at (record { at = p; stored = t; is_tested = s }) a z d ≡ put at (record { at = p; stored = t; is_tested = s }) a z d
    by p t true h = refl
    by p t false h =
        ap (λ s. found (converted_to t z) (with_store s d))
        (write_store (size_of t) a (bytes_of_value t (converted_to t z)) d.store h)

pub stored_by : (at : ℕ) (x : Access) (a n m : ℕ) (z : ℤ) (d : Done ℕ) (zs : List ℤ) → size_of x.stored ≡ n → IsSized d.store → a < 2 ^ 64
    → m ≡ bytes_of_value x.stored (converted_to x.stored z)
    → cond (cond x.is_tested (not (can_access d.store a n)) false) (Some (Err (finished (finish.Stopped Dereference x.at) d)))
    (cond (cond x.is_tested (not (can_write d.store a n)) false) (Some (Err (finished (finish.Stopped LiteralWrite at) d)))
    (Some (Ok (record { operands = converted_to x.stored z ∷ zs; done = with_store (wrapping.write n a m d.store) d }))))
    ≡ pushed zs (put_by at x a z d)
stored_by at x a n m z d zs same k small e = rw (← same, e) (by x.at x.stored x.is_tested)
  where
    by : (p : ℕ) (t : ValueType) (s : Bool)
        → cond (cond s (not (can_access d.store a (size_of t))) false) (Some (Err (finished (finish.Stopped Dereference p) d)))
        (cond (cond s (not (can_write d.store a (size_of t))) false) (Some (Err (finished (finish.Stopped LiteralWrite at) d)))
        (Some (Ok (record {
          operands = converted_to t z ∷ zs;
          done = with_store (wrapping.write (size_of t) a (bytes_of_value t (converted_to t z)) d.store) d;
        }))))
        ≡ pushed zs (put_by at (record { at = p; stored = t; is_tested = s }) a z d)
    by p t true =
        stored_where at p t a (bytes_of_value t (converted_to t z)) (converted_to t z) d zs (can_access d.store a (size_of t))
        (can_write d.store a (size_of t)) (λ h. access_small d.store a (size_of t) k small h)
    by p t false = refl

written_sized : (n a m : ℕ) (s : Store) → IsSized s → IsSized (wrapping.write n a m s)
unfolding wrapping.write wrapping.lay
written_sized n a m s k = record { sizes = k.sizes }

pub put_keeps : (zs : List ℤ) (at : ℕ) (x : Access) (a : ℕ) (z : ℤ) (d : Done ℕ) → IsSized d.store
    → AllSized (going (pushed zs (put_by at x a z d))) × AllSized (ending (pushed zs (put_by at x a z d)))
put_keeps zs at x a z d k = by x.at x.stored x.is_tested
  where
    two : (p : ℕ) (y : ℤ) (s : Store) (c w : Bool) → IsSized s
        → AllSized (going (pushed zs (cond c (cond w (found y (with_store s d)) (stop at LiteralWrite d)) (stop p Dereference d))))
        × AllSized (ending (pushed zs (cond c (cond w (found y (with_store s d)) (stop at LiteralWrite d)) (stop p Dereference d))))
    two p y s true true h = (h, tt)
    two p y s true false h = (tt, k)
    two p y s false w h = (tt, k)

    by : (p : ℕ) (t : ValueType) (s : Bool)
        → AllSized (going (pushed zs (put_by at (record { at = p; stored = t; is_tested = s }) a z d)))
        × AllSized (ending (pushed zs (put_by at (record { at = p; stored = t; is_tested = s }) a z d)))
    by p t true =
        two p (converted_to t z) (stores.write (size_of t) a (bytes_of_value t (converted_to t z)) d.store) (can_access d.store a (size_of t))
        (can_write d.store a (size_of t)) (record { sizes = k.sizes })
    by p t false = (written_sized (size_of t) a (bytes_of_value t (converted_to t z)) d.store k, tt)
