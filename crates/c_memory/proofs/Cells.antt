-- Bytes of cells, and the stores that they are.
use Rattle.std.proofs.Common.{◌≡◌, ◌<◌, ◌≤◌, ◌+◌, ◌-◌, ◌*◌, ◌/◌, ◌^◌, ◌⊎◌, ℕ, zero, suc, Bool, true, false, cond, List, []}
use Rattle.std.proofs.Common.{nat_eq, nat_le, nat_lt, arith, refl, sym, ap, ◌∙◌, Option, Some, None, inl, inr}
use Rattle.std.specs.Prelude.{IsSome, Result, Ok, Err, OnOk, IfOk}
use Rattle.std.specs.BTreeMap.{get, WritesThrough}
use Rattle.std.specs.Ordering.{nat_cmp, is_eq}
use Rattle.c_store.specs.declared.object.Object.{Object}
use Rattle.c_store.specs.Store.{Store, object_of, offset_of, spelt, lay, within, byte_of, set_at}
use Rattle.c_store.specs.Access.{is_live, can_access}
use Rattle.c_store.proofs.Laws.{spelt_below, spelt_same, store_ext, within_yes, within_low, within_high}
use Rattle.c_memory.specs.declared.cell.Cell.{Cell}
use Rattle.c_memory.specs.Memories.{Cells, byte_in, byte_at, object_at, store_of, Lays, Holds}

-- ---- results

pub on_ok : {A E : Type 0} {P Q : Type 0} (r : Result A E) → (P → Q) → OnOk r P → OnOk r Q
on_ok (Ok x) f p = f p
on_ok (Err e) f p = tt

pub if_ok : {A E : Type 0} (P Q : A → Type 0) (r : Result A E) → ((x : A) → P x → Q x) → IfOk r P → IfOk r Q
if_ok P Q (Ok x) f p = f x p
if_ok P Q (Err e) f p = tt

-- ---- numbers

-- a number of at most eight bytes takes another byte
pub one_more_fits : (n v x : ℕ) → n < 8 → v < 256 ^ n → x < 256 → v * 256 + x < 2 ^ 64
one_more_fits zero v x less h small = omega arith
one_more_fits (suc zero) v x less h small = omega arith
one_more_fits (suc (suc zero)) v x less h small = omega arith
one_more_fits (suc (suc (suc zero))) v x less h small = omega arith
one_more_fits (suc (suc (suc (suc zero)))) v x less h small = omega arith
one_more_fits (suc (suc (suc (suc (suc zero))))) v x less h small = omega arith
one_more_fits (suc (suc (suc (suc (suc (suc zero)))))) v x less h small = omega arith
one_more_fits (suc (suc (suc (suc (suc (suc (suc zero))))))) v x less h small = omega arith
one_more_fits (suc (suc (suc (suc (suc (suc (suc (suc n)))))))) v x less h small = absurd (omega arith)

pub spelt_fits : (f : ℕ → ℕ) (b n v x : ℕ) → n < 8 → v ≡ spelt n f b → x < 256 → v * 256 + x < 2 ^ 64
spelt_fits f b n v x less is small = let h : v < 256 ^ n = rw is (spelt_below n f b) in one_more_fits n v x less h small

-- ---- what is live

pub access_some : (s : Store) (a n : ℕ) (r : Bool) → (n ≡ 0 → ⊥) → r ≡ is_live s a n → r ≡ can_access s a n
access_some s a n r some is = rw (no n some) is
  where
    no : (n : ℕ) → (n ≡ 0 → ⊥) → nat_eq n 0 ≡ false
    no n some = grind (arith, some)

-- ---- reads

-- where there is no cell, the bytes are the world's, as those of a cell in which none was laid
pub read_none : (world : ℕ → ℕ) (m : Cells) (c : Cell) (a n : ℕ) → None ≡ get nat_cmp m (object_of a) → c.bytes ≡ [] →
    offset_of a + n ≤ 2 ^ 32 → spelt n (byte_in world c) a ≡ spelt n (store_of world m).bytes a
read_none world m c a n is none room = spelt_same n (byte_in world c) (store_of world m).bytes a a each
  where
    same : (i : ℕ) → i < n → object_of (i + a) ≡ object_of a
    same i less = omega arith

    each : (i : ℕ) → i < n → byte_in world c (i + a) ≡ byte_at world (get nat_cmp m (object_of (i + a))) (i + a)
    each i less = rw (same i less, ← is, none) refl

pub holds_none : (world : ℕ → ℕ) (m : Cells) (c : Cell) (a n : ℕ) (bytes : List ℕ) →
    None ≡ get nat_cmp m (object_of a) → c.bytes ≡ [] → offset_of a + n ≤ 2 ^ 32 →
    Holds (byte_in world c) a n bytes → Holds (store_of world m).bytes a n bytes
holds_none world m c a n bytes is none room holds = record {
  count = holds.count;
  each = λ i less. holds.each i less ∙ here i less;
  small = holds.small;
}
  where
    same : (i : ℕ) → i < n → object_of (a + i) ≡ object_of a
    same i less = omega arith

    here : (i : ℕ) → i < n → byte_in world c (a + i) ≡ byte_at world (get nat_cmp m (object_of (a + i))) (a + i)
    here i less = rw (same i less, ← is, none) refl

-- the bytes of a range are its cell's
pub read_cell : (world : ℕ → ℕ) (m : Cells) (c : Cell) (a n : ℕ) → Some c ≡ get nat_cmp m (object_of a) →
    offset_of a + n ≤ 2 ^ 32 → spelt n (byte_in world c) a ≡ spelt n (store_of world m).bytes a
read_cell world m c a n is room = spelt_same n (byte_in world c) (store_of world m).bytes a a each
  where
    same : (i : ℕ) → i < n → object_of (i + a) ≡ object_of a
    same i less = omega arith

    each : (i : ℕ) → i < n → byte_in world c (i + a) ≡ byte_at world (get nat_cmp m (object_of (i + a))) (i + a)
    each i less = rw (same i less, ← is) refl

pub holds_cell : (world : ℕ → ℕ) (m : Cells) (c : Cell) (a n : ℕ) (bytes : List ℕ) →
    Some c ≡ get nat_cmp m (object_of a) → offset_of a + n ≤ 2 ^ 32 → Holds (byte_in world c) a n bytes →
    Holds (store_of world m).bytes a n bytes
holds_cell world m c a n bytes is room holds = record {
  count = holds.count;
  each = λ i less. holds.each i less ∙ here i less;
  small = holds.small;
}
  where
    same : (i : ℕ) → i < n → object_of (a + i) ≡ object_of a
    same i less = omega arith

    here : (i : ℕ) → i < n → byte_in world c (a + i) ≡ byte_at world (get nat_cmp m (object_of (a + i))) (a + i)
    here i less = rw (same i less, ← is) refl

-- ---- writes

key_equal : (p q : ℕ) → is_eq (nat_cmp p q) ≡ true → q ≡ p
key_equal p q h = grind arith

key_same : (p q : ℕ) → is_eq (nat_cmp p q) ≡ true → nat_eq q p ≡ true
key_same p q h = grind arith

key_other : (p q : ℕ) → is_eq (nat_cmp p q) ≡ false → nat_eq q p ≡ false
key_other p q h = grind arith

-- a cell that takes bytes within its addresses
cell_lays : (world : ℕ → ℕ) (m k : Cells) (c d : Cell) (a n : ℕ) (f : ℕ → ℕ) → get nat_cmp m (object_of a) ≡ Some c →
    ((q : ℕ) → get nat_cmp k q ≡ cond (is_eq (nat_cmp (object_of a) q)) (Some d) (get nat_cmp m q)) →
    offset_of a + n ≤ 2 ^ 32 → Lays world c d a n f → store_of world k ≡ lay a n f (store_of world m)
cell_lays world m k c d a n f here gets room lays = store_ext _ _ bytes objects
  where
    objects : (q : ℕ) → object_at (get nat_cmp k q) ≡ object_at (get nat_cmp m q)
    objects q = rw (gets q) (elim (is_eq (nat_cmp (object_of a) q)) as
        (λ t. is_eq (nat_cmp (object_of a) q) ≡ t →
        object_at (cond t (Some d) (get nat_cmp m q)) ≡ object_at (get nat_cmp m q)) [
          | true ↦ λ is. rw (key_equal (object_of a) q is, here) lays.object
          | false ↦ λ is. refl
        ] refl)

    outside : (b : ℕ) → nat_eq (object_of b) (object_of a) ≡ false → within a n b ≡ false
    outside b h = grind arith

    bytes : (b : ℕ) → byte_at world (get nat_cmp k (object_of b)) b
        ≡ cond (within a n b) (f (b - a)) (byte_at world (get nat_cmp m (object_of b)) b)
    bytes b = rw (gets (object_of b)) (elim (is_eq (nat_cmp (object_of a) (object_of b))) as
        (λ t. is_eq (nat_cmp (object_of a) (object_of b)) ≡ t →
        byte_at world (cond t (Some d) (get nat_cmp m (object_of b))) b
        ≡ cond (within a n b) (f (b - a)) (byte_at world (get nat_cmp m (object_of b)) b)) [
          | true ↦ λ is. rw (key_equal (object_of a) (object_of b) is, here)
              (lays.bytes b (key_equal (object_of a) (object_of b) is))
          | false ↦ λ is. rw (outside b (key_other (object_of a) (object_of b) is)) refl
        ] refl)

-- the same of a cell that was lent
pub lent_lays : (world : ℕ → ℕ) (m k : Cells) (c d : Cell) (a n : ℕ) (f : ℕ → ℕ) →
    Some c ≡ get nat_cmp m (object_of a) → WritesThrough nat_cmp (nat_cmp (object_of a)) m d k →
    offset_of a + n ≤ 2 ^ 32 → Lays world c d a n f → store_of world k ≡ lay a n f (store_of world m)
lent_lays world m k c d a n f there writes room lays =
    let is : get nat_cmp m (object_of a) ≡ Some c = sym there in
    let some : IsSome (get nat_cmp m (object_of a)) = rw is refl in
    cell_lays world m k c d a n f is (writes.3 some).0 room lays

-- the same behind a step that left the store as it was
pub lent_lays_in : (world : ℕ → ℕ) (s : Store) (m k : Cells) (c d : Cell) (a n : ℕ) (f : ℕ → ℕ) →
    store_of world m ≡ s → Some c ≡ get nat_cmp m (object_of a) → WritesThrough nat_cmp (nat_cmp (object_of a)) m d k →
    offset_of a + n ≤ 2 ^ 32 → Lays world c d a n f → store_of world k ≡ lay a n f s
lent_lays_in world s m k c d a n f same there writes room lays =
    lent_lays world m k c d a n f there writes room lays ∙ ap (lay a n f) same

-- there is a cell
pub there_is : {A : Type 0} (m : Cells) (p : ℕ) → None ≡ get nat_cmp m p → IsSome (get nat_cmp m p) → A
there_is m p none some = absurd (no (get nat_cmp m p) none some)
  where
    no : (o : Option Cell) → None ≡ o → IsSome o → ⊥
    no None is h = cc
    no (Some c) is h = cc

-- ---- objects

-- a cell's object is another one
object_set : (world : ℕ → ℕ) (m k : Cells) (c d : Cell) (p : ℕ) (o : Option Object) → get nat_cmp m p ≡ Some c →
    d ≡ record c { object = o } → ((q : ℕ) → get nat_cmp k q ≡ cond (is_eq (nat_cmp p q)) (Some d) (get nat_cmp m q)) →
    store_of world k ≡ record { bytes = (store_of world m).bytes; objects = set_at p o (store_of world m).objects }
object_set world m k c d p o here is gets = store_ext _ _ bytes objects
  where
    objects : (q : ℕ) → object_at (get nat_cmp k q) ≡ cond (nat_eq q p) o (object_at (get nat_cmp m q))
    objects q = rw (gets q) (elim (is_eq (nat_cmp p q)) as
        (λ t. is_eq (nat_cmp p q) ≡ t →
        object_at (cond t (Some d) (get nat_cmp m q)) ≡ cond (nat_eq q p) o (object_at (get nat_cmp m q))) [
          | true ↦ λ same. rw (key_same p q same, is) refl
          | false ↦ λ other. rw (key_other p q other) refl
        ] refl)

    bytes : (b : ℕ) → byte_at world (get nat_cmp k (object_of b)) b ≡ byte_at world (get nat_cmp m (object_of b)) b
    bytes b = rw (gets (object_of b)) (elim (is_eq (nat_cmp p (object_of b))) as
        (λ t. is_eq (nat_cmp p (object_of b)) ≡ t →
        byte_at world (cond t (Some d) (get nat_cmp m (object_of b))) b ≡ byte_at world (get nat_cmp m (object_of b)) b) [
          | true ↦ λ same. rw (key_equal p (object_of b) same, here, is) refl
          | false ↦ λ other. refl
        ] refl)

pub lent_object : (world : ℕ → ℕ) (s : Store) (m k : Cells) (c d : Cell) (p : ℕ) (o : Option Object) →
    store_of world m ≡ s → Some c ≡ get nat_cmp m p → d ≡ record c { object = o } →
    WritesThrough nat_cmp (nat_cmp p) m d k →
    store_of world k ≡ record { bytes = s.bytes; objects = set_at p o s.objects }
lent_object world s m k c d p o same there is writes =
    let here : get nat_cmp m p ≡ Some c = sym there in
    let some : IsSome (get nat_cmp m p) = rw here refl in
    object_set world m k c d p o here is (writes.3 some).0
    ∙ ap (λ t. record { bytes = t.bytes; objects = set_at p o t.objects }) same

-- ---- one more byte of a number

is_less : (x y : ℕ) → x < y → nat_lt x y ≡ true
is_less x y h = grind arith

apart : (x y : ℕ) → (x < y) ⊎ ((x ≡ y) ⊎ (y < x))
apart x y = grind arith

-- bytes that were laid, and one more behind them
pub lays_more : (world : ℕ → ℕ) (c d e : Cell) (a i m x : ℕ) (f : ℕ → ℕ) → m ≡ suc i → x ≡ f i →
    object_of (a + i) ≡ object_of a → Lays world c d a i f → Lays world d e (a + i) 1 (λ _. x) → Lays world c e a m f
lays_more world c d e a i m x f more is same first last = record {
  object = last.object ∙ first.object;
  bytes = λ b here. rw more (either b (last.bytes b (here ∙ sym same)) (first.bytes b here));
}
  where
    split : (b : ℕ) → (b < a + i) ⊎ ((b ≡ a + i) ⊎ (a + i < b))
    split b = apart b (a + i)

    at_low : (b : ℕ) → b < a + i → within (a + i) 1 b ≡ false
    at_low b h = within_low (a + i) 1 b h

    at_high : (b : ℕ) → a + i < b → within (a + i) 1 b ≡ false
    at_high b h = within_high (a + i) 1 b (omega (arith, h))

    both : (p q : Bool) (b : ℕ) → p ≡ q → cond (nat_le a b) p false ≡ cond (nat_le a b) q false
    both p q b e = ap (λ z. cond (nat_le a b) z false) e

    less_low : (b : ℕ) → b < a + i → nat_lt b (a + suc i) ≡ nat_lt b (a + i)
    less_low b h = is_less b (a + suc i) (omega (arith, h)) ∙ sym (is_less b (a + i) h)

    wide_low : (b : ℕ) → b < a + i → within a (suc i) b ≡ within a i b
    wide_low b h = both (nat_lt b (a + suc i)) (nat_lt b (a + i)) b (less_low b h)

    wide_high : (b : ℕ) → a + i < b → within a (suc i) b ≡ within a i b
    wide_high b h =
        within_high a (suc i) b (omega (arith, h)) ∙ sym (within_high a i b (omega (arith, h)))

    at_place : (b : ℕ) → b ≡ a + i → within (a + i) 1 b ≡ true
    at_place b h = within_yes (a + i) 1 b (omega (arith, h)) (omega (arith, h))

    wide_place : (b : ℕ) → b ≡ a + i → within a (suc i) b ≡ true
    wide_place b h = within_yes a (suc i) b (omega (arith, h)) (omega (arith, h))

    place : (b : ℕ) → b ≡ a + i → f i ≡ f (b - a)
    place b h = let e : i ≡ b - a = omega arith in ap f e

    either : (b : ℕ) → byte_in world e b ≡ cond (within (a + i) 1 b) x (byte_in world d b) →
        byte_in world d b ≡ cond (within a i b) (f (b - a)) (byte_in world c b) →
        byte_in world e b ≡ cond (within a (suc i) b) (f (b - a)) (byte_in world c b)
    either b l g = elim (split b) [
      | inl h ↦ rw (wide_low b h) (l ∙ rw (at_low b h) g)
      | inr (inl h) ↦ rw (wide_place b h) (l ∙ rw (at_place b h) (is ∙ place b h))
      | inr (inr h) ↦ rw (wide_high b h) (l ∙ rw (at_high b h) g)
    ]

-- what is left of a number, one byte later
pub rest_later : (x y i : ℕ) → ((k : ℕ) → byte_of x k ≡ byte_of y (k + i)) →
    (k : ℕ) → byte_of (x / 256) k ≡ byte_of y (k + (i + 1))
rest_later x y i h k = h (suc k) ∙ ap (byte_of y) (later k i)
  where
    later : (k i : ℕ) → suc k + i ≡ k + (i + 1)
    later k i = omega arith
