-- The laws of stores: what a read finds behind a write, a copy, a made and an ended object.
use Rattle.std.proofs.Common.{◌≡◌, ◌<◌, ◌≤◌, ◌+◌, ◌-◌, ◌*◌, ◌/◌, ◌%◌, ◌^◌, ◌⊎◌, ℕ, zero, suc, Bool, true, false, cond}
use Rattle.std.proofs.Common.{nat_lt, nat_le, nat_eq, arith, inl, inr, refl, sym, ap, ◌∙◌, Option, Some, None, subst}
use Rattle.std.proofs.Math.Path.{fun_ext}
use Rattle.std.proofs.Math.Nat.{pow-suc}
use Rattle.c_store.specs.declared.object.Object.{Object}
use Rattle.c_store.specs.Store.{Store, start, object_of, offset_of, within, lay, byte_of, write, zero_range, copy_range}
use Rattle.c_store.specs.Store.{spelt, read, make, end, initial, object_size, size_in}
use Rattle.c_store.specs.Access.{is_live, reaches}

abbrev store : (ℕ → ℕ) → (ℕ → Option Object) → Store
store f h = record { bytes = f; objects = h }

-- stores with the same bytes and objects are equal
pub store_ext : (s t : Store) → ((a : ℕ) → s.bytes a ≡ t.bytes a) → ((p : ℕ) → s.objects p ≡ t.objects p) → s ≡ t
store_ext s t b o = both_same s.bytes t.bytes s.objects t.objects (fun_ext b) (fun_ext o)
  where
    both_same : (f g : ℕ → ℕ) (h k : ℕ → Option Object) → f ≡ g → h ≡ k → store f h ≡ store g k
    both_same f g h k d e = rw (d, e) refl

-- ---- ranges

pub within_yes : (a n b : ℕ) → a ≤ b → b < a + n → within a n b ≡ true
within_yes a n b h k = grind arith

pub within_low : (a n b : ℕ) → b < a → within a n b ≡ false
within_low a n b h = grind arith

pub within_high : (a n b : ℕ) → a + n ≤ b → within a n b ≡ false
within_high a n b h = grind arith

left : (x : ℕ) → 0 + x ≡ x
left x = omega arith

-- ---- numbers and their bytes

-- what is spelt depends on the n bytes alone
pub spelt_same : (n : ℕ) (f g : ℕ → ℕ) (a b : ℕ) → ((i : ℕ) → i < n → f (i + a) ≡ g (i + b)) → spelt n f a ≡ spelt n g b
spelt_same zero f g a b h = refl
spelt_same (suc n) f g a b h =
    let first : f a ≡ g b = ap f (sym (left a)) ∙ h 0 (omega arith) ∙ ap g (left b) in
    let rest = spelt_same n f g (suc a) (suc b)
    (λ i less. ap f (over a i) ∙ h (suc i) (omega arith) ∙ ap g (sym (over b i))) in
    rw (first, rest) refl
  where
    over : (x i : ℕ) → i + suc x ≡ suc i + x
    over x i = omega arith

-- a number of n bytes is spelt by its bytes
pub spelt_bytes : (n x : ℕ) → x < 256 ^ n → spelt n (byte_of x) 0 ≡ x
spelt_bytes zero x h = one_below x h
  where
    one_below : (x : ℕ) → x < 1 → 0 ≡ x
    one_below x h = omega arith
spelt_bytes (suc n) x h =
    let less : x / 256 < 256 ^ n = below x (256 ^ n) (rw pow-suc at h) in
    let shift : spelt n (byte_of x) 1 ≡ spelt n (byte_of (x / 256)) 0 =
    spelt_same n (byte_of x) (byte_of (x / 256)) 1 0 (λ i _. one_on x i) in
    let rest = shift ∙ spelt_bytes n (x / 256) less in
    rw rest (join x)
  where
    below : (x p : ℕ) → x < p * 256 → x / 256 < p
    below x p h = omega arith

    to_suc : (i : ℕ) → i + 1 ≡ suc i
    to_suc i = omega arith

    to_same : (i : ℕ) → i ≡ i + 0
    to_same i = omega arith

    one_on : (x i : ℕ) → byte_of x (i + 1) ≡ byte_of (x / 256) (i + 0)
    one_on x i = ap (byte_of x) (to_suc i) ∙ ap (byte_of (x / 256)) (to_same i)

    join : (x : ℕ) → x % 256 % 256 + 256 * (x / 256) ≡ x
    join x = omega arith

-- what n bytes spell is below 256 ^ n
pub spelt_below : (n : ℕ) (f : ℕ → ℕ) (a : ℕ) → spelt n f a < 256 ^ n
spelt_below zero f a = omega arith
spelt_below (suc n) f a = rw (pow-suc 256 n) (join (f a) (spelt n f (suc a)) (256 ^ n) (spelt_below n f (suc a)))
  where
    join : (x y p : ℕ) → y < p → x % 256 + 256 * y < p * 256
    join x y p h = omega arith

-- ---- reads behind what was laid

pub lay_in : (a n : ℕ) (f : ℕ → ℕ) (s : Store) (i : ℕ) → i < n → (lay a n f s).bytes (i + a) ≡ f i
lay_in a n f s i h = rw (within_yes a n (i + a) (omega arith) (omega arith)) (ap f (back a i))
  where
    back : (a i : ℕ) → i + a - a ≡ i
    back a i = omega arith

pub lay_out : (a n : ℕ) (f : ℕ → ℕ) (s : Store) (b : ℕ) → (b < a) ⊎ (a + n ≤ b) → (lay a n f s).bytes b ≡ s.bytes b
lay_out a n f s b (inl h) = rw (within_low a n b h) refl
lay_out a n f s b (inr h) = rw (within_high a n b h) refl

-- a read where it was laid, of at most as many bytes
pub read_laid : (a n m : ℕ) (f : ℕ → ℕ) (s : Store) → m ≤ n → read m (lay a n f s) a ≡ spelt m f 0
read_laid a n m f s h =
    spelt_same m (lay a n f s).bytes f a 0 (λ i less. lay_in a n f s i (omega arith) ∙ ap f (same i))
  where
    same : (i : ℕ) → i ≡ i + 0
    same i = omega arith

-- a read beside it
pub read_beside : (a n m : ℕ) (f : ℕ → ℕ) (s : Store) (b : ℕ) → (b + m ≤ a) ⊎ (a + n ≤ b) →
    read m (lay a n f s) b ≡ read m s b
read_beside a n m f s b (inl h) =
    spelt_same m (lay a n f s).bytes s.bytes b b (λ i less. lay_out a n f s (i + b) (inl (omega arith)))
read_beside a n m f s b (inr h) =
    spelt_same m (lay a n f s).bytes s.bytes b b (λ i less. lay_out a n f s (i + b) (inr (omega arith)))

-- a number of n bytes that was written is read
pub read_written : (n a x : ℕ) (s : Store) → x < 256 ^ n → read n (write n a x s) a ≡ x
read_written n a x s h = read_laid a n n (byte_of x) s (omega arith) ∙ spelt_bytes n x h

pub read_zeroed : (m n a b : ℕ) (s : Store) → a ≤ b → b + m ≤ a + n → read m (zero_range a n s) b ≡ 0
read_zeroed m n a b s low high =
    all_zero m (zero_range a n s).bytes b (λ i less. rw (within_yes a n (i + b) (omega arith) (omega arith)) refl)
  where
    over : (x i : ℕ) → i + suc x ≡ suc i + x
    over x i = omega arith

    all_zero : (m : ℕ) (f : ℕ → ℕ) (b : ℕ) → ((i : ℕ) → i < m → f (i + b) ≡ 0) → spelt m f b ≡ 0
    all_zero zero f b h = refl
    all_zero (suc m) f b h =
        let first : f b ≡ 0 = ap f (sym (left b)) ∙ h 0 (omega arith) in
        rw (first, all_zero m f (suc b) (λ i less. ap f (over b i) ∙ h (suc i) (omega arith))) refl

-- a read of a copy is a read of its source, however the ranges overlap
pub read_copied : (m to from n k : ℕ) (source s : Store) → k + m ≤ n →
    read m (copy_range to source from n s) (k + to) ≡ read m source (k + from)
read_copied m to from n k source s h =
    spelt_same m (copy_range to source from n s).bytes source.bytes (k + to) (k + from)
    (λ i less. rw (within_yes to n (i + (k + to)) (omega arith) (omega arith)) (ap source.bytes (place i k to from)))
  where
    place : (i k to from : ℕ) → from + (i + (k + to) - to) ≡ i + (k + from)
    place i k to from = omega arith

-- the later of two writes to one place
pub write_twice : (n a x y : ℕ) (s : Store) → write n a y (write n a x s) ≡ write n a y s
write_twice n a x y s = store_ext _ _ (λ b. over (within a n b) _ _ _) (λ p. refl)
  where
    over : (c : Bool) (x y z : ℕ) → cond c y (cond c x z) ≡ cond c y z
    over true x y z = refl
    over false x y z = refl

-- writes beside each other commute
pub writes_commute : (n a x m b y : ℕ) (s : Store) → (a + n ≤ b) ⊎ (b + m ≤ a) →
    write n a x (write m b y s) ≡ write m b y (write n a x s)
writes_commute n a x m b y s apart =
    store_ext _ _ (λ c. swap (within a n c) (within b m c) _ _ _ (not_both c apart)) (λ p. refl)
  where
    not_both : (c : ℕ) → (a + n ≤ b) ⊎ (b + m ≤ a) → cond (within a n c) (within b m c) false ≡ false
    not_both c (inl h) = grind arith
    not_both c (inr h) = grind arith

    swap : (p q : Bool) (x y z : ℕ) → cond p q false ≡ false → cond p x (cond q y z) ≡ cond q y (cond p x z)
    swap true true x y z h = cc
    swap true false x y z h = refl
    swap false q x y z h = refl

-- what is laid counts by its n bytes alone
pub lay_same : (a n : ℕ) (f g : ℕ → ℕ) (s : Store) → ((i : ℕ) → i < n → f i ≡ g i) → lay a n f s ≡ lay a n g s
lay_same a n f g s h = store_ext _ _ each (λ p. refl)
  where
    inside : (b : ℕ) → within a n b ≡ true → b - a < n
    inside b is = grind arith

    each : (b : ℕ) → cond (within a n b) (f (b - a)) (s.bytes b) ≡ cond (within a n b) (g (b - a)) (s.bytes b)
    each b =
        elim (within a n b) as
        (λ c. within a n b ≡ c → cond c (f (b - a)) (s.bytes b) ≡ cond c (g (b - a)) (s.bytes b)) [
          | true ↦ λ is. h (b - a) (inside b is)
          | false ↦ λ is. refl
        ] refl

-- ---- objects

pub made_here : (p : ℕ) (o : Object) (s : Store) → (make p o s).objects p ≡ Some o
made_here p o s = rw same refl
  where
    same : nat_eq p p ≡ true
    same = grind arith

pub ended_here : (p : ℕ) (s : Store) → (end p s).objects p ≡ None
ended_here p s = rw same refl
  where
    same : nat_eq p p ≡ true
    same = grind arith

pub made_other : (p q : ℕ) (o : Object) (s : Store) → nat_eq q p ≡ false → (make p o s).objects q ≡ s.objects q
made_other p q o s h = rw h refl

pub ended_other : (p q : ℕ) (s : Store) → nat_eq q p ≡ false → (end p s).objects q ≡ s.objects q
ended_other p q s h = rw h refl

-- making and ending leave every read as it was
pub read_made : (n p : ℕ) (o : Object) (s : Store) (a : ℕ) → read n (make p o s) a ≡ read n s a
read_made n p o s a = refl

pub read_ended : (n p : ℕ) (s : Store) (a : ℕ) → read n (end p s) a ≡ read n s a
read_ended n p s a = refl

-- laying leaves every object as it was
pub live_laid : (a n : ℕ) (f : ℕ → ℕ) (s : Store) (b m : ℕ) → is_live (lay a n f s) b m ≡ is_live s b m
live_laid a n f s b m = refl

-- an address belongs to the object in which it was counted
pub of_start : (p i : ℕ) → i < 2 ^ 32 → (object_of (start p + i) ≡ p) × (offset_of (start p + i) ≡ i)
of_start p i h = (omega arith, omega arith)

-- each byte of a live range is live, of an object of fewer than 2 ^ 32 bytes
pub each_live : (s : Store) (a n i : ℕ) → ((o : Object) → s.objects (object_of a) ≡ Some o → o.size < 2 ^ 32) →
    is_live s a n ≡ true → i < n → is_live s (a + i) 1 ≡ true
each_live s a n i small live less =
    elim (s.objects (object_of a)) as
    (λ o. s.objects (object_of a) ≡ o → reaches o (offset_of a + n) ≡ true → is_live s (a + i) 1 ≡ true) [
      | None ↦ λ is no. cc
      | Some o ↦ λ is yes.
          let fits : offset_of a + n ≤ o.size = le_of o.size (offset_of a + n) yes in
          let low = small o is in
          let same : object_of (a + i) ≡ object_of a = omega arith in
          let there : offset_of (a + i) ≡ offset_of a + i = omega arith in
          rw (same, there, is) (of_le o.size (offset_of a + i + 1) (omega arith))
    ] refl live
  where
    le_of : (m k : ℕ) → nat_le k m ≡ true → k ≤ m
    le_of m k h = grind arith

    of_le : (m k : ℕ) → k ≤ m → nat_le k m ≡ true
    of_le m k h = grind arith
