-- Memory terms have an address space of 2 ^ 64 addresses that goes round. Where a range doesn't cross its end, each
-- operation is the store's.
use Rattle.std.proofs.Common.{◌≡◌, ◌<◌, ◌≤◌, ◌+◌, ◌-◌, ◌^◌, ◌⊎◌, ℕ, Bool, true, false, cond, nat_lt, arith, inl, inr, refl, ap, ◌∙◌}
use Rattle.std.proofs.lemmas.Bool.Decides.{nat_tests}
use Rattle.c_store.specs.Store.{Store, byte_of, spelt}
use Rattle.c_store.specs.Store as stores
use Rattle.c_store.proofs.Laws.{store_ext, spelt_same, spelt_bytes}
use Rattle.term_bank.specs.Memories.{behind, distance, is_within, lay, write, zero_range, read}

behind_small : (a i : ℕ) → a + i < 2 ^ 64 → behind a i ≡ a + i
unfolding behind
behind_small a i h = omega arith

distance_up : (a b : ℕ) → a ≤ b → b < 2 ^ 64 → distance a b ≡ b - a
unfolding distance
distance_up a b h k = omega arith

distance_round : (a b : ℕ) → b < a → a ≤ 2 ^ 64 → distance a b ≡ 2 ^ 64 - (a - b)
unfolding distance
distance_round a b h k = omega arith

-- the address that is i behind a is i behind a
distance_behind : (a i : ℕ) → a < 2 ^ 64 → i < 2 ^ 64 → distance a (behind a i) ≡ i
unfolding distance behind
distance_behind a i h k = omega arith

behind_below : (a i : ℕ) → behind a i < 2 ^ 64
unfolding behind
behind_below a i = omega arith

within_true : (a n b : ℕ) → b < 2 ^ 64 → distance a b < n → is_within a n b ≡ true
unfolding is_within
within_true a n b h k = grind (arith, nat_tests)

within_far : (a n b : ℕ) → n ≤ distance a b → is_within a n b ≡ false
unfolding is_within
within_far a n b h = grind (arith, nat_tests)

within_beyond : (a n b : ℕ) → 2 ^ 64 ≤ b → is_within a n b ≡ false
unfolding is_within
within_beyond a n b h = grind (arith, nat_tests)

-- ---- the store's operations

lay_byte : (a n : ℕ) (f : ℕ → ℕ) (s : Store) (b : ℕ) → (lay a n f s).bytes b ≡ cond (is_within a n b) (f (distance a b)) (s.bytes b)
unfolding lay
lay_byte a n f s b = refl

lay_objects : (a n : ℕ) (f : ℕ → ℕ) (s : Store) (p : ℕ) → (lay a n f s).objects p ≡ s.objects p
unfolding lay
lay_objects a n f s p = refl

pub lay_store : (a n : ℕ) (f : ℕ → ℕ) (s : Store) → a + n ≤ 2 ^ 64 → lay a n f s ≡ stores.lay a n f s
lay_store a n f s h = store_ext (lay a n f s) (stores.lay a n f s) (λ b. lay_byte a n f s b ∙ each b) (λ p. lay_objects a n f s p)
  where
    inside : (b : ℕ) → a ≤ b → b < a + n → (is_within a n b ≡ true) × (stores.within a n b ≡ true) × (distance a b ≡ b - a)
    inside b low high =
        let up = distance_up a b low (omega arith) in
        (within_true a n b (omega arith) (omega (arith, up)), grind (arith, nat_tests), up)

    outside : (b : ℕ) → (b < a) ⊎ (a + n ≤ b) → (is_within a n b ≡ false) × (stores.within a n b ≡ false)
    outside b (inl low) =
        let round = distance_round a b low (omega arith) in
        (within_far a n b (omega (arith, round)), grind (arith, nat_tests))
    outside b (inr high) = (far b high (nat_lt b (2 ^ 64)) refl, grind (arith, nat_tests)) where
      less : (b : ℕ) → nat_lt b (2 ^ 64) ≡ true → b < 2 ^ 64
      less b h = grind (arith, nat_tests)

      more : (b : ℕ) → nat_lt b (2 ^ 64) ≡ false → 2 ^ 64 ≤ b
      more b h = grind (arith, nat_tests)

      far : (b : ℕ) → a + n ≤ b → (t : Bool) → nat_lt b (2 ^ 64) ≡ t → is_within a n b ≡ false
      far b high true is = let below = less b is in let up = distance_up a b (omega arith) below in within_far a n b (omega (arith, up))
      far b high false is = within_beyond a n b (more b is)

    cases : (b : ℕ) → ((a ≤ b) × (b < a + n)) ⊎ ((b < a) ⊎ (a + n ≤ b))
    cases b = grind arith

    each : (b : ℕ) → cond (is_within a n b) (f (distance a b)) (s.bytes b) ≡ cond (stores.within a n b) (f (b - a)) (s.bytes b)
    each b = elim (cases b) [
      | inl k ↦ let all = inside b k.0 k.1 in rw (all.0, all.1, all.2) refl
      | inr k ↦ let all = outside b k in rw (all.0, all.1) refl
    ]

pub write_store : (n a x : ℕ) (s : Store) → a + n ≤ 2 ^ 64 → write n a x s ≡ stores.write n a x s
unfolding write
write_store n a x s h = lay_store a n (byte_of x) s h

pub zero_store : (a n : ℕ) (s : Store) → a + n ≤ 2 ^ 64 → zero_range a n s ≡ stores.zero_range a n s
unfolding zero_range
zero_store a n s h = lay_store a n (λ _. 0) s h

pub read_store : (n a : ℕ) (s : Store) → a + n ≤ 2 ^ 64 → read n s a ≡ stores.read n s a
unfolding read
read_store n a s h = spelt_same n (λ i. s.bytes (behind a i)) s.bytes 0 a (λ i less. ap s.bytes (place i less))
  where
    place : (i : ℕ) → i < n → behind a (i + 0) ≡ i + a
    place i less = behind_small a (i + 0) (omega arith) ∙ swap a i
      where
        swap : (a i : ℕ) → a + (i + 0) ≡ i + a
        swap a i = omega arith

-- ---- reads behind a write

-- a word that was written is read
pub read_written : (n a x : ℕ) (s : Store) → a < 2 ^ 64 → n ≤ 2 ^ 64 → x < 256 ^ n → read n (write n a x s) a ≡ x
unfolding read write
read_written n a x s h k below =
    spelt_same n (λ i. (lay a n (byte_of x) s).bytes (behind a i)) (byte_of x) 0 0 (λ i less. at (i + 0) (omega arith)) ∙ spelt_bytes n x below
  where
    at : (i : ℕ) → i < n → (lay a n (byte_of x) s).bytes (behind a i) ≡ byte_of x i
    at i less =
        let far = distance_behind a i h (omega arith) in
        lay_byte a n (byte_of x) s (behind a i)
        ∙ ap (λ t. cond t (byte_of x (distance a (behind a i))) (s.bytes (behind a i))) (within_true a n (behind a i) (behind_below a i) (omega (arith, far)))
        ∙ ap (byte_of x) far

-- a read beside what was laid, where neither range crosses the end
pub read_apart : (m b n a : ℕ) (f : ℕ → ℕ) (s : Store) → a + n ≤ 2 ^ 64 → b + m ≤ 2 ^ 64 → (b + m ≤ a) ⊎ (a + n ≤ b) → read m (lay a n f s) b ≡ read m s b
unfolding read
read_apart m b n a f s h k apart =
    spelt_same m (λ i. (lay a n f s).bytes (behind b i)) (λ i. s.bytes (behind b i)) 0 0 (λ i less. at (i + 0) (omega arith))
  where
    at : (i : ℕ) → i < m → (lay a n f s).bytes (behind b i) ≡ s.bytes (behind b i)
    at i less =
        let place = behind_small b i (omega arith) in
        lay_byte a n f s (behind b i) ∙ ap (λ t. cond t (f (distance a (behind b i))) (s.bytes (behind b i))) (beside i less place apart)
      where
        beside : (i : ℕ) → i < m → behind b i ≡ b + i → (b + m ≤ a) ⊎ (a + n ≤ b) → is_within a n (behind b i) ≡ false
        beside i less place (inl low) = let round = distance_round a (behind b i) (omega (arith, place)) (omega arith) in within_far a n (behind b i) (omega (arith, round, place))
        beside i less place (inr high) = let up = distance_up a (behind b i) (omega (arith, place)) (omega (arith, place)) in within_far a n (behind b i) (omega (arith, up, place))
