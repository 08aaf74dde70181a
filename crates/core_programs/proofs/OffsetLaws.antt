-- Offsets in order, each once: put into a set one by one, and counted below an offset.
use Rattle.std.proofs.Common.{◌≡◌, ℕ, zero, suc, ◌+◌, ◌<◌, ◌≤◌, Bool, true, false, cond, nat_eq, nat_lt, List, [], ◌∷◌, drop, length, refl, sym, ap, ◌∙◌, slice_index_or, add-one, arith}
use Rattle.std.specs.Ordering.{nat_cmp, match_ordering}
use Rattle.std.specs.declared.cmp.Ordering.TheVariants.{Less, Equal, Greater}
use Rattle.std.specs.BTreeSet.{insert_key}
use Rattle.std.specs.List.Sorted.{IsStrictlySortedBy, IsPartitionedBy, IsPartitionPoint}
use Rattle.std.proofs.lemmas.List.Sorted.{IsPartitionedBy-ltb}
use Rattle.std.proofs.lemmas.Map.Keys.{non_decreasing_from_sorted}
use Rattle.c_means.specs.Runs.{with_offset, place_in}
use Rattle.core_programs.specs.Offsets.{offsets_from}

by_order : (b c : Bool) (p q r s : List ℕ) → r ≡ s
    → match_ordering (cond b Less (cond c Equal Greater)) p q r ≡ cond b p (cond c q s)
by_order true c p q r s e = refl
by_order false true p q r s e = refl
by_order false false p q r s e = e

pub inserted_same : (x : ℕ) (ats : List ℕ) → insert_key nat_cmp ats x ≡ with_offset x ats
inserted_same x [] = refl
inserted_same x (a ∷ ats) =
    by_order (nat_lt x a) (nat_eq x a) (x ∷ a ∷ ats) (a ∷ ats) (a ∷ insert_key nat_cmp ats x) (a ∷ with_offset x ats)
    (ap (λ xs. a ∷ xs) (inserted_same x ats))

-- the next offset is put into the set
pub put_next : (xs : List ℕ) (i : ℕ) (ats : List ℕ) → i < length xs
    → offsets_from ats (drop i xs) ≡ offsets_from (with_offset (slice_index_or xs i 0) ats) (drop (suc i) xs)
put_next [] i ats h = absurd (omega (arith, h))
put_next (x ∷ xs) zero ats h = refl
put_next (x ∷ xs) (suc i) ats h = put_next xs i ats (omega (arith, h))

pub put_behind : (xs : List ℕ) (i x : ℕ) (ats keys : List ℕ) {w : List ℕ} → i < length xs → x ≡ slice_index_or xs i 0
    → keys ≡ insert_key nat_cmp ats x → offsets_from ats (drop i xs) ≡ w → offsets_from keys (drop (i + 1) xs) ≡ w
put_behind xs i x ats keys within is made whole =
    ap (λ k. offsets_from keys (drop k xs)) (add-one i)
    ∙ ap (λ keys. offsets_from keys (drop (suc i) xs)) (made ∙ inserted_same x ats)
    ∙ ap (λ x. offsets_from (with_offset x ats) (drop (suc i) xs)) is ∙ sym (put_next xs i ats within) ∙ whole

-- ---- how many stand before an offset

-- those before an index are below it, and the others aren't
abbrev pub Divides : List ℕ → ℕ → ℕ → Type 0
Divides xs at i = IsPartitionPoint (λ y. nat_lt y at ≡ true) (λ y. nat_lt y at ≡ false) xs i

pub place_at : (xs : List ℕ) (at i : ℕ) → Divides xs at i → i ≤ length xs → i + 1 ≡ place_in xs at
place_at [] at zero h l = refl
place_at [] at (suc i) h l = absurd (omega (arith, l))
place_at (x ∷ xs) at zero h l = ap (λ b. cond b (suc (place_in xs at)) 1) (sym (h.1 0 0 (omega arith) (omega arith)))
place_at (x ∷ xs) at (suc i) h l =
    add-one (suc i) ∙ ap suc (sym (add-one i) ∙ place_at xs at i (
      (λ k d low high. h.0 (suc k) d (omega arith) (omega (arith, high))),
      (λ k d low high. h.1 (suc k) d (omega (arith, low)) (omega (arith, high))),
    ) (omega (arith, l)))
    ∙ ap (λ b. cond b (suc (place_in xs at)) 1) (sym (h.0 0 0 (omega arith) (omega arith)))

pub sorted_divides : (xs : List ℕ) (at : ℕ) → IsStrictlySortedBy nat_cmp xs → IsPartitionedBy (λ y. nat_lt y at) xs
sorted_divides xs at h = IsPartitionedBy-ltb (λ y. y) xs at (non_decreasing_from_sorted xs h)
