-- Texts in memory, byte by byte.
use Rattle.std.proofs.Common.{◌≡◌, ◌+◌, ◌-◌, ◌%◌, ℕ, zero, suc, false, List, [], ◌∷◌, ◌++◌, Option, Some, None}
use Rattle.std.proofs.Common.{refl, sym, ap, ◌∙◌, arith, append_assoc}
use Rattle.c_store.specs.Store.{Store}
use Rattle.c_means.specs.Calls.{text_from, with_byte}
use Rattle.run_callees.specs.Reading.{after, is_spent, fewer}

behind : (t : List ℕ) (b : ℕ) (more : Option (List ℕ)) → after t (with_byte b more) ≡ after (t ++ b ∷ []) more
behind t b None = refl
behind t b (Some bytes) = ap Some (sym (append_assoc t (b ∷ []) bytes))

one_on : (n : ℕ) (most : Option ℕ) (s : Store) (a b : ℕ) (t : List ℕ) → (n ≡ 0 → ⊥) → is_spent most ≡ false
    → b ≡ s.bytes a % 256 → (b ≡ 0 → ⊥)
    → after t (text_from n most s a) ≡ after (t ++ b ∷ []) (text_from (n - 1) (fewer most) s (a + 1))
one_on zero most s a b t some h byte z = absurd (some refl)
one_on (suc n) most s a zero t some h byte z = absurd (z refl)
one_on (suc n) None s a (suc b) t some h byte z =
    let here : s.bytes a % 256 ≡ suc b = sym byte in
    let one : suc n - 1 ≡ n = omega arith in
    let next : a + 1 ≡ suc a = omega arith in
    rw (here, one, next) (behind t (suc b) (text_from n None s (suc a)))
one_on (suc n) (Some zero) s a (suc b) t some h byte z = absurd cc
one_on (suc n) (Some (suc m)) s a (suc b) t some h byte z =
    let here : s.bytes a % 256 ≡ suc b = sym byte in
    let one : suc n - 1 ≡ n = omega arith in
    let next : a + 1 ≡ suc a = omega arith in
    let front : List ℕ = t ++ suc b ∷ [] in
    rw here (behind t (suc b) (text_from n (Some m) s (suc a))
    ∙ ap (λ k. after front (text_from k (Some m) s (suc a))) (sym one)
    ∙ ap (λ p. after front (text_from (suc n - 1) (Some m) s p)) (sym next))

-- one byte on, in what a loop holds
pub goes_on : (n : ℕ) (most few : Option ℕ) (s : Store) (a next b : ℕ) (t u : List ℕ) (all : Option (List ℕ))
    → (n ≡ 0 → ⊥) → is_spent most ≡ false → b ≡ s.bytes a % 256 → (b ≡ 0 → ⊥) → u ≡ t ++ b ∷ [] → few ≡ fewer most
    → next ≡ a + 1 → after t (text_from n most s a) ≡ all → after u (text_from (n - 1) few s next) ≡ all
goes_on n most few s a next b t u all some wanted byte nonzero grown left behind holds =
    rw (grown, left, behind) (sym (one_on n most s a b t some wanted byte nonzero) ∙ holds)
