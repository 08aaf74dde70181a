-- A text laid in so many bytes, and 0 behind it.
use Rattle.std.proofs.Common.{◌≡◌, ◌<◌, ◌≤◌, ◌+◌, ◌-◌, ℕ, zero, suc, Bool, true, false, cond, List, [], ◌∷◌}
use Rattle.std.proofs.Common.{length, take, slice_index, arith, refl, sym, ap, ◌∙◌}
use Rattle.std.proofs.lemmas.List.{get_or-take, length-take-le}
use Rattle.c_store.specs.Store.{Store, within, lay, zero_range}
use Rattle.c_store.proofs.Laws.{store_ext, lay_same}
use Rattle.c_means.specs.Parts.{State}
use Rattle.c_means.specs.Parts as means
use Rattle.c_means.specs.Initials.{text_byte}
use Rattle.core_tree.specs.States.{Output, Done, with_store}
use Rattle.elaborate.specs.Means.{as_done}

pub text_at : (text : List ℕ) (i : ℕ) → slice_index text i ≡ text_byte text i
text_at [] i = refl
text_at (b ∷ text) zero = refl
text_at (b ∷ text) (suc i) = text_at text i

text_out : (text : List ℕ) (i : ℕ) → length text ≤ i → text_byte text i ≡ 0
text_out [] i h = refl
text_out (b ∷ text) zero h = absurd (omega (arith, h))
text_out (b ∷ text) (suc i) h = text_out text i (omega (arith, h))

-- the first bytes of a text that is as long
pub laid_first : (a n : ℕ) (text bytes : List ℕ) (s : Store) → n ≤ length text → bytes ≡ take n text
    → lay a (length bytes) (slice_index bytes) s ≡ lay a n (text_byte text) s
laid_first a n text bytes s h is =
    let count : length bytes ≡ n = ap length is ∙ length-take-le n text h in
    ap (λ m. lay a m (slice_index bytes) s) count
    ∙ lay_same a n (slice_index bytes) (text_byte text) s (λ i low.
    ap (λ xs. slice_index xs i) is ∙ get_or-take n text i 0 low ∙ text_at text i)

-- a text, and 0 behind it
pub laid_then_zero : (a n : ℕ) (text : List ℕ) (s : Store) → length text ≤ n
    → zero_range (a + length text) (n - length text) (lay a (length text) (slice_index text) s)
    ≡ lay a n (text_byte text) s
laid_then_zero a n text s h = store_ext _ _ (λ b. each b _ _ _ refl refl refl) (λ p. refl)
  where
    each : (b : ℕ) (inner outer whole : Bool) → within a (length text) b ≡ inner
        → within (a + length text) (n - length text) b ≡ outer → within a n b ≡ whole
        → cond outer 0 (cond inner (slice_index text (b - a)) (s.bytes b)) ≡ cond whole (text_byte text (b - a)) (s.bytes b)
    each b true true whole p q r = absurd (grind (arith, p, q))
    each b false true true p q r = sym (text_out text (b - a) (grind (arith, p, q, r)))
    each b false true false p q r = absurd (grind (arith, p, q, r, h))
    each b true false true p q r = text_at text (b - a)
    each b true false false p q r = absurd (grind (arith, p, q, r, h))
    each b false false true p q r = absurd (grind (arith, p, q, r, h))
    each b false false false p q r = refl

-- ---- on the machine's state

pub laid_part : (a n : ℕ) (text bytes : List ℕ) (s e : State) → n ≤ length text → bytes ≡ take n text
    → e ≡ means.with_store (lay a (length bytes) (slice_index bytes) s.store) s
    → as_done e ≡ with_store (lay a n (text_byte text) s.store) (as_done s)
laid_part a n text bytes s e h is laid =
    ap as_done laid ∙ ap (λ t. with_store t (as_done s)) (laid_first a n text bytes s.store h is)

pub laid_whole : (a n b k : ℕ) (text : List ℕ) (s e f : State) → length text ≤ n → b ≡ a + length text
    → k ≡ n - length text → e ≡ means.with_store (lay a (length text) (slice_index text) s.store) s
    → f ≡ means.with_store (zero_range b k e.store) e
    → as_done f ≡ with_store (lay a n (text_byte text) s.store) (as_done s)
laid_whole a n b k text s e f h is left laid zeroed =
    let both : ℕ → ℕ → State → Done Output = λ b k e. as_done (means.with_store (zero_range b k e.store) e) in
    ap as_done zeroed ∙ ap (λ b. both b k e) is ∙ ap (λ k. both (a + length text) k e) left
    ∙ ap (both (a + length text) (n - length text)) laid
    ∙ ap (λ t. with_store t (as_done s)) (laid_then_zero a n text s.store h)
