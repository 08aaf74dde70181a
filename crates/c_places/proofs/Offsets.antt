-- The places of what lives throughout the run: lists of offsets in ascending order, and how many stand before one.
use Rattle.std.proofs.Common.{◌≡◌, ◌≤◌, ◌<◌, ◌⊎◌, inl, inr, ℕ, suc, ◌+◌, Bool, true, false, cond, List, [], ◌∷◌}
use Rattle.std.proofs.Common.{refl, sym, subst, arith, length, map}
use Rattle.std.specs.Prelude.{nat_lt, nat_eq}
use Rattle.c_means.specs.Runs.{with_offset}
use Rattle.c_means.specs.Runs.{place_in}
use Rattle.c_places.specs.Places.{times}
use Rattle.c_places.proofs.Calls.{Counts}

-- ---- ascending lists

abbrev pub Above : ℕ → List ℕ → Type 0
Above b [] = Unit {0}
Above b (x ∷ xs) = (b < x) × Above x xs

abbrev pub Ascends : List ℕ → Type 0
Ascends [] = Unit {0}
Ascends (x ∷ xs) = Above x xs

abbrev pub Has : ℕ → List ℕ → Type 0
Has at [] = ⊥
Has at (x ∷ xs) = (x ≡ at) ⊎ Has at xs

pub ascends : (b : ℕ) (xs : List ℕ) → Above b xs → Ascends xs
ascends b [] h = tt
ascends b (x ∷ xs) h = h.1

is_below : (n b : ℕ) → nat_lt n b ≡ true → n < b
is_below n b = grind arith

isnt_below : (n b : ℕ) → nat_lt n b ≡ false → b ≤ n
isnt_below n b = grind arith

is_same : (n b : ℕ) → nat_eq n b ≡ true → n ≡ b
is_same n b = grind arith

isnt_same : (n b : ℕ) → nat_eq n b ≡ false → n ≡ b → ⊥
isnt_same n b = grind arith

-- ---- an offset put in

abbrev chosen : ℕ → ℕ → List ℕ → Bool → Bool → List ℕ
chosen at x xs less same = cond less (at ∷ x ∷ xs) (cond same (x ∷ xs) (x ∷ with_offset at xs))

above_in : (b at x : ℕ) (xs : List ℕ) (less same : Bool) → nat_lt at x ≡ less → nat_eq at x ≡ same → b < at → b < x →
    Above x xs → (x < at → Above x (with_offset at xs)) → Above b (chosen at x xs less same)
above_in b at x xs true same el es ha hx hs more = (ha, (is_below at x el, hs))
above_in b at x xs false true el es ha hx hs more = (hx, hs)
above_in b at x xs false false el es ha hx hs more = (hx, more (strictly (isnt_below at x el) (isnt_same at x es)))
  where
    strictly : x ≤ at → (at ≡ x → ⊥) → x < at
    strictly = grind arith

above_with : (b at : ℕ) (xs : List ℕ) → b < at → Above b xs → Above b (with_offset at xs)
above_with b at [] ha h = (ha, tt)
above_with b at (x ∷ xs) ha h =
    above_in b at x xs (nat_lt at x) (nat_eq at x) refl refl ha h.0 h.1 (λ l. above_with x at xs l h.1)

ascends_in : (at x : ℕ) (xs : List ℕ) (less same : Bool) → nat_lt at x ≡ less → nat_eq at x ≡ same →
    Above x xs → Ascends (chosen at x xs less same)
ascends_in at x xs true same el es h = (is_below at x el, h)
ascends_in at x xs false true el es h = h
ascends_in at x xs false false el es h = above_with x at xs (strictly (isnt_below at x el) (isnt_same at x es)) h
  where
    strictly : x ≤ at → (at ≡ x → ⊥) → x < at
    strictly = grind arith

pub ascends_with : (at : ℕ) (xs : List ℕ) → Ascends xs → Ascends (with_offset at xs)
ascends_with at [] h = tt
ascends_with at (x ∷ xs) h = ascends_in at x xs (nat_lt at x) (nat_eq at x) refl refl h

has_in : (at x : ℕ) (xs : List ℕ) (less same : Bool) → nat_eq at x ≡ same → Has at (with_offset at xs) →
    Has at (chosen at x xs less same)
has_in at x xs true same es h = inl refl
has_in at x xs false true es h = inl (sym (is_same at x es))
has_in at x xs false false es h = inr h

-- it is among them then
pub has_itself : (at : ℕ) (xs : List ℕ) → Has at (with_offset at xs)
has_itself at [] = inl refl
has_itself at (x ∷ xs) = has_in at x xs (nat_lt at x) (nat_eq at x) refl (has_itself at xs)

kept_in : (b at x : ℕ) (xs : List ℕ) (less same : Bool) → (x ≡ b) ⊎ Has b xs → (Has b xs → Has b (with_offset at xs)) →
    Has b (chosen at x xs less same)
kept_in b at x xs true same h more = inr h
kept_in b at x xs false true h more = h
kept_in b at x xs false false (inl e) more = inl e
kept_in b at x xs false false (inr h) more = inr (more h)

-- and so are those before
pub has_still : (b at : ℕ) (xs : List ℕ) → Has b xs → Has b (with_offset at xs)
has_still b at [] h = absurd h
has_still b at (x ∷ xs) h = kept_in b at x xs (nat_lt at x) (nat_eq at x) h (λ more. has_still b at xs more)

-- ---- places

place_from : (b : Bool) (n : ℕ) → 1 ≤ cond b (suc n) 1
place_from true n = omega arith
place_from false n = omega arith

pub first_place : (xs : List ℕ) (at : ℕ) → 1 ≤ place_in xs at
first_place [] at = omega arith
first_place (x ∷ xs) at = place_from (nat_lt x at) (place_in xs at)

above_has : (b at : ℕ) (xs : List ℕ) → Above b xs → Has at xs → b < at
above_has b at [] h has = absurd has
above_has b at (x ∷ xs) h (inl e) = omega (arith, h.0, e)
above_has b at (x ∷ xs) h (inr has) = let more = above_has x at xs h.1 has in omega (arith, more, h.0)

not_below_itself : (x : ℕ) → nat_lt x x ≡ false
not_below_itself x = grind arith

below_is : (x y : ℕ) → x < y → nat_lt x y ≡ true
below_is x y = grind arith

first_is : (x at n : ℕ) → x ≡ at → cond (nat_lt x at) (suc n) 1 ≡ 1
first_is x at n e = subst (λ y. cond (nat_lt x y) (suc n) 1 ≡ 1) e (rw (not_below_itself x) refl)

later_is : (x at n : ℕ) → x < at → cond (nat_lt x at) (suc n) 1 ≡ suc n
later_is x at n h = rw (below_is x at h) refl

-- no place is behind as many as there are offsets
pub last_place : (xs : List ℕ) (at : ℕ) → Ascends xs → Has at xs → place_in xs at ≤ length xs
last_place [] at h has = absurd has
last_place (x ∷ xs) at h (inl e) = omega (arith, first_is x at (place_in xs at) e)
last_place (x ∷ xs) at h (inr has) =
    omega (
      arith,
      later_is x at (place_in xs at) (above_has x at xs h has),
      last_place xs at (ascends x xs h) has,
    )

-- a later offset has a later place
pub place_rises : (xs : List ℕ) (a b : ℕ) → Ascends xs → Has a xs → a < b → suc (place_in xs a) ≤ place_in xs b
place_rises [] a b h has less = absurd has
place_rises (x ∷ xs) a b h (inl e) less =
    omega (
      arith,
      first_is x a (place_in xs a) e,
      later_is x b (place_in xs b) (omega (arith, e, less)),
      first_place xs b,
    )
place_rises (x ∷ xs) a b h (inr has) less =
    let first = above_has x a xs h has in
    omega (
      arith,
      later_is x a (place_in xs a) first,
      later_is x b (place_in xs b) (omega (arith, first, less)),
      place_rises xs a b (ascends x xs h) has less,
    )

-- ---- the places of ascending offsets are met once each

abbrev pub AllIn : List ℕ → List ℕ → Type 0
AllIn xs [] = Unit {0}
AllIn xs (at ∷ ats) = Has at xs × AllIn xs ats

behind_one : (w : ℕ → ℕ) (p : ℕ) → Counts w p → (xs : List ℕ) → Ascends xs → (b : ℕ) (ats : List ℕ) → Has b xs →
    Above b ats → AllIn xs ats →
    times p (map (place_in xs) ats) + w (suc (place_in xs b)) ≤ w (suc (length xs))
behind_one w p c xs h b [] hb above all =
    omega (arith, c.rises.more (suc (place_in xs b)) (suc (length xs)) (omega (arith, last_place xs b h hb)))
behind_one w p c xs h b (at ∷ ats) hb above all =
    omega (
      arith,
      behind_one w p c xs h at ats all.0 above.1 all.1,
      c.rises.more (suc (place_in xs b)) (place_in xs at) (place_rises xs b at h hb above.0),
      c.step (place_in xs at),
    )

pub places_once : (w : ℕ → ℕ) (p : ℕ) → Counts w p → (xs ats : List ℕ) → Ascends xs → Ascends ats → AllIn xs ats →
    times p (map (place_in xs) ats) + w 1 ≤ w (suc (length xs))
places_once w p c xs [] h a all = omega (arith, c.rises.more 1 (suc (length xs)) (omega arith))
places_once w p c xs (at ∷ ats) h a all =
    omega (
      arith,
      behind_one w p c xs h at ats all.0 a all.1,
      c.rises.more 1 (place_in xs at) (first_place xs at),
      c.step (place_in xs at),
    )
