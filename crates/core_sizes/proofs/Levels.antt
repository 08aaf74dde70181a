-- Sizes of functions, one level more at a time.
use Rattle.std.proofs.Common.{◌≡◌, ◌≤◌, ◌<◌, ◌+◌, ◌-◌, ◌^◌, ◌⊎◌, inl, inr, ℕ, zero, suc, List, [], map, Option, Some, None}
use Rattle.std.proofs.Common.{refl, sym, ap, ◌∙◌, arith, subst}
use Rattle.std.specs.Prelude.{min, slice_get, unwrap_or, option_map}
use Rattle.std.proofs.Math.Nat.{min-eq_left, min-eq_right}
use Rattle.std.proofs.lemmas.Bool.{cases_lt}
use Rattle.std.proofs.lemmas.Option.{slice_get-map}
use Rattle.plain_data.specs.declared.bounds.Bounds.{Bounds}
use Rattle.core_tree.specs.declared.program.Core.{Core}
use Rattle.core_tree.specs.declared.program.Function.{Function}
use Rattle.core_tree.specs.Programs.{Machine, measures_of, turns_in, size_by, maybe_body, body_of, body_size, main_needs, unrolled_size}
use Rattle.core_tree.specs.States.{Output}
use Rattle.core_sizes.specs.Nodes.{capped}
use Rattle.core_sizes.specs.Programs.{silent_machine, sizes_at, size_in, size_over, HoldsSizes}

sizes_there : (m : Machine Output) (n : ℕ) (f : Function) (g : ℕ) → (measures_of m n f).size g ≡ sizes_at m n g
unfolding measures_of
sizes_there m zero f g = refl
sizes_there m (suc n) f g = refl

turns_there : (m : Machine Output) (n : ℕ) (f : Function) → (measures_of m n f).turns ≡ turns_in m.limits f
unfolding measures_of
turns_there m zero f = refl
turns_there m (suc n) f = refl

pub turns_are : (m : Machine Output) (n : ℕ) (f : Function) (t : ℕ) → t ≡ turns_in m.limits f
    → t ≡ (measures_of m n f).turns
turns_are m n f t is = is ∙ sym (turns_there m n f)

pub size_is : (m : Machine Output) (n : ℕ) (f : Function) (g r : ℕ) (row : List ℕ) → HoldsSizes m n row
    → r ≡ size_in row g → r ≡ capped ((measures_of m n f).size g)
size_is m n f g r row holds is = is ∙ holds g ∙ ap (λ x. capped x) (sym (sizes_there m n f g))

pub one_more : (m : Machine Output) (n : ℕ) (f : Function) (inside r items : ℕ) → inside ≡ capped items
    → r ≡ capped (inside + 1) → r ≡ capped (1 + items)
one_more m n f inside r items is more = grind (arith, is, more)

pub holds_none : (m : Machine Output) (n : ℕ) (row : List ℕ) → n ≡ 0 → row ≡ [] → HoldsSizes m n row
holds_none m n row none is =
    λ g. ap (λ r. size_in r g) is ∙ ap (λ i. capped (sizes_at m i g)) (sym none)

each : (m : Machine Output) (n : ℕ) (o : Option Function)
    → unwrap_or (option_map (size_over m n) o) 0 ≡ capped (size_by {O = Output} (measures_of m n) (maybe_body o))
each m n None = refl
each m n (Some f) = refl

pub holds_more : (p : Core) (b : Bounds) (n : ℕ) (row : List ℕ)
    → row ≡ map (size_over (silent_machine p b) n) p.functions → HoldsSizes (silent_machine p b) (n + 1) row
holds_more p b n row is = λ g.
    ap (λ r. size_in r g) is
    ∙ ap (λ o. unwrap_or o 0) (slice_get-map (size_over (silent_machine p b) n) p.functions g)
    ∙ each (silent_machine p b) n (slice_get p.functions g)
    ∙ ap (λ i. capped (sizes_at (silent_machine p b) i g)) (next n)
  where
    next : (n : ℕ) → suc n ≡ n + 1
    next n = omega arith

pub holds_next : (m : Machine Output) (n : ℕ) (row : List ℕ) → (n ≡ 0 → ⊥) → HoldsSizes m (n - 1 + 1) row
    → HoldsSizes m n row
holds_next m n row some holds = subst (λ i. HoldsSizes m i row) (back n some) holds
  where
    back : (n : ℕ) → (n ≡ 0 → ⊥) → n - 1 + 1 ≡ n
    back zero some = absurd (some refl)
    back (suc n) some = omega arith

-- ---- `main`

least : (s cap r : ℕ) → cap ≤ 18446744073709551615 → r ≡ min (capped s) cap → r ≡ min s cap
least s cap r fits is = is ∙ by (cases_lt 18446744073709551615 s)
  where
    by : (18446744073709551615 < s) ⊎ (s ≤ 18446744073709551615) → min (capped s) cap ≡ min s cap
    by (inl more) =
        ap (λ x. min x cap) (min-eq_right (omega (arith, more))) ∙ min-eq_right fits
        ∙ sym (min-eq_right (omega (arith, more, fits)))
    by (inr less) = ap (λ x. min x cap) (min-eq_left less)

pub main_size : (p : Core) (b : Bounds) (x : Function) (n cap size r : ℕ) → cap < 2 ^ 64
    → slice_get p.functions p.main ≡ Some x → n ≡ b.depth - 1 → size ≡ size_over (silent_machine p b) n x
    → r ≡ min size cap → r ≡ min (unrolled_size (silent_machine p b)) cap
main_size p b x n cap size r fits there levels is least_is =
    let low : cap ≤ 18446744073709551615 = omega (arith, fits) in
    least (body_size {O = Output} (body_of x) (measures_of (silent_machine p b) n x)) cap r low
    (least_is ∙ ap (λ s. min s cap) is)
    ∙ ap (λ i. min (body_size {O = Output} (body_of x) (measures_of (silent_machine p b) i x)) cap) levels
    ∙ sym (ap (λ o. min (main_needs body_size (silent_machine p b) (maybe_body o)) cap) there)
