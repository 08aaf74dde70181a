-- Which variables are open, as the trail grows and shrinks.
use Rattle.std.proofs.Common.{◌≡◌, ◌<◌, ◌≤◌, ◌⊎◌, ◌++◌, ◌∷◌, [], ◌&&◌, not, ℕ, zero, suc, List, Some, Bool, true, false, refl, sym, ap, ◌∙◌, inl, inr, subst, arith, length, get_or, take, take_all, replicate}
use Rattle.std.proofs.Math.ListN.{set}
use Rattle.std.specs.List.{slice_get}
use Rattle.std.proofs.lemmas.Bool.{cases_eq, cases_lt, cases_Bool, both_ways, and_left, and_right, or_parts, or_left, false_from_ne_true}
use Rattle.std.proofs.lemmas.List.{length-set}
use Rattle.cnf_core.specs.Literal.{Literal, negated, same}
use Rattle.cnf_core.specs.Equality.{same-self, same-true}
use Rattle.proof_check.specs.Propagation.{taking}
use Rattle.cdcl.specs.declared.assigned.Entry.{Entry}
use Rattle.cdcl.specs.Known.{known}
use Rattle.cdcl.specs.Ranks.{IsUnset, IsGrown}
use Rattle.cdcl.specs.Trails.{literal_at, HasRoom, AreOpen, AreDistinct, ArePlaced}
use Rattle.cdcl.proofs.Placements.{same_variable, literal-last}

-- a list of marks with one of them set
unset-closed : (unset : List Bool) (v w : ℕ) → IsUnset (set unset v false) w → (w ≡ v → ⊥) × IsUnset unset w
unset-closed [] v w u = absurd (cc)
unset-closed (x ∷ xs) zero zero u = absurd (cc)
unset-closed (x ∷ xs) zero (suc w) u = ((λ e. absurd (omega arith)), u)
unset-closed (x ∷ xs) (suc v) zero u = ((λ e. absurd (omega arith)), u)
unset-closed (x ∷ xs) (suc v) (suc w) u = let r = unset-closed xs v w u in ((λ e. r.0 (omega arith)), r.1)

unset-kept : (unset : List Bool) (v w : ℕ) (b : Bool) → (w ≡ v → ⊥) → IsUnset unset w → IsUnset (set unset v b) w
unset-kept [] v w b ne u = absurd (cc)
unset-kept (x ∷ xs) zero zero b ne u = absurd (ne refl)
unset-kept (x ∷ xs) zero (suc w) b ne u = u
unset-kept (x ∷ xs) (suc v) zero b ne u = u
unset-kept (x ∷ xs) (suc v) (suc w) b ne u = unset-kept xs v w b (λ e. ne (omega arith)) u

unset-here : (unset : List Bool) (v : ℕ) → v < length unset → IsUnset (set unset v true) v
unset-here [] v h = absurd (omega arith)
unset-here (x ∷ xs) zero h = refl
unset-here (x ∷ xs) (suc v) h = unset-here xs v (omega arith)

unset-cases : (unset : List Bool) (v w : ℕ) → IsUnset (set unset v true) w → (w ≡ v) ⊎ IsUnset unset w
unset-cases [] v w u = absurd (cc)
unset-cases (x ∷ xs) zero zero u = inl refl
unset-cases (x ∷ xs) zero (suc w) u = inr u
unset-cases (x ∷ xs) (suc v) zero u = inr u
unset-cases (x ∷ xs) (suc v) (suc w) u = elim (unset-cases xs v w u) [ inl e ↦ inl (omega arith) | inr o ↦ inr o ]

same-variable : (l k : Literal) → same l k ≡ true → l.variable ≡ k.variable
same-variable l k e = ap (λ t. t.variable) (same-true l k e)

differ : (l k : Literal) → (k.variable ≡ l.variable → ⊥) → same l k ≡ false
differ l k ne = false_from_ne_true (same l k) (λ t. ne (sym (same-variable l k t)))

twice : (l : Literal) → negated (negated l) ≡ l
twice l = go l.positive refl
  where
    go : (b : Bool) → l.positive ≡ b → negated (negated l) ≡ l
    go true e = let s : not (not l.positive) ≡ l.positive = rw e refl in λ i. record { variable = l.variable; positive = s i }
    go false e = let s : not (not l.positive) ≡ l.positive = rw e refl in λ i. record { variable = l.variable; positive = s i }

-- one more literal
pub open-push : (unset taken next : List Bool) (room : ℕ) (e : Literal) → AreOpen unset taken room → ((k : Literal) → known next k ≡ taking e (known taken) k) → AreOpen (set unset e.variable false) next room
open-push unset taken next room e o is = record {
  size = length-set unset e.variable false ∙ o.size;
  none = λ u. o.none (unset-closed unset e.variable 0 u).1;
  is_open = λ l u.
      let p = unset-closed unset e.variable l.variable u in
      let was = o.is_open l p.1 in
      record {
        fresh = is l ∙ rw (differ e l p.0, was.fresh) refl;
        opposite = is (negated l) ∙ rw (differ e (negated l) p.0, was.opposite) refl;
      };
  has = λ l one h k.
      let ne : l.variable ≡ e.variable → ⊥ = λ v. elim (same_variable l e v) [
        | inl u ↦ both_ways (known next l) k.fresh (is l ∙ or_left (same e l) (known taken l) (ap (same e) u ∙ same-self e))
        | inr u ↦
            let back : negated l ≡ e = ap negated u ∙ twice e in
            both_ways (known next (negated l)) k.opposite (is (negated l) ∙ or_left (same e (negated l)) (known taken (negated l)) (ap (same e) back ∙ same-self e))
      ] in
      let one_less = or_parts (same e l) (known taken l) (sym (is l) ∙ k.fresh) in
      let other = or_parts (same e (negated l)) (known taken (negated l)) (sym (is (negated l)) ∙ k.opposite) in
      unset-kept unset e.variable l.variable false ne (o.has l one h (record { fresh = one_less.1; opposite = other.1 }));
}

-- one literal less
pub last-alone : (entries : List Entry) (taken : List Bool) (e : Entry) → AreDistinct (entries ++ e ∷ []) → ArePlaced (entries ++ e ∷ []) taken → known taken (negated e.literal) ≡ false
last-alone entries taken e d p = false_from_ne_true (known taken (negated e.literal)) (λ t.
    let b = p.placed (negated e.literal) t in
    let i : b.0 ≡ length entries = d b.0 (length entries) (negated e.literal) e.literal b.2 (literal-last entries e) refl in
    let at = ap (λ n. literal_at (entries ++ e ∷ []) n) (sym i) ∙ b.2 in
    let last = literal-last entries e in
    let s : e.literal ≡ negated e.literal = cc in
    flips e.literal.positive (ap (λ l. l.positive) s))
  where
    flips : (b : Bool) → b ≡ not b → ⊥
    flips true e = cc
    flips false e = cc

pub open-pop : (unset taken next : List Bool) (room : ℕ) (e : Literal) → AreOpen unset taken room → 1 ≤ e.variable → e.variable < room → known taken (negated e) ≡ false → ((k : Literal) → known next k ≡ (known taken k && not (same e k))) → AreOpen (set unset e.variable true) next room
open-pop unset taken next room e o from_one within alone is = record {
  size = length-set unset e.variable true ∙ o.size;
  none = λ u. elim (unset-cases unset e.variable 0 u) [ inl z ↦ absurd (omega arith) | inr w ↦ o.none w ];
  is_open = λ l u. elim (unset-cases unset e.variable l.variable u) [
    | inl v ↦ record { fresh = gone l v; opposite = gone (negated l) v }
    | inr w ↦
        let was = o.is_open l w in
        record {
          fresh = is l ∙ and_left (known taken l) (not (same e l)) was.fresh;
          opposite = is (negated l) ∙ and_left (known taken (negated l)) (not (same e (negated l))) was.opposite;
        }
  ];
  has = λ l one h k. elim (cases_eq l.variable e.variable) [
    | inl v ↦ let P : ℕ → Type 0 = λ n. IsUnset (set unset e.variable true) n in subst P (sym v) (unset-here unset e.variable (omega (arith, o.size)))
    | inr ne ↦
        let stays : (t : Literal) → (t.variable ≡ e.variable → ⊥) → known next t ≡ false → known taken t ≡ false = λ t n f. elim (cases_Bool (known taken t)) [
          | inl yes_ ↦ absurd (both_ways (known next t) f (is t ∙ rw (yes_, differ e t n) refl))
          | inr no_ ↦ no_
        ] in
        unset-kept unset e.variable l.variable true ne (o.has l one h (record { fresh = stays l ne k.fresh; opposite = stays (negated l) ne k.opposite }))
  ];
}
  where
    gone : (k : Literal) → k.variable ≡ e.variable → known next k ≡ false
    gone k v = elim (same_variable k e v) [
      | inl u ↦ is k ∙ rw (ap (same e) u ∙ same-self e) (and_right (known taken k) false refl)
      | inr u ↦ is k ∙ and_left (known taken k) (not (same e k)) (ap (known taken) u ∙ alone)
    ]

-- no variables
pub open-none : (unset taken : List Bool) (room : ℕ) → unset ≡ [] → room ≡ 0 → AreOpen unset taken room
open-none unset taken room e z =
    let empty : (v : ℕ) → IsUnset unset v → ⊥ = λ v u. let w : slice_get {X = Bool} [] v ≡ Some true = ap (λ t. slice_get t v) (sym e) ∙ u in absurd (cc) in
    record {
      size = ap length e ∙ sym z;
      none = empty 0;
      is_open = λ l u. absurd (empty l.variable u);
      has = λ l one h o. absurd (omega arith);
    }

-- a literal's mark, where marks of none are put behind
pub known-grown : (taken : List Bool) (n m k : ℕ) → length taken ≤ n → get_or (take n taken ++ replicate m false) k false ≡ get_or taken k false
known-grown taken n m k h = ap (λ t. get_or (t ++ replicate m false) k false) (take_all n taken h) ∙ more taken k
  where
    nothing : (m k : ℕ) → get_or (replicate m false) k false ≡ false
    nothing zero k = refl
    nothing (suc m) zero = refl
    nothing (suc m) (suc k) = nothing m k

    more : (xs : List Bool) (k : ℕ) → get_or (xs ++ replicate m false) k false ≡ get_or xs k false
    more [] k = nothing m k
    more (x ∷ xs) zero = refl
    more (x ∷ xs) (suc k) = more xs k

pub known-outside : (entries : List Entry) (taken : List Bool) (room : ℕ) → ArePlaced entries taken → HasRoom room entries → (l : Literal) → room ≤ l.variable → known taken l ≡ false
known-outside entries taken room p r l h = false_from_ne_true (known taken l) (λ t. let b = p.placed l t in let w = r b.0 l b.2 in absurd (omega arith))

-- more variables, of which no literal is taken
pub open-grown : (unset next taken more : List Bool) (old room : ℕ) → AreOpen unset taken old → IsGrown room unset next → old ≤ room → ((l : Literal) → known more l ≡ known taken l) → ((l : Literal) → old ≤ l.variable → known taken l ≡ false) → AreOpen next more room
open-grown unset next taken more old room o g least same outside = record {
  size = g.size;
  none = g.none;
  is_open = λ l u. elim (cases_lt l.variable old) [
    | inl less ↦
        let was = o.is_open l (g.same l.variable (omega (arith, o.size)) u) in
        record { fresh = same l ∙ was.fresh; opposite = same (negated l) ∙ was.opposite }
    | inr from ↦ record { fresh = same l ∙ outside l from; opposite = same (negated l) ∙ outside (negated l) from }
  ];
  has = λ l one h k. elim (cases_lt l.variable old) [
    | inl less ↦ g.stays l.variable (o.has l one less (record { fresh = sym (same l) ∙ k.fresh; opposite = sym (same (negated l)) ∙ k.opposite }))
    | inr from ↦ g.more l.variable (omega (arith, o.size)) one h
  ];
}
