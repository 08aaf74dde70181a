-- The first one of a tree of variables.
use Rattle.std.proofs.Common.{◌≡◌, ◌<◌, ◌≤◌, ◌⊎◌, ◌+◌, ◌-◌, ◌*◌, ◌/◌, ◌%◌, ◌∷◌, [], ℕ, zero, suc, Bool, true, false, cond, ◌&&◌, ◌||◌, nat_lt, nat_eq, List, Some, refl, sym, ap, ◌∙◌, inl, inr, subst, arith, length, get_or}
use Rattle.std.proofs.Math.ListN.{set}
use Rattle.std.proofs.lemmas.Bool.{cases_Bool, cond_both, cond-true, cond-false, or_parts, or_cases, cases_eq, cases_lt, lt-ltb, le-ltb, eqb-true, eqb-false}
use Rattle.std.proofs.lemmas.List.{get_or-set_other}
use Rattle.std.proofs.lemmas.Option.{slice_get_within, get_or_from_slice_get}
use Rattle.cdcl.specs.declared.ranking.Ranking.{Ranking}
use Rattle.cdcl.specs.Ranks.{mark_of, is_before, IsUnset, IsFirst, first_of, leaf_at, first_at, IsRanked}

-- the order
abbrev less : ℕ → ℕ → ℕ → ℕ → Bool
less m n v w = nat_lt n m || (nat_eq m n && nat_lt v w)

trans : (a b c u v w : ℕ) → less a b u v ≡ false → less b c v w ≡ false → less a c u w ≡ false
trans a b c u v w p q = grind arith

asym : (a b v w : ℕ) → less a b v w ≡ true → less b a w v ≡ false
asym a b v w p = grind arith

self : (a v : ℕ) → less a a v v ≡ false
self a v = grind arith

-- open variables
pub held : (unset : List Bool) (v : ℕ) → get_or unset v false ≡ true → IsUnset unset v
held [] v e = absurd (cc)
held (x ∷ xs) zero e = let s : x ≡ true = e in ap (λ t. Some t) s
held (x ∷ xs) (suc v) e = held xs v e

-- a tree whose nodes have the first one of those below them
pub record Tree (unset : List Bool) (acts firsts : List ℕ) : Type 0 where
  pub size : length firsts ≡ length unset
  pub none : IsUnset unset 0 → ⊥
  pub right : (i : ℕ) → 1 ≤ i → i < length firsts → get_or firsts i 0 ≡ first_of acts (first_at unset firsts (2 * i)) (first_at unset firsts (2 * i + 1))

abbrev OrOpen : List Bool → ℕ → Type 0
OrOpen unset v = (v ≡ 0) ⊎ IsUnset unset v

leaf-open : (unset : List Bool) (v : ℕ) → OrOpen unset (leaf_at unset v)
leaf-open unset v = elim (cases_Bool (get_or unset v false)) [
  | inl t ↦ inr (rw t (held unset v t))
  | inr f ↦ inl (rw f refl)
]

chosen : (unset : List Bool) (acts : List ℕ) (a b : ℕ) → OrOpen unset a → OrOpen unset b → OrOpen unset (first_of acts a b)
chosen unset acts a b p q = cond_both (nat_eq b 0) a (cond (nat_eq a 0 || is_before acts b a) b a) (OrOpen unset) (λ _. p) (λ _. cond_both (nat_eq a 0 || is_before acts b a) b a (OrOpen unset) (λ _. q) (λ _. p))

inner : (unset : List Bool) (firsts : List ℕ) (node : ℕ) → node < length firsts → first_at unset firsts node ≡ get_or firsts node 0
inner unset firsts node h = cond-true (nat_lt node (length firsts)) _ _ (lt-ltb node (length firsts) h)

outer : (unset : List Bool) (firsts : List ℕ) (node : ℕ) → length firsts ≤ node → first_at unset firsts node ≡ leaf_at unset (node - length firsts)
outer unset firsts node h = cond-false (nat_lt node (length firsts)) _ _ (le-ltb node (length firsts) h)

pub all-open : (unset : List Bool) (acts firsts : List ℕ) → Tree unset acts firsts → (left node : ℕ) → 1 ≤ node → 2 * length firsts ≤ node + left → OrOpen unset (first_at unset firsts node)
all-open unset acts firsts t zero node h k = rw (outer unset firsts node (omega arith)) (leaf-open unset (node - length firsts))
all-open unset acts firsts t (suc left) node h k = elim (cases_lt node (length firsts)) [
  | inl less ↦ rw (inner unset firsts node less, t.right node h less) (chosen unset acts _ _ (all-open unset acts firsts t left (2 * node) (omega arith) (omega arith)) (all-open unset acts firsts t left (2 * node + 1) (omega arith) (omega arith)))
  | inr more ↦ rw (outer unset firsts node more) (leaf-open unset (node - length firsts))
]

-- an open variable, before which this one doesn't come
record AtLeast (unset : List Bool) (acts : List ℕ) (v r : ℕ) : Type 0 where
  unset_too : IsUnset unset r
  after : is_before acts v r ≡ false

better : (unset : List Bool) (acts : List ℕ) (v a b : ℕ) → (IsUnset unset 0 → ⊥) → OrOpen unset a → OrOpen unset b → AtLeast unset acts v a ⊎ AtLeast unset acts v b → AtLeast unset acts v (first_of acts a b)
better unset acts v a b none p q one =
    cond_both (nat_eq b 0) a (cond (nat_eq a 0 || is_before acts b a) b a) (AtLeast unset acts v)
    (λ e. elim one [ inl x ↦ x | inr y ↦ absurd (none (subst (IsUnset unset) (eqb-true b 0 e) y.unset_too)) ])
    (λ ne. cond_both (nat_eq a 0 || is_before acts b a) b a (AtLeast unset acts v)
    (λ wins. elim one [
      | inl x ↦ elim (or_cases (nat_eq a 0) (is_before acts b a) wins) [
        | inl z ↦ absurd (none (subst (IsUnset unset) (eqb-true a 0 z) x.unset_too))
        | inr w ↦ record {
          unset_too = elim q [ inl z ↦ absurd (eqb-false b 0 ne z) | inr o ↦ o ];
          after = trans (mark_of acts v) (mark_of acts a) (mark_of acts b) v a b x.after (asym (mark_of acts b) (mark_of acts a) b a w);
        }
      ]
      | inr y ↦ y
    ])
    (λ loses.
    let s = or_parts (nat_eq a 0) (is_before acts b a) loses in
    elim one [
      | inl x ↦ x
      | inr y ↦ record {
        unset_too = elim p [ inl z ↦ absurd (eqb-false a 0 s.0 z) | inr o ↦ o ];
        after = trans (mark_of acts v) (mark_of acts b) (mark_of acts a) v b a y.after s.1;
      }
    ]))

halves : (node : ℕ) → (node ≡ 2 * (node / 2)) ⊎ (node ≡ 2 * (node / 2) + 1)
halves node = elim (cases_eq (node % 2) 0) [ inl e ↦ inl (omega arith) | inr n ↦ inr (omega arith) ]

up : (unset : List Bool) (acts firsts : List ℕ) (v : ℕ) → Tree unset acts firsts → (left node : ℕ) → 1 ≤ node → node < 2 * length firsts → node ≤ left → AtLeast unset acts v (first_at unset firsts node) → AtLeast unset acts v (first_at unset firsts 1)
up unset acts firsts v t zero node h k l x = absurd (omega arith)
up unset acts firsts v t (suc left) node h k l x = elim (cases_eq node 1) [
  | inl e ↦ let P : ℕ → Type 0 = λ n. AtLeast unset acts v (first_at unset firsts n) in subst P e x
  | inr ne ↦
      let p = node / 2 in
      let less : p < length firsts = omega arith in
      let one : 1 ≤ p = omega arith in
      let a = first_at unset firsts (2 * p) in
      let b = first_at unset firsts (2 * p + 1) in
      let P : ℕ → Type 0 = λ n. AtLeast unset acts v (first_at unset firsts n) in
      let side : AtLeast unset acts v a ⊎ AtLeast unset acts v b = elim (halves node) [ inl e ↦ inl (subst P e x) | inr e ↦ inr (subst P e x) ] in
      let both = better unset acts v a b t.none (all-open unset acts firsts t (2 * length firsts) (2 * p) (omega arith) (omega arith)) (all-open unset acts firsts t (2 * length firsts) (2 * p + 1) (omega arith) (omega arith)) side in
      let Q : ℕ → Type 0 = λ r. AtLeast unset acts v r in
      let here : AtLeast unset acts v (first_at unset firsts p) = subst Q (sym (inner unset firsts p less ∙ t.right p one less)) both in
      up unset acts firsts v t left p one (omega arith) (omega arith) here
]

leaf : (unset : List Bool) (firsts : List ℕ) (v : ℕ) → IsUnset unset v → first_at unset firsts (length firsts + v) ≡ v
leaf unset firsts v o =
    let n = length firsts in
    let e : n + v - n ≡ v = omega arith in
    outer unset firsts (n + v) (omega arith) ∙ ap (leaf_at unset) e ∙ cond-true (get_or unset v false) v 0 (get_or_from_slice_get unset v true false o)

pub root-first : (unset : List Bool) (acts firsts : List ℕ) (v : ℕ) → Tree unset acts firsts → IsUnset unset v → IsFirst unset acts (first_at unset firsts 1)
root-first unset acts firsts v t o =
    let n = length firsts in
    let at : (w : ℕ) → IsUnset unset w → AtLeast unset acts w (first_at unset firsts 1) = λ w u.
    let inside : w < length unset = slice_get_within unset w true u in
    let size = t.size in
    let Q : ℕ → Type 0 = λ r. AtLeast unset acts w r in
    up unset acts firsts w t (2 * n) (n + w) (omega arith) (omega arith) (omega arith)
    (subst Q (sym (leaf unset firsts w u)) (record { unset_too = u; after = self (mark_of acts w) w })) in
    record {
      unset_too = (at v o).unset_too;
      none_before = λ w u. (at w u).after;
    }

pub root-open : (unset : List Bool) (acts firsts : List ℕ) → Tree unset acts firsts → (first_at unset firsts 1 ≡ 0 → ⊥) → IsUnset unset (first_at unset firsts 1)
root-open unset acts firsts t ne = elim (all-open unset acts firsts t (2 * length firsts) 1 (omega arith) (omega arith)) [ inl z ↦ absurd (ne z) | inr o ↦ o ]

-- a variable that isn't open gets another activity
pub weighed : (unset : List Bool) (acts firsts : List ℕ) (v x : ℕ) → Tree unset acts firsts → 1 ≤ v → (IsUnset unset v → ⊥) → (i : ℕ) → 1 ≤ i → i < length firsts → get_or firsts i 0 ≡ first_of (set acts v x) (first_at unset firsts (2 * i)) (first_at unset firsts (2 * i + 1))
weighed unset acts firsts v x t h closed i one inside =
    let a = first_at unset firsts (2 * i) in
    let b = first_at unset firsts (2 * i + 1) in
    let other : (r : ℕ) → OrOpen unset r → get_or (set acts v x) r 0 ≡ get_or acts r 0 = λ r o.
    get_or-set_other acts v r x 0 (elim o [ inl z ↦ (λ e. absurd (omega arith)) | inr u ↦ (λ e. closed (subst (IsUnset unset) e u)) ]) in
    let ea : get_or (set acts v x) a 0 ≡ get_or acts a 0 = other a (all-open unset acts firsts t (2 * length firsts) (2 * i) (omega arith) (omega arith)) in
    let eb : get_or (set acts v x) b 0 ≡ get_or acts b 0 = other b (all-open unset acts firsts t (2 * length firsts) (2 * i + 1) (omega arith) (omega arith)) in
    t.right i one inside ∙ ap (λ (m : ℕ × ℕ). cond (nat_eq b 0) a (cond (nat_eq a 0 || less m.0 m.1 b a) b a)) (λ j. (sym eb j, sym ea j))

-- a variable that was open is closed and opened again
pub closed-opened : (unset : List Bool) (v : ℕ) → IsUnset unset v → set (set unset v false) v true ≡ unset
closed-opened [] v o = absurd (cc)
closed-opened (x ∷ xs) zero o = let e : true ≡ x = cc in ap (λ t. t ∷ xs) e
closed-opened (x ∷ xs) (suc v) o = ap (λ t. x ∷ t) (closed-opened xs v o)

pub tree-of : (r : Ranking) → IsRanked r → Tree r.unset.items r.activities.items r.firsts.items
tree-of r t = record {
  size = omega (arith, r.firsts.ok.0, r.unset.ok.0, t.sizes.firsts);
  none = t.none;
  right = λ i one less. t.right i one (omega (arith, r.firsts.ok.0)) (λ z. absurd (omega arith));
}
