-- Trails that grow and shrink by one entry.
use Rattle.std.proofs.Common.{◌≡◌, ◌<◌, ◌≤◌, ◌⊎◌, ◌+◌, ◌-◌, ◌*◌, ◌++◌, ◌∷◌, [], ℕ, zero, suc, List, Option, Some, None, Bool, true, false, not, cond, ◌&&◌, refl, sym, ap, ◌∙◌, inl, inr, subst, arith, length, get_or}
use Rattle.std.proofs.Math.ListN.{set}
use Rattle.std.specs.List.{slice_get}
use Rattle.std.proofs.lemmas.Bool.{or_cases, or_left, or_right, and_parts, both_ways, cases_Bool, cases_eq, not-true, false_from_ne_true}
use Rattle.std.proofs.lemmas.List.{length_push, get_or-set_same, get_or-set_other}
use Rattle.std.proofs.lemmas.List.Sums.{sum_by-set}
use Rattle.std.proofs.lemmas.Option.{slice_get_within, slice_get-get_or}
use Rattle.cnf_core.specs.Literal.{Literal, negated, same, code_of}
use Rattle.cnf_core.specs.Equality.{same-self, same-true}
use Rattle.proof_check.specs.Propagation.{taking}
use Rattle.cdcl.specs.declared.clauses.ClauseId.{ClauseId}
use Rattle.cdcl.specs.declared.clauses.Clauses.{Clauses}
use Rattle.cdcl.specs.declared.assigned.Entry.{Entry}
use Rattle.cdcl.specs.Known.{known, open_count, IsOpen}
use Rattle.cdcl.specs.Trails.{literal_at, PlacedBelow, Implies, AreDistinct, IsSource, HaveReasons, HasRoom, HaveLevels, ArePlaced, HasDecision, IsCut, level_of, top_level}
use Rattle.cdcl.proofs.Readings.{slice-cases, slice-left, slice-last}

-- literals and their numbers
pub same_variable : (l k : Literal) → l.variable ≡ k.variable → (l ≡ k) ⊎ (l ≡ negated k)
same_variable l k v = go l.positive k.positive refl refl
  where
    go : (a b : Bool) → l.positive ≡ a → k.positive ≡ b → (l ≡ k) ⊎ (l ≡ negated k)
    go true true p q = let s : l.positive ≡ k.positive = p ∙ sym q in inl (λ i. record { variable = v i; positive = s i })
    go true false p q = let s : l.positive ≡ not k.positive = rw (p, q) refl in inr (λ i. record { variable = v i; positive = s i })
    go false true p q = let s : l.positive ≡ not k.positive = rw (p, q) refl in inr (λ i. record { variable = v i; positive = s i })
    go false false p q = let s : l.positive ≡ k.positive = p ∙ sym q in inl (λ i. record { variable = v i; positive = s i })

sign : (a b : Bool) (v w : ℕ) → 2 * v + cond a 0 1 ≡ 2 * w + cond b 0 1 → (v ≡ w) × (a ≡ b)
sign true true v w e = (omega arith, refl)
sign false false v w e = (omega arith, refl)
sign true false v w e = absurd (omega arith)
sign false true v w e = absurd (omega arith)

pub code-one : (l k : Literal) → code_of l ≡ code_of k → l ≡ k
code-one l k e = let s = sign l.positive k.positive l.variable k.variable e in λ i. record { variable = s.0 i; positive = s.1 i }

pub code-within : (l : Literal) (room size : ℕ) → l.variable < room → size ≡ 2 * room → code_of l < size
code-within l room size h e = go l.positive
  where
    go : (b : Bool) → 2 * l.variable + cond b 0 1 < size
    go true = omega arith
    go false = omega arith

-- one more literal
pub known-set : (taken : List Bool) (l : Literal) → code_of l < length taken → (k : Literal) → known (set taken (code_of l) true) k ≡ taking l (known taken) k
known-set taken l h k = elim (cases_eq (code_of k) (code_of l)) [
  | inl s ↦
      let e : l ≡ k = code-one l k (sym s) in
      let P : ℕ → Type 0 = λ n. get_or (set taken (code_of l) true) n false ≡ true in
      subst P (sym s) (get_or-set_same taken (code_of l) true false h) ∙ sym (or_left (same l k) (known taken k) (ap (λ t. same l t) (sym e) ∙ same-self l))
  | inr n ↦
      let other : same l k ≡ false = false_from_ne_true (same l k) (λ t. n (ap code_of (sym (same-true l k t)))) in
      get_or-set_other taken (code_of l) (code_of k) true false n ∙ rw other refl
]

-- one literal less
pub known-unset : (taken : List Bool) (l : Literal) → code_of l < length taken → (k : Literal) → known (set taken (code_of l) false) k ≡ (known taken k && not (same l k))
known-unset taken l h k = elim (cases_eq (code_of k) (code_of l)) [
  | inl s ↦
      let e : l ≡ k = code-one l k (sym s) in
      let one : same l k ≡ true = ap (λ t. same l t) (sym e) ∙ same-self l in
      let P : ℕ → Type 0 = λ n. get_or (set taken (code_of l) false) n false ≡ false in
      subst P (sym s) (get_or-set_same taken (code_of l) false false h) ∙ rw one (sym (none (known taken k)))
  | inr n ↦
      let other : same l k ≡ false = false_from_ne_true (same l k) (λ t. n (ap code_of (sym (same-true l k t)))) in
      get_or-set_other taken (code_of l) (code_of k) false false n ∙ rw other (sym (whole (known taken k)))
]
  where
    none : (b : Bool) → (b && not true) ≡ false
    none true = refl
    none false = refl

    whole : (b : Bool) → (b && not false) ≡ b
    whole true = refl
    whole false = refl

pub open-fewer : (taken : List Bool) (l : Literal) → code_of l < length taken → known taken l ≡ false → open_count (set taken (code_of l) true) + 1 ≡ open_count taken
open-fewer taken l h f =
    let e = sum_by-set (λ t. cond t 0 1) taken (code_of l) true false h in
    let f' : Bool → ℕ = λ t. cond t 0 1 in
    let g = ap f' f in
    omega (arith, e, g)

pub literal-cases : (entries : List Entry) (e : Entry) (i : ℕ) (l : Literal) → literal_at (entries ++ e ∷ []) i ≡ Some l → (literal_at entries i ≡ Some l) ⊎ ((i ≡ length entries) × (l ≡ e.literal))
literal-cases [] e zero l is = let s : e.literal ≡ l = cc in inr (refl, sym s)
literal-cases [] e (suc i) l is = absurd (cc)
literal-cases (y ∷ ys) e zero l is = inl is
literal-cases (y ∷ ys) e (suc i) l is = elim (literal-cases ys e i l is) [ inl h ↦ inl h | inr h ↦ inr (omega (arith, h.0), h.1) ]

pub literal-left : (entries : List Entry) (e : Entry) (i : ℕ) (l : Literal) → literal_at entries i ≡ Some l → literal_at (entries ++ e ∷ []) i ≡ Some l
literal-left [] e i l is = absurd (cc)
literal-left (x ∷ xs) e zero l is = is
literal-left (x ∷ xs) e (suc i) l is = literal-left xs e i l is

pub literal-last : (entries : List Entry) (e : Entry) → literal_at (entries ++ e ∷ []) (length entries) ≡ Some e.literal
literal-last [] e = refl
literal-last (x ∷ xs) e = literal-last xs e

pub literal-inside : (xs : List Entry) (i : ℕ) (l : Literal) → literal_at xs i ≡ Some l → i < length xs
literal-inside [] i l at = absurd (cc)
literal-inside (x ∷ xs) zero l at = omega arith
literal-inside (x ∷ xs) (suc i) l at = let r = literal-inside xs i l at in omega arith

placed-left : (entries : List Entry) (e : Entry) (i : ℕ) (l : Literal) → PlacedBelow i entries l → PlacedBelow i (entries ++ e ∷ []) l
placed-left entries e i l b = (b.0, b.1, literal-left entries e b.0 l b.2)

-- an entry more
pub distinct-push : (entries : List Entry) (taken : List Bool) (e : Entry) → AreDistinct entries → ArePlaced entries taken → IsOpen (known taken) e.literal → AreDistinct (entries ++ e ∷ [])
distinct-push entries taken e d p o i j a b at_i at_j v =
    let fresh : (k : ℕ) (l : Literal) → literal_at entries k ≡ Some l → l.variable ≡ e.literal.variable → ⊥ = λ k l at s. elim (same_variable l e.literal s) [
      | inl u ↦ both_ways (known taken l) (ap (known taken) u ∙ o.fresh) (p.kept k l at)
      | inr u ↦ both_ways (known taken l) (ap (known taken) u ∙ o.opposite) (p.kept k l at)
    ] in
    elim (literal-cases entries e i a at_i) [
      | inl h ↦ elim (literal-cases entries e j b at_j) [
        | inl g ↦ d i j a b h g v
        | inr g ↦ absurd (fresh i a h (v ∙ ap (λ k. k.variable) g.1))
      ]
      | inr h ↦ elim (literal-cases entries e j b at_j) [
        | inl g ↦ absurd (fresh j b g (sym v ∙ ap (λ k. k.variable) h.1))
        | inr g ↦ h.0 ∙ sym g.0
      ]
    ]

implies-push : (entries : List Entry) (e : Entry) (i : ℕ) (p : Literal) (clause : List Literal) → Implies entries i p clause → Implies (entries ++ e ∷ []) i p clause
implies-push entries e i p clause is = record {
  has = is.has;
  others = λ l m. elim (is.others l m) [ inl u ↦ inl u | inr b ↦ inr (placed-left entries e i (negated l) b) ];
}

moved : (entries : List Entry) (e : Entry) (i : ℕ) (x : Entry) (clause : List Literal) → i ≡ length entries → x ≡ e → Implies (entries ++ e ∷ []) (length entries) e.literal clause → Implies (entries ++ e ∷ []) i x.literal clause
moved entries e i x clause h u t = rw (h, u) t

pub reasons-push : (clauses : Clauses) (entries : List Entry) (e : Entry) → HaveReasons clauses entries → ((id : ClauseId) → e.reason ≡ Some id → (c : List Literal) × IsSource e.level clauses id c × Implies entries (length entries) e.literal c) → HaveReasons clauses (entries ++ e ∷ [])
reasons-push clauses entries e r why i x id at is =
    elim (slice-cases entries e x i at) [
      | inl h ↦ let t = r i x id h is in (t.0, t.1, implies-push entries e i x.literal t.0 t.2)
      | inr h ↦
          let t = why id (sym (ap (λ y. y.reason) h.1) ∙ is) in
          (t.0, (let P : Entry → Type 0 = λ y. IsSource y.level clauses id t.0 in subst P (sym h.1) t.1), moved entries e i x t.0 h.0 h.1 (implies-push entries e (length entries) e.literal t.0 t.2))
    ]

pub room-push : (room : ℕ) (entries : List Entry) (e : Entry) → HasRoom room entries → e.literal.variable < room → HasRoom room (entries ++ e ∷ [])
room-push room entries e r h i l at = elim (literal-cases entries e i l at) [
  | inl g ↦ r i l g
  | inr g ↦ let P : Literal → Type 0 = λ k. k.variable < room in subst P (sym g.1) h
]

pub begun-left : (entries : List Entry) (e : Entry) (level : ℕ) → HasDecision level entries → HasDecision level (entries ++ e ∷ [])
begun-left entries e level d = (d.0, d.1, slice-left entries e d.1 d.0 d.2, d.3, d.4)

-- the level stays, or is one more where the entry is a decision
pub levels-push : (entries : List Entry) (e : Entry) (level : ℕ) → HaveLevels level entries → level ≤ e.level → (e.reason ≡ None → level < e.level) → (e.reason ≡ None → 1 ≤ level) → (2 ≤ e.level → (e.reason ≡ None) ⊎ HasDecision e.level entries) → HaveLevels e.level (entries ++ e ∷ [])
levels-push entries e level h more d above begun = record {
  rising = λ i j a b at_i at_j le. elim (slice-cases entries e a i at_i) [
    | inl f ↦ elim (slice-cases entries e b j at_j) [
      | inl g ↦ h.rising i j a b f g le
      | inr g ↦ let w = h.within i a f in let t : b.level ≡ e.level = ap (λ y. y.level) g.1 in omega arith
    ]
    | inr f ↦ elim (slice-cases entries e b j at_j) [
      | inl g ↦ let inside : j < length entries = slice_get_within entries j b g in let k = f.0 in absurd (omega arith)
      | inr g ↦ let t : b.level ≡ e.level = ap (λ y. y.level) g.1 in let u : a.level ≡ e.level = ap (λ y. y.level) f.1 in omega arith
    ]
  ];
  within = λ i x at. elim (slice-cases entries e x i at) [ inl f ↦ let w = h.within i x f in omega arith | inr f ↦ let t : x.level ≡ e.level = ap (λ y. y.level) f.1 in omega arith ];
  decided = λ i x at none. elim (slice-cases entries e x i at) [
    | inl f ↦ h.decided i x f none
    | inr f ↦ let t : x.level ≡ e.level = ap (λ y. y.level) f.1 in let r = d (sym (ap (λ y. y.reason) f.1) ∙ none) in let low = above (sym (ap (λ y. y.reason) f.1) ∙ none) in omega arith
  ];
  first = λ i j a b at_i at_j none less. elim (slice-cases entries e b j at_j) [
    | inl g ↦
        let inside : j < length entries = slice_get_within entries j b g in
        elim (slice-cases entries e a i at_i) [
          | inl f ↦ h.first i j a b f g none less
          | inr f ↦ let k = f.0 in absurd (omega arith)
        ]
    | inr g ↦
        let r = d (sym (ap (λ y. y.reason) g.1) ∙ none) in
        let t : b.level ≡ e.level = ap (λ y. y.level) g.1 in
        elim (slice-cases entries e a i at_i) [
          | inl f ↦ let w = h.within i a f in omega arith
          | inr f ↦ let k = f.0 in let m = g.0 in absurd (omega arith)
        ]
  ];
  begun = λ i x at one. elim (slice-cases entries e x i at) [
    | inl f ↦ begun-left entries e x.level (h.begun i x f one)
    | inr f ↦
        let t : x.level ≡ e.level = ap (λ y. y.level) f.1 in
        let P : ℕ → Type 0 = λ n. HasDecision n (entries ++ e ∷ []) in
        subst P (sym t) (elim (begun (omega arith)) [
          | inl none ↦ (length entries, e, slice-last entries e, none, refl)
          | inr b ↦ begun-left entries e e.level b
        ])
  ];
}

pub placed-push : (entries : List Entry) (taken next : List Bool) (e : Entry) → ArePlaced entries taken → ((k : Literal) → known next k ≡ taking e.literal (known taken) k) → ArePlaced (entries ++ e ∷ []) next
placed-push entries taken next e p is = record {
  placed = λ l k. elim (or_cases (same e.literal l) (known taken l) (sym (is l) ∙ k)) [
    | inl s ↦ (length entries, omega (arith, length_push entries e), literal-last entries e ∙ ap (λ t. Some t) (same-true e.literal l s))
    | inr t ↦ let b = p.placed l t in (b.0, omega (arith, b.1, length_push entries e), literal-left entries e b.0 l b.2)
  ];
  kept = λ i l at. is l ∙ elim (literal-cases entries e i l at) as (λ _. taking e.literal (known taken) l ≡ true) [
    | inl h ↦ or_right (same e.literal l) (known taken l) (p.kept i l h)
    | inr h ↦ or_left (same e.literal l) (known taken l) (ap (λ t. same e.literal t) h.1 ∙ same-self e.literal)
  ];
}

-- an entry less
pub distinct-pop : (entries : List Entry) (e : Entry) → AreDistinct (entries ++ e ∷ []) → AreDistinct entries
distinct-pop entries e d i j p q at_i at_j v = d i j p q (literal-left entries e i p at_i) (literal-left entries e j q at_j) v

placed-prefix : (entries : List Entry) (e : Entry) (i : ℕ) (l : Literal) → i ≤ length entries → PlacedBelow i (entries ++ e ∷ []) l → PlacedBelow i entries l
placed-prefix entries e i l h b = elim (literal-cases entries e b.0 l b.2) [
  | inl c ↦ (b.0, b.1, c)
  | inr c ↦ let less = b.1 in let at = c.0 in absurd (omega arith)
]

pub reasons-pop : (clauses : Clauses) (entries : List Entry) (e : Entry) → HaveReasons clauses (entries ++ e ∷ []) → HaveReasons clauses entries
reasons-pop clauses entries e r i x id at is =
    let t = r i x id (slice-left entries e x i at) is in
    let inside : i < length entries = slice_get_within entries i x at in
    (t.0, t.1, record { has = t.2.has; others = λ l m. elim (t.2.others l m) [ inl u ↦ inl u | inr b ↦ inr (placed-prefix entries e i (negated l) (omega arith) b) ] })

pub room-pop : (room : ℕ) (entries : List Entry) (e : Entry) → HasRoom room (entries ++ e ∷ []) → HasRoom room entries
room-pop room entries e r i l at = r i l (literal-left entries e i l at)

pub room-last : (room : ℕ) (entries : List Entry) (e : Entry) → HasRoom room (entries ++ e ∷ []) → e.literal.variable < room
room-last room entries e r = r (length entries) e.literal (literal-last entries e)

pub levels-pop : (entries : List Entry) (e : Entry) (level : ℕ) → HaveLevels level (entries ++ e ∷ []) → HaveLevels level entries
levels-pop entries e level h = record {
  rising = λ i j a b at_i at_j le. h.rising i j a b (slice-left entries e a i at_i) (slice-left entries e b j at_j) le;
  within = λ i x at. h.within i x (slice-left entries e x i at);
  decided = λ i x at none. h.decided i x (slice-left entries e x i at) none;
  first = λ i j a b at_i at_j none less. h.first i j a b (slice-left entries e a i at_i) (slice-left entries e b j at_j) none less;
  begun = λ i x at one.
      let d = h.begun i x (slice-left entries e x i at) one in
      let inside : i < length entries = slice_get_within entries i x at in
      elim (slice-cases entries e d.1 d.0 d.2) [
        | inl f ↦ (d.0, d.1, f, d.3, d.4)
        | inr f ↦ let k = f.0 in let less = h.first i d.0 x d.1 (slice-left entries e x i at) d.2 d.3 (omega arith) in let same = d.4 in absurd (omega arith)
      ];
}

pub placed-pop : (entries : List Entry) (taken next : List Bool) (e : Entry) → AreDistinct (entries ++ e ∷ []) → ArePlaced (entries ++ e ∷ []) taken → ((k : Literal) → known next k ≡ (known taken k && not (same e.literal k))) → ArePlaced entries next
placed-pop entries taken next e d p is = record {
  placed = λ l k.
      let h = and_parts (known taken l) (not (same e.literal l)) (sym (is l) ∙ k) in
      let b = p.placed l h.0 in
      elim (literal-cases entries e b.0 l b.2) [
        | inl c ↦ (b.0, literal-inside entries b.0 l c, c)
        | inr c ↦ absurd (both_ways (same e.literal l) (not-true (same e.literal l) h.1) (ap (λ t. same e.literal t) c.1 ∙ same-self e.literal))
      ];
  kept = λ i l at.
      let known_l = p.kept i l (literal-left entries e i l at) in
      let inside : i < length entries = literal-inside entries i l at in
      elim (cases_Bool (same e.literal l)) [
        | inl s ↦
            let last : literal_at (entries ++ e ∷ []) (length entries) ≡ Some l = literal-last entries e ∙ ap (λ t. Some t) (same-true e.literal l s) in
            let clash = d i (length entries) l l (literal-left entries e i l at) last refl in
            absurd (omega arith)
        | inr s ↦ is l ∙ rw (known_l, s) refl
      ];
}

-- the first entries
pub cut-whole : (entries : List Entry) (level : ℕ) → ((i : ℕ) (x : Entry) → slice_get entries i ≡ Some x → x.level ≤ level) → IsCut level entries entries
cut-whole entries level below = record { keeps = λ i e at h. at; first = λ i e at. at; below = below }

pub levels-below : (entries : List Entry) (level top last : ℕ) → HaveLevels top entries → ((i : ℕ) (x : Entry) → slice_get entries i ≡ Some x → x.level ≤ last) → last ≤ level → HaveLevels level entries
levels-below entries level top last h below le = record {
  rising = h.rising;
  within = λ i x at. let b = below i x at in omega arith;
  decided = h.decided;
  first = h.first;
  begun = h.begun;
}

pub below-top : (entries : List Entry) (level : ℕ) → HaveLevels level entries → (i : ℕ) (x : Entry) → slice_get entries i ≡ Some x → x.level ≤ top_level entries
below-top entries level h i x at =
    let inside : i < length entries = slice_get_within entries i x at in
    let last = slice_get-get_or entries (length entries - 1) x (omega arith) in
    let r = h.rising i (length entries - 1) x (get_or entries (length entries - 1) x) at last (omega arith) in
    let P : Option Entry → Type 0 = λ o. x.level ≤ level_of o in
    subst P (sym last) r

pub levels-jump : (entries : List Entry) (level top last : ℕ) → HaveLevels top entries → last ≡ top_level entries → last ≤ level → HaveLevels level entries
levels-jump entries level top last h is le = levels-below entries level top (top_level entries) h (below-top entries top h) (omega (arith, is))

top-push : (entries : List Entry) (e : Entry) → top_level (entries ++ e ∷ []) ≡ e.level
top-push entries e =
    let n : length (entries ++ e ∷ []) - 1 ≡ length entries = omega (arith, length_push entries e) in
    ap (λ k. level_of (slice_get (entries ++ e ∷ []) k)) n ∙ ap (λ o. level_of o) (slice-last entries e)

-- entries of which some above a level may have gone from the end
pub record IsCutting (level : ℕ) (old new : List Entry) : Type 0 where
  pub keeps : (i : ℕ) (e : Entry) → slice_get old i ≡ Some e → e.level ≤ level → slice_get new i ≡ Some e
  pub first : (i : ℕ) (e : Entry) → slice_get new i ≡ Some e → slice_get old i ≡ Some e

pub cutting-none : (entries : List Entry) (level : ℕ) → IsCutting level entries entries
cutting-none entries level = record { keeps = λ i e at h. at; first = λ i e at. at }

pub cutting-shorter : (old now new : List Entry) (level last : ℕ) → IsCutting level old now → ((now ≡ []) ⊎ ((e : Entry) × (now ≡ new ++ e ∷ []))) → last ≡ top_level now → level < last → IsCutting level old new
cutting-shorter old now new level last c cut is h = elim cut [
  | inl none ↦ let t : last ≡ 0 = rw none at is in absurd (omega arith)
  | inr some ↦
      let top : last ≡ some.0.level = is ∙ ap top_level some.1 ∙ top-push new some.0 in
      record {
        keeps = λ i x at le.
            let was : slice_get (new ++ some.0 ∷ []) i ≡ Some x = ap (λ t. slice_get t i) (sym some.1) ∙ c.keeps i x at le in
            elim (slice-cases new some.0 x i was) [
              | inl f ↦ f
              | inr f ↦ let t : x.level ≡ some.0.level = ap (λ y. y.level) f.1 in absurd (omega arith)
            ];
        first = λ i x at. c.first i x (ap (λ t. slice_get t i) some.1 ∙ slice-left new some.0 x i at);
      }
]

pub cut-jump : (old new : List Entry) (level top last : ℕ) → HaveLevels top new → IsCutting level old new → last ≡ top_level new → last ≤ level → IsCut level old new
cut-jump old new level top last h c is le = record {
  keeps = c.keeps;
  first = c.first;
  below = λ i x at. let b = below-top new top h i x at in omega (arith, is);
}
