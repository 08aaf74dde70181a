-- How analysis comes down to the one literal of the conflict's level.
use Rattle.std.proofs.Common.{◌≡◌, ◌<◌, ◌≤◌, ◌+◌, ◌++◌, ◌∷◌, ◌||◌, [], ℕ, zero, suc, List, Option, Some, None, Bool, true, false, cond, eqb, refl, sym, ap, ◌∙◌, inl, inr, subst, arith, length}
use Rattle.std.specs.List.{slice_get}
use Rattle.std.proofs.lemmas.Bool.{cases_eq, cases_Bool, both_ways, or_left, ne_eqb}
use Rattle.std.proofs.lemmas.Option.{slice_get_within}
use Rattle.cnf_core.specs.Literal.{Literal, negated}
use Rattle.cdcl.specs.declared.clauses.ClauseId.{ClauseId}
use Rattle.cdcl.specs.declared.clauses.Clauses.{Clauses}
use Rattle.cdcl.specs.declared.assigned.Entry.{Entry}
use Rattle.cdcl.specs.declared.assigned.Assigned.{Assigned}
use Rattle.cdcl.specs.Sources.{named}
use Rattle.cdcl.specs.Known.{Member}
use Rattle.cdcl.specs.Trails.{seen_at, names, AreDistinct, HaveLevels, IsTrailOf}
use Rattle.cdcl.specs.Jumps.{Marked, NoneMarked, Weighs, FalseAt, HasFirst, IsStage, HasTop, IsJump}
use Rattle.cdcl.proofs.Naming.{named-lower}
use Rattle.cdcl.proofs.Members.{names-member, negated-negated}
use Rattle.cdcl.proofs.Readings.{member-cases}
use Rattle.cdcl.proofs.Searching.{le-cases}
use Rattle.cdcl.proofs.Guarding.{literal-of}

-- none is marked from one place on up to another
abbrev pub NoneFrom : List Entry → ℕ → ℕ → ℕ → List Bool → Type 0
NoneFrom entries level from to seen = (j : ℕ) (e : Entry) → from ≤ j → j < to → slice_get entries j ≡ Some e → e.level ≡ level → seen_at seen e.literal.variable ≡ false

pub none-lower : (entries : List Entry) (level i from to : ℕ) (e : Entry) (seen : List Bool) → HaveLevels level entries → from ≡ i + 1 → slice_get entries i ≡ Some e → (e.level ≡ level → ⊥) → NoneFrom entries level from to seen → NoneMarked entries level to seen
none-lower entries level i from to e seen h is at ne none j x less x_at x_level = elim (le-cases from j) [
  | inl above ↦ none j x above less x_at x_level
  | inr below ↦
      let r = h.rising j i x e x_at at (omega arith) in
      let w = h.within i e at in
      absurd (ne (omega arith))
]

pub none-next : (entries : List Entry) (level i from to : ℕ) (e : Entry) (seen : List Bool) → from ≡ i + 1 → slice_get entries i ≡ Some e → seen_at seen e.literal.variable ≡ false → NoneFrom entries level from to seen → NoneFrom entries level i to seen
none-next entries level i from to e seen is at off none j x above less x_at x_level = elim (cases_eq j i) [
  | inl same ↦
      let one : slice_get entries i ≡ Some x = ap (λ k. slice_get entries k) (sym same) ∙ x_at in
      let e_is : e ≡ x = cc in
      ap (λ y. seen_at seen y.literal.variable) (sym e_is) ∙ off
  | inr ne ↦ none j x (omega arith) less x_at x_level
]

pub marked-at : (entries : List Entry) (level i to : ℕ) (e : Entry) (seen : List Bool) → i < to → slice_get entries i ≡ Some e → e.level ≡ level → seen_at seen e.literal.variable ≡ true → Marked entries level to seen
marked-at entries level i to e seen less at l on = record { place = i; entry = e; below = less; at = at; of_level = l; marked = on }

-- stages
other-variable : (entries : List Entry) (i j : ℕ) (e x : Entry) → AreDistinct entries → slice_get entries i ≡ Some e → slice_get entries j ≡ Some x → (j ≡ i → ⊥) → x.literal.variable ≡ e.literal.variable → ⊥
other-variable entries i j e x d at x_at ne same = ne (d j i x.literal e.literal (literal-of entries j x x_at) (literal-of entries i e at) same)

-- what is below one more entry
pub first-lower : (entries : List Entry) (i top : ℕ) (kept : List Literal) (level : ℕ) → HasFirst entries (i + 1) top kept level → HasFirst entries i top kept level
first-lower entries i top kept level f = record {
  first = f.first;
  rest = f.rest;
  is = f.is;
  at = f.at;
  below = elim f.below [
    | inl z ↦ inl z
    | inr s ↦ inr (record {
      second = s.second;
      more = s.more;
      is = s.is;
      at = let g = s.at in record { place = g.place; entry = g.entry; from = let h = g.from in omega arith; at = g.at; negates = g.negates; of_level = g.of_level };
      below = s.below;
      others = s.others;
    })
  ];
}

-- an entry that isn't marked
pub stage-skip : (entries : List Entry) (top i : ℕ) (seen : List Bool) (kept : List Literal) (level : ℕ) (e : Entry) → slice_get entries i ≡ Some e → seen_at seen e.literal.variable ≡ false → IsStage entries top (i + 1) seen kept level → IsStage entries top i seen kept level
stage-skip entries top i seen kept level e at off stage = elim stage [
  | inl (none, zero_level, m) ↦ inl (
    none,
    zero_level,
    record {
      place = m.place;
      entry = m.entry;
      below = elim (cases_eq m.place i) [
        | inl same ↦
            let one : slice_get entries i ≡ Some m.entry = ap (λ k. slice_get entries k) (sym same) ∙ m.at in
            let e_is : e ≡ m.entry = cc in
            absurd (both_ways (seen_at seen e.literal.variable) off (ap (λ y. seen_at seen y.literal.variable) e_is ∙ m.marked))
        | inr ne ↦ let h = m.below in omega arith
      ];
      at = m.at;
      of_level = m.of_level;
      marked = m.marked;
    },
  )
  | inr (first, none) ↦ inr (first-lower entries i top kept level first, λ j x less. none j x (omega arith))
]

-- a marked entry is of the top level where nothing is kept yet, and below it else
top-entry : (entries : List Entry) (top i : ℕ) (seen : List Bool) (e : Entry) → HaveLevels top entries → slice_get entries i ≡ Some e → Marked entries top (i + 1) seen → e.level ≡ top
top-entry entries top i seen e h at m =
    let r = h.rising m.place i m.entry e m.at at (let b = m.below in omega arith) in
    let w = h.within i e at in
    let l = m.of_level in
    omega arith

below-entry : (entries : List Entry) (top i : ℕ) (seen : List Bool) (e : Entry) → HaveLevels top entries → slice_get entries i ≡ Some e → seen_at seen e.literal.variable ≡ true → NoneMarked entries top (i + 1) seen → e.level < top
below-entry entries top i seen e h at on none =
    let w = h.within i e at in
    elim (cases_eq e.level top) [
      | inl same ↦ absurd (both_ways (seen_at seen e.literal.variable) (none i e (omega arith) at same) on)
      | inr ne ↦ omega arith
    ]

-- below an entry of a lower level there is none of the top level
none-below : (entries : List Entry) (top i : ℕ) (seen : List Bool) (e : Entry) → HaveLevels top entries → slice_get entries i ≡ Some e → e.level < top → NoneMarked entries top i seen
none-below entries top i seen e h at low j x less x_at x_level = let r = h.rising j i x e x_at at (omega arith) in absurd (omega arith)

-- the entry's mark goes to others
pub stage-resolve : (entries : List Entry) (top i : ℕ) (seen next : List Bool) (kept : List Literal) (level : ℕ) (e : Entry) (clause : List Literal) → HaveLevels top entries → AreDistinct entries → slice_get entries i ≡ Some e → seen_at seen e.literal.variable ≡ true
    → (e.level ≡ top → Marked entries top i seen) → ((v : ℕ) → (v ≡ e.literal.variable → ⊥) → seen_at next v ≡ (seen_at seen v || names v clause)) → IsStage entries top (i + 1) seen kept level → IsStage entries top i next kept level
stage-resolve entries top i seen next kept level e clause h d at on wanted marks stage = elim stage [
  | inl (none, zero_level, m) ↦
      let r = wanted (top-entry entries top i seen e h at m) in
      inl (
        none,
        zero_level,
        record {
          place = r.place;
          entry = r.entry;
          below = r.below;
          at = r.at;
          of_level = r.of_level;
          marked = marks r.entry.literal.variable (other-variable entries i r.place e r.entry d at r.at (λ s. let b = r.below in omega arith)) ∙ or_left (seen_at seen r.entry.literal.variable) (names r.entry.literal.variable clause) r.marked;
        },
      )
  | inr (first, none) ↦ inr (first-lower entries i top kept level first, none-below entries top i next e h at (below-entry entries top i seen e h at on none))
]

-- the negation of the entry's literal is kept
pub stage-keep : (entries : List Entry) (top i : ℕ) (seen next : List Bool) (kept more : List Literal) (level lower : ℕ) (e : Entry) → HaveLevels top entries → AreDistinct entries → slice_get entries i ≡ Some e → seen_at seen e.literal.variable ≡ true
    → (e.level ≡ top → NoneMarked entries top i seen) → ((v : ℕ) → (v ≡ e.literal.variable → ⊥) → seen_at next v ≡ seen_at seen v) → more ≡ kept ++ negated e.literal ∷ [] → lower ≡ cond (eqb (length kept) 1) e.level level → IsStage entries top (i + 1) seen kept level → IsStage entries top i next more lower
stage-keep entries top i seen next kept more level lower e h d at on alone marks grown lowered stage = elim stage [
  | inl (none, zero_level, m) ↦
      let l = top-entry entries top i seen e h at m in
      let one : more ≡ negated e.literal ∷ [] = grown ∙ ap (λ k. k ++ negated e.literal ∷ []) none in
      let low : lower ≡ 0 = lowered ∙ ap (λ k. cond (eqb (length k) 1) e.level level) none ∙ zero_level in
      inr (
        record { first = negated e.literal; rest = []; is = one; at = here l; below = inl (refl, low) },
        λ j x less x_at x_level. marks x.literal.variable (other-variable entries i j e x d at x_at (λ s. omega arith)) ∙ alone l j x less x_at x_level,
      )
  | inr (first, none) ↦
      let l = below-entry entries top i seen e h at on none in
      inr (added first l, none-below entries top i next e h at l)
]
  where
    here : {n : ℕ} → e.level ≡ n → FalseAt entries 0 n (negated e.literal)
    here l = record { place = i; entry = e; from = omega arith; at = at; negates = sym (negated-negated e.literal); of_level = l }

    placed : FalseAt entries i e.level (negated e.literal)
    placed = record { place = i; entry = e; from = omega arith; at = at; negates = sym (negated-negated e.literal); of_level = refl }

    added : HasFirst entries (i + 1) top kept level → e.level < top → HasFirst entries i top more lower
    added f l = record {
      first = f.first;
      rest = f.rest ++ negated e.literal ∷ [];
      is = grown ∙ ap (λ k. k ++ negated e.literal ∷ []) f.is;
      at = f.at;
      below = elim f.below [
        | inl (none, zero_level) ↦
            let whole : f.rest ++ negated e.literal ∷ [] ≡ negated e.literal ∷ [] = ap (λ k. k ++ negated e.literal ∷ []) none in
            let single : kept ≡ f.first ∷ [] = f.is ∙ ap (λ k. f.first ∷ k) none in
            let low : lower ≡ e.level = lowered ∙ ap (λ k. cond (eqb (length k) 1) e.level level) single in
            inr (record {
              second = negated e.literal;
              more = [];
              is = whole;
              at = let P : ℕ → Type 0 = λ n. FalseAt entries i n (negated e.literal) in subst P (sym low) placed;
              below = omega (arith, low);
              others = λ k m. (e.level, omega (arith, low), only k (let P : List Literal → Type 0 = λ t. Member k t in subst P whole m));
            })
        | inr s ↦
            let two : length kept ≡ suc (suc (length s.more)) = ap length (f.is ∙ ap (λ k. f.first ∷ k) s.is) in
            let low : lower ≡ level = lowered ∙ ap (λ n. cond (eqb n 1) e.level level) two ∙ ap (λ b. cond b e.level level) (ne_eqb (suc (suc (length s.more))) 1 (λ u. omega arith)) in
            let g = s.at in
            let r = h.rising i g.place e g.entry at g.at (let b = g.from in omega arith) in
            inr (record {
              second = s.second;
              more = s.more ++ negated e.literal ∷ [];
              is = ap (λ k. k ++ negated e.literal ∷ []) s.is;
              at = let P : ℕ → Type 0 = λ n. FalseAt entries i n s.second in subst P (sym low) (record { place = g.place; entry = g.entry; from = let b = g.from in omega arith; at = g.at; negates = g.negates; of_level = g.of_level });
              below = let b = s.below in omega (arith, low);
              others = λ k m. elim (member-cases f.rest (negated e.literal) k m) [
                | inl was ↦ let o = s.others k was in (o.0, let b = o.1 in omega (arith, low), o.2)
                | inr new ↦ (e.level, let z = g.of_level in omega (arith, low), (let P : Literal → Type 0 = λ t. FalseAt entries 0 e.level t in subst P (sym new) (here refl)))
              ];
            })
      ];
    }
      where
        only : (k : Literal) → Member k (negated e.literal ∷ []) → FalseAt entries 0 e.level k
        only k (zero, is) = let one : negated e.literal ≡ k = cc in let P : Literal → Type 0 = λ t. FalseAt entries 0 e.level t in subst P one (here refl)
        only k (suc j, is) = absurd (cc)

-- a decision is the first of its level
pub not-decided : (entries : List Entry) (top i : ℕ) (seen : List Bool) (e : Entry) → HaveLevels top entries → slice_get entries i ≡ Some e → e.level ≡ top → Marked entries top i seen → e.reason ≡ None → ⊥
not-decided entries top i seen e h at l m none = let r = h.first m.place i m.entry e m.at at none m.below in let z = m.of_level in omega arith

-- at the begin the conflict's clause is marked
pub stage-begin : (clauses : Clauses) (t : Assigned) (conflict : ClauseId) (seen : List Bool) (clause : List Literal) → HasTop clauses t conflict → named 0 clauses conflict ≡ Some clause → ((v : ℕ) → seen_at seen v ≡ names v clause) → IsStage t.entries.items t.level (length t.entries.items) seen [] 0
stage-begin clauses t conflict seen clause top is marks =
    let one : top.clause ≡ clause = let w = named-lower 1 0 clauses conflict top.clause (omega arith) top.is in cc in
    let f = top.at in
    inl (
      refl,
      refl,
      record {
        place = f.place;
        entry = f.entry;
        below = slice_get_within t.entries.items f.place f.entry f.at;
        at = f.at;
        of_level = f.of_level;
        marked = marks f.entry.literal.variable ∙ ap (λ k. names k.variable clause) f.negates ∙ names-member top.literal clause (let P : List Literal → Type 0 = λ c. Member top.literal c in subst P one top.member);
      },
    )

-- at the end the clause learnt has the one literal of the top level
pub stage-end : (entries : List Entry) (top : ℕ) (seen : List Bool) (kept : List Literal) (level : ℕ) → IsStage entries top 0 seen kept level → IsJump entries top kept level
stage-end entries top seen kept level stage = elim stage [
  | inl (none, zero_level, m) ↦ let b = m.below in absurd (omega arith)
  | inr (first, none) ↦ first
]

pub weighs-true : (entries : List Entry) (level i : ℕ) (seen : List Bool) (b : Bool) → b ≡ true → Weighs entries level i seen b → Marked entries level i seen
weighs-true entries level i seen b is w = let P : Bool → Type 0 = λ t. Weighs entries level i seen t in subst P is w

-- at the top level an entry that is kept is the last one marked, since it would have a reason else
pub weighs-false : (clauses : Clauses) (t : Assigned) (i : ℕ) (seen : List Bool) (b : Bool) (e : Entry) → IsTrailOf clauses t → 2 ≤ t.level → slice_get t.entries.items i ≡ Some e → e.level ≡ t.level
    → (b ≡ true → (id : ClauseId) → e.reason ≡ Some id → named 1 clauses id ≡ None) → Weighs t.entries.items t.level i seen b → NoneMarked t.entries.items t.level i seen
weighs-false clauses t i seen b e trail one at l uncited w = elim (cases_Bool b) [
  | inr f ↦ let P : Bool → Type 0 = λ k. Weighs t.entries.items t.level i seen k in subst P f w
  | inl tr ↦
      let P : Bool → Type 0 = λ k. Weighs t.entries.items t.level i seen k in
      let m = subst P tr w in
      absurd (reasons e.reason refl tr m)
]
  where
    reasons : (r : Option ClauseId) → e.reason ≡ r → b ≡ true → Marked t.entries.items t.level i seen → ⊥
    reasons None is tr m = not-decided t.entries.items t.level i seen e trail.have_levels at l m is
    reasons (Some id) is tr m =
        let r = trail.reasons i e id at is in
        let wide : named 1 clauses id ≡ Some r.0 = elim r.1.1 [ inl root ↦ absurd (omega (arith, l)) | inr w ↦ w ] in
        let none = uncited tr id is in
        cc
