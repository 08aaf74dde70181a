-- What conflict analysis keeps: wherever the marked literals are taken as true, propagation along the hints ends in a false clause.
use Rattle.std.proofs.Common.{◌≡◌, ◌<◌, ◌⊎◌, ◌++◌, ◌∷◌, [], ℕ, ◌+◌, zero, suc, List, Some, Bool, true, false, ◌||◌, refl, sym, ap, ◌∙◌, inl, inr, subst, arith, length, get_or, reverse, Contains, eqb}
use Rattle.std.specs.List.{slice_get}
use Rattle.std.specs.Option.{option_map}
use Rattle.std.proofs.lemmas.Option.{slice_get-get_or}
use Rattle.std.proofs.lemmas.List.{reverse-append}
use Rattle.std.proofs.lemmas.Bool.{or_cases, or_left, or_right, false_from_ne_true, both_ways, cases_eq, eq-eqb}
use Rattle.cnf_core.specs.Literal.{Literal, negated, same}
use Rattle.cnf_core.specs.Equality.{same-self, same-true}
use Rattle.proof_check.specs.declared.propagation.Reading.TheVariants.{Falsified, Implied}
use Rattle.proof_check.specs.Propagation.{taking, reading, negations}
use Rattle.proof_check.specs.Room.{Within}
use Rattle.cdcl.specs.declared.clauses.ClauseId.{ClauseId}
use Rattle.cdcl.specs.declared.clauses.Clauses.{Clauses}
use Rattle.cdcl.specs.declared.assigned.Entry.{Entry}
use Rattle.cdcl.specs.Sources.{Lookup, named, IsCiteable}
use Rattle.cdcl.specs.Known.{Member}
use Rattle.cdcl.specs.Fits.{Fits}
use Rattle.cdcl.specs.Tidy.{AreApart}
use Rattle.cdcl.specs.Trails.{seen_at, names, follows, literal_at, PlacedBelow, Implies, AreDistinct, HaveReasons, HasRoom, IsConflict, Falsifies}
use Rattle.cdcl.specs.Derives.{Derives, PlacedFrom, NamesWithin, WorkWithin}
use Rattle.cdcl.proofs.Members.{names-member, member-named, negated-negated, reading-falsified, reading-implied, within-member}
use Rattle.cdcl.proofs.Naming.{named-lower, named-any}
use Rattle.cdcl.proofs.Readings.{member-cases, slice-left, slice-last}
use Rattle.std.proofs.lemmas.List.Elements.{All-append}

-- a conflict
pub Derives-conflict : (lookup : Lookup) (entries : List Entry) (i : ℕ) (seen : List Bool) (id : ClauseId) (clause : List Literal) → lookup id ≡ Some clause → Falsifies entries i clause → ((v : ℕ) → seen_at seen v ≡ names v clause) → Derives lookup entries i seen [] (id ∷ [])
Derives-conflict lookup entries i seen id clause is f marks = record {
  run = λ known taken _ _.
      let r : reading known clause ≡ Falsified = reading-falsified known clause (λ l m. taken (negated l) (f l m) (marks l.variable ∙ names-member l clause m)) in
      rw (is, r) refl;
  only = λ v s.
      let n = member-named v clause (sym (marks v) ∙ s) in
      (negated n.0, f n.0 n.1, n.2);
  above = λ l m. absurd (cc (m.1));
  apart = tt;
}

below-last : (entries : List Entry) (i : ℕ) (p l : Literal) → literal_at entries i ≡ Some p → PlacedBelow (i + 1) entries l → (l ≡ p) ⊎ PlacedBelow i entries l
below-last entries i p l e (j, h, is) =
    elim (cases_eq j i) [
      | inl s ↦ let t : literal_at entries j ≡ Some p = rw s e in let u : l ≡ p = cc in inl u
      | inr n ↦ inr (j, omega arith, is)
    ]

pub below-more : (entries : List Entry) (i : ℕ) (l : Literal) → PlacedBelow i entries l → PlacedBelow (i + 1) entries l
below-more entries i l (j, h, is) = (j, omega arith, is)

from-less : (entries : List Entry) (i : ℕ) (l : Literal) → PlacedFrom (i + 1) entries l → PlacedFrom i entries l
from-less entries i l (j, h, is) = (j, omega arith, is)

-- an entry that isn't marked
pub Derives-skip : (lookup : Lookup) (entries : List Entry) (i : ℕ) (seen : List Bool) (kept : List Literal) (hints : List ClauseId) (p : Literal) → literal_at entries i ≡ Some p → seen_at seen p.variable ≡ false → Derives lookup entries (i + 1) seen kept hints → Derives lookup entries i seen kept hints
Derives-skip lookup entries i seen kept hints p e s d = record {
  run = λ known taken held placed. d.run known
      (λ l b m. elim (below-last entries i p l e b) [
        | inl u ↦ absurd (both_ways (seen_at seen l.variable) (ap (λ k. seen_at seen k.variable) u ∙ s) m)
        | inr c ↦ taken l c m
      ])
      held
      (λ l k. elim (placed l k) [ inl b ↦ inl (below-more entries i l b) | inr m ↦ inr m ]);
  only = λ v m.
      let r = d.only v m in
      elim (below-last entries i p r.0 e r.1) [
        | inl u ↦ absurd (both_ways (seen_at seen v) (ap (λ k. seen_at seen k) (sym r.2 ∙ ap (λ k. k.variable) u) ∙ s) m)
        | inr c ↦ (r.0, c, r.2)
      ];
  above = λ l m. from-less entries i (negated l) (d.above l m);
  apart = d.apart;
}

apart : (entries : List Entry) (i : ℕ) (p l : Literal) → AreDistinct entries → literal_at entries i ≡ Some p → PlacedBelow i entries l → l.variable ≡ p.variable → ⊥
apart entries i p l ok e (j, h, is) v = let s : j ≡ i = ok j i l p is e v in omega arith

apart-above : (entries : List Entry) (i : ℕ) (p l : Literal) → AreDistinct entries → literal_at entries i ≡ Some p → PlacedFrom (i + 1) entries l → l.variable ≡ p.variable → ⊥
apart-above entries i p l ok e (j, h, is) v = let s : j ≡ i = ok j i l p is e v in omega arith

-- nothing of the entry's variable is known before it is resolved or kept
fresh-at : (lookup : Lookup) (entries : List Entry) (i : ℕ) (seen : List Bool) (kept : List Literal) (hints : List ClauseId) (p l : Literal) → AreDistinct entries → literal_at entries i ≡ Some p → Derives lookup entries (i + 1) seen kept hints → l.variable ≡ p.variable → PlacedBelow i entries l ⊎ Member (negated l) kept → ⊥
fresh-at lookup entries i seen kept hints p l ok e d v (inl b) = apart entries i p l ok e b v
fresh-at lookup entries i seen kept hints p l ok e d v (inr m) = apart-above entries i p (negated (negated l)) ok e (d.above (negated l) m) v

-- a marked entry, resolved with its reason
pub Derives-resolve : (lookup : Lookup) (entries : List Entry) (i : ℕ) (seen next : List Bool) (kept : List Literal) (hints : List ClauseId) (p : Literal) (id : ClauseId) (clause : List Literal) → AreDistinct entries → literal_at entries i ≡ Some p → lookup id ≡ Some clause → Implies entries i p clause → seen_at next p.variable ≡ false → ((v : ℕ) → (v ≡ p.variable → ⊥) → seen_at next v ≡ (seen_at seen v || names v clause)) → Derives lookup entries (i + 1) seen kept hints → Derives lookup entries i next kept (id ∷ hints)
Derives-resolve lookup entries i seen next kept hints p id clause ok e is implies off marks d = record {
  run = λ known taken held placed.
      let known-other : (l : Literal) → Member l clause → (l ≡ p) ⊎ (known (negated l) ≡ true) = λ l m. elim (implies.others l m) [
        | inl u ↦ inl u
        | inr b ↦ inr (taken (negated l) b (marks l.variable (λ v. apart entries i p (negated l) ok e b v) ∙ or_right (seen_at seen l.variable) (names l.variable clause) (names-member l clause m)))
      ] in
      let fresh : known p ≡ false = false_from_ne_true (known p) (λ k. fresh-at lookup entries i seen kept hints p p ok e d refl (placed p k)) in
      let opposite : known (negated p) ≡ false = false_from_ne_true (known (negated p)) (λ k. fresh-at lookup entries i seen kept hints p (negated p) ok e d refl (placed (negated p) k)) in
      let r : reading known clause ≡ Implied p = reading-implied known p clause implies.has known-other opposite fresh in
      let rest : follows lookup (taking p known) hints ≡ true = d.run (taking p known)
      (λ l b m. elim (below-last entries i p l e b) [
        | inl u ↦ or_left (same p l) (known l) (rw u (same-self p))
        | inr c ↦ or_right (same p l) (known l) (taken l c (marks l.variable (λ v. apart entries i p l ok e c v) ∙ or_left (seen_at seen l.variable) (names l.variable clause) m))
      ])
      (λ l m. or_right (same p (negated l)) (known (negated l)) (held l m))
      (λ l k. elim (or_cases (same p l) (known l) k) [
        | inl s ↦ inl (i, omega arith, e ∙ ap (λ t. Some t) (same-true p l s))
        | inr t ↦ elim (placed l t) [ inl b ↦ inl (below-more entries i l b) | inr m ↦ inr m ]
      ]) in
      rw (is, r) rest;
  only = λ v m.
      let other : v ≡ p.variable → ⊥ = λ u. both_ways (seen_at next v) (ap (λ k. seen_at next k) u ∙ off) m in
      elim (or_cases (seen_at seen v) (names v clause) (sym (marks v other) ∙ m)) [
        | inl s ↦ let r = d.only v s in
            elim (below-last entries i p r.0 e r.1) [
              | inl u ↦ absurd (other (sym r.2 ∙ ap (λ k. k.variable) u))
              | inr c ↦ (r.0, c, r.2)
            ]
        | inr n ↦ let r = member-named v clause n in
            elim (implies.others r.0 r.1) [
              | inl u ↦ absurd (other (sym r.2 ∙ ap (λ k. k.variable) u))
              | inr b ↦ (negated r.0, b, r.2)
            ]
      ];
  above = λ l m. from-less entries i (negated l) (d.above l m);
  apart = d.apart;
}

unnegated : (l p : Literal) → negated l ≡ negated p → l ≡ p
unnegated l p e = sym (negated-negated l) ∙ ap negated e ∙ negated-negated p

names-false : (v : ℕ) (x l : Literal) (xs : List Literal) → names v (x ∷ xs) ≡ false → (x.variable ≡ v → ⊥) × (names v xs ≡ false)
names-false v x l xs e = (λ s. both_ways (names v (x ∷ xs)) e (or_left (eqb x.variable v) (names v xs) (eq-eqb x.variable v s)), false_from_ne_true (names v xs) (λ t. both_ways (names v (x ∷ xs)) e (or_right (eqb x.variable v) (names v xs) t)))

names-more : (v : ℕ) (xs : List Literal) (x : Literal) → names v xs ≡ false → (x.variable ≡ v → ⊥) → names v (xs ++ x ∷ []) ≡ false
names-more v xs x none other = false_from_ne_true (names v (xs ++ x ∷ [])) (λ t.
    let m = member-named v (xs ++ x ∷ []) t in
    elim (member-cases xs x m.0 m.1) [
      | inl n ↦ both_ways (names v xs) none (let P : ℕ → Type 0 = λ k. names k xs ≡ true in subst P m.2 (names-member m.0 xs n))
      | inr s ↦ other (ap (λ k. k.variable) (sym s) ∙ m.2)
    ])

apart-push : (xs : List Literal) (x : Literal) → AreApart xs → names x.variable xs ≡ false → AreApart (xs ++ x ∷ [])
apart-push [] x a n = (refl, tt)
apart-push (y ∷ ys) x a n =
    let f = names-false x.variable y y ys n in
    (names-more y.variable ys x a.0 (λ s. f.0 (sym s)), apart-push ys x a.1 f.1)

-- a marked entry whose negation goes into the lesson
pub Derives-keep : (lookup : Lookup) (entries : List Entry) (i : ℕ) (seen next : List Bool) (kept : List Literal) (hints : List ClauseId) (p : Literal) → AreDistinct entries → literal_at entries i ≡ Some p → seen_at next p.variable ≡ false → ((v : ℕ) → (v ≡ p.variable → ⊥) → seen_at next v ≡ seen_at seen v) → Derives lookup entries (i + 1) seen kept hints → Derives lookup entries i next (kept ++ negated p ∷ []) hints
Derives-keep lookup entries i seen next kept hints p ok e off marks d = record {
  run = λ known taken held placed. d.run known
      (λ l b m. elim (below-last entries i p l e b) [
        | inl u ↦ let w : known (negated (negated p)) ≡ true = held (negated p) (length kept, slice-last kept (negated p)) in ap known (u ∙ sym (negated-negated p)) ∙ w
        | inr c ↦ taken l c (marks l.variable (λ v. apart entries i p l ok e c v) ∙ m)
      ])
      (λ l m. held l (m.0, slice-left kept (negated p) l m.0 m.1))
      (λ l k. elim (placed l k) [
        | inl b ↦ inl (below-more entries i l b)
        | inr m ↦ elim (member-cases kept (negated p) (negated l) m) [
          | inl n ↦ inr n
          | inr s ↦ inl (i, omega arith, e ∙ ap (λ t. Some t) (sym (unnegated l p s)))
        ]
      ]);
  only = λ v m.
      let other : v ≡ p.variable → ⊥ = λ u. both_ways (seen_at next v) (ap (λ k. seen_at next k) u ∙ off) m in
      let r = d.only v (sym (marks v other) ∙ m) in
      elim (below-last entries i p r.0 e r.1) [
        | inl u ↦ absurd (other (sym r.2 ∙ ap (λ k. k.variable) u))
        | inr c ↦ (r.0, c, r.2)
      ];
  above = λ l m. elim (member-cases kept (negated p) l m) [
    | inl n ↦ from-less entries i (negated l) (d.above l n)
    | inr s ↦ (i, omega arith, e ∙ ap (λ t. Some t) (sym (ap negated s ∙ negated-negated p)))
  ];
  apart = apart-push kept (negated p) d.apart (false_from_ne_true (names p.variable kept) (λ t.
      let m = member-named p.variable kept t in
      apart-above entries i p (negated m.0) ok e (d.above m.0 m.1) m.2));
}

pub literal-read : (entries : List Entry) (i : ℕ) (d : Entry) → i < length entries → literal_at entries i ≡ Some (get_or entries i d).literal
literal-read entries i d h = ap (λ o. option_map (λ e. e.literal) o) (slice_get-get_or entries i d h)

pub falsified-fits : (room : ℕ) (entries : List Entry) (i : ℕ) (clause : List Literal) → HasRoom room entries → Falsifies entries i clause → Fits room clause
falsified-fits room entries i clause r f l m = let b = f l m in r b.0 (negated l) b.2

pub implied-fits : (room : ℕ) (entries : List Entry) (i : ℕ) (p : Literal) (clause : List Literal) → HasRoom room entries → literal_at entries i ≡ Some p → Implies entries i p clause → Fits room clause
implied-fits room entries i p clause r e is l m =
    elim (is.others l m) [
      | inl u ↦ let P : Literal → Type 0 = λ k. k.variable < room in subst P (sym u) (r i p e)
      | inr b ↦ r b.0 (negated l) b.2
    ]

-- the conflict's clause as it was read
pub conflict-read : (from : ℕ) (clauses : Clauses) (entries : List Entry) (id : ClauseId) (read : List Literal) → IsConflict from clauses entries id → named 0 clauses id ≡ Some read → (named from clauses id ≡ Some read) × Falsifies entries (length entries) read
conflict-read from clauses entries id read (c, is, f) found =
    let wide : named 0 clauses id ≡ Some c = named-lower from 0 clauses id c (omega arith) is in
    let e : c ≡ read = cc in
    let P : List Literal → Type 0 = λ t. (named from clauses id ≡ Some t) × Falsifies entries (length entries) t in subst P e (is, f)

-- a reason's clause as it was read
pub reason-read : (from : ℕ) (clauses : Clauses) (entries : List Entry) (i : ℕ) (e : Entry) (id : ClauseId) (read : List Literal) → HaveReasons clauses entries → slice_get entries i ≡ Some e → e.reason ≡ Some id → IsCiteable from clauses id → named 0 clauses id ≡ Some read → (named from clauses id ≡ Some read) × Implies entries i e.literal read
reason-read from clauses entries i e id read reasons at why may found =
    let t = reasons i e id at why in
    let wide : named 0 clauses id ≡ Some t.0 = t.1.0 in
    let same_one : t.0 ≡ read = cc in
    let P : List Literal → Type 0 = λ u. Implies entries i e.literal u in (
      elim may [
        | inl z ↦ ap (λ n. named n clauses id) z ∙ found
        | inr m ↦
            let low : named 0 clauses id ≡ Some m.0 = named-lower 1 0 clauses id m.0 (omega arith) m.1 in
            let one : m.0 ≡ read = cc in
            named-any from clauses id m.0 m.1 ∙ ap (λ t. Some t) one
      ],
      subst P same_one t.2,
    )

pub begin-derives : (from : ℕ) (clauses : Clauses) (entries : List Entry) (id : ClauseId) (seen next : List Bool) (kept : List Literal) (hints fresh : List ClauseId) (read : List Literal) → IsConflict from clauses entries id → named 0 clauses id ≡ Some read → hints ≡ fresh ++ id ∷ [] → fresh ≡ [] → kept ≡ [] → ((v : ℕ) → seen_at seen v ≡ false) → ((v : ℕ) → seen_at next v ≡ (seen_at seen v || names v read)) → Derives (named from clauses) entries (length entries) next kept (reverse hints)
begin-derives from clauses entries id seen next kept hints fresh read conflict found h f k none marks =
    let q = conflict-read from clauses entries id read conflict found in
    rw (h, f, k) (Derives-conflict (named from clauses) entries (length entries) next id read q.0 q.1 (λ v. rw (none v) at (marks v)))

pub resolve-derives : (from : ℕ) (clauses : Clauses) (entries : List Entry) (i : ℕ) (seen next : List Bool) (kept more : List Literal) (id : ClauseId) (hints before : List ClauseId) (e : Entry) (read : List Literal) → AreDistinct entries → HaveReasons clauses entries → slice_get entries i ≡ Some e → e.reason ≡ Some id → IsCiteable from clauses id → named 0 clauses id ≡ Some read → hints ≡ before ++ id ∷ [] → more ≡ kept → seen_at next e.literal.variable ≡ false → ((v : ℕ) → (v ≡ e.literal.variable → ⊥) → seen_at next v ≡ (seen_at seen v || names v read)) → Derives (named from clauses) entries (i + 1) seen kept (reverse before) → Derives (named from clauses) entries i next more (reverse hints)
resolve-derives from clauses entries i seen next kept more id hints before e read distinct reasons at why may found h k off marks d =
    let q = reason-read from clauses entries i e id read reasons at why may found in
    rw (h, k, reverse-append before (id ∷ [])) (Derives-resolve (named from clauses) entries i seen next kept (reverse before) e.literal id read distinct (ap (λ o. option_map (λ t. t.literal) o) at) q.0 q.1 off marks d)

pub keep-derives : (lookup : Lookup) (entries : List Entry) (i : ℕ) (seen next : List Bool) (kept more : List Literal) (hints before : List ClauseId) (p : Literal) → AreDistinct entries → literal_at entries i ≡ Some p → hints ≡ before → more ≡ kept ++ negated p ∷ [] → seen_at next p.variable ≡ false → ((v : ℕ) → (v ≡ p.variable → ⊥) → seen_at next v ≡ seen_at seen v) → Derives lookup entries (i + 1) seen kept (reverse before) → Derives lookup entries i next more (reverse hints)
keep-derives lookup entries i seen next kept more hints before p ok e h k off marks d =
    rw (h, k) (Derives-keep lookup entries i seen next kept (reverse before) p ok e off marks d)

-- the negations of the kept literals are taken as true
negations-know : (kept : List Literal) (l : Literal) → Member l kept → negations kept (negated l) ≡ true
negations-know [] l m = absurd (cc (m.1))
negations-know (x ∷ xs) l (zero, e) = let s : x ≡ l = cc in or_left (same (negated x) (negated l)) (negations xs (negated l)) (ap (λ k. same (negated k) (negated l)) s ∙ same-self (negated l))
negations-know (x ∷ xs) l (suc k, e) = or_right (same (negated x) (negated l)) (negations xs (negated l)) (negations-know xs l (k, e))

negations-member : (kept : List Literal) (l : Literal) → negations kept l ≡ true → Member (negated l) kept
negations-member [] l e = absurd (cc)
negations-member (x ∷ xs) l e = elim (or_cases (same (negated x) l) (negations xs l) e) [
  | inl s ↦ (0, ap (λ t. Some t) (sym (negated-negated x) ∙ ap negated (same-true (negated x) l s)))
  | inr t ↦ let m = negations-member xs l t in (suc m.0, m.1)
]

-- the clause learnt is a valid step
pub analyzed : (lookup : Lookup) (entries : List Entry) (seen : List Bool) (kept : List Literal) (backwards hints : List ClauseId) → Derives lookup entries 0 seen kept (reverse backwards) → hints ≡ reverse backwards → follows lookup (negations kept) hints ≡ true
analyzed lookup entries seen kept backwards hints d h =
    rw h (d.run (negations kept) (λ l b s. absurd (omega (arith, b.1))) (λ l m. negations-know kept l m) (λ l k. inr (negations-member kept l k)))

-- marked variables and kept literals are those of cited clauses
pub begin-within : (vars : List ℕ) (lookup : Lookup) (id : ClauseId) (read kept : List Literal) (seen next : List Bool) → lookup id ≡ Some read → kept ≡ [] → ((v : ℕ) → seen_at seen v ≡ false) → ((v : ℕ) → seen_at next v ≡ (seen_at seen v || names v read)) → NamesWithin vars lookup → WorkWithin vars next kept
begin-within vars lookup id read kept seen next is k none marks w = record {
  marks = λ v s.
      elim (or_cases (seen_at seen v) (names v read) (sym (marks v) ∙ s)) [
        | inl t ↦ absurd (both_ways (seen_at seen v) (none v) t)
        | inr n ↦ let m = member-named v read n in let P : ℕ → Type 0 = λ u. Contains vars u in subst P m.2 (within-member vars read m.0 (w id read is) m.1)
      ];
  literals = rw k (λ i d h. absurd (omega arith));
}

pub resolve-within : (vars : List ℕ) (lookup : Lookup) (id : ClauseId) (read kept more : List Literal) (p : ℕ) (seen next : List Bool) → lookup id ≡ Some read → more ≡ kept → seen_at next p ≡ false → ((v : ℕ) → (v ≡ p → ⊥) → seen_at next v ≡ (seen_at seen v || names v read)) → NamesWithin vars lookup → WorkWithin vars seen kept → WorkWithin vars next more
resolve-within vars lookup id read kept more p seen next is k off marks w before = record {
  marks = λ v s.
      let other : v ≡ p → ⊥ = λ u. both_ways (seen_at next v) (ap (λ k. seen_at next k) u ∙ off) s in
      elim (or_cases (seen_at seen v) (names v read) (sym (marks v other) ∙ s)) [
        | inl t ↦ before.marks v t
        | inr n ↦ let m = member-named v read n in let P : ℕ → Type 0 = λ u. Contains vars u in subst P m.2 (within-member vars read m.0 (w id read is) m.1)
      ];
  literals = rw k before.literals;
}

within-one : (vars : List ℕ) (x : Literal) → Contains vars x.variable → Within vars (x ∷ [])
within-one vars x c zero d h = c
within-one vars x c (suc k) d h = absurd (omega arith)

pub keep-within : (vars : List ℕ) (kept more : List Literal) (p : Literal) (seen next : List Bool) → more ≡ kept ++ negated p ∷ [] → seen_at seen p.variable ≡ true → seen_at next p.variable ≡ false → ((v : ℕ) → (v ≡ p.variable → ⊥) → seen_at next v ≡ seen_at seen v) → WorkWithin vars seen kept → WorkWithin vars next more
keep-within vars kept more p seen next k marked off marks before = record {
  marks = λ v s.
      let other : v ≡ p.variable → ⊥ = λ u. both_ways (seen_at next v) (ap (λ k. seen_at next k) u ∙ off) s in
      before.marks v (sym (marks v other) ∙ s);
  literals = rw k (All-append (λ (l : Literal). Contains vars l.variable) kept (negated p ∷ []) before.literals (within-one vars (negated p) (before.marks p.variable marked)));
}

-- an entry as it was read
pub entry-read : (entries : List Entry) (i : ℕ) (e : Entry) → i < length entries → e ≡ get_or entries i e → slice_get entries i ≡ Some e
entry-read entries i e h at = slice_get-get_or entries i e h ∙ ap (λ t. Some t) (sym at)

pub entry-literal : (entries : List Entry) (i : ℕ) (e : Entry) → slice_get entries i ≡ Some e → literal_at entries i ≡ Some e.literal
entry-literal entries i e at = ap (λ o. option_map (λ t. t.literal) o) at
