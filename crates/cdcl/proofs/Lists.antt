-- Lists of watches that grow by one.
use Rattle.std.proofs.Common.{◌≡◌, ◌<◌, ◌≤◌, ◌⊎◌, ◌+◌, ◌++◌, ◌∷◌, [], ℕ, zero, suc, List, Some, refl, sym, ap, ◌∙◌, inl, inr, subst, arith, length, vec_len, take, take_all}
use Rattle.std.specs.Global.{Vec}
use Rattle.std.specs.List.{slice_get}
use Rattle.std.proofs.lemmas.Bool.{cases_eq}
use Rattle.cnf_core.specs.Literal.{Literal, code_of}
use Rattle.cdcl.specs.declared.clauses.ClauseId.{ClauseId}
use Rattle.cdcl.specs.declared.clauses.ClauseId.TheVariants.{Given, Assumed, Learnt}
use Rattle.cdcl.specs.declared.watching.Watch.{Watch}
use Rattle.cdcl.specs.declared.watching.Pair.{Pair}
use Rattle.cdcl.specs.declared.watching.Watches.{Watches}
use Rattle.cdcl.specs.Watches.{list_of, waiting, pair_of, IsIn, IsMore, OtherPairs, SameSizes, IsWaiting, WaitsLast}
use Rattle.cdcl.proofs.Readings.{slice-cases, slice-left, slice-last}

pub more-in : (code : ℕ) (w : Watch) (a b : Watches) → IsMore code w a b → IsIn (waiting b code) w.id
more-in code w a b m = (length (waiting a code), w, ap (λ t. slice_get t (length (waiting a code))) m.here ∙ slice-last (waiting a code) w, refl)

pub more-grows : (code : ℕ) (w : Watch) (a b : Watches) → IsMore code w a b → (k : ℕ) (id : ClauseId) → IsIn (waiting a k) id → IsIn (waiting b k) id
more-grows code w a b m k id (j, x, at, is) = elim (cases_eq k code) [
  | inl e ↦
      let was : slice_get (waiting a code) j ≡ Some x = ap (λ t. slice_get (waiting a t) j) (sym e) ∙ at in
      (j, x, ap (λ t. slice_get (waiting b t) j) e ∙ ap (λ t. slice_get t j) m.here ∙ slice-left (waiting a code) w x j was, is)
  | inr n ↦ (j, x, ap (λ t. slice_get t j) (m.others k n) ∙ at, is)
]

pub more-fresh : (code : ℕ) (w : Watch) (a b : Watches) → IsMore code w a b → (k j : ℕ) (x : Watch) → slice_get (waiting b k) j ≡ Some x → (slice_get (waiting a k) j ≡ Some x) ⊎ (x ≡ w)
more-fresh code w a b m k j x at = elim (cases_eq k code) [
  | inl e ↦
      let now : slice_get (waiting a code ++ w ∷ []) j ≡ Some x = ap (λ t. slice_get t j) (sym m.here) ∙ ap (λ t. slice_get (waiting b t) j) (sym e) ∙ at in
      elim (slice-cases (waiting a code) w x j now) [
        | inl f ↦ inl (ap (λ t. slice_get (waiting a t) j) e ∙ f)
        | inr f ↦ inr f.1
      ]
  | inr n ↦ inl (ap (λ t. slice_get t j) (sym (m.others k n)) ∙ at)
]

pub sizes-then : (a b c : Watches) → SameSizes a b → SameSizes b c → SameSizes a c
sizes-then a b c f g = record { lists = g.lists ∙ f.lists; given = g.given ∙ f.given; learnt = g.learnt ∙ f.learnt }

pub pair-same : (a b : Watches) (id : ClauseId) → b.given ≡ a.given → b.learnt ≡ a.learnt → pair_of b id ≡ pair_of a id
pair-same a b id g l = go id
  where
    go : (id : ClauseId) → pair_of b id ≡ pair_of a id
    go (Given i) = ap (λ t. slice_get t.items i) g
    go (Assumed i) = refl
    go (Learnt i) = ap (λ t. slice_get t.items i) l

-- a pair is set, and two lists grow
pub waits-two : (id : ClauseId) (first second : Literal) (a b c d : Watches)
    → pair_of b id ≡ Some (record { first = first; second = second }) → OtherPairs id a b → b.lists ≡ a.lists → SameSizes a b
    → IsMore (code_of first) (record { id = id; blocking = second }) b c → c.given ≡ b.given → c.learnt ≡ b.learnt
    → IsMore (code_of second) (record { id = id; blocking = first }) c d → d.given ≡ c.given → d.learnt ≡ c.learnt
    → IsWaiting id first second a d
waits-two id first second a b c d here others lists sizes m cg cl n dg dl =
    let same : (k : ℕ) → waiting b k ≡ waiting a k = λ k. ap (λ t. list_of (slice_get t.items k)) lists in
    record {
      pair = pair-same c d id dg dl ∙ pair-same b c id cg cl ∙ here;
      others = λ other ne. pair-same c d other dg dl ∙ pair-same b c other cg cl ∙ others other ne;
      first_in = more-grows (code_of second) _ c d n (code_of first) id (more-in (code_of first) _ b c m);
      second_in = more-in (code_of second) _ c d n;
      grows = λ k other (j, x, at, is). more-grows (code_of second) _ c d n k other (more-grows (code_of first) _ b c m k other (j, x, ap (λ t. slice_get t j) (same k) ∙ at, is));
      fresh = λ k j x at. elim (more-fresh (code_of second) _ c d n k j x at) [
        | inr e ↦ inr (ap (λ t. t.id) e, inl (ap (λ t. t.blocking) e))
        | inl f ↦ elim (more-fresh (code_of first) _ b c m k j x f) [
          | inr e ↦ inr (ap (λ t. t.id) e, inr (ap (λ t. t.blocking) e))
          | inl g ↦ inl (j, ap (λ t. slice_get t j) (sym (same k)) ∙ g)
        ]
      ];
      sizes = sizes-then a b d sizes (sizes-then b c d m.sizes n.sizes);
    }

-- a list without watches more
pub list-more : (lists : List (Vec Watch)) (v : Vec Watch) → v.items ≡ [] → (k : ℕ) → list_of (slice_get (lists ++ v ∷ []) k) ≡ list_of (slice_get lists k)
list-more [] v none zero = none
list-more [] v none (suc k) = refl
list-more (x ∷ xs) v none zero = refl
list-more (x ∷ xs) v none (suc k) = list-more xs v none k

-- places for more pairs
pub pairs-more : (old new more : List Pair) (n : ℕ) → length old ≤ n → new ≡ take n old ++ more → (i : ℕ) (p : Pair) → slice_get old i ≡ Some p → slice_get new i ≡ Some p
pairs-more old new more n h is i p at =
    let e : new ≡ old ++ more = is ∙ ap (λ t. t ++ more) (take_all n old h) in
    ap (λ t. slice_get t i) e ∙ pair-left old more i p at
  where
    pair-left : (xs ys : List Pair) (i : ℕ) (p : Pair) → slice_get xs i ≡ Some p → slice_get (xs ++ ys) i ≡ Some p
    pair-left [] ys i p at = absurd (cc)
    pair-left (x ∷ xs) ys zero p at = at
    pair-left (x ∷ xs) ys (suc i) p at = pair-left xs ys i p at

-- the next clause learnt waits nowhere
pub last-nowhere : (clause : List Literal) (a b : Watches) → vec_len b.learnt ≡ vec_len a.learnt + 1 → OtherPairs (Learnt (vec_len a.learnt)) a b → b.lists ≡ a.lists → b.given ≡ a.given → length clause < 2 → WaitsLast clause a b
last-nowhere clause a b place pairs lists given few = record {
  lists = ap vec_len lists;
  given = ap vec_len given;
  learnt = place;
  others = pairs;
  grows = λ k other (j, x, at, is). (j, x, ap (λ t. slice_get t j) (same k) ∙ at, is);
  fresh = λ k j w at. inl (j, ap (λ t. slice_get t j) (sym (same k)) ∙ at);
  two = λ first second more is. let n : length clause ≡ suc (suc (length more)) = ap length is in absurd (omega arith);
}
  where
    same : (k : ℕ) → waiting b k ≡ waiting a k
    same k = ap (λ t. list_of (slice_get t.items k)) lists

-- or at its first two literals
pub last-waits : (clause : List Literal) (first second : Literal) (a b c : Watches) → vec_len b.learnt ≡ vec_len a.learnt + 1 → OtherPairs (Learnt (vec_len a.learnt)) a b → b.lists ≡ a.lists → b.given ≡ a.given
    → slice_get clause 0 ≡ Some first → slice_get clause 1 ≡ Some second → IsWaiting (Learnt (vec_len a.learnt)) first second b c → WaitsLast clause a c
last-waits clause first second a b c place pairs lists given at_first at_second w = record {
  lists = w.sizes.lists ∙ ap vec_len lists;
  given = w.sizes.given ∙ ap vec_len given;
  learnt = w.sizes.learnt ∙ place;
  others = λ other ne. w.others other ne ∙ pairs other ne;
  grows = λ k other (j, x, at, is). w.grows k other (j, x, ap (λ t. slice_get t j) (same k) ∙ at, is);
  fresh = λ k j x at. elim (w.fresh k j x at) [
    | inl (m, old) ↦ inl (m, ap (λ t. slice_get t m) (sym (same k)) ∙ old)
    | inr (id, blocks) ↦ inr (
      id,
      elim blocks [
        | inl e ↦ (0, at_first ∙ ap (λ t. Some t) (sym e))
        | inr e ↦ (1, at_second ∙ ap (λ t. Some t) (sym e))
      ],
    )
  ];
  two = λ p q more is.
      let one : first ≡ p = let f : slice_get clause 0 ≡ Some p = ap (λ t. slice_get t 0) is in cc in
      let other : second ≡ q = let f : slice_get clause 1 ≡ Some q = ap (λ t. slice_get t 1) is in cc in
      let P : Literal → Literal → Type 0 = λ s t. (pair_of c (Learnt (vec_len a.learnt)) ≡ Some (record { first = s; second = t })) × IsIn (waiting c (code_of s)) (Learnt (vec_len a.learnt)) × IsIn (waiting c (code_of t)) (Learnt (vec_len a.learnt)) in
      subst (λ s. P s q) one (subst (λ t. P first t) other (w.pair, w.first_in, w.second_in));
}
  where
    same : (k : ℕ) → waiting b k ≡ waiting a k
    same k = ap (λ t. list_of (slice_get t.items k)) lists
