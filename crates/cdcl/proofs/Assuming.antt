-- Assumptions, rooms and the assignment that a search ends in.
use Rattle.std.proofs.Common.{◌≡◌, ◌<◌, ◌≤◌, ◌+◌, ◌*◌, ◌++◌, ◌∷◌, [], ℕ, zero, suc, List, Some, Bool, true, false, refl, sym, ap, ◌∙◌, inl, inr, subst, arith, length, vec_len, get_or, take, take_all}
use Rattle.std.specs.List.{slice_get, list_any}
use Rattle.std.specs.Option.{option_map}
use Rattle.std.proofs.lemmas.Bool.{cases_eq, both_ways, false_from_ne_true, and_from, or_left, or_right}
use Rattle.std.proofs.lemmas.List.{take_more}
use Rattle.std.proofs.lemmas.List.Folds.{list_all-append}
use Rattle.std.proofs.lemmas.Option.{slice_get_within, slice_get-get_or}
use Rattle.cnf_core.specs.Literal.{Literal, negated}
use Rattle.cnf_core.specs.Truth.{Valuation, value_of, literal_holds, clause_holds, formula_holds}
use Rattle.cdcl.specs.declared.clauses.ClauseId.{ClauseId}
use Rattle.cdcl.specs.declared.clauses.ClauseId.TheVariants.{Assumed}
use Rattle.cdcl.specs.declared.clauses.Clauses.{Clauses}
use Rattle.cdcl.specs.declared.assigned.Entry.{Entry}
use Rattle.cdcl.specs.declared.assigned.Assigned.{Assigned}
use Rattle.cdcl.specs.Sources.{named}
use Rattle.cdcl.specs.Known.{known, Member, HasTrue}
use Rattle.cdcl.specs.Fits.{Fits, IsNumbered}
use Rattle.cdcl.specs.Tidy.{units}
use Rattle.cdcl.specs.Trails.{literal_at, PlacedBelow, IsConflict, IsSource, Implies, ArePlaced, AreDistinct, HasRoom, HaveLevels}
use Rattle.cdcl.specs.Searches.{AreHeld}
use Rattle.cdcl.proofs.Readings.{slice-cases, slice-last}

-- assumptions
abbrev pub Stands : Literal → List Entry → Type 0
Stands a entries = (i : ℕ) × (e : Entry) × (slice_get entries i ≡ Some e) × (e.literal ≡ a) × (e.level ≤ 1)

entry-of : (entries : List Entry) (i : ℕ) (l : Literal) → literal_at entries i ≡ Some l → (e : Entry) × (slice_get entries i ≡ Some e) × (e.literal ≡ l)
entry-of [] i l at = absurd (cc)
entry-of (x ∷ xs) zero l at = (x, refl, cc)
entry-of (x ∷ xs) (suc i) l at = entry-of xs i l at

pub known-stands : (entries : List Entry) (taken : List Bool) (level : ℕ) (a : Literal) → ArePlaced entries taken → HaveLevels level entries → level ≤ 1 → known taken a ≡ true → Stands a entries
known-stands entries taken level a p h root k =
    let b = p.placed a k in
    let r = entry-of entries b.0 a b.2 in
    let w = h.within b.0 r.0 r.1 in
    (b.0, r.0, r.1, r.2, omega arith)

pub last-stands : (entries next : List Entry) (e : Entry) → next ≡ entries ++ e ∷ [] → e.level ≤ 1 → Stands e.literal next
last-stands entries next e n z = rw n (length entries, e, slice-last entries e, refl, z)

pub held-next : (n : ℕ) (assumed : List Literal) (entries : List Entry) (a : Literal) → AreHeld n assumed entries → slice_get assumed n ≡ Some a → Stands a entries → AreHeld (n + 1) assumed entries
held-next n assumed entries a held at s k b is h = elim (cases_eq k n) [
  | inl e ↦
      let same : slice_get assumed n ≡ Some b = ap (λ t. slice_get assumed t) (sym e) ∙ is in
      let one : a ≡ b = cc in
      let P : Literal → Type 0 = λ t. Stands t entries in subst P one s
  | inr ne ↦ held k b is (omega arith)
]

pub assumed-conflict : (clauses : Clauses) (entries : List Entry) (taken : List Bool) (i : ℕ) (a : Literal) → ArePlaced entries taken → slice_get clauses.assumed i ≡ Some a → known taken (negated a) ≡ true → IsConflict 0 clauses entries (Assumed i)
assumed-conflict clauses entries taken i a p at k =
    (a ∷ [], ap (λ o. option_map (λ l. l ∷ []) o) at, λ l m. only l m.0 m.1)
  where
    only : (l : Literal) (j : ℕ) → slice_get (a ∷ []) j ≡ Some l → PlacedBelow (length entries) entries (negated l)
    only l zero e = let s : a ≡ l = cc in let P : Literal → Type 0 = λ t. PlacedBelow (length entries) entries (negated t) in subst P s (p.placed (negated a) k)
    only l (suc j) e = absurd (cc)

-- rooms
pub fits-more : (room next : ℕ) (clause : List Literal) (i : ℕ) (l : Literal) → i < length clause → l ≡ get_or clause i l → room ≤ next → 1 ≤ l.variable → l.variable < next → IsNumbered room (take i clause) → IsNumbered next (take (i + 1) clause)
fits-more room next clause i l h at le one v f k m =
    let grown : take (i + 1) clause ≡ take i clause ++ l ∷ [] = take_more clause i l h ∙ ap (λ t. take i clause ++ t ∷ []) (sym at) in
    let n : Member k (take i clause ++ l ∷ []) = (m.0, ap (λ t. slice_get t m.0) (sym grown) ∙ m.1) in
    elim (slice-cases (take i clause) l k n.0 n.1) [
      | inl b ↦ let w = f k (n.0, b) in (w.0, omega (arith, w.1))
      | inr b ↦ let P : Literal → Type 0 = λ t. (1 ≤ t.variable) × (t.variable < next) in subst P (sym b.1) (one, v)
    ]

pub fits-whole : (room : ℕ) (clause : List Literal) (i : ℕ) → length clause ≤ i → IsNumbered room (take i clause) → IsNumbered room clause
fits-whole room clause i h f = rw (take_all i clause h) at f

pub fits-wider : (room next : ℕ) (clause : List Literal) → room ≤ next → Fits room clause → Fits next clause
fits-wider room next clause h f l m = let w = f l m in omega arith

pub numbered-wider : (room next : ℕ) (clause : List Literal) → room ≤ next → IsNumbered room clause → IsNumbered next clause
numbered-wider room next clause h f l m = let w = f l m in (w.0, omega (arith, w.1))

-- one clause more has room
pub room-more : (clauses : List (List Literal)) (start index room next : ℕ) (clause : List Literal) → slice_get clauses index ≡ Some clause → room ≤ next → IsNumbered next clause → ((i : ℕ) (c : List Literal) → start ≤ i → i < index → slice_get clauses i ≡ Some c → IsNumbered room c) → (i : ℕ) (c : List Literal) → start ≤ i → i < index + 1 → slice_get clauses i ≡ Some c → IsNumbered next c
room-more clauses start index room next clause is le now before i c from less at = elim (cases_eq i index) [
  | inl e ↦
      let here : slice_get clauses index ≡ Some c = ap (λ k. slice_get clauses k) (sym e) ∙ at in
      let one : clause ≡ c = cc in
      let P : List Literal → Type 0 = λ t. IsNumbered next t in subst P one now
  | inr ne ↦ numbered-wider room next c le (before i c from (omega arith) at)
]

-- the assignment
pub values-more : (values next taken : List Bool) (size i : ℕ) (b : Bool) → size ≡ i → size ≡ length values → next ≡ values ++ b ∷ [] → b ≡ get_or taken (2 * i) false → ((v : ℕ) → v < i → get_or values v false ≡ get_or taken (2 * v) false) → (v : ℕ) → v < i + 1 → get_or next v false ≡ get_or taken (2 * v) false
values-more values next taken size i b s n e is before v h = elim (cases_eq v i) [
  | inl same ↦ let at : v ≡ length values = omega arith in let w : get_or (values ++ b ∷ []) v false ≡ b = ap (λ k. get_or (values ++ b ∷ []) k false) at ∙ last values b in ap (λ t. get_or t v false) e ∙ w ∙ is ∙ ap (λ k. get_or taken (2 * k) false) (sym same)
  | inr ne ↦ let inside : v < length values = omega arith in ap (λ t. get_or t v false) e ∙ left values b v inside ∙ before v (omega arith)
]
  where
    last : (xs : List Bool) (x : Bool) → get_or (xs ++ x ∷ []) (length xs) false ≡ x
    last [] x = refl
    last (y ∷ ys) x = last ys x

    left : (xs : List Bool) (x : Bool) (k : ℕ) → k < length xs → get_or (xs ++ x ∷ []) k false ≡ get_or xs k false
    left [] x k h = absurd (omega arith)
    left (y ∷ ys) x zero h = refl
    left (y ∷ ys) x (suc k) h = left ys x k (omega arith)

pub record Valued (t : Assigned) (values : List Bool) : Type 0 where
  pub distinct : AreDistinct t.entries.items
  pub in_room : HasRoom (vec_len t.levels) t.entries.items
  pub are_placed : ArePlaced t.entries.items t.taken.items
  pub same : (v : ℕ) → v < vec_len t.levels → get_or values v false ≡ get_or t.taken.items (2 * v) false

opposites : (entries : List Entry) (taken : List Bool) (l k : Literal) → AreDistinct entries → ArePlaced entries taken → known taken l ≡ true → known taken k ≡ true → l.variable ≡ k.variable → l ≡ k
opposites entries taken l k d p kl kk v =
    let a = p.placed l kl in
    let b = p.placed k kk in
    let i : a.0 ≡ b.0 = d a.0 b.0 l k a.2 b.2 v in
    let at : literal_at entries b.0 ≡ Some l = ap (λ n. literal_at entries n) (sym i) ∙ a.2 in
    let w = b.2 in
    cc

abbrev with_sign : ℕ → Bool → Literal
with_sign v p = record { variable = v; positive = p }

sign-holds : (t : Assigned) (values : List Bool) (v : ℕ) (p : Bool) → Valued t values → known t.taken.items (with_sign v p) ≡ true → literal_holds (value_of values) (with_sign v p) ≡ true
sign-holds t values v true w k =
    let b = w.are_placed.placed (with_sign v true) k in
    w.same v (w.in_room b.0 (with_sign v true) b.2) ∙ ap (λ n. get_or t.taken.items n false) (omega arith) ∙ k
sign-holds t values v false w k =
    let b = w.are_placed.placed (with_sign v false) k in
    let other : known t.taken.items (with_sign v true) ≡ false = false_from_ne_true (known t.taken.items (with_sign v true)) (λ u. let e : with_sign v false ≡ with_sign v true = opposites t.entries.items t.taken.items (with_sign v false) (with_sign v true) w.distinct w.are_placed k u refl in let s : false ≡ true = ap (λ l. l.positive) e in both_ways false refl s) in
    let value : get_or values v false ≡ false = w.same v (w.in_room b.0 (with_sign v false) b.2) ∙ ap (λ n. get_or t.taken.items n false) (omega arith) ∙ other in
    rw value refl

known-holds : (t : Assigned) (values : List Bool) (l : Literal) → Valued t values → known t.taken.items l ≡ true → literal_holds (value_of values) l ≡ true
known-holds t values l w k = sign-holds t values l.variable l.positive w k

any-member : (p : Literal → Bool) (xs : List Literal) (l : Literal) → Member l xs → p l ≡ true → list_any p xs ≡ true
any-member p [] l m h = absurd (cc (m.1))
any-member p (x ∷ xs) l (zero, e) h = let s : x ≡ l = cc in or_left (p x) (list_any p xs) (ap p s ∙ h)
any-member p (x ∷ xs) l (suc k, e) h = or_right (p x) (list_any p xs) (any-member p xs l (k, e) h)

all-hold : (v : Valuation) (clauses : List (List Literal)) → ((i : ℕ) (c : List Literal) → slice_get clauses i ≡ Some c → clause_holds v c ≡ true) → formula_holds v clauses ≡ true
all-hold v [] f = refl
all-hold v (c ∷ cs) f = and_from (clause_holds v c) (formula_holds v cs) (f 0 c refl) (all-hold v cs (λ i d at. f (suc i) d at))

units-hold : (v : Valuation) (assumed : List Literal) → ((k : ℕ) (a : Literal) → slice_get assumed k ≡ Some a → literal_holds v a ≡ true) → formula_holds v (units assumed) ≡ true
units-hold v [] f = refl
units-hold v (a ∷ more) f = and_from (clause_holds v (a ∷ [])) (formula_holds v (units more)) (or_left (literal_holds v a) false (f 0 a refl)) (units-hold v more (λ k b at. f (suc k) b at))

pub satisfied : (t : Assigned) (values : List Bool) (given : List (List Literal)) (assumed : List Literal) → Valued t values → ((i : ℕ) (c : List Literal) → slice_get given i ≡ Some c → HasTrue (known t.taken.items) c) → AreHeld (length assumed) assumed t.entries.items → formula_holds (value_of values) (given ++ units assumed) ≡ true
satisfied t values given assumed w true_all held =
    let first = all-hold (value_of values) given (λ i c at. let h = true_all i c at in any-member (literal_holds (value_of values)) c h.0 h.1 (known-holds t values h.0 w h.2)) in
    let second = units-hold (value_of values) assumed (λ k a at.
    let r = held k a at (slice_get_within assumed k a at) in
    let kept = w.are_placed.kept r.0 r.1.literal (ap (λ o. option_map (λ e. e.literal) o) r.2) in
    known-holds t values a w (ap (known t.taken.items) (sym r.3) ∙ kept)) in
    list_all-append (clause_holds (value_of values)) given (units assumed) ∙ and_from (formula_holds (value_of values) given) (formula_holds (value_of values) (units assumed)) first second

pub literal-read : (xs ys : List Literal) (i : ℕ) (a : Literal) → ys ≡ xs → i < length xs → a ≡ get_or ys i a → slice_get xs i ≡ Some a
literal-read xs ys i a e h at = slice_get-get_or xs i a h ∙ ap (λ t. Some t) (sym (at ∙ ap (λ t. get_or t i a) e))

pub assumed-reason : (clauses : Clauses) (entries : List Entry) (i level : ℕ) (a : Literal) → slice_get clauses.assumed i ≡ Some a → level ≡ 1 → (id : ClauseId) → Some (Assumed i) ≡ Some id → (c : List Literal) × IsSource level clauses id c × Implies entries (length entries) a c
assumed-reason clauses entries i level a at first id same =
    let e : Assumed i ≡ id = cc in
    let named_at : named 0 clauses (Assumed i) ≡ Some (a ∷ []) = ap (λ o. option_map (λ l. l ∷ []) o) at in
    let named_id : named 0 clauses id ≡ Some (a ∷ []) = ap (λ t. named 0 clauses t) (sym e) ∙ named_at in
    (a ∷ [], (named_id, inl first), record { has = (0, refl); others = λ l m. inl (only l m.0 m.1) })
  where
    only : (l : Literal) (j : ℕ) → slice_get (a ∷ []) j ≡ Some l → l ≡ a
    only l zero e = let s : a ≡ l = cc in sym s
    only l (suc j) e = absurd (cc)
