-- The steps of a search.
use Rattle.std.proofs.Common.{◌≡◌, ◌<◌, ◌≤◌, ◌⊎◌, ◌+◌, ◌++◌, ◌∷◌, [], ℕ, zero, suc, List, Option, Some, None, Bool, true, refl, sym, ap, ◌∙◌, inl, inr, subst, arith, length, vec_len, get_or, map}
use Rattle.std.specs.List.{slice_get}
use Rattle.std.proofs.lemmas.Bool.{cases_eq}
use Rattle.std.proofs.lemmas.Option.{slice_get_within, slice_get-get_or}
use Rattle.cnf_core.specs.Literal.{Literal, negated}
use Rattle.cdcl.specs.declared.clauses.ClauseId.{ClauseId}
use Rattle.cdcl.specs.declared.clauses.Clauses.{Clauses}
use Rattle.cdcl.specs.declared.assigned.Entry.{Entry}
use Rattle.cdcl.specs.declared.search.Search.{Search}
use Rattle.cdcl.specs.Sources.{named}
use Rattle.cdcl.specs.Known.{known, open_count, IsUnit, HasTrue, Member}
use Rattle.proof_check.specs.Steps.{clause_of}
use Rattle.std.proofs.lemmas.Option.{slice_get-map}
use Rattle.cdcl.specs.declared.clauses.ClauseId.TheVariants.{Given, Assumed, Learnt}
use Rattle.cdcl.specs.declared.assigned.Reading.{Reading}
use Rattle.cdcl.specs.Fits.{Fits, AllFit, AreNumbered}
use Rattle.cdcl.specs.Trails.{IsNext, IsSource, HasDecision, literal_at, Implies, ArePlaced, HaveLevels, AllReasoned, IsConflict, IsCut}
use Rattle.std.specs.Prelude.{IfSome}
use Rattle.cdcl.specs.Searches.{AreHeld, Extends, Goes, Says, IsSearch, IsReady, IsMet}
use Rattle.std.proofs.lemmas.List.{length_push}
use Rattle.cdcl.proofs.Readings.{slice-cases, slice-left}
use Rattle.cdcl.proofs.Placements.{literal-last}
use Rattle.cdcl.proofs.Naming.{named-any, named-lower}

-- an entry that stood there stands there still
pub extends-back : (old new : List Entry) (i : ℕ) (e : Entry) → Extends old new → i < length old → slice_get new i ≡ Some e → slice_get old i ≡ Some e
extends-back old new i e extends h at =
    let was = slice_get-get_or old i e h in
    let now = extends i (get_or old i e) was in
    let same : get_or old i e ≡ e = cc in
    was ∙ ap (λ x. Some x) same

pub le-cases : (m i : ℕ) → (m ≤ i) ⊎ (i < m)
le-cases zero i = inl (omega arith)
le-cases (suc m) zero = inr (omega arith)
le-cases (suc m) (suc i) = elim (le-cases m i) [ inl h ↦ inl (omega arith) | inr h ↦ inr (omega arith) ]

pub held-more : (n : ℕ) (assumed : List Literal) (old new : List Entry) → Extends old new → AreHeld n assumed old → AreHeld n assumed new
held-more n assumed old new extends held k a at h = let r = held k a at h in (r.0, r.1, extends r.0 r.1 r.2, r.3, r.4)

pub held-cut : (n : ℕ) (assumed : List Literal) (level : ℕ) (old new : List Entry) → 1 ≤ level → IsCut level old new → AreHeld n assumed old → AreHeld n assumed new
held-cut n assumed level old new one cut held k a at h = let r = held k a at h in (r.0, r.1, cut.keeps r.0 r.1 r.2 (omega (arith, r.4)), r.3, r.4)

-- the clause that implies a literal is its reason
pub unit-reason : (clauses : Clauses) (entries : List Entry) (taken : List Bool) (level : ℕ) (id : ClauseId) (p : Literal) (clause : List Literal) → ArePlaced entries taken → ((c : List Literal) × (named 1 clauses id ≡ Some c)) → named 0 clauses id ≡ Some clause → IsUnit (known taken) p clause → (other : ClauseId) → Some id ≡ Some other → (c : List Literal) × (named level clauses other ≡ Some c) × Implies entries (length entries) p c
unit-reason clauses entries taken level id p clause placed (c, is) found u other same =
    let e : id ≡ other = cc in
    let wide : named 0 clauses id ≡ Some c = named-lower 1 0 clauses id c (omega arith) is in
    let one : c ≡ clause = cc in
    let at : named level clauses id ≡ Some clause = named-any level clauses id clause (ap (λ t. named 1 clauses t) refl ∙ is ∙ ap (λ t. Some t) one) in
    (clause, ap (λ t. named level clauses t) (sym e) ∙ at, record { has = u.has; others = λ l m. elim (u.others l m) [ inl s ↦ inl s | inr k ↦ inr (placed.placed (negated l) k) ] })

pub Goes-then : (a b c : Search) → Goes a b → Goes b c → Goes a c
Goes-then a b c f g = record {
  same = g.same ∙ f.same;
  room = g.room ∙ f.room;
  count = g.count ∙ f.count;
  grows = omega (arith, f.grows, g.grows);
  extends = λ i e at. g.extends i e (f.extends i e at);
  added = λ i e at from. elim (le-cases (length b.trail.entries.items) i) [
    | inl above ↦ let r = g.added i e at above in (r.0 ∙ f.level, r.1)
    | inr below ↦ f.added i e (extends-back b.trail.entries.items c.trail.entries.items i e g.extends below at) from
  ];
  level = g.level ∙ f.level;
  followed = g.followed ∙ f.followed;
}

pub taken : (a b : Search) (e : Entry) → b.trail.entries.items ≡ a.trail.entries.items ++ e ∷ [] → b.clauses ≡ a.clauses → vec_len b.trail.levels ≡ vec_len a.trail.levels → open_count b.trail.taken.items + 1 ≡ open_count a.trail.taken.items → b.trail.level ≡ e.level → b.followed ≡ a.followed → e.level ≡ a.trail.level → (e.reason ≡ None → ⊥) → Goes a b
taken a b e entries same room fewer level followed at reason =
    let more : length b.trail.entries.items ≡ length a.trail.entries.items + 1 = ap length entries ∙ length_push a.trail.entries.items e in
    record {
      same = same;
      room = room;
      count = omega (arith, more, fewer);
      grows = omega (arith, more);
      extends = λ i x is. ap (λ t. slice_get t i) entries ∙ slice-left a.trail.entries.items e x i is;
      added = λ i x is from. elim (slice-cases a.trail.entries.items e x i (sym (ap (λ t. slice_get t i) entries) ∙ is)) [
        | inl f ↦ let h = slice_get_within a.trail.entries.items i x f in absurd (omega arith)
        | inr f ↦ (ap (λ y. y.level) f.1 ∙ at, λ none. reason (sym (ap (λ y. y.reason) f.1) ∙ none))
      ];
      level = level ∙ at;
      followed = followed;
    }

pub Goes-none : (a : Search) → Goes a a
Goes-none a = record {
  same = refl;
  room = refl;
  count = refl;
  grows = omega arith;
  extends = λ i e at. at;
  added = λ i e at from. let h = slice_get_within a.trail.entries.items i e at in absurd (omega arith);
  level = refl;
  followed = refl;
}

pub true-more : (known : Literal → Bool) (given : List (List Literal)) (i : ℕ) (clause : List Literal) → slice_get given i ≡ Some clause → HasTrue known clause → ((j : ℕ) (c : List Literal) → j < i → slice_get given j ≡ Some c → HasTrue known c) → (j : ℕ) (c : List Literal) → j < i + 1 → slice_get given j ≡ Some c → HasTrue known c
true-more known given i clause at h before j c less is = elim (cases_eq j i) [
  | inl s ↦ let e : slice_get given i ≡ Some c = ap (λ k. slice_get given k) (sym s) ∙ is in let one : clause ≡ c = cc in let P : List Literal → Type 0 = λ t. HasTrue known t in subst P one h
  | inr n ↦ before j c (omega arith) is
]

-- up to level 1 each entry has a reason
pub reasoned-root : (entries : List Entry) (level : ℕ) → HaveLevels level entries → level ≤ 1 → AllReasoned entries
reasoned-root entries level h root i e at none = let w = h.within i e at in let d = h.decided i e at none in omega arith

pub ready-from : (s : Search) (n : ℕ) (clauses : Clauses) → s.clauses ≡ clauses → n ≡ length clauses.assumed → IsSearch n s → IsReady s
ready-from s n clauses same is r =
    let e : n ≡ length s.clauses.assumed = is ∙ ap (λ t. length t.assumed) (sym same) in
    let P : ℕ → Type 0 = λ m. IsSearch m s in subst P e r

pub given-within : (now clauses : Clauses) (i end : ℕ) → now ≡ clauses → end ≡ length clauses.given → i < end → i < length now.given
given-within now clauses i end same is h = let e : length now.given ≡ length clauses.given = ap (λ t. length t.given) same in omega arith

pub learnt-within : (now clauses : Clauses) (i end : ℕ) → now ≡ clauses → end ≡ length clauses.learnt → i < end → i < length now.learnt
learnt-within now clauses i end same is h = let e : length now.learnt ≡ length clauses.learnt = ap (λ t. length t.learnt) same in omega arith

-- each literal of a clause that a step may cite is below the room
pub named-fits : (room : ℕ) (clauses : Clauses) (id : ClauseId) (c : List Literal) → AreNumbered room clauses.given → AllFit room (map clause_of clauses.learnt) → named 1 clauses id ≡ Some c → Fits room c
named-fits room clauses (Given i) c given learnt is = λ l m. (given i c is l m).1
named-fits room clauses (Assumed i) c given learnt is = absurd (cc)
named-fits room clauses (Learnt i) c given learnt is = learnt i c (slice_get-map clause_of clauses.learnt i ∙ is)

pub literal-fits : (s : Search) (id : ClauseId) (c : List Literal) (l : Literal) → IsReady s → ((t : List Literal) × (named 1 s.clauses id ≡ Some t)) → named 0 s.clauses id ≡ Some c → Member l c → l.variable < vec_len s.trail.levels
literal-fits s id c l r (t, is) at m =
    let wide : named 0 s.clauses id ≡ Some t = named-lower 1 0 s.clauses id t (omega arith) is in
    let one : t ≡ c = cc in
    let P : List Literal → Type 0 = λ k. Fits (vec_len s.trail.levels) k in
    subst P one (named-fits (vec_len s.trail.levels) s.clauses id t r.fits r.learnt_fit is) l m

-- the literal that a clause implies may be taken
pub implied-next : (s : Search) (id : ClauseId) (c : List Literal) (e : Entry) → IsReady s → ((t : List Literal) × (named 1 s.clauses id ≡ Some t)) → named 0 s.clauses id ≡ Some c → IsUnit (known s.trail.taken.items) e.literal c → e.reason ≡ Some id → e.level ≡ s.trail.level → IsNext s.clauses s.trail e
implied-next s id c e r (t, is) at u reason level =
    let wide : named 0 s.clauses id ≡ Some t = named-lower 1 0 s.clauses id t (omega arith) is in
    let one : t ≡ c = cc in
    inr (record {
      id = id;
      clause = c;
      reason = reason;
      level = level;
      begun = r.begun;
      source = (at, inr (is ∙ ap (λ k. Some k) one));
      implies = record { has = u.has; others = λ l m. elim (u.others l m) [ inl s' ↦ inl s' | inr k ↦ inr (r.trail.are_placed.placed (negated l) k) ] };
    })

-- a literal that was taken is true
pub taken-known : (s : Search) (e : Entry) (old : List Entry) → ArePlaced s.trail.entries.items s.trail.taken.items → s.trail.entries.items ≡ old ++ e ∷ [] → known s.trail.taken.items e.literal ≡ true
taken-known s e old p is = p.kept (length old) e.literal (ap (λ t. literal_at t (length old)) is ∙ literal-last old e)

-- what the clause said, where it is named so
pub one-name : (clauses : Clauses) (id : ClauseId) (c t : List Literal) → named 0 clauses id ≡ Some c → named 1 clauses id ≡ Some t → c ≡ t
one-name clauses id c t at is = let wide : named 0 clauses id ≡ Some t = named-lower 1 0 clauses id t (omega arith) is in cc

pub said : (a : Search) (id : ClauseId) (c : List Literal) (r : Reading) → named 0 a.clauses id ≡ Some c → Says a.trail a.trail c r → (t : List Literal) → named 1 a.clauses id ≡ Some t → Says a.trail a.trail t r
said a id c r at says t is = let P : List Literal → Type 0 = λ k. Says a.trail a.trail k r in subst P (one-name a.clauses id c t at is) says

pub item-read : {X : Type 0} (xs : List X) (i : ℕ) (x : X) → i < length xs → x ≡ get_or xs i x → slice_get xs i ≡ Some x
item-read xs i x h at = slice_get-get_or xs i x h ∙ ap (λ t. Some t) (sym at)

-- an assumption may be taken at level 1
pub assumed-next : (s : Search) (i : ℕ) (e : Entry) → (2 ≤ s.trail.level → HasDecision s.trail.level s.trail.entries.items) → e.reason ≡ Some (Assumed i) → e.level ≡ s.trail.level → ((c : List Literal) × IsSource e.level s.clauses (Assumed i) c × Implies s.trail.entries.items (length s.trail.entries.items) e.literal c) → IsNext s.clauses s.trail e
assumed-next s i e begun reason level why = inr (record { id = Assumed i; clause = why.0; reason = reason; level = level; begun = begun; source = why.1; implies = why.2 })

-- a false clause that a step may cite
pub met-above : (s : Search) (id : ClauseId) → IsReady s → IsConflict 1 s.clauses s.trail.entries.items id → IsMet s id
met-above s id ready (c, is, f) = record {
  conflict = (c, named-lower 1 0 s.clauses id c (omega arith) is, f);
  ready = λ _. ready;
  above = λ _. (c, is, f);
}

pub met-found : (s : Search) (o : Option ClauseId) → IsReady s → IfSome o (IsConflict 1 s.clauses s.trail.entries.items) → IfSome o (IsMet s)
met-found s None ready found = tt
met-found s (Some id) ready found = met-above s id ready found

-- one that is an assumption
pub met-below : (s : Search) (id : ClauseId) → s.trail.level ≡ 1 → IsConflict 0 s.clauses s.trail.entries.items id → IsMet s id
met-below s id level conflict = record {
  conflict = conflict;
  ready = λ two. absurd (omega arith);
  above = λ two. absurd (omega arith);
}
