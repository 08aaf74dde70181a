-- Clauses learnt, one more at a time, and the refutation that they end in.
use Rattle.std.proofs.Common.{◌≡◌, ◌<◌, ◌+◌, ◌++◌, ◌∷◌, [], ℕ, zero, suc, List, Option, Some, None, true, map, length, refl, sym, ap, ◌∙◌, arith, subst, length-append, append-nil, append_assoc, get_or, ◌-◌, inl, inr, ◌⊎◌, Contains, take, drop, ◌≤◌}
use Rattle.std.specs.List.{slice_get, All, flat_map}
use Rattle.std.specs.Option.{option_map}
use Rattle.std.proofs.lemmas.Option.{slice_get_within, get_or_from_slice_get}
use Rattle.std.proofs.lemmas.List.{map-append, length-map, length-drop, length-take-le, take-append-drop}
use Rattle.std.proofs.lemmas.List.Elements.{All-append, Contains-append_left}
use Rattle.std.proofs.lemmas.Grind.{flat_map-append}
use Rattle.cnf_core.specs.Literal.{Literal}
use Rattle.proof_check.specs.Steps.{Step, clause_of}
use Rattle.proof_check.specs.Propagation.{negations}
use Rattle.proof_check.specs.Room.{Within, AllWithin, variables_of}
use Rattle.proof_check.specs.Refutations.{AreValid, IsRefutation}
use Rattle.proof_check.proofs.RoomLemmas.{covers-all}
use Rattle.proof_check.proofs.StepLemmas.{member-within}
use Rattle.cdcl.specs.declared.clauses.ClauseId.{ClauseId}
use Rattle.cdcl.specs.declared.clauses.ClauseId.TheVariants.{Given, Assumed, Learnt}
use Rattle.cdcl.specs.declared.clauses.Clauses.{Clauses}
use Rattle.cdcl.specs.declared.assigned.Assigned.{Assigned}
use Rattle.cdcl.specs.Sources.{named, numbered, shifted_step}
use Rattle.cdcl.specs.Trails.{follows, IsTrailOf}
use Rattle.cdcl.specs.Derives.{NamesWithin}
use Rattle.cdcl.specs.Fits.{Fits, AllFit}
use Rattle.cdcl.specs.Tidy.{AreApart, IsTidy, AreTidy, units}
use Rattle.cdcl.specs.Searches.{AreLearnt, IsWithin, ContainsNone, AreFresh, OneMore, Appends}
use Rattle.proof_check.proofs.ClauseLemmas.{slice_get-left, slice_get-right}
use Rattle.std.proofs.lemmas.Option.{slice_get-map}
use Rattle.cdcl.proofs.Readings.{slice-cases, slice-last}
use Rattle.cdcl.proofs.Searching.{le-cases}
use Rattle.cdcl.proofs.Numbering.{follows-numbered, numbered-at, numbered-behind, valid-push, ends-push, shifted-valid, shifted-clauses}

All-one : {X : Type 0} (P : X → Type 0) (x : X) → P x → All P (x ∷ [])
All-one P x p zero d h = p
All-one P x p (suc k) d h = absurd (omega arith)

All-none : {X : Type 0} (P : X → Type 0) → All P []
All-none P k d h = absurd (omega arith)

-- the clauses in order are those that have a name
fresh-of : (clauses : Clauses) (clause : List Literal) → ContainsNone clauses clause → (i : ℕ) (c : List Literal) → slice_get (clauses.given ++ map clause_of clauses.learnt) i ≡ Some c → IsWithin c clause → ⊥
fresh-of clauses clause none i c at within = elim (le-cases (length clauses.given) i) [
  | inr below ↦ none (Given i) c (sym (slice_get-left clauses.given (map clause_of clauses.learnt) i below) ∙ at) within
  | inl above ↦
      let k = i - length clauses.given in
      let e : i ≡ length clauses.given + k = omega arith in
      none (Learnt k) c (sym (slice_get-map clause_of clauses.learnt k) ∙ sym (slice_get-right clauses.given (map clause_of clauses.learnt) i k e) ∙ at) within
]

pub learnt-push : (clauses : Clauses) (clause : List Literal) (ids : List ClauseId) (step : Step) (next : List Step) → AreLearnt clauses → length clauses.given + length clauses.assumed + length clauses.learnt + 1 < 4294967296 → step.clause ≡ clause → step.hints ≡ map (numbered (length clauses.given) 0) ids → follows (named 1 clauses) (negations clause) ids ≡ true → AreApart clause → Within (variables_of clauses.given) clause → next ≡ clauses.learnt ++ step ∷ [] → AreLearnt (record { given = clauses.given; assumed = clauses.assumed; learnt = next })
learnt-push clauses clause ids step next l room c h f a w n =
    let valid = follows-numbered (named 1 clauses) (clauses.given ++ map clause_of clauses.learnt) (numbered (length clauses.given) 0) (numbered-at clauses l.few) (negations clause) ids f in
    record {
      valid = rw n (valid-push clauses.given clauses.learnt step l.valid (rw (c, h) valid));
      tidy = rw n (All-append (λ s. IsTidy clauses.given s.clause) clauses.learnt (step ∷ []) l.tidy (All-one (λ s. IsTidy clauses.given s.clause) step (rw c (record { apart = a; occurs = w }))));
      few = rw n (omega (arith, room, length-append clauses.learnt (step ∷ [])));
    }

-- steps over the first of some clauses, as steps over all of them
pub renumbered : (given : List (List Literal)) (before added : ℕ) (steps moved : List Step) → before ≤ length given → added ≡ length given - before → length given + length steps < 4294967296 → moved ≡ map (shifted_step before added) steps → AreValid (take before given) steps → AreValid given moved
renumbered given before added steps moved le is few m v =
    let front = take before given in
    let back = drop before given in
    let size : length front ≡ before = length-take-le before given le in
    let rest : added ≡ length back = is ∙ sym (length-drop before given) in
    let start : AreValid (front ++ []) steps = rw (append-nil front) v in
    let all = shifted-valid front back [] added steps rest (omega arith) start in
    let whole : front ++ back ≡ given = take-append-drop before given in
    rw m (rw (append-nil (front ++ back), whole, size) at all)

-- clauses learnt behind others
pub appends-none : (old new : Clauses) → new ≡ old → Appends old new
appends-none old new e = let P : Clauses → Type 0 = λ t. Appends old t in subst P (sym e) (record {
  given = refl;
  assumed = refl;
  more = [];
  learnt = sym (append-nil old.learnt);
  fresh = tt;
})

pub appends-step : (old : Clauses) (clause : List Literal) (step : Step) (next : List Step) → step.clause ≡ clause → next ≡ old.learnt ++ step ∷ [] → ContainsNone old clause → Appends old (record { given = old.given; assumed = old.assumed; learnt = next })
appends-step old clause step next c n none = record {
  given = refl;
  assumed = refl;
  more = step ∷ [];
  learnt = n;
  fresh = ((λ i t at within. fresh-of old clause none i t at (let P : List Literal → Type 0 = λ k. IsWithin t k in subst P c within)), tt);
}

fresh-append : (clauses : List (List Literal)) (a b : List Step) → AreFresh clauses a → AreFresh (clauses ++ map clause_of a) b → AreFresh clauses (a ++ b)
fresh-append clauses [] b f g = rw (append-nil clauses) at g
fresh-append clauses (s ∷ a) b (now, f) g = (now, fresh-append (clauses ++ s.clause ∷ []) a b f (rw (sym (append_assoc clauses (s.clause ∷ []) (map clause_of a))) at g))

pub appends-then : (a b c : Clauses) → Appends a b → Appends b c → Appends a c
appends-then a b c f g = record {
  given = g.given ∙ f.given;
  assumed = g.assumed ∙ f.assumed;
  more = f.more ++ g.more;
  learnt = g.learnt ∙ ap (λ t. t ++ g.more) f.learnt ∙ append_assoc a.learnt f.more g.more;
  fresh = fresh-append (a.given ++ map clause_of a.learnt) f.more g.more f.fresh
      (rw (append_assoc a.given (map clause_of a.learnt) (map clause_of f.more), sym (map-append clause_of a.learnt f.more), sym f.learnt, sym f.given) g.fresh);
}

pub appends-more : (a b c d : Clauses) → Appends a b → c ≡ b → Appends c d → Appends a d
appends-more a b c d f e g = let P : Clauses → Type 0 = λ t. Appends a t in appends-then a c d (subst P (sym e) f) g

clause-left : (xs : List Step) (s : Step) (i : ℕ) (c : List Literal) → option_map clause_of (slice_get xs i) ≡ Some c → option_map clause_of (slice_get (xs ++ s ∷ []) i) ≡ Some c
clause-left [] s i c e = absurd (cc)
clause-left (x ∷ xs) s zero c e = e
clause-left (x ∷ xs) s (suc i) c e = clause-left xs s i c e

pub names-push : (clauses : Clauses) (step : Step) (next : List Step) → next ≡ clauses.learnt ++ step ∷ [] → (level : ℕ) (id : ClauseId) (c : List Literal) → named level clauses id ≡ Some c → named level (record { given = clauses.given; assumed = clauses.assumed; learnt = next }) id ≡ Some c
names-push clauses step next n level (Given i) c e = e
names-push clauses step next n level (Assumed i) c e = e
names-push clauses step next n level (Learnt i) c e = rw n (clause-left clauses.learnt step i c e)

pub trail-grown : (old new : Clauses) (t : Assigned) → ((level : ℕ) (id : ClauseId) (c : List Literal) → named level old id ≡ Some c → named level new id ≡ Some c) → IsTrailOf old t → IsTrailOf new t
trail-grown old new t names is = record {
  distinct = is.distinct;
  reasons = λ i e id at why. let r = is.reasons i e id at why in (r.0, (names 0 id r.0 r.1.0, elim r.1.1 [ inl root ↦ inl root | inr w ↦ inr (names 1 id r.0 w) ]), r.2);
  in_room = is.in_room;
  have_levels = is.have_levels;
  are_placed = is.are_placed;
  paired = is.paired;
  are_open = is.are_open;
  small = is.small;
}

given-within : (formula : List (List Literal)) → AllWithin (variables_of formula) formula
given-within formula =
    let c = covers-all (variables_of formula ++ []) formula [] (λ v h. h) in
    rw (append-nil (variables_of formula)) at c.formula_within

learnt-named : (formula : List (List Literal)) (steps : List Step) (i : ℕ) (c : List Literal) → AreTidy formula steps → option_map clause_of (slice_get steps i) ≡ Some c → Within (variables_of formula) c
learnt-named formula steps i c tidy e =
    elim (slice_get steps i) as (λ o. slice_get steps i ≡ o → option_map clause_of o ≡ Some c → Within (variables_of formula) c) [
      | None ↦ λ _ no. absurd (cc)
      | Some s ↦ λ at is.
          let one : s.clause ≡ c = cc in
          let t : IsTidy formula (get_or steps i s).clause = tidy i s (slice_get_within steps i s at) in
          let read : get_or steps i s ≡ s = get_or_from_slice_get steps i s s at in
          let P : List Literal → Type 0 = λ k. Within (variables_of formula) k in
          subst P (ap (λ k. k.clause) read ∙ one) t.occurs
    ] refl e

pub names-within : (clauses : Clauses) → AreLearnt clauses → NamesWithin (variables_of clauses.given) (named 1 clauses)
names-within clauses l (Given i) c e = member-within (variables_of clauses.given) clauses.given i c (given-within clauses.given) e
names-within clauses l (Assumed i) c e = absurd (cc)
names-within clauses l (Learnt i) c e = learnt-named clauses.given clauses.learnt i c l.tidy e

variables-append : (xs ys : List (List Literal)) → variables_of (xs ++ ys) ≡ variables_of xs ++ variables_of ys
variables-append xs ys = ap (map (λ (l : Literal). l.variable)) (flat_map-append (λ (c : List Literal). c) xs ys) ∙ map-append (λ (l : Literal). l.variable) (flat_map (λ (c : List Literal). c) xs) (flat_map (λ (c : List Literal). c) ys)

pub tidy-more : (formula more : List (List Literal)) (c : List Literal) → IsTidy formula c → IsTidy (formula ++ more) c
tidy-more formula more c t = record {
  apart = t.apart;
  occurs = λ k d h. rw (variables-append formula more) (Contains-append_left (variables_of formula) (variables_of more) (get_or c k d).variable (t.occurs k d h));
}

tidy-shifted : (formula more : List (List Literal)) (given listed : ℕ) (steps : List Step) → AreTidy formula steps → AreTidy (formula ++ more) (map (shifted_step given listed) steps)
tidy-shifted formula more given listed [] t = All-none (λ s. IsTidy (formula ++ more) s.clause)
tidy-shifted formula more given listed (s ∷ steps) t =
    All-append (λ u. IsTidy (formula ++ more) u.clause) (shifted_step given listed s ∷ []) (map (shifted_step given listed) steps)
    (All-one (λ u. IsTidy (formula ++ more) u.clause) (shifted_step given listed s) (tidy-more formula more s.clause (t 0 s (omega arith))))
    (tidy-shifted formula more given listed steps (λ k d h. t (suc k) d (omega arith)))

-- what a conflict at level 0 ends
pub record Refuting (clauses : Clauses) (r : List Step) : Type 0 where
  pub moved : List Step
  pub final : Step
  pub ids : List ClauseId
  pub learnt : AreLearnt clauses
  pub moved_is : moved ≡ map (shifted_step (length clauses.given) (length clauses.assumed)) clauses.learnt
  pub whole : r ≡ moved ++ final ∷ []
  pub empty : final.clause ≡ []
  pub hints : final.hints ≡ map (numbered (length clauses.given) (length clauses.assumed)) ids
  pub valid : follows (named 0 clauses) (negations final.clause) ids ≡ true

pub refuted : (clauses : Clauses) (r : List Step) → Refuting clauses r → IsRefutation (clauses.given ++ units clauses.assumed) r
refuted clauses r f =
    let formula = clauses.given ++ units clauses.assumed in
    let size : length clauses.assumed ≡ length (units clauses.assumed) = sym (length-map clauses.assumed (λ (l : Literal). l ∷ [])) in
    let start : AreValid (clauses.given ++ []) clauses.learnt = rw (append-nil clauses.given) f.learnt.valid in
    let steps = shifted-valid clauses.given (units clauses.assumed) [] (length clauses.assumed) clauses.learnt size (omega (arith, f.learnt.few)) start in
    let steps_valid : AreValid formula f.moved = rw f.moved_is (rw (append-nil formula) at steps) in
    let same_clauses : map clause_of f.moved ≡ map clause_of clauses.learnt = ap (map clause_of) f.moved_is ∙ shifted-clauses (length clauses.given) (length clauses.assumed) clauses.learnt in
    let final = follows-numbered (named 0 clauses) (formula ++ map clause_of f.moved) (numbered (length clauses.given) (length clauses.assumed)) (numbered-behind clauses (map clause_of f.moved) f.learnt.few same_clauses) (negations f.final.clause) f.ids f.valid in
    (rw f.whole (valid-push formula f.moved f.final steps_valid (rw f.hints final)), rw (f.whole, ends-push f.moved f.final, f.empty) refl)

pub refuted-tidy : (clauses : Clauses) (r : List Step) → Refuting clauses r → AreTidy (clauses.given ++ units clauses.assumed) r
refuted-tidy clauses r f =
    let formula = clauses.given ++ units clauses.assumed in
    let last : IsTidy formula f.final.clause = rw f.empty (record { apart = tt; occurs = All-none (λ (l : Literal). Contains (variables_of formula) l.variable) }) in
    rw (f.whole, f.moved_is) (All-append (λ s. IsTidy formula s.clause) (map (shifted_step (length clauses.given) (length clauses.assumed)) clauses.learnt) (f.final ∷ [])
    (tidy-shifted clauses.given (units clauses.assumed) (length clauses.given) (length clauses.assumed) clauses.learnt f.learnt.tidy)
    (All-one (λ s. IsTidy formula s.clause) f.final last))

pub one-more : (clauses : Clauses) (step : Step) (clause : List Literal) (next : List Step) → step.clause ≡ clause → next ≡ clauses.learnt ++ step ∷ [] → OneMore clauses (record { given = clauses.given; assumed = clauses.assumed; learnt = next }) clause
one-more clauses step clause next c n = rw n (record {
  last = ap (λ o. option_map clause_of o) (slice-last clauses.learnt step) ∙ ap (λ t. Some t) c;
  others = others;
})
  where
    others : (id : ClauseId) (t : List Literal) → named 1 (record { given = clauses.given; assumed = clauses.assumed; learnt = clauses.learnt ++ step ∷ [] }) id ≡ Some t → (named 1 clauses id ≡ Some t) ⊎ ((id ≡ Learnt (length clauses.learnt)) × (t ≡ clause))
    others (Given i) t is = inl is
    others (Assumed i) t is = inl is
    others (Learnt i) t is = found (slice_get (clauses.learnt ++ step ∷ []) i) refl
      where
        found : (o : Option Step) → slice_get (clauses.learnt ++ step ∷ []) i ≡ o → (named 1 clauses (Learnt i) ≡ Some t) ⊎ ((Learnt i ≡ Learnt (length clauses.learnt)) × (t ≡ clause))
        found None none = let z : option_map clause_of (slice_get (clauses.learnt ++ step ∷ []) i) ≡ None = ap (λ o. option_map clause_of o) none in absurd (cc)
        found (Some s) at =
            let z : option_map clause_of (slice_get (clauses.learnt ++ step ∷ []) i) ≡ Some s.clause = ap (λ o. option_map clause_of o) at in
            let one : s.clause ≡ t = cc in
            elim (slice-cases clauses.learnt step s i at) [
              | inl f ↦ inl (ap (λ o. option_map clause_of o) f ∙ ap (λ k. Some k) one)
              | inr f ↦ inr (ap (λ k. Learnt k) f.0, sym one ∙ ap (λ k. k.clause) f.1 ∙ c)
            ]

pub one-fits : (room : ℕ) (old new : Clauses) (clause : List Literal) → OneMore old new clause → AllFit room (map clause_of old.learnt) → Fits room clause → AllFit room (map clause_of new.learnt)
one-fits room old new clause more all now i c at =
    let is : named 1 new (Learnt i) ≡ Some c = sym (slice_get-map clause_of new.learnt i) ∙ at in
    elim (more.others (Learnt i) c is) [
      | inl was ↦ all i c (slice_get-map clause_of old.learnt i ∙ was)
      | inr last ↦ let P : List Literal → Type 0 = λ t. Fits room t in subst P (sym last.1) now
    ]
