-- From question to question.
use Rattle.std.proofs.Common.{◌≡◌, ◌<◌, ◌≤◌, ◌⊎◌, ◌+◌, ◌*◌, ◌++◌, ◌∷◌, [], ℕ, zero, suc, List, Some, refl, sym, ap, ◌∙◌, inl, inr, subst, arith, length, vec_len, map, take, drop, take_all, get_or}
use Rattle.std.specs.List.{slice_get}
use Rattle.std.specs.Option.{option_map}
use Rattle.std.proofs.lemmas.List.{length-drop, length-map, take-append-drop, take-append-le}
use Rattle.std.proofs.lemmas.Option.{slice_get_within, slice_get-map}
use Rattle.proof_check.proofs.ClauseLemmas.{slice_get-left}
use Rattle.cnf_core.specs.Literal.{Literal, code_of}
use Rattle.proof_check.specs.Steps.{Step, clause_of}
use Rattle.proof_check.specs.Refutations.{AreValid, IsTrail}
use Rattle.cdcl.specs.declared.clauses.ClauseId.{ClauseId}
use Rattle.cdcl.specs.declared.clauses.ClauseId.TheVariants.{Given, Assumed, Learnt}
use Rattle.cdcl.specs.declared.clauses.Clauses.{Clauses}
use Rattle.cdcl.specs.declared.assigned.Entry.{Entry}
use Rattle.cdcl.specs.declared.assigned.Assigned.{Assigned}
use Rattle.cdcl.specs.declared.watching.Pair.{Pair}
use Rattle.cdcl.specs.declared.watching.Watch.{Watch}
use Rattle.cdcl.specs.declared.watching.Watches.{Watches}
use Rattle.cdcl.specs.declared.search.Search.{Search}
use Rattle.cdcl.specs.Sources.{named}
use Rattle.cdcl.specs.Fits.{Fits, AllFit, IsNumbered, AreNumbered}
use Rattle.cdcl.specs.Tidy.{IsTidy, AreTidy}
use Rattle.cdcl.specs.Trails.{IsTrailOf}
use Rattle.cdcl.specs.Watches.{list_of, pair_of, waiting}
use Rattle.cdcl.specs.Guards.{HasTrueAt, IsHeeded, AtRest, Waits, IsEntered, AreSettled, Guards}
use Rattle.cdcl.specs.Searches.{IsSearch, IsSearching, IsReady}
use Rattle.cdcl.specs.Resting.{entered, IsResting, IsWidened}
use Rattle.cdcl.specs.Stores.{AreKept, over_all}
use Rattle.cdcl.proofs.KeptSteps.{none-raised}
use Rattle.cdcl.proofs.Naming.{named-lower}
use Rattle.cdcl.proofs.Searching.{le-cases}
use Rattle.cdcl.proofs.Assuming.{fits-wider, numbered-wider}
use Rattle.cdcl.proofs.Lessons.{tidy-more}

abbrev pub Names : Clauses → Clauses → Type 0
Names old new = (id : ClauseId) (c : List Literal) → named 1 old id ≡ Some c → named 1 new id ≡ Some c

-- the same clauses have the same names
pub names-same : (old new : Clauses) → new.given ≡ old.given → map clause_of new.learnt ≡ map clause_of old.learnt → Names old new
names-same old new given learnt (Given i) c is = ap (λ t. slice_get t i) given ∙ is
names-same old new given learnt (Assumed i) c is = absurd (cc)
names-same old new given learnt (Learnt i) c is = sym (slice_get-map clause_of new.learnt i) ∙ ap (λ t. slice_get t i) learnt ∙ slice_get-map clause_of old.learnt i ∙ is

-- at level 0 no reason is an assumption
pub trail-root : (old new : Clauses) (t : Assigned) → t.level ≡ 0 → Names old new → IsTrailOf old t → IsTrailOf new t
trail-root old new t root names is = record {
  distinct = is.distinct;
  reasons = λ i e id at why.
      let r = is.reasons i e id at why in
      let low = is.have_levels.within i e at in
      let here : named 1 new id ≡ Some r.0 = elim r.1.1 [ inl one ↦ absurd (omega arith) | inr w ↦ names id r.0 w ] in
      (r.0, (named-lower 1 0 new id r.0 (omega arith) here, inr here), r.2);
  in_room = is.in_room;
  have_levels = is.have_levels;
  are_placed = is.are_placed;
  paired = is.paired;
  are_open = is.are_open;
  small = is.small;
}

settled-root : (s : Search) → IsTrailOf s.clauses s.trail → s.trail.level ≡ 0 → AreSettled s
settled-root s t root p d at none id c is =
    let one = t.have_levels.decided p d at none in
    let low = t.have_levels.within p d at in
    absurd (omega arith)

slice-take : {X : Type 0} (xs : List X) (n i : ℕ) → i < n → slice_get (take n xs) i ≡ slice_get xs i
slice-take xs zero i h = absurd (omega arith)
slice-take [] (suc n) i h = refl
slice-take (x ∷ xs) (suc n) zero h = refl
slice-take (x ∷ xs) (suc n) (suc i) h = slice-take xs n i (omega arith)

tidy-wider : (front back : List (List Literal)) (steps : List Step) → AreTidy front steps → AreTidy (front ++ back) steps
tidy-wider front back steps t k d h = tidy-more front back (get_or steps k d).clause (t k d h)

tidy-same : (formula : List (List Literal)) (xs ys : List Step) → map clause_of ys ≡ map clause_of xs → AreTidy formula xs → AreTidy formula ys
tidy-same formula [] [] e t k d h = absurd (omega arith)
tidy-same formula [] (y ∷ ys) e t k d h = absurd (cc)
tidy-same formula (x ∷ xs) [] e t k d h = absurd (cc)
tidy-same formula (x ∷ xs) (y ∷ ys) e t zero d h = let one : x.clause ≡ y.clause = cc in let P : List Literal → Type 0 = λ c. IsTidy formula c in subst P one (t zero d (omega arith))
tidy-same formula (x ∷ xs) (y ∷ ys) e t (suc k) d h = let rest : map clause_of ys ≡ map clause_of xs = cc in tidy-same formula xs ys rest (λ j b less. t (suc j) b (omega arith)) k d (omega arith)

-- what a question begins with
pub record Opens (s w : Search) (clauses : Clauses) (size : ℕ) : Type 0 where
  pub rest : IsResting (length s.clauses.given) s
  pub given : clauses.given ≡ s.clauses.given
  pub learnt : clauses.learnt ≡ s.clauses.learnt
  pub few : length clauses.given + length clauses.assumed + length clauses.learnt < 4294967296
  pub least : vec_len s.trail.levels ≤ size
  pub fits : (i : ℕ) (c : List Literal) → vec_len s.watches.given ≤ i → slice_get clauses.given i ≡ Some c → IsNumbered size c
  pub assumed : Fits size clauses.assumed
  pub widened : IsWidened size (record { clauses = clauses; trail = s.trail; choice = s.choice; watches = s.watches; followed = s.followed }) w

abbrev with_clauses : Search → Clauses → Search
with_clauses s c = record { clauses = c; trail = s.trail; choice = s.choice; watches = s.watches; followed = s.followed }

opens-trail : (s w : Search) (clauses : Clauses) (size : ℕ) → Opens s w clauses size → IsTrailOf clauses w.trail
opens-trail s w clauses size o = o.widened.trail clauses (trail-root s.clauses clauses s.trail o.rest.root (names-same s.clauses clauses o.given (ap (map clause_of) o.learnt)) o.rest.trail)

-- all clauses are the first so many
all-first : (s : Search) → take (length s.clauses.given) s.clauses.given ≡ s.clauses.given
all-first s = take_all (length s.clauses.given) s.clauses.given (omega arith)

opens-tidy : (s w : Search) (clauses : Clauses) (size : ℕ) → Opens s w clauses size → AreTidy clauses.given clauses.learnt
opens-tidy s w clauses size o =
    let P : List (List Literal) → List Step → Type 0 = λ f t. AreTidy f t in
    subst (λ f. P f clauses.learnt) (sym o.given) (subst (P s.clauses.given) (sym o.learnt) (subst (λ f. P f s.clauses.learnt) (all-first s) o.rest.tidy))

opens-valid : (s w : Search) (clauses : Clauses) (size : ℕ) → Opens s w clauses size → AreValid clauses.given clauses.learnt
opens-valid s w clauses size o =
    let P : List (List Literal) → List Step → Type 0 = λ f t. AreValid f t in
    subst (λ f. P f clauses.learnt) (sym o.given) (subst (P s.clauses.given) (sym o.learnt) (subst (λ f. P f s.clauses.learnt) (all-first s) o.rest.valid))

opens-fits : (s w : Search) (clauses : Clauses) (size : ℕ) → Opens s w clauses size → AreNumbered size clauses.given
opens-fits s w clauses size o i c at = elim (le-cases (vec_len s.watches.given) i) [
  | inl h ↦ o.fits i c h at
  | inr h ↦ numbered-wider (vec_len s.trail.levels) size c o.least (o.rest.fits i c (slice-take s.clauses.given (vec_len s.watches.given) i h ∙ ap (λ t. slice_get t i) (sym o.given) ∙ at))
]

opens-ready : (s w : Search) (clauses : Clauses) (size : ℕ) → Opens s w clauses size → IsReady (with_clauses w clauses)
opens-ready s w clauses size o =
    let P : ℕ → Type 0 = λ n. AreNumbered n clauses.given in
    let Q : ℕ → Type 0 = λ n. AllFit n (map clause_of clauses.learnt) in
    let R : ℕ → Type 0 = λ n. Fits n clauses.assumed in
    let root : w.trail.level ≡ 0 = o.widened.level ∙ o.rest.root in
    record {
      learnt = record { valid = opens-valid s w clauses size o; tidy = opens-tidy s w clauses size o; few = o.few };
      trail = opens-trail s w clauses size o;
      fits = subst P (sym o.widened.room) (opens-fits s w clauses size o);
      learnt_fit = subst Q (sym o.widened.room) (λ i c at. fits-wider (vec_len s.trail.levels) size c o.least (o.rest.learnt_fit i c (ap (λ t. slice_get (map clause_of t) i) (sym o.learnt) ∙ at)));
      assumed_fit = subst R (sym o.widened.room) o.assumed;
      holds = λ one. absurd (omega arith);
      begun = λ two. absurd (omega arith);
    }

opens-waits : (s w : Search) (clauses : Clauses) (size : ℕ) (id : ClauseId) (c : List Literal) → Opens s w clauses size → Waits (AtRest s.followed s.trail.entries.items s.watches id c) s.watches id c → Waits (AtRest w.followed w.trail.entries.items w.watches id c) w.watches id c
opens-waits s w clauses size id c o g = record {
  pair = g.pair;
  is = pairs id g.is;
  first_in = g.first_in;
  second_in = g.second_in;
  apart = g.apart;
  first = rest g.pair.first g.first;
  second = rest g.pair.second g.second;
}
  where
    pairs : (id : ClauseId) {p : Pair} → pair_of s.watches id ≡ Some p → pair_of w.watches id ≡ Some p
    pairs (Given i) {p} is = o.widened.pairs i p is
    pairs (Assumed i) is = is
    pairs (Learnt i) is = ap (λ t. slice_get t.items i) o.widened.learnt ∙ is

    rest : (y : Literal) → AtRest s.followed s.trail.entries.items s.watches id c y → AtRest w.followed w.trail.entries.items w.watches id c y
    rest y ((k, x, at, is), heeded) =
        let P : ℕ → List Entry → Type 0 = λ n entries. IsHeeded n entries c y in (
          (k, x, ap (λ t. slice_get t k) (o.widened.waits (code_of y)) ∙ at, is),
          subst (λ n. P n w.trail.entries.items) (sym o.widened.followed) (subst (λ t. P s.followed t) (ap (λ t. t.items) (sym o.widened.entries)) heeded),
        )

opens-guards : (s w : Search) (clauses : Clauses) (size : ℕ) → Opens s w clauses size → Guards (vec_len s.watches.given) w.followed (with_clauses w clauses)
opens-guards s w clauses size o =
    let entries : w.trail.entries.items ≡ s.trail.entries.items = ap (λ t. t.items) o.widened.entries in
    let long = ap length entries in
    let followed = o.widened.followed in
    let names = names-same s.clauses clauses o.given (ap (map clause_of) o.learnt) in
    let back = names-same clauses s.clauses (sym o.given) (ap (map clause_of) (sym o.learnt)) in
    record {
      sound = record {
        lists = o.widened.lists ∙ ap (λ n. 2 * n) (sym o.widened.room);
        given = o.widened.given;
        learnt = ap vec_len o.widened.learnt ∙ o.rest.learnt ∙ ap length (sym o.learnt);
        watches = λ k j x at. let t = o.rest.watches k j x (ap (λ t. slice_get t j) (sym (o.widened.waits k)) ∙ at) in (t.0, names x.id t.0 t.1, t.2);
      };
      ahead = record {
        followed = omega arith;
        within = let h = o.rest.ahead.within in omega arith;
        ahead = λ i e from at. o.rest.ahead.ahead i e (omega arith) (ap (λ t. slice_get t i) (sym entries) ∙ at) ∙ sym o.widened.level;
      };
      guarded = λ id c en is. elim (o.rest.guarded id c en (back id c is)) [
        | inl t ↦ inl (let P : List Entry → Type 0 = λ t. HasTrueAt 0 t c in subst P (sym entries) t)
        | inr g ↦ inr (opens-waits s w clauses size id c o g)
      ];
      settled = settled-root (with_clauses w clauses) (opens-trail s w clauses size o) (o.widened.level ∙ o.rest.root);
    }

pub opened-ready : (s w : Search) (clauses : Clauses) (size : ℕ) → Opens s w clauses size → IsReady w
opened-ready s w clauses size o =
    let same : w ≡ with_clauses w clauses = ap (λ t. with_clauses w t) o.widened.clauses in
    let P : Search → Type 0 = λ t. IsReady t in subst P (sym same) (opens-ready s w clauses size o)

pub opened-guards : (s w : Search) (clauses : Clauses) (size : ℕ) → Opens s w clauses size → Guards (vec_len s.watches.given) w.followed w
opened-guards s w clauses size o =
    let same : w ≡ with_clauses w clauses = ap (λ t. with_clauses w t) o.widened.clauses in
    let P : Search → Type 0 = λ t. Guards (vec_len s.watches.given) w.followed t in subst P (sym same) (opens-guards s w clauses size o)

-- what a question leaves
pub rested : (s : Search) → IsSearching s → Guards (length s.clauses.given) s.followed s → s.trail.level ≡ 0 → IsResting (length s.clauses.given) s
rested s (held, r) g root =
    let whole : entered s ≡ s.clauses.given = take_all (vec_len s.watches.given) s.clauses.given (omega (arith, g.sound.given)) in
    let P : List (List Literal) → Type 0 = λ f. AreValid f s.clauses.learnt in
    let Q : List (List Literal) → Type 0 = λ f. AreTidy f s.clauses.learnt in
    let R : List (List Literal) → Type 0 = λ f. AreNumbered (vec_len s.trail.levels) f in
    record {
      numbered = omega arith;
      valid = subst P (sym (all-first s)) r.learnt.valid;
      tidy = subst Q (sym (all-first s)) r.learnt.tidy;
      trail = r.trail;
      root = root;
      fits = subst R (sym whole) r.fits;
      learnt_fit = r.learnt_fit;
      lists = g.sound.lists;
      given = omega (arith, g.sound.given);
      learnt = g.sound.learnt;
      watches = g.sound.watches;
      ahead = g.ahead;
      guarded = λ id c en is. let S : ℕ → Type 0 = λ n. IsEntered n id in g.guarded id c (subst S g.sound.given en) is;
    }

-- nothing was entered
pub rests-none : (n : ℕ) (s : Search) → n ≤ length s.clauses.given → s.clauses.learnt ≡ [] → ((clauses : Clauses) → IsTrailOf clauses s.trail) → s.trail.entries.items ≡ [] → s.trail.level ≡ 0 → vec_len s.trail.levels ≡ 0 → s.watches.lists.items ≡ [] → vec_len s.watches.lists ≡ 0 → vec_len s.watches.given ≡ 0 → vec_len s.watches.learnt ≡ 0 → s.followed ≡ 0 → IsResting n s
rests-none n s few none trail entries root room lists size given learnt followed = record {
  numbered = few;
  valid = rw none tt;
  tidy = rw none (λ k d h. absurd (omega arith));
  trail = trail s.clauses;
  root = root;
  fits = rw given (λ i c at. absurd (cc));
  learnt_fit = rw none (λ i c at. absurd (cc));
  lists = omega arith;
  given = omega arith;
  learnt = learnt ∙ ap length (sym none);
  watches = λ k j w at. absurd (let z : slice_get {X = Watch} [] j ≡ Some w = rw lists at at in cc);
  ahead = record {
    followed = omega arith;
    within = omega arith;
    ahead = λ i e from at. let z : slice_get {X = Entry} [] i ≡ Some e = ap (λ t. slice_get t i) (sym entries) ∙ at in absurd (cc);
  };
  guarded = go;
}
  where
    go : (id : ClauseId) (c : List Literal) → IsEntered (vec_len s.watches.given) id → named 1 s.clauses id ≡ Some c → HasTrueAt 0 s.trail.entries.items c ⊎ Waits (AtRest s.followed s.trail.entries.items s.watches id c) s.watches id c
    go (Given i) c en is = absurd (omega arith)
    go (Assumed i) c en is = absurd (cc)
    go (Learnt i) c en is = let z : option_map clause_of (slice_get {X = Step} [] i) ≡ Some c = ap (λ t. option_map clause_of (slice_get t i)) (sym none) ∙ is in absurd (cc)

-- the same clauses were given
pub rests-same : (s : Search) (given : List (List Literal)) → given ≡ s.clauses.given → (n : ℕ) → IsResting n s → IsResting n (with_clauses s (record { given = given; assumed = s.clauses.assumed; learnt = s.clauses.learnt }))
rests-same s given same n r = let P : List (List Literal) → Type 0 = λ t. IsResting n (with_clauses s (record { given = t; assumed = s.clauses.assumed; learnt = s.clauses.learnt })) in subst P (sym same) r

-- a clause more was given
pub rests-more : (s : Search) (clause : List Literal) (given : List (List Literal)) → given ≡ s.clauses.given ++ clause ∷ [] → (n : ℕ) → IsResting n s → IsResting n (with_clauses s (record { given = given; assumed = s.clauses.assumed; learnt = s.clauses.learnt }))
rests-more s clause given more n r =
    let whole : take (vec_len s.watches.given) given ≡ entered s = ap (take (vec_len s.watches.given)) more ∙ take-append-le (vec_len s.watches.given) s.clauses.given (clause ∷ []) r.given in
    let first : take n given ≡ take n s.clauses.given = ap (take n) more ∙ take-append-le n s.clauses.given (clause ∷ []) r.numbered in
    let P : List (List Literal) → Type 0 = λ f. AreValid f s.clauses.learnt in
    let Q : List (List Literal) → Type 0 = λ f. AreTidy f s.clauses.learnt in
    let R : List (List Literal) → Type 0 = λ f. AreNumbered (vec_len s.trail.levels) f in
    let long = ap length more in
    record {
      numbered = let m = length-more s.clauses.given in let h = r.numbered in omega arith;
      valid = subst P (sym first) r.valid;
      tidy = subst Q (sym first) r.tidy;
      trail = trail-root s.clauses next s.trail r.root names r.trail;
      root = r.root;
      fits = subst R (sym whole) r.fits;
      learnt_fit = r.learnt_fit;
      lists = r.lists;
      given = let m = length-more s.clauses.given in let h = r.given in omega arith;
      learnt = r.learnt;
      watches = λ k j x at. let t = r.watches k j x at in (t.0, names x.id t.0 t.1, t.2);
      ahead = record { followed = r.ahead.followed; within = r.ahead.within; ahead = r.ahead.ahead };
      guarded = λ id c en is. r.guarded id c en (back id c en is);
    }
  where
    next : Clauses
    next = record { given = given; assumed = s.clauses.assumed; learnt = s.clauses.learnt }

    length-more : (xs : List (List Literal)) → length xs ≤ length (xs ++ clause ∷ [])
    length-more [] = omega arith
    length-more (x ∷ xs) = let h = length-more xs in omega arith

    names : Names s.clauses next
    names (Given i) c is = ap (λ t. slice_get t i) more ∙ slice_get-left s.clauses.given (clause ∷ []) i (slice_get_within s.clauses.given i c is) ∙ is
    names (Assumed i) c is = absurd (cc)
    names (Learnt i) c is = is

    back : (id : ClauseId) (c : List Literal) → IsEntered (vec_len s.watches.given) id → named 1 next id ≡ Some c → named 1 s.clauses id ≡ Some c
    back (Given i) c en is = let h = r.given in sym (slice_get-left s.clauses.given (clause ∷ []) i (omega arith)) ∙ ap (λ t. slice_get t i) (sym more) ∙ is
    back (Assumed i) c en is = absurd (cc)
    back (Learnt i) c en is = is

-- the steps learnt are numbered anew, over all clauses given
pub rests-numbered : (s : Search) (n : ℕ) (clauses : Clauses) → IsResting n s → clauses.given ≡ s.clauses.given → map clause_of clauses.learnt ≡ map clause_of s.clauses.learnt
    → (AreValid (take n s.clauses.given) s.clauses.learnt → AreValid clauses.given clauses.learnt) → IsResting (length clauses.given) (with_clauses s clauses)
rests-numbered s n clauses r given learnt valid =
    let new = with_clauses s clauses in
    let names = names-same s.clauses clauses given learnt in
    let back = names-same clauses s.clauses (sym given) (sym learnt) in
    let P : List (List Literal) → Type 0 = λ f. AreValid f clauses.learnt in
    let Q : List (List Literal) → Type 0 = λ f. AreTidy f clauses.learnt in
    let R : List (List Literal) → Type 0 = λ f. AreNumbered (vec_len s.trail.levels) (take (vec_len s.watches.given) f) in
    let size : length clauses.learnt ≡ length s.clauses.learnt = sym (length-map clauses.learnt clause_of) ∙ ap length learnt ∙ length-map s.clauses.learnt clause_of in
    let whole : take n s.clauses.given ++ drop n s.clauses.given ≡ clauses.given = take-append-drop n s.clauses.given ∙ sym given in
    let long = ap length given in
    record {
      numbered = omega arith;
      valid = subst P (sym (all-first new)) (valid r.valid);
      tidy = subst Q (sym (all-first new)) (subst Q whole (tidy-wider (take n s.clauses.given) (drop n s.clauses.given) clauses.learnt (tidy-same (take n s.clauses.given) s.clauses.learnt clauses.learnt learnt r.tidy)));
      trail = trail-root s.clauses clauses s.trail r.root names r.trail;
      root = r.root;
      fits = subst R (sym given) r.fits;
      learnt_fit = λ i c at. r.learnt_fit i c (ap (λ t. slice_get t i) (sym learnt) ∙ at);
      lists = r.lists;
      given = let h = r.given in omega arith;
      learnt = r.learnt ∙ sym size;
      watches = λ k j x at. let t = r.watches k j x at in (t.0, names x.id t.0 t.1, t.2);
      ahead = record { followed = r.ahead.followed; within = r.ahead.within; ahead = r.ahead.ahead };
      guarded = λ id c en is. r.guarded id c en (back id c is);
    }

-- the clauses given from an index on are left to the next question
pub rests-left : (s : Search) (i : ℕ) (w : Watches) → IsReady s → s.trail.level ≡ 0 → i < length s.clauses.given → Guards i s.followed s → vec_len w.given ≡ i
    → ((j : ℕ) → j < i → slice_get w.given.items j ≡ slice_get s.watches.given.items j) → w.lists ≡ s.watches.lists → w.learnt ≡ s.watches.learnt
    → IsResting (length s.clauses.given) (record { clauses = s.clauses; trail = s.trail; choice = s.choice; watches = w; followed = s.followed })
rests-left s i w r root less g count given lists learnt =
    let P : List (List Literal) → Type 0 = λ f. AreValid f s.clauses.learnt in
    let Q : List (List Literal) → Type 0 = λ f. AreTidy f s.clauses.learnt in
    let waits : (k : ℕ) → waiting w k ≡ waiting s.watches k = λ k. ap (λ t. list_of (slice_get t.items k)) lists in
    record {
      numbered = omega arith;
      valid = subst P (sym (all-first s)) r.learnt.valid;
      tidy = subst Q (sym (all-first s)) r.learnt.tidy;
      trail = r.trail;
      root = root;
      fits = λ j c at. r.fits j c (first-of s.clauses.given (vec_len w.given) j c at);
      learnt_fit = r.learnt_fit;
      lists = ap vec_len lists ∙ g.sound.lists;
      given = omega arith;
      learnt = ap vec_len learnt ∙ g.sound.learnt;
      watches = λ k j x at. g.sound.watches k j x (ap (λ t. slice_get t j) (sym (waits k)) ∙ at);
      ahead = record { followed = g.ahead.followed; within = g.ahead.within; ahead = g.ahead.ahead };
      guarded = λ id c en is. elim (g.guarded id c (enters id en) is) [
        | inl t ↦ inl t
        | inr h ↦ inr (waits-left id c h waits (pairs id en))
      ];
    }
  where
    first-of : (xs : List (List Literal)) (n j : ℕ) (c : List Literal) → slice_get (take n xs) j ≡ Some c → slice_get xs j ≡ Some c
    first-of xs n j c at = let h = slice_get_within (take n xs) j c at in let k = length-take-le-first xs n in sym (slice-take xs n j (omega arith)) ∙ at
      where
        length-take-le-first : (xs : List (List Literal)) (n : ℕ) → length (take n xs) ≤ n
        length-take-le-first xs zero = omega arith
        length-take-le-first [] (suc n) = omega arith
        length-take-le-first (x ∷ xs) (suc n) = let h = length-take-le-first xs n in omega arith

    enters : (id : ClauseId) → IsEntered (vec_len w.given) id → IsEntered i id
    enters (Given j) en = omega arith
    enters (Assumed j) en = tt
    enters (Learnt j) en = tt

    pairs : (id : ClauseId) → IsEntered (vec_len w.given) id → pair_of w id ≡ pair_of s.watches id
    pairs (Given j) en = given j (omega arith)
    pairs (Assumed j) en = refl
    pairs (Learnt j) en = ap (λ t. slice_get t.items j) learnt

    waits-left : (id : ClauseId) (c : List Literal) → Waits (AtRest s.followed s.trail.entries.items s.watches id c) s.watches id c → ((k : ℕ) → waiting w k ≡ waiting s.watches k)
        → pair_of w id ≡ pair_of s.watches id → Waits (AtRest s.followed s.trail.entries.items w id c) w id c
    waits-left id c h same pair = record {
      pair = h.pair;
      is = pair ∙ h.is;
      first_in = h.first_in;
      second_in = h.second_in;
      apart = h.apart;
      first = at h.pair.first h.first;
      second = at h.pair.second h.second;
    }
      where
        at : (y : Literal) → AtRest s.followed s.trail.entries.items s.watches id c y → AtRest s.followed s.trail.entries.items w id c y
        at y ((k, x, is, same_id), heeded) = ((k, x, ap (λ t. slice_get t k) (same (code_of y)) ∙ is, same_id), heeded)

-- what is kept between two questions
pub rests-kept : (s : Search) (n : ℕ) → IsResting (length s.clauses.given) s → n ≡ length s.clauses.given → AreKept (record { clauses = s.clauses.given; kept = over_all s.clauses.given n s.clauses.learnt })
rests-kept s n r is =
    let P : List Step → Type 0 = λ t. AreKept (record { clauses = s.clauses.given; kept = t }) in
    let V : List (List Literal) → Type 0 = λ f. AreValid f s.clauses.learnt in
    let T : List (List Literal) → Type 0 = λ f. AreTidy f s.clauses.learnt in
    subst P (sym (none-raised s.clauses.given n s.clauses.learnt (omega arith))) (record { valid = subst V (all-first s) r.valid; tidy = subst T (all-first s) r.tidy })

no-steps : (xs : List Step) → length xs ≡ 0 → xs ≡ []
no-steps [] none = refl
no-steps (x ∷ xs) none = absurd (omega arith)

-- where no conflict is allowed
pub rests-spent : (s : Search) (kept steps : List Step) (k n : ℕ) → IsResting (length s.clauses.given) s → k ≡ length s.clauses.learnt → kept ≡ take k s.clauses.learnt → steps ≡ drop k s.clauses.learnt → n ≡ 0
    → IsTrail s.clauses.given kept steps × AreTidy s.clauses.given kept × AreTidy s.clauses.given steps × (length steps ≡ n)
rests-spent s kept steps k n r size kept_is steps_is none =
    let V : List (List Literal) → Type 0 = λ f. AreValid f s.clauses.learnt in
    let T : List (List Literal) → Type 0 = λ f. AreTidy f s.clauses.learnt in
    let all : kept ≡ s.clauses.learnt = kept_is ∙ take_all k s.clauses.learnt (omega arith) in
    let long = ap length steps_is ∙ length-drop k s.clauses.learnt in
    let no : steps ≡ [] = no-steps steps (omega arith) in
    rw (all, no) ((subst V (all-first s) r.valid, tt), subst T (all-first s) r.tidy, (λ j d h. absurd (omega arith)), sym none)

-- the level of the assumptions begins
abbrev at-one : Search → Search
at-one s = record { clauses = s.clauses; trail = record { entries = s.trail.entries; taken = s.trail.taken; levels = s.trail.levels; level = 1; scores = s.trail.scores }; choice = s.choice; watches = s.watches; followed = s.followed }

pub rises-search : (s : Search) → IsReady s → s.trail.level ≡ 0 → IsSearch 0 (at-one s)
rises-search s r root =
    let t = r.trail in
    let h = t.have_levels in
    record {
      learnt = r.learnt;
      trail = record {
        distinct = t.distinct;
        reasons = t.reasons;
        in_room = t.in_room;
        have_levels = record {
          rising = h.rising;
          within = λ i e at. let low = h.within i e at in omega arith;
          decided = h.decided;
          first = h.first;
          begun = h.begun;
        };
        are_placed = t.are_placed;
        paired = t.paired;
        are_open = t.are_open;
        small = t.small;
      };
      fits = r.fits;
      learnt_fit = r.learnt_fit;
      assumed_fit = r.assumed_fit;
      holds = λ one k a at less. absurd (omega arith);
      begun = λ two. absurd (omega arith);
    }

pub rises-guards : (s : Search) → s.followed ≡ length s.trail.entries.items → Guards (length s.clauses.given) s.followed s → Guards (length s.clauses.given) s.followed (at-one s)
rises-guards s whole g = record {
  sound = record { lists = g.sound.lists; given = g.sound.given; learnt = g.sound.learnt; watches = g.sound.watches };
  ahead = record {
    followed = g.ahead.followed;
    within = g.ahead.within;
    ahead = λ i e from at. let h = slice_get_within s.trail.entries.items i e at in absurd (omega arith);
  };
  guarded = g.guarded;
  settled = g.settled;
}
