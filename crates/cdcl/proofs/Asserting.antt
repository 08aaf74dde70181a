-- What is learnt from a conflict, and why no earlier clause is within it.
use Rattle.std.proofs.Common.{◌≡◌, ◌<◌, ◌≤◌, ◌⊎◌, ◌+◌, ◌*◌, ◌∷◌, [], ℕ, zero, suc, List, Some, None, Bool, true, false, not, refl, sym, ap, ◌∙◌, inl, inr, subst, arith, length, vec_len}
use Rattle.std.specs.List.{slice_get}
use Rattle.std.proofs.lemmas.Bool.{both_ways, false_from_ne_true}
use Rattle.std.proofs.lemmas.Option.{slice_get_within}
use Rattle.cnf_core.specs.Literal.{Literal, negated, code_of}
use Rattle.cdcl.specs.declared.clauses.ClauseId.{ClauseId}
use Rattle.cdcl.specs.declared.clauses.ClauseId.TheVariants.{Given, Assumed, Learnt}
use Rattle.cdcl.specs.declared.clauses.Clauses.{Clauses}
use Rattle.cdcl.specs.declared.assigned.Entry.{Entry}
use Rattle.cdcl.specs.declared.assigned.Assigned.{Assigned}
use Rattle.cdcl.specs.declared.assigned.Reading.{Reading}
use Rattle.cdcl.specs.declared.assigned.Reading.TheVariants.{Satisfied, Falsified, Implied, Undecided}
use Rattle.cdcl.specs.declared.search.Search.{Search}
use Rattle.cdcl.specs.Scoreboards.{Scoreboard}
use Rattle.cdcl.specs.declared.watching.Watches.{Watches}
use Rattle.cdcl.specs.Sources.{named}
use Rattle.cdcl.specs.Known.{known, Member, IsOpen, Reads}
use Rattle.cdcl.specs.Fits.{Fits}
use Rattle.cdcl.specs.Trails.{literal_at, PlacedBelow, AreDistinct, HaveLevels, HasRoom, IsConflict, IsCut, IsLevel, IsTrailOf, AreOpen}
use Rattle.cdcl.specs.Jumps.{FalseAt, FalseBelow, HasTop, IsJump}
use Rattle.cdcl.specs.Searches.{Goes, Says, IsReady, ContainsNone, OneMore}
use Rattle.cdcl.specs.Watches.{waiting, pair_of, WaitsLast}
use Rattle.cdcl.specs.Guards.{HasTrueAt, IsHeeded, AtRest, Waits, IsSettled, IsEntered, AreSettled, AreAhead, Guards, IsAsserting, GuardsBut, IsTrueNow}
use Rattle.cdcl.proofs.Searching.{named-fits, le-cases}
use Rattle.cdcl.proofs.Placements.{code-within}
use Rattle.cdcl.proofs.Visiting.{with_watches}
use Rattle.cdcl.proofs.Turning.{name-cases}
use Rattle.cdcl.proofs.Guarding.{with_scores, entry-of, literal-of, true-more, true-now, heeded-more, heeded-left, settled-goes, ahead-goes, true-placed, open-left, said-undecided, said-satisfied, said-implied}

-- no literal is its own negation
apart : (l : Literal) → l ≡ negated l → ⊥
apart l e = differs l.positive (ap (λ x. x.positive) e)
  where
    differs : (b : Bool) → b ≡ not b → ⊥
    differs true e = cc
    differs false e = cc

-- a literal that stands in the trail isn't false
clash : (entries : List Entry) (l : Literal) (i j : ℕ) → AreDistinct entries → literal_at entries i ≡ Some l → literal_at entries j ≡ Some (negated l) → ⊥
clash entries l i j d at opposite =
    let same : i ≡ j = d i j l (negated l) at opposite refl in
    let here : literal_at entries j ≡ Some l = ap (λ n. literal_at entries n) (sym same) ∙ at in
    let one : l ≡ negated l = cc in
    apart l one

-- the conflict's clause has a literal of the top level
pub has-top : (s : Search) (id : ClauseId) → IsReady s → AreSettled s → 2 ≤ s.trail.level → IsConflict 1 s.clauses s.trail.entries.items id → HasTop s.clauses s.trail id
has-top s id ready settled one (c, is, falsified) =
    let entries = s.trail.entries.items in
    let d = ready.begun one in
    elim (settled d.0 d.1 d.2 d.3 id c is) [
      | inl (l, m, (i, h, at)) ↦ let f = falsified l m in absurd (clash entries l i f.0 ready.trail.distinct at f.2)
      | inr t ↦
          let f = falsified t.one t.one_in in
          let r = entry-of entries f.0 (negated t.one) f.2 in
          elim (le-cases d.0 f.0) [
            | inr below ↦ absurd (t.one_left (f.0, below, f.2))
            | inl above ↦
                let up = ready.trail.have_levels.rising d.0 f.0 d.1 r.0 d.2 r.1 above in
                let within = ready.trail.have_levels.within f.0 r.0 r.1 in
                let top = d.4 in
                record { clause = c; is = is; literal = t.one; member = t.one_in; at = record { place = f.0; entry = r.0; from = omega arith; at = r.1; negates = r.2; of_level = omega arith } }
          ]
    ]

-- the scores alone are others
pub ready-scored : (s : Search) (board : Scoreboard) → board.unset ≡ s.trail.scores.unset → IsReady s → IsReady (record { clauses = s.clauses; trail = with_scores s.trail board; choice = s.choice; watches = s.watches; followed = s.followed })
ready-scored s board same r =
    let t = r.trail in
    let P : List Bool → Type 0 = λ u. AreOpen u s.trail.taken.items (vec_len s.trail.levels) in
    record {
      learnt = r.learnt;
      trail = record {
        distinct = t.distinct;
        reasons = t.reasons;
        in_room = t.in_room;
        have_levels = record { rising = t.have_levels.rising; within = t.have_levels.within; decided = t.have_levels.decided; first = t.have_levels.first; begun = t.have_levels.begun };
        are_placed = t.are_placed;
        paired = t.paired;
        are_open = subst P (sym same) t.are_open;
        small = t.small;
      };
      fits = r.fits;
      learnt_fit = r.learnt_fit;
      assumed_fit = r.assumed_fit;
      holds = r.holds;
      begun = r.begun;
    }

-- the literals of a clause learnt are false
member-false : (entries : List Entry) (top level : ℕ) (clause : List Literal) (l : Literal) → IsJump entries top clause level → Member l clause → FalseBelow entries top l
member-false entries top level clause l j m = go (let P : List Literal → Type 0 = λ c. Member l c in subst P j.is m)
  where
    go : Member l (j.first ∷ j.rest) → FalseBelow entries top l
    go (zero, is) = let one : j.first ≡ l = cc in (top, omega arith, (let P : Literal → Type 0 = λ t. FalseAt entries 0 top t in subst P one j.at))
    go (suc k, is) = elim j.below [
      | inl (none, _) ↦ let z : slice_get {X = Literal} [] k ≡ Some l = ap (λ t. slice_get t k) (sym none) ∙ is in absurd (cc)
      | inr s ↦ let o = s.others l (k, is) in (o.0, (let b = s.below in let h = o.1 in omega arith), o.2)
    ]

-- all but the first are false before the top level's decision
member-before : (s : Search) (level : ℕ) (clause : List Literal) (l : Literal) (j : IsJump s.trail.entries.items s.trail.level clause level) (p : ℕ) (d : Entry) → HaveLevels s.trail.level s.trail.entries.items → slice_get s.trail.entries.items p ≡ Some d → d.level ≡ s.trail.level → Member l clause → (l ≡ j.first) ⊎ PlacedBelow p s.trail.entries.items (negated l)
member-before s level clause l j p d h at top m = go (let P : List Literal → Type 0 = λ c. Member l c in subst P j.is m)
  where
    go : Member l (j.first ∷ j.rest) → (l ≡ j.first) ⊎ PlacedBelow p s.trail.entries.items (negated l)
    go (zero, is) = inl (cc)
    go (suc k, is) = elim j.below [
      | inl (none, _) ↦ let z : slice_get {X = Literal} [] k ≡ Some l = ap (λ t. slice_get t k) (sym none) ∙ is in absurd (cc)
      | inr r ↦
          let o = r.others l (k, is) in
          let f = o.2 in
          elim (le-cases p f.place) [
            | inl above ↦
                let up = h.rising p f.place d f.entry at f.at above in
                let z = f.of_level in
                let b = r.below in
                let low = o.1 in
                absurd (omega arith)
            | inr below ↦ inr (f.place, below, literal-of s.trail.entries.items f.place f.entry f.at ∙ ap (λ t. Some t) f.negates)
          ]
    ]

-- no clause is within the one learnt
pub contains-none : (s : Search) (clause : List Literal) (level : ℕ) → IsReady s → AreSettled s → 2 ≤ s.trail.level → IsJump s.trail.entries.items s.trail.level clause level → ContainsNone s.clauses clause
contains-none s clause level ready settled one j id c is within =
    let entries = s.trail.entries.items in
    let d = ready.begun one in
    elim (settled d.0 d.1 d.2 d.3 id c is) [
      | inl (l, m, (i, h, at)) ↦
          let f = member-false entries s.trail.level level clause l j (within l m) in
          clash entries l i f.2.place ready.trail.distinct at (literal-of entries f.2.place f.2.entry f.2.at ∙ ap (λ t. Some t) f.2.negates)
      | inr t ↦
          elim (member-before s level clause t.one j d.0 d.1 ready.trail.have_levels d.2 d.4 (within t.one t.one_in)) [
            | inr b ↦ t.one_left b
            | inl e ↦ elim (member-before s level clause t.another j d.0 d.1 ready.trail.have_levels d.2 d.4 (within t.another t.another_in)) [
              | inr b ↦ t.another_left b
              | inl f ↦ t.apart (e ∙ sym f)
            ]
          ]
    ]

-- it fits the room, and leads to a level of the trail
pub jump-fits : (entries : List Entry) (top level room : ℕ) (clause : List Literal) → HasRoom room entries → IsJump entries top clause level → Fits room clause
jump-fits entries top level room clause r j l m =
    let f = member-false entries top level clause l j m in
    let h = r f.2.place f.2.entry.literal (literal-of entries f.2.place f.2.entry f.2.at) in
    let var : f.2.entry.literal.variable ≡ l.variable = ap (λ t. t.variable) f.2.negates in
    omega (arith, h, var)

pub jump-level : (entries : List Entry) (top level : ℕ) (clause : List Literal) → IsJump entries top clause level → IsLevel level entries
jump-level entries top level clause j = elim j.below [
  | inl (none, z) ↦ inl (omega arith)
  | inr s ↦ let f = s.at in inr (f.place, f.entry, f.at, f.of_level)
]

pub jump-below : (entries : List Entry) (top level : ℕ) (clause : List Literal) → 1 ≤ top → IsJump entries top clause level → level < top
jump-below entries top level clause one j = elim j.below [
  | inl (none, z) ↦ omega arith
  | inr s ↦ s.below
]

-- where entries were taken back, the first literal is open and the others are false
pub asserting : (a : Search) (t : Assigned) (clauses : Clauses) (clause : List Literal) (level : ℕ) → IsReady a → IsTrailOf clauses t → 2 ≤ a.trail.level → IsJump a.trail.entries.items a.trail.level clause level → IsCut level a.trail.entries.items t.entries.items → t.level ≡ level → IsAsserting t clause
asserting a t clauses clause level ready trail one j cut at = record {
  first = j.first;
  rest = j.rest;
  is = j.is;
  is_open = record { fresh = false_from_ne_true (known t.taken.items j.first) fresh; opposite = false_from_ne_true (known t.taken.items (negated j.first)) opposite };
  others = λ l m. elim j.below [
    | inl (none, _) ↦ let z : Member l [] = (let P : List Literal → Type 0 = λ c. Member l c in subst P none m) in absurd (cc (z.1))
    | inr s ↦
        let o = s.others l m in
        let f = o.2 in
        trail.are_placed.kept f.place (negated l) (literal-of t.entries.items f.place f.entry (cut.keeps f.place f.entry f.at (let z = f.of_level in let h = o.1 in omega arith)) ∙ ap (λ k. Some k) f.negates)
  ];
  second = elim j.below [
    | inl (none, z) ↦ inl (none, at ∙ z)
    | inr s ↦
        let f = s.at in
        inr (s.second, s.more, s.is, record { place = f.place; entry = f.entry; from = omega arith; at = cut.keeps f.place f.entry f.at (let z = f.of_level in omega arith); negates = f.negates; of_level = f.of_level ∙ sym at })
  ];
}
  where
    less : level < a.trail.level
    less = jump-below a.trail.entries.items a.trail.level level clause (omega arith) j

    fresh : known t.taken.items j.first ≡ true → ⊥
    fresh k =
        let b = trail.are_placed.placed j.first k in
        let r = entry-of t.entries.items b.0 j.first b.2 in
        let f = j.at in
        clash a.trail.entries.items j.first b.0 f.place ready.trail.distinct (literal-of a.trail.entries.items b.0 r.0 (cut.first b.0 r.0 r.1) ∙ ap (λ z. Some z) r.2) (literal-of a.trail.entries.items f.place f.entry f.at ∙ ap (λ z. Some z) f.negates)

    opposite : known t.taken.items (negated j.first) ≡ true → ⊥
    opposite k =
        let b = trail.are_placed.placed (negated j.first) k in
        let r = entry-of t.entries.items b.0 (negated j.first) b.2 in
        let f = j.at in
        let was = cut.first b.0 r.0 r.1 in
        let place : b.0 ≡ f.place = ready.trail.distinct b.0 f.place r.0.literal f.entry.literal (literal-of a.trail.entries.items b.0 r.0 was) (literal-of a.trail.entries.items f.place f.entry f.at) (ap (λ z. z.variable) (r.2 ∙ sym f.negates)) in
        let here : slice_get a.trail.entries.items f.place ≡ Some r.0 = ap (λ n. slice_get a.trail.entries.items n) (sym place) ∙ was in
        let entry : r.0 ≡ f.entry = let z = f.at in cc in
        let top : r.0.level ≡ a.trail.level = ap (λ z. z.level) entry ∙ f.of_level in
        let low = cut.below b.0 r.0 r.1 in
        omega arith

abbrev pub with_clauses : Search → Clauses → Search
with_clauses s c = record { clauses = c; trail = s.trail; choice = s.choice; watches = s.watches; followed = s.followed }

-- the state in which the clause learnt is known, and waits nowhere yet
pub guards-but : (a b d : Search) (clause : List Literal) (level : ℕ) → IsReady a → IsReady b → 2 ≤ a.trail.level → IsJump a.trail.entries.items a.trail.level clause level → IsCut level a.trail.entries.items b.trail.entries.items → b.trail.level ≡ level → b.followed ≡ length b.trail.entries.items
    → Guards (length b.clauses.given) b.followed b → d ≡ with_clauses b d.clauses → ((from : ℕ) (id : ClauseId) (c : List Literal) → named from b.clauses id ≡ Some c → named from d.clauses id ≡ Some c) → OneMore b.clauses d.clauses clause → length d.clauses.learnt ≡ length b.clauses.learnt + 1 → d.clauses.given ≡ b.clauses.given → GuardsBut d clause
guards-but a b d clause level ready now one j cut at whole g rest names more count given =
    let P : Search → Type 0 = λ t. GuardsBut t clause in
    subst P (sym rest) (record {
      lists = g.sound.lists;
      given = g.sound.given ∙ ap length (sym given);
      learnt = count ∙ ap (λ n. n + 1) (sym g.sound.learnt);
      watches = λ k i w is. let t = g.sound.watches k i w is in (t.0, names 1 w.id t.0 t.1, t.2);
      ahead = record { followed = g.ahead.followed; within = g.ahead.within; ahead = g.ahead.ahead };
      whole = whole;
      guarded = λ id c ne is. elim (more.others id c is) [
        | inl was ↦ g.guarded id c (entered id c was) was
        | inr last ↦ absurd (ne (last.0 ∙ ap (λ n. Learnt n) (sym g.sound.learnt)))
      ];
      settled = λ p e e_at none id c is. elim (more.others id c is) [
        | inl was ↦ g.settled p e e_at none id c was
        | inr last ↦ let Q : List Literal → Type 0 = λ t. IsSettled p b.trail.entries.items t in subst Q (sym last.1) (lesson-settled p e e_at none)
      ];
      last = ap (λ n. named 1 d.clauses (Learnt n)) g.sound.learnt ∙ more.last;
      asserts = asserts;
    })
  where
    asserts : IsAsserting b.trail clause
    asserts = asserting a b.trail b.clauses clause level ready now.trail one j cut at

    entered : (id : ClauseId) (c : List Literal) → named 1 b.clauses id ≡ Some c → IsEntered (length b.clauses.given) id
    entered (Given i) c is = slice_get_within b.clauses.given i c is
    entered (Assumed i) c is = tt
    entered (Learnt i) c is = tt

    first-in : Member asserts.first clause
    first-in = (0, ap (λ t. slice_get t 0) asserts.is)

    lesson-settled : (p : ℕ) (e : Entry) → slice_get b.trail.entries.items p ≡ Some e → e.reason ≡ None → IsSettled p b.trail.entries.items clause
    lesson-settled p e e_at none = elim asserts.second [
      | inl (_, z) ↦
          let up = now.trail.have_levels.decided p e e_at none in
          let low = now.trail.have_levels.within p e e_at in
          absurd (omega arith)
      | inr (l, tail, is, f) ↦
          let second_in : Member l asserts.rest = (0, ap (λ t. slice_get t 0) is) in
          let falsified = asserts.others l second_in in
          inr (record {
            one = asserts.first;
            another = l;
            one_in = first-in;
            another_in = (1, ap (λ t. slice_get t 1) (asserts.is ∙ ap (λ t. asserts.first ∷ t) is));
            apart = λ s. both_ways (known b.trail.taken.items (negated asserts.first)) asserts.is_open.opposite (ap (λ t. known b.trail.taken.items (negated t)) s ∙ falsified);
            one_left = λ (k, h, k_at). both_ways (known b.trail.taken.items (negated asserts.first)) asserts.is_open.opposite (now.trail.are_placed.kept k (negated asserts.first) k_at);
            another_left = λ (k, h, k_at).
                let r = entry-of b.trail.entries.items k (negated l) k_at in
                let place : k ≡ f.place = now.trail.distinct k f.place (negated l) f.entry.literal k_at (literal-of b.trail.entries.items f.place f.entry f.at) (ap (λ t. t.variable) (sym f.negates)) in
                let here : slice_get b.trail.entries.items f.place ≡ Some r.0 = ap (λ n. slice_get b.trail.entries.items n) (sym place) ∙ r.1 in
                let entry : r.0 ≡ f.entry = let z = f.at in cc in
                let lv : r.0.level ≡ b.trail.level = ap (λ t. t.level) entry ∙ f.of_level in
                let less = now.trail.have_levels.first k p r.0 e r.1 e_at none h in
                let low = now.trail.have_levels.within p e e_at in
                omega arith;
          })
    ]

-- the clause learnt last waits, and its first literal is taken
pub codes-last : (s : Search) (clause : List Literal) → IsReady s → GuardsBut s clause → (l : Literal) → Member l clause → code_of l < vec_len s.watches.lists
codes-last s clause ready g l m = code-within l (vec_len s.trail.levels) (vec_len s.watches.lists) (named-fits (vec_len s.trail.levels) s.clauses (Learnt (vec_len s.watches.learnt)) clause ready.fits ready.learnt_fit g.last l m) g.lists

pub asserted : (s d : Search) (w : Watches) (clause : List Literal) (r : Reading) → IsReady s → IsReady d → GuardsBut s clause → WaitsLast clause s.watches w → Goes (with_watches s w) d → d.watches ≡ w → Says s.trail d.trail clause r → Guards (length d.clauses.given) d.followed d
asserted s d w clause r ready after g more goes watches says = record {
  sound = record {
    lists = ap (λ t. vec_len t.lists) watches ∙ more.lists ∙ g.lists ∙ ap (λ n. 2 * n) (sym goes.room);
    given = ap (λ t. vec_len t.given) watches ∙ more.given ∙ g.given ∙ ap (λ t. length t.given) (sym goes.same);
    learnt = ap (λ t. vec_len t.learnt) watches ∙ more.learnt ∙ sym g.learnt ∙ ap (λ t. length t.learnt) (sym goes.same);
    watches = λ k j x at. elim (more.fresh k j x (ap (λ t. slice_get (waiting t k) j) (sym watches) ∙ at)) [
      | inl (m, old) ↦ let t = g.watches k m x old in (t.0, ap (λ i. named 1 i x.id) goes.same ∙ t.1, t.2)
      | inr (id, blocks) ↦ (clause, ap (λ i. named 1 i x.id) goes.same ∙ ap (λ i. named 1 s.clauses i) id ∙ g.last, blocks)
    ];
  };
  ahead = ahead-goes';
  guarded = guarded;
  settled = settled-goes (with_watches s w) d goes g.settled;
}
  where
    entries : List Entry
    entries = d.trail.entries.items

    le : s.followed ≤ length s.trail.entries.items
    le = omega (arith, g.whole)

    same_followed : d.followed ≡ s.followed
    same_followed = goes.followed

    ahead-goes' : AreAhead d.followed d
    ahead-goes' =
        let P : ℕ → Type 0 = λ n. AreAhead n d in
        subst P (sym same_followed) (ahead-goes s.followed (with_watches s w) d goes (record { followed = g.ahead.followed; within = g.ahead.within; ahead = g.ahead.ahead }))

    a : IsAsserting s.trail clause
    a = g.asserts

    first-in : Member a.first clause
    first-in = (0, ap (λ t. slice_get t 0) a.is)

    -- of the clause's literals only the first is open
    only : (l : Literal) → Member l clause → IsOpen (known s.trail.taken.items) l → l ≡ a.first
    only l m o = go (let P : List Literal → Type 0 = λ c. Member l c in subst P a.is m)
      where
        go : Member l (a.first ∷ a.rest) → l ≡ a.first
        go (zero, is) = cc
        go (suc k, is) = absurd (both_ways (known s.trail.taken.items (negated l)) o.opposite (a.others l (k, is)))

    true_now : IsTrueNow entries clause
    true_now = by r says
      where
        by : (r : Reading) → Says s.trail d.trail clause r → IsTrueNow entries clause
        by (Satisfied l) h = let m = said-satisfied s.trail d.trail clause l (Satisfied l) refl h in true-placed d.trail clause l after.trail.are_placed m.0 m.1
        by (Implied l) h = let m = said-implied s.trail d.trail clause l (Implied l) refl h in true-placed d.trail clause l after.trail.are_placed m.0 m.1
        by Falsified (same, all) = absurd (both_ways (known s.trail.taken.items (negated a.first)) a.is_open.opposite (ap (λ t. known t.taken.items (negated a.first)) (sym same) ∙ all a.first first-in))
        by (Undecided p q) h = two p q (said-undecided s.trail d.trail clause p q (Undecided p q) refl h) (same-trail p q h)
          where
            same-trail : (p q : Literal) → Says s.trail d.trail clause (Undecided p q) → d.trail ≡ s.trail
            same-trail p q (same, reads) = same

            two : (p q : Literal) → Reads (known d.trail.taken.items) clause (Undecided p q) → d.trail ≡ s.trail → IsTrueNow entries clause
            two p q (p_in, p_open, q_in, q_open, ne) same =
                let P : Assigned → Type 0 = λ t. IsOpen (known t.taken.items) p in
                let Q : Assigned → Type 0 = λ t. IsOpen (known t.taken.items) q in
                absurd (ne (only p p_in (subst P same p_open) ∙ sym (only q q_in (subst Q same q_open))))

    true_at : HasTrueAt s.trail.level entries clause
    true_at = let P : ℕ → Type 0 = λ n. HasTrueAt n entries clause in subst P goes.level (true-now entries d.trail.level clause after.trail.have_levels true_now)

    old : (id : ClauseId) (c : List Literal) (y : Literal) → AtRest s.followed s.trail.entries.items s.watches id c y → AtRest d.followed entries d.watches id c y
    old id c y (is_in, heeded) =
        let i = more.grows (code_of y) id is_in in
        let P : ℕ → Type 0 = λ n. IsHeeded n entries c y in (
          (i.0, i.1, ap (λ t. slice_get (waiting t (code_of y)) i.0) watches ∙ i.2, i.3),
          subst P (sym same_followed) (heeded-more s.followed s.trail.entries.items entries c y goes.extends le heeded),
        )

    last : ClauseId
    last = Learnt (vec_len s.watches.learnt)

    lasts : (c : List Literal) → c ≡ clause → HasTrueAt 0 entries c ⊎ Waits (AtRest d.followed entries d.watches last c) d.watches last c
    lasts c e =
        let P : List Literal → Type 0 = λ t. HasTrueAt 0 entries t ⊎ Waits (AtRest d.followed entries d.watches last t) d.watches last t in
        subst P (sym e) (elim a.second [
          | inl (_, z) ↦ inl (let Q : ℕ → Type 0 = λ n. HasTrueAt n entries clause in subst Q z true_at)
          | inr (l, tail, is, f) ↦
              let whole : clause ≡ a.first ∷ l ∷ tail = a.is ∙ ap (λ t. a.first ∷ t) is in
              let two = more.two a.first l tail whole in
              let falsified = a.others l (0, ap (λ t. slice_get t 0) is) in
              let Q : ℕ → Type 0 = λ n. IsHeeded n entries clause a.first in
              let i = two.1 in
              let k = two.2 in
              inr (record {
                pair = record { first = a.first; second = l };
                is = ap (λ t. pair_of t last) watches ∙ two.0;
                first_in = first-in;
                second_in = (1, ap (λ t. slice_get t 1) whole);
                apart = λ s'. both_ways (known s.trail.taken.items (negated a.first)) a.is_open.opposite (ap (λ t. known s.trail.taken.items (negated t)) s' ∙ falsified);
                first = ((i.0, i.1, ap (λ t. slice_get (waiting t (code_of a.first)) i.0) watches ∙ i.2, i.3), subst Q (sym same_followed) (heeded-more s.followed s.trail.entries.items entries clause a.first goes.extends le (heeded-left s.followed s.trail.entries.items clause a.first (open-left s.trail a.first ready.trail.are_placed a.is_open))));
                second = (
                  (k.0, k.1, ap (λ t. slice_get (waiting t (code_of l)) k.0) watches ∙ k.2, k.3),
                  λ n e n_at lit less.
                      let was = goes.extends f.place f.entry f.at in
                      let place : n ≡ f.place = after.trail.distinct n f.place e.literal f.entry.literal (literal-of entries n e n_at) (literal-of entries f.place f.entry was) (ap (λ t. t.variable) (lit ∙ sym f.negates)) in
                      let here : slice_get entries f.place ≡ Some e = ap (λ m. slice_get entries m) (sym place) ∙ n_at in
                      let entry : f.entry ≡ e = cc in
                      let lv : s.trail.level ≡ e.level = sym f.of_level ∙ ap (λ t. t.level) entry in
                      let R : ℕ → Type 0 = λ m. HasTrueAt m entries clause in subst R lv true_at,
                );
              })
        ])

    guarded : (id : ClauseId) (c : List Literal) → IsEntered (length d.clauses.given) id → named 1 d.clauses id ≡ Some c → HasTrueAt 0 entries c ⊎ Waits (AtRest d.followed entries d.watches id c) d.watches id c
    guarded id c en is =
        let is' : named 1 s.clauses id ≡ Some c = ap (λ t. named 1 t id) (sym goes.same) ∙ is in
        elim (name-cases id last) [
          | inl e ↦
              let here : named 1 s.clauses last ≡ Some c = ap (λ i. named 1 s.clauses i) (sym e) ∙ is' in
              let one : c ≡ clause = let z = g.last in cc in
              let P : ClauseId → Type 0 = λ i. HasTrueAt 0 entries c ⊎ Waits (AtRest d.followed entries d.watches i c) d.watches i c in
              subst P (sym e) (lasts c one)
          | inr ne ↦ elim (g.guarded id c ne is') [
            | inl t ↦ inl (true-more s.trail.entries.items entries 0 c goes.extends t)
            | inr t ↦
                let p = more.others id ne in
                inr (record {
                  pair = t.pair;
                  is = ap (λ k. pair_of k id) watches ∙ p ∙ t.is;
                  first_in = t.first_in;
                  second_in = t.second_in;
                  apart = t.apart;
                  first = old id c t.pair.first t.first;
                  second = old id c t.pair.second t.second;
                })
          ]
        ]
