-- What watches guard, as entries come and are followed.
use Rattle.std.proofs.Common.{◌≡◌, ◌<◌, ◌≤◌, ◌⊎◌, ◌+◌, ◌++◌, ◌∷◌, [], ℕ, zero, suc, List, Some, None, Bool, true, false, not, refl, sym, ap, ◌∙◌, inl, inr, subst, arith, length, vec_len, get_or, min}
use Rattle.std.specs.List.{slice_get}
use Rattle.std.specs.Option.{option_map}
use Rattle.std.proofs.lemmas.Bool.{cases_eq, cases_Bool, both_ways}
use Rattle.std.proofs.lemmas.Option.{slice_get_within, slice_get-get_or}
use Rattle.cnf_core.specs.Literal.{Literal, negated, code_of}
use Rattle.cdcl.specs.declared.clauses.ClauseId.{ClauseId}
use Rattle.cdcl.specs.declared.clauses.ClauseId.TheVariants.{Given, Assumed, Learnt}
use Rattle.cdcl.specs.declared.clauses.Clauses.{Clauses}
use Rattle.cdcl.specs.declared.assigned.Entry.{Entry}
use Rattle.cdcl.specs.declared.assigned.Assigned.{Assigned}
use Rattle.cdcl.specs.declared.search.Search.{Search}
use Rattle.cdcl.specs.declared.watching.Watches.{Watches}
use Rattle.cdcl.specs.Sources.{named}
use Rattle.cdcl.specs.Known.{known, Member, IsOpen, Reads}
use Rattle.cdcl.specs.Scoreboards.{Scoreboard}
use Rattle.cdcl.specs.Trails.{literal_at, PlacedBelow, AreDistinct, ArePlaced, HaveLevels, HasDecision, IsLevel, IsCut}
use Rattle.cdcl.specs.Searches.{Extends, Goes, Says, IsReady}
use Rattle.cdcl.specs.Watches.{waiting, IsWaiting}
use Rattle.cdcl.specs.Guards.{HasTrueAt, IsHeeded, AtRest, Waits, IsSettled, IsEntered, AreWatches, AreSound, AreSettled, AreGuarded, AreAhead, Guards, IsTrueNow}
use Rattle.cdcl.specs.declared.assigned.Reading.{Reading}
use Rattle.cdcl.specs.declared.assigned.Reading.TheVariants.{Satisfied, Implied, Undecided}
use Rattle.std.proofs.lemmas.List.{length_push}
use Rattle.cdcl.proofs.Readings.{slice-cases, slice-left}
use Rattle.cdcl.proofs.Placements.{code-within}
use Rattle.cdcl.proofs.Searching.{extends-back, le-cases, named-fits}

pub entry-of : (entries : List Entry) (i : ℕ) (l : Literal) → literal_at entries i ≡ Some l → (e : Entry) × (slice_get entries i ≡ Some e) × (e.literal ≡ l)
entry-of [] i l at = absurd (cc)
entry-of (x ∷ xs) zero l at = (x, refl, cc)
entry-of (x ∷ xs) (suc i) l at = entry-of xs i l at

pub literal-of : (entries : List Entry) (i : ℕ) (e : Entry) → slice_get entries i ≡ Some e → literal_at entries i ≡ Some e.literal
literal-of entries i e at = ap (λ o. option_map (λ x. x.literal) o) at

-- a literal that is true stays true
pub true-more : (old new : List Entry) (level : ℕ) (c : List Literal) → Extends old new → HasTrueAt level old c → HasTrueAt level new c
true-more old new level c extends t = record {
  place = t.place;
  entry = t.entry;
  at = extends t.place t.entry t.at;
  member = t.member;
  below = t.below;
}

pub true-now : (entries : List Entry) (level : ℕ) (c : List Literal) → HaveLevels level entries → IsTrueNow entries c → HasTrueAt level entries c
true-now entries level c h (l, m, b) =
    let r = entry-of entries b.0 l b.2 in
    record {
      place = b.0;
      entry = r.0;
      at = r.1;
      member = let P : Literal → Type 0 = λ k. Member k c in subst P (sym r.2) m;
      below = h.within b.0 r.0 r.1;
    }

pub heeded-more : (n : ℕ) (old new : List Entry) (c : List Literal) (y : Literal) → Extends old new → n ≤ length old → IsHeeded n old c y → IsHeeded n new c y
heeded-more n old new c y extends h is i e at l less =
    true-more old new e.level c extends (is i e (extends-back old new i e extends (omega arith) at) l less)

-- where the negation isn't placed, nothing made the literal false
pub heeded-left : (n : ℕ) (entries : List Entry) (c : List Literal) (y : Literal) → (PlacedBelow (length entries) entries (negated y) → ⊥) → IsHeeded n entries c y
heeded-left n entries c y left i e at l less =
    absurd (left (i, slice_get_within entries i e at, literal-of entries i e at ∙ ap (λ k. Some k) l))

pub waits-map : (P Q : Literal → Type 0) (w : Watches) (id : ClauseId) (c : List Literal) → ((y : Literal) → P y → Q y) → Waits P w id c → Waits Q w id c
waits-map P Q w id c f g = record {
  pair = g.pair;
  is = g.is;
  first_in = g.first_in;
  second_in = g.second_in;
  apart = g.apart;
  first = f g.pair.first g.first;
  second = f g.pair.second g.second;
}

-- what was settled stays settled
pub placed-more : (p : ℕ) (old new : List Entry) (l : Literal) → Extends old new → PlacedBelow p old l → PlacedBelow p new l
placed-more p old new l extends (j, h, at) = let r = entry-of old j l at in (j, h, literal-of new j r.0 (extends j r.0 r.1) ∙ ap (λ k. Some k) r.2)

pub placed-back : (p : ℕ) (old new : List Entry) (l : Literal) → Extends old new → p ≤ length old → PlacedBelow p new l → PlacedBelow p old l
placed-back p old new l extends le (j, h, at) =
    let r = entry-of new j l at in
    (j, h, literal-of old j r.0 (extends-back old new j r.0 extends (omega arith) r.1) ∙ ap (λ k. Some k) r.2)

pub settled-more : (p : ℕ) (old new : List Entry) (c : List Literal) → Extends old new → p ≤ length old → IsSettled p old c → IsSettled p new c
settled-more p old new c extends le s = elim s [
  | inl t ↦ inl (t.0, t.1, placed-more p old new t.0 extends t.2)
  | inr t ↦ inr (record {
    one = t.one;
    another = t.another;
    one_in = t.one_in;
    another_in = t.another_in;
    apart = t.apart;
    one_left = λ b. t.one_left (placed-back p old new (negated t.one) extends le b);
    another_left = λ b. t.another_left (placed-back p old new (negated t.another) extends le b);
  })
]

-- a search goes on over the same watches
pub settled-goes : (a b : Search) → Goes a b → AreSettled a → AreSettled b
settled-goes a b g s p d at none id c is =
    elim (le-cases (length a.trail.entries.items) p) [
      | inl above ↦ absurd ((g.added p d at above).1 none)
      | inr below ↦
          settled-more p a.trail.entries.items b.trail.entries.items c g.extends (omega arith)
          (s p d (extends-back a.trail.entries.items b.trail.entries.items p d g.extends below at) none id c (ap (λ t. named 1 t id) (sym g.same) ∙ is))
    ]

pub ahead-goes : (n : ℕ) (a b : Search) → Goes a b → AreAhead n a → AreAhead n b
ahead-goes n a b g h = record {
  followed = let f = g.followed in omega (arith, h.followed);
  within = omega (arith, h.within, g.grows);
  ahead = λ i e from at. elim (le-cases (length a.trail.entries.items) i) [
    | inl above ↦ (g.added i e at above).0 ∙ sym g.level
    | inr below ↦ h.ahead i e (let f = g.followed in omega arith) (extends-back a.trail.entries.items b.trail.entries.items i e g.extends below at) ∙ sym g.level
  ];
}

pub sound-goes : (a b : Search) → Goes a b → b.watches ≡ a.watches → AreSound a → AreSound b
sound-goes a b g w s = record {
  lists = let r = g.room in let l : vec_len b.watches.lists ≡ vec_len a.watches.lists = ap (λ t. vec_len t.lists) w in omega (arith, s.lists);
  given = ap (λ t. vec_len t.given) w ∙ s.given ∙ ap (λ t. length t.given) (sym g.same);
  learnt = ap (λ t. vec_len t.learnt) w ∙ s.learnt ∙ ap (λ t. length t.learnt) (sym g.same);
  watches = λ k j x at.
      let was = s.watches k j x (ap (λ t. slice_get (waiting t k) j) (sym w) ∙ at) in
      (was.0, ap (λ t. named 1 t x.id) g.same ∙ was.1, was.2);
}

pub rest-goes : (n : ℕ) (a b : Search) (id : ClauseId) (c : List Literal) (y : Literal) → Goes a b → b.watches ≡ a.watches → n ≤ length a.trail.entries.items → AtRest n a.trail.entries.items a.watches id c y → AtRest n b.trail.entries.items b.watches id c y
rest-goes n a b id c y g w le (is_in, heeded) = (
  (is_in.0, is_in.1, ap (λ t. slice_get (waiting t (code_of y)) is_in.0) w ∙ is_in.2, is_in.3),
  heeded-more n a.trail.entries.items b.trail.entries.items c y g.extends le heeded,
)

pub same-watches : (P : Literal → Type 0) (v w : Watches) (id : ClauseId) (c : List Literal) → w ≡ v → Waits P v id c → Waits P w id c
same-watches P v w id c e g = let Q : Watches → Type 0 = λ t. Waits P t id c in subst Q (sym e) g

pub guards-goes : (entered n : ℕ) (a b : Search) → Goes a b → b.watches ≡ a.watches → Guards entered n a → Guards entered n b
guards-goes entered n a b g w s = record {
  sound = sound-goes a b g w s.sound;
  ahead = ahead-goes n a b g s.ahead;
  guarded = λ id c en is. elim (s.guarded id c en (ap (λ t. named 1 t id) (sym g.same) ∙ is)) [
    | inl t ↦ inl (true-more a.trail.entries.items b.trail.entries.items 0 c g.extends t)
    | inr t ↦ inr (same-watches (AtRest n b.trail.entries.items b.watches id c) a.watches b.watches id c w (waits-map (AtRest n a.trail.entries.items a.watches id c) (AtRest n b.trail.entries.items b.watches id c) a.watches id c (λ y at. rest-goes n a b id c y g w s.ahead.within at) t))
  ];
  settled = settled-goes a b g s.settled;
}

-- fewer entries were followed
pub guards-lower : (entered n m : ℕ) (s : Search) → m ≤ n → s.followed ≤ m → Guards entered n s → Guards entered m s
guards-lower entered n m s le f g = record {
  sound = g.sound;
  ahead = record { followed = f; within = omega (arith, g.ahead.within); ahead = g.ahead.ahead };
  guarded = λ id c en is. elim (g.guarded id c en is) [
    | inl t ↦ inl t
    | inr t ↦ inr (waits-map (AtRest n s.trail.entries.items s.watches id c) (AtRest m s.trail.entries.items s.watches id c) s.watches id c (λ y at. (at.0, λ i e is_at l less. at.1 i e is_at l (omega arith))) t)
  ];
  settled = g.settled;
}

-- one more clause waits
abbrev pub index-of : ClauseId → ℕ
index-of (Given i) = i
index-of (Assumed i) = i
index-of (Learnt i) = i

pub waits-more : (n : ℕ) (entries : List Entry) (id other : ClauseId) (p q : Literal) (v w : Watches) (c : List Literal) → IsWaiting id p q v w → (other ≡ id → ⊥) → Waits (AtRest n entries v other c) v other c → Waits (AtRest n entries w other c) w other c
waits-more n entries id other p q v w c more ne g = record {
  pair = g.pair;
  is = more.others other ne ∙ g.is;
  first_in = g.first_in;
  second_in = g.second_in;
  apart = g.apart;
  first = (more.grows (code_of g.pair.first) other g.first.0, g.first.1);
  second = (more.grows (code_of g.pair.second) other g.second.0, g.second.1);
}

pub watches-more : (clauses : Clauses) (id : ClauseId) (p q : Literal) (v w : Watches) (c : List Literal) → IsWaiting id p q v w → named 1 clauses id ≡ Some c → Member p c → Member q c → ((k : ℕ) → AreWatches clauses (waiting v k)) → (k : ℕ) → AreWatches clauses (waiting w k)
watches-more clauses id p q v w c more is p_in q_in all k j x at = elim (more.fresh k j x at) [
  | inl old ↦ all k old.0 x old.1
  | inr new ↦
      let at_id : named 1 clauses x.id ≡ Some c = ap (λ t. named 1 clauses t) new.0 ∙ is in
      elim new.1 [
        | inl e ↦ (c, at_id, let P : Literal → Type 0 = λ t. Member t c in subst P (sym e) p_in)
        | inr e ↦ (c, at_id, let P : Literal → Type 0 = λ t. Member t c in subst P (sym e) q_in)
      ]
]

pub entered-true : (i n : ℕ) (s : Search) → ((c : List Literal) → named 1 s.clauses (Given i) ≡ Some c → HasTrueAt 0 s.trail.entries.items c) → Guards i n s → Guards (i + 1) n s
entered-true i n s now g = record {
  sound = g.sound;
  ahead = g.ahead;
  guarded = go;
  settled = g.settled;
}
  where
    go : AreGuarded (AtRest n s.trail.entries.items s.watches) (i + 1) s
    go (Given k) c en is = elim (cases_eq k i) [
      | inl e ↦ inl (now c (ap (λ t. named 1 s.clauses (Given t)) (sym e) ∙ is))
      | inr ne ↦ g.guarded (Given k) c (omega arith) is
    ]
    go (Assumed k) c en is = absurd (cc)
    go (Learnt k) c en is = g.guarded (Learnt k) c tt is

pub entered-waits : (i n : ℕ) (s : Search) (p q : Literal) (w : Watches) (c : List Literal) → named 1 s.clauses (Given i) ≡ Some c → Member p c → Member q c → (p ≡ q → ⊥) → (PlacedBelow (length s.trail.entries.items) s.trail.entries.items (negated p) → ⊥) → (PlacedBelow (length s.trail.entries.items) s.trail.entries.items (negated q) → ⊥)
    → IsWaiting (Given i) p q s.watches w → Guards i n s → Guards (i + 1) n (record { clauses = s.clauses; trail = s.trail; choice = s.choice; watches = w; followed = s.followed })
entered-waits i n s p q w c is p_in q_in apart p_left q_left more g = record {
  sound = record {
    lists = more.sizes.lists ∙ g.sound.lists;
    given = more.sizes.given ∙ g.sound.given;
    learnt = more.sizes.learnt ∙ g.sound.learnt;
    watches = watches-more s.clauses (Given i) p q s.watches w c more is p_in q_in g.sound.watches;
  };
  ahead = record { followed = g.ahead.followed; within = g.ahead.within; ahead = g.ahead.ahead };
  guarded = go;
  settled = g.settled;
}
  where
    entries : List Entry
    entries = s.trail.entries.items

    still : (other : ClauseId) (t : List Literal) → (other ≡ Given i → ⊥) → IsEntered i other → named 1 s.clauses other ≡ Some t → HasTrueAt 0 entries t ⊎ Waits (AtRest n entries w other t) w other t
    still other t ne en at = elim (g.guarded other t en at) [
      | inl h ↦ inl h
      | inr h ↦ inr (waits-more n entries (Given i) other p q s.watches w t more ne h)
    ]

    new : (t : List Literal) → c ≡ t → Waits (AtRest n entries w (Given i) t) w (Given i) t
    new t e = let P : List Literal → Type 0 = λ k. Waits (AtRest n entries w (Given i) k) w (Given i) k in subst P e (record {
      pair = record { first = p; second = q };
      is = more.pair;
      first_in = p_in;
      second_in = q_in;
      apart = apart;
      first = (more.first_in, heeded-left n entries c p p_left);
      second = (more.second_in, heeded-left n entries c q q_left);
    })

    go : (id : ClauseId) (t : List Literal) → IsEntered (i + 1) id → named 1 s.clauses id ≡ Some t → HasTrueAt 0 entries t ⊎ Waits (AtRest n entries w id t) w id t
    go (Given k) t en at = elim (cases_eq k i) [
      | inl e ↦
          let here : named 1 s.clauses (Given i) ≡ Some t = ap (λ m. named 1 s.clauses (Given m)) (sym e) ∙ at in
          let one : c ≡ t = cc in
          let P : ℕ → Type 0 = λ m. HasTrueAt 0 entries t ⊎ Waits (AtRest n entries w (Given m) t) w (Given m) t in
          subst P (sym e) (inr (new t one))
      | inr ne ↦ still (Given k) t (λ e. ne (ap index-of e)) (omega arith) at
    ]
    go (Assumed k) t en at = absurd (cc)
    go (Learnt k) t en at = still (Learnt k) t (λ e. cc) tt at

-- a literal that is true isn't false
pub true-left : (t : Assigned) (l : Literal) → AreDistinct t.entries.items → ArePlaced t.entries.items t.taken.items → known t.taken.items l ≡ true → PlacedBelow (length t.entries.items) t.entries.items (negated l) → ⊥
true-left t l d p k b =
    let a = p.placed l k in
    let i : a.0 ≡ b.0 = d a.0 b.0 l (negated l) a.2 b.2 refl in
    let at : literal_at t.entries.items b.0 ≡ Some l = ap (λ n. literal_at t.entries.items n) (sym i) ∙ a.2 in
    let was = b.2 in
    let same : l ≡ negated l = cc in
    differs l.positive (ap (λ x. x.positive) same)
  where
    differs : (b : Bool) → b ≡ not b → ⊥
    differs true e = cc
    differs false e = cc

pub open-left : (t : Assigned) (l : Literal) → ArePlaced t.entries.items t.taken.items → IsOpen (known t.taken.items) l → PlacedBelow (length t.entries.items) t.entries.items (negated l) → ⊥
open-left t l p o b = both_ways (known t.taken.items (negated l)) o.opposite (p.kept b.0 (negated l) b.2)

pub true-placed : (t : Assigned) (c : List Literal) (l : Literal) → ArePlaced t.entries.items t.taken.items → Member l c → known t.taken.items l ≡ true → IsTrueNow t.entries.items c
true-placed t c l p m k = (l, m, p.placed l k)

-- what a clause says, where it is read
pub said-undecided : (old new : Assigned) (c : List Literal) (p q : Literal) (r : Reading) → r ≡ Undecided p q → Says old new c r → Reads (known new.taken.items) c (Undecided p q)
said-undecided old new c p q r is says = let P : Reading → Type 0 = λ t. Says old new c t in go (subst P is says)
  where
    go : Says old new c (Undecided p q) → Reads (known new.taken.items) c (Undecided p q)
    go (same, reads) = reads

pub said-satisfied : (old new : Assigned) (c : List Literal) (l : Literal) (r : Reading) → r ≡ Satisfied l → Says old new c r → Member l c × (known new.taken.items l ≡ true)
said-satisfied old new c l r is says = let P : Reading → Type 0 = λ t. Says old new c t in go (subst P is says)
  where
    go : Says old new c (Satisfied l) → Member l c × (known new.taken.items l ≡ true)
    go (same, m, k) = (m, k)

pub said-implied : (old new : Assigned) (c : List Literal) (l : Literal) (r : Reading) → r ≡ Implied l → Says old new c r → Member l c × (known new.taken.items l ≡ true)
said-implied old new c l r is says = let P : Reading → Type 0 = λ t. Says old new c t in subst P is says

pub code-fits : (s : Search) (id : ClauseId) (c : List Literal) (l : Literal) → IsReady s → AreSound s → named 1 s.clauses id ≡ Some c → Member l c → code_of l < vec_len s.watches.lists
code-fits s id c l r sound is m = code-within l (vec_len s.trail.levels) (vec_len s.watches.lists) (named-fits (vec_len s.trail.levels) s.clauses id c r.fits r.learnt_fit is l m) sound.lists

pub goes-guards : (entered : ℕ) (a b : Search) → Goes a b → b.watches ≡ a.watches → Guards entered a.followed a → Guards entered b.followed b
goes-guards entered a b g w guards = let P : ℕ → Type 0 = λ n. Guards entered n b in subst P (sym g.followed) (guards-goes entered a.followed a b g w guards)

-- a search goes on at the same level
pub guards-on : (a b : Search) → Goes a b → b.watches ≡ a.watches → Guards (length a.clauses.given) a.followed a → Guards (length b.clauses.given) b.followed b
guards-on a b g w guards = let P : ℕ → Type 0 = λ n. Guards n b.followed b in subst P (ap (λ t. length t.given) (sym g.same)) (goes-guards (length a.clauses.given) a b g w guards)

-- a clause given is true at level 0, or waits at two literals
pub enters-true : (i : ℕ) (a b : Search) (l : Literal) → IsReady b → Goes a b → b.watches ≡ a.watches → a.trail.level ≡ 0 → ((t : List Literal) → named 1 a.clauses (Given i) ≡ Some t → Member l t × (known b.trail.taken.items l ≡ true)) → Guards i a.followed a → Guards (i + 1) b.followed b
enters-true i a b l ready g w root says guards =
    entered-true i b.followed b
    (λ t is.
    let m = says t (ap (λ k. named 1 k (Given i)) (sym g.same) ∙ is) in
    let h = true-now b.trail.entries.items b.trail.level t ready.trail.have_levels (true-placed b.trail t l ready.trail.are_placed m.0 m.1) in
    let zero_level : b.trail.level ≡ 0 = g.level ∙ root in
    let P : ℕ → Type 0 = λ m. HasTrueAt m b.trail.entries.items t in subst P zero_level h)
    (goes-guards i a b g w guards)

pub enters-waits : (i : ℕ) (a b : Search) (p q : Literal) (v : Watches) (t : List Literal) → IsReady b → named 1 a.clauses (Given i) ≡ Some t → Goes a b → b.watches ≡ a.watches → Reads (known b.trail.taken.items) t (Undecided p q) → IsWaiting (Given i) p q b.watches v → Guards i a.followed a → Guards (i + 1) b.followed (record { clauses = b.clauses; trail = b.trail; choice = b.choice; watches = v; followed = b.followed })
enters-waits i a b p q v t ready is g w (p_in, p_open, q_in, q_open, apart) more guards =
    entered-waits i b.followed b p q v t (ap (λ k. named 1 k (Given i)) g.same ∙ is) p_in q_in apart (open-left b.trail p ready.trail.are_placed p_open) (open-left b.trail q ready.trail.are_placed q_open) more (goes-guards i a b g w guards)

pub guards-followed : (entered n : ℕ) (s : Search) → Guards entered n s → Guards entered n (record { clauses = s.clauses; trail = s.trail; choice = s.choice; watches = s.watches; followed = n })
guards-followed entered n s g = record {
  sound = record { lists = g.sound.lists; given = g.sound.given; learnt = g.sound.learnt; watches = g.sound.watches };
  ahead = record {
    followed = omega arith;
    within = g.ahead.within;
    ahead = λ i e from at. g.ahead.ahead i e (omega (arith, g.ahead.followed)) at;
  };
  guarded = g.guarded;
  settled = g.settled;
}

-- where all entries were followed, each clause is settled
pub all-settled : (s : Search) → IsReady s → s.followed ≡ length s.trail.entries.items → Guards (length s.clauses.given) s.followed s → (id : ClauseId) (c : List Literal) → named 1 s.clauses id ≡ Some c → IsSettled (length s.trail.entries.items) s.trail.entries.items c
all-settled s ready whole g id c is = elim (g.guarded id c (entered id is) is) [
  | inl t ↦ inl (truth t)
  | inr w ↦ by w (cases_Bool (known s.trail.taken.items (negated w.pair.first))) (cases_Bool (known s.trail.taken.items (negated w.pair.second)))
]
  where
    entries : List Entry
    entries = s.trail.entries.items

    entered : (id : ClauseId) → named 1 s.clauses id ≡ Some c → IsEntered (length s.clauses.given) id
    entered (Given i) at = slice_get_within s.clauses.given i c at
    entered (Assumed i) at = tt
    entered (Learnt i) at = tt

    truth : {level : ℕ} → HasTrueAt level entries c → (l : Literal) × Member l c × PlacedBelow (length entries) entries l
    truth t = (t.entry.literal, t.member, (t.place, slice_get_within entries t.place t.entry t.at, literal-of entries t.place t.entry t.at))

    falsified : (y : Literal) → IsHeeded s.followed entries c y → known s.trail.taken.items (negated y) ≡ true → (l : Literal) × Member l c × PlacedBelow (length entries) entries l
    falsified y heeded k =
        let b = ready.trail.are_placed.placed (negated y) k in
        let r = entry-of entries b.0 (negated y) b.2 in
        truth (heeded b.0 r.0 r.1 r.2 (let h = b.1 in omega (arith, whole)))

    by : (w : Waits (AtRest s.followed entries s.watches id c) s.watches id c) → (known s.trail.taken.items (negated w.pair.first) ≡ true) ⊎ (known s.trail.taken.items (negated w.pair.first) ≡ false) → (known s.trail.taken.items (negated w.pair.second) ≡ true) ⊎ (known s.trail.taken.items (negated w.pair.second) ≡ false) → IsSettled (length entries) entries c
    by w (inl k) second = inl (falsified w.pair.first w.first.1 k)
    by w (inr f) (inl k) = inl (falsified w.pair.second w.second.1 k)
    by w (inr f) (inr g) = inr (record {
      one = w.pair.first;
      another = w.pair.second;
      one_in = w.first_in;
      another_in = w.second_in;
      apart = w.apart;
      one_left = λ b. both_ways (known s.trail.taken.items (negated w.pair.first)) f (ready.trail.are_placed.kept b.0 (negated w.pair.first) b.2);
      another_left = λ b. both_ways (known s.trail.taken.items (negated w.pair.second)) g (ready.trail.are_placed.kept b.0 (negated w.pair.second) b.2);
    })

-- a literal is decided
pub guards-decided : (a b : Search) (e : Entry) → IsReady a → a.followed ≡ length a.trail.entries.items → Guards (length a.clauses.given) a.followed a
    → b.trail.entries.items ≡ a.trail.entries.items ++ e ∷ [] → b.trail.level ≡ e.level → b.clauses ≡ a.clauses → b.watches ≡ a.watches → b.followed ≡ a.followed → vec_len b.trail.levels ≡ vec_len a.trail.levels
    → Guards (length b.clauses.given) b.followed b
guards-decided a b e ready whole g entries level clauses watches followed room = record {
  sound = record {
    lists = let l : vec_len b.watches.lists ≡ vec_len a.watches.lists = ap (λ t. vec_len t.lists) watches in omega (arith, g.sound.lists);
    given = ap (λ t. vec_len t.given) watches ∙ g.sound.given ∙ ap (λ t. length t.given) (sym clauses);
    learnt = ap (λ t. vec_len t.learnt) watches ∙ g.sound.learnt ∙ ap (λ t. length t.learnt) (sym clauses);
    watches = λ k j x at.
        let was = g.sound.watches k j x (ap (λ t. slice_get (waiting t k) j) (sym watches) ∙ at) in
        (was.0, ap (λ t. named 1 t x.id) clauses ∙ was.1, was.2);
  };
  ahead = record {
    followed = omega arith;
    within = omega (arith, more, whole);
    ahead = λ i x from at. elim (slice-cases a.trail.entries.items e x i (ap (λ t. slice_get t i) (sym entries) ∙ at)) [
      | inl f ↦ let h = slice_get_within a.trail.entries.items i x f in absurd (omega (arith, whole))
      | inr f ↦ ap (λ t. t.level) f.1 ∙ sym level
    ];
  };
  guarded = λ id c en is.
      let en' : IsEntered (length a.clauses.given) id = let P : Clauses → Type 0 = λ t. IsEntered (length t.given) id in subst P clauses en in
      elim (g.guarded id c en' (ap (λ t. named 1 t id) (sym clauses) ∙ is)) [
        | inl t ↦ inl (true-more a.trail.entries.items b.trail.entries.items 0 c extends t)
        | inr t ↦ inr (same-watches (AtRest b.followed b.trail.entries.items b.watches id c) a.watches b.watches id c watches (waits-map (AtRest a.followed a.trail.entries.items a.watches id c) (AtRest b.followed b.trail.entries.items b.watches id c) a.watches id c (λ y at. rest id c y at) t))
      ];
  settled = λ p d at none id c is.
      let is' : named 1 a.clauses id ≡ Some c = ap (λ t. named 1 t id) (sym clauses) ∙ is in
      elim (slice-cases a.trail.entries.items e d p (ap (λ t. slice_get t p) (sym entries) ∙ at)) [
        | inl f ↦ let h = slice_get_within a.trail.entries.items p d f in settled-more p a.trail.entries.items b.trail.entries.items c extends (omega arith) (g.settled p d f none id c is')
        | inr f ↦
            let s = settled-more (length a.trail.entries.items) a.trail.entries.items b.trail.entries.items c extends (omega arith) (all-settled a ready whole g id c is') in
            let P : ℕ → Type 0 = λ n. IsSettled n b.trail.entries.items c in subst P (sym f.0) s
      ];
}
  where
    more : length b.trail.entries.items ≡ length a.trail.entries.items + 1
    more = ap length entries ∙ length_push a.trail.entries.items e

    extends : Extends a.trail.entries.items b.trail.entries.items
    extends i x at = ap (λ t. slice_get t i) entries ∙ slice-left a.trail.entries.items e x i at

    rest : (id : ClauseId) (c : List Literal) (y : Literal) → AtRest a.followed a.trail.entries.items a.watches id c y → AtRest b.followed b.trail.entries.items b.watches id c y
    rest id c y ((k, x, at, is), heeded) =
        let P : ℕ → Type 0 = λ n. IsHeeded n b.trail.entries.items c y in (
          (k, x, ap (λ t. slice_get (waiting t (code_of y)) k) watches ∙ at, is),
          subst P (sym followed) (heeded-more a.followed a.trail.entries.items b.trail.entries.items c y extends (omega (arith, whole)) heeded),
        )

-- the scores alone are others
abbrev pub with_scores : Assigned → Scoreboard → Assigned
with_scores t board = record { entries = t.entries; taken = t.taken; levels = t.levels; level = t.level; scores = board }

pub guards-scored : (entered n : ℕ) (a : Search) (board : Scoreboard) → Guards entered n a → Guards entered n (record { clauses = a.clauses; trail = with_scores a.trail board; choice = a.choice; watches = a.watches; followed = a.followed })
guards-scored entered n a board g = record {
  sound = record { lists = g.sound.lists; given = g.sound.given; learnt = g.sound.learnt; watches = g.sound.watches };
  ahead = record { followed = g.ahead.followed; within = g.ahead.within; ahead = g.ahead.ahead };
  guarded = g.guarded;
  settled = g.settled;
}

-- entries were taken back
pub guards-cut : (level : ℕ) (a b : Search) → IsCut level a.trail.entries.items b.trail.entries.items → b.trail.level ≡ level → b.clauses ≡ a.clauses → b.watches ≡ a.watches → vec_len b.trail.levels ≡ vec_len a.trail.levels
    → level ≤ a.trail.level → b.followed ≡ min a.followed (length b.trail.entries.items) → Guards (length a.clauses.given) a.followed a → Guards (length b.clauses.given) b.followed b
guards-cut level a b cut at clauses watches room within-level followed g = record {
  sound = record {
    lists = let l : vec_len b.watches.lists ≡ vec_len a.watches.lists = ap (λ t. vec_len t.lists) watches in omega (arith, g.sound.lists);
    given = ap (λ t. vec_len t.given) watches ∙ g.sound.given ∙ ap (λ t. length t.given) (sym clauses);
    learnt = ap (λ t. vec_len t.learnt) watches ∙ g.sound.learnt ∙ ap (λ t. length t.learnt) (sym clauses);
    watches = λ k j x is.
        let was = g.sound.watches k j x (ap (λ t. slice_get (waiting t k) j) (sym watches) ∙ is) in
        (was.0, ap (λ t. named 1 t x.id) clauses ∙ was.1, was.2);
  };
  ahead = record {
    followed = omega arith;
    within = omega (arith, followed);
    ahead = λ i e from is.
        let h = slice_get_within b.trail.entries.items i e is in
        let was = g.ahead.ahead i e (omega (arith, followed)) (cut.first i e is) in
        let below = cut.below i e is in
        let top = within-level in
        omega (arith, at, was, below, top);
  };
  guarded = λ id c en is.
      let en' : IsEntered (length a.clauses.given) id = let P : Clauses → Type 0 = λ t. IsEntered (length t.given) id in subst P clauses en in
      elim (g.guarded id c en' (ap (λ t. named 1 t id) (sym clauses) ∙ is)) [
        | inl t ↦ inl (truth 0 (omega arith) c t)
        | inr t ↦ inr (same-watches (AtRest b.followed b.trail.entries.items b.watches id c) a.watches b.watches id c watches (waits-map (AtRest a.followed a.trail.entries.items a.watches id c) (AtRest b.followed b.trail.entries.items b.watches id c) a.watches id c (λ y r. rest id c y r) t))
      ];
  settled = λ p d is none id c named_c.
      let h = slice_get_within b.trail.entries.items p d is in
      cut-settled p c (omega arith) (g.settled p d (cut.first p d is) none id c (ap (λ t. named 1 t id) (sym clauses) ∙ named_c));
}
  where
    truth : (l : ℕ) → l ≤ level → (c : List Literal) → HasTrueAt l a.trail.entries.items c → HasTrueAt l b.trail.entries.items c
    truth l le c t = record { place = t.place; entry = t.entry; at = cut.keeps t.place t.entry t.at (let h = t.below in omega arith); member = t.member; below = t.below }

    rest : (id : ClauseId) (c : List Literal) (y : Literal) → AtRest a.followed a.trail.entries.items a.watches id c y → AtRest b.followed b.trail.entries.items b.watches id c y
    rest id c y ((k, x, x_at, is), heeded) = (
      (k, x, ap (λ t. slice_get (waiting t (code_of y)) k) watches ∙ x_at, is),
      λ i e e_at l less. truth e.level (cut.below i e e_at) c (heeded i e (cut.first i e e_at) l (omega (arith, followed))),
    )

    back : (p : ℕ) (l : Literal) → PlacedBelow p b.trail.entries.items l → PlacedBelow p a.trail.entries.items l
    back p l (j, h, is) = let r = entry-of b.trail.entries.items j l is in (j, h, literal-of a.trail.entries.items j r.0 (cut.first j r.0 r.1) ∙ ap (λ k. Some k) r.2)

    stays : (p : ℕ) (l : Literal) → p ≤ length b.trail.entries.items → PlacedBelow p a.trail.entries.items l → PlacedBelow p b.trail.entries.items l
    stays p l le (j, h, is) =
        let r = entry-of a.trail.entries.items j l is in
        let x = slice_get-get_or b.trail.entries.items j r.0 (omega arith) in
        let was = cut.first j (get_or b.trail.entries.items j r.0) x in
        let one : get_or b.trail.entries.items j r.0 ≡ r.0 = let z = r.1 in cc in
        (j, h, literal-of b.trail.entries.items j r.0 (x ∙ ap (λ t. Some t) one) ∙ ap (λ k. Some k) r.2)

    cut-settled : (p : ℕ) (c : List Literal) → p ≤ length b.trail.entries.items → IsSettled p a.trail.entries.items c → IsSettled p b.trail.entries.items c
    cut-settled p c le s = elim s [
      | inl t ↦ inl (t.0, t.1, stays p t.0 le t.2)
      | inr t ↦ inr (record {
        one = t.one;
        another = t.another;
        one_in = t.one_in;
        another_in = t.another_in;
        apart = t.apart;
        one_left = λ h. t.one_left (back p (negated t.one) h);
        another_left = λ h. t.another_left (back p (negated t.another) h);
      })
    ]

pub begun-cut : (level top : ℕ) (old new : List Entry) → HaveLevels top old → IsLevel level old → IsCut level old new → 2 ≤ level → HasDecision level new
begun-cut level top old new h is cut one = elim is [
  | inl z ↦ absurd (omega arith)
  | inr (i, e, at, l) ↦
      let d = h.begun i e at (omega arith) in
      let same : d.1.level ≡ level = d.4 ∙ l in
      (d.0, d.1, cut.keeps d.0 d.1 d.2 (omega arith), d.3, same)
]

-- where all of a level has gone, what was followed is what is left
pub cut-whole : (level : ℕ) (a : Search) (new : List Entry) (n : ℕ) → AreAhead a.followed a → IsCut level a.trail.entries.items new → level < a.trail.level → n ≡ min a.followed (length new) → n ≡ length new
cut-whole level a new n ahead cut less is = elim (le-cases (length new) a.followed) [
  | inl h ↦ omega (arith, is)
  | inr h ↦
      let e = get_or new a.followed none in
      let at = slice_get-get_or new a.followed none h in
      let was = ahead.ahead a.followed e (omega arith) (cut.first a.followed e at) in
      let below = cut.below a.followed e at in
      absurd (omega arith)
]
  where
    none : Entry
    none = record { literal = record { variable = 0; positive = true }; reason = None; level = 0 }
