-- What a format can spell, piece by piece.
use Rattle.std.proofs.Common.{◌≡◌, ℕ, zero, suc, ◌+◌, ◌-◌, ◌<◌, ◌≤◌, Bool, true, false, cond, ◌&&◌, ◌||◌, eqb, List, [], ◌∷◌, ◌++◌, length, take, drop, get_or, map, refl, sym, ap, subst, ◌∙◌, arith, inl, inr}
use Rattle.std.specs.List.{All}
use Rattle.std.proofs.lemmas.List.{length-append, length-take-le, length-drop, drop-drop, take_all, take_more, map-append}
use Rattle.std.proofs.lemmas.List.Elements.{All-head, All-tail}
use Rattle.std.proofs.lemmas.Bool.{and_parts, and_from, or_cases, or_left, or_right, eqb-true, eq-eqb}
use Rattle.printf_text.specs.Texts.{HaveKinds, kinds, piece_kinds, piece_text, text_of, conversion_kinds, conversion_text}
use Rattle.printf_text.specs.declared.kind.Kind.{Kind}
use Rattle.printf_text.specs.declared.piece.Arg.{Arg}
use Rattle.printf_text.specs.declared.piece.Conversion.{Conversion}
use Rattle.printf_text.specs.declared.piece.Piece.{Piece}
use Rattle.printf_text.specs.declared.piece.Piece.TheVariants.{Literal, Converted}
use Rattle.positions.specs.Sets.{has}
use Rattle.positions.proofs.Order.{has_more}
use Rattle.format_match.specs.Splits.{begins, meet_all, Spells, IsMet}
use Rattle.format_match.specs.Ways.{met_ends, Describes, ends_of, kept_ends}
use Rattle.format_match.specs.Spelled.{IsSpelled, EndsExactly, IsPieceSpelled, AddsEnds, IsBehind, EndsBehind, AreWithin}
use Rattle.format_match.specs.declared.split.Split.{Split}
use Rattle.format_match.proofs.Following.{begins_short, begins_is, take_begins, begins_append, have_append, text_append, kinds_append, parted, kept_all}

-- ---- a text that stands in a log, by its beginning

both_ways : (b : Bool) → b ≡ false → b ≡ true → ⊥
both_ways b e f = cc

pub spells_begins : (t log : List ℕ) (from end : ℕ) → Spells t log from end → begins t (drop from log) ≡ true
spells_begins t log from end s =
    let short : end - from ≤ length (drop from log) = omega (arith, length-drop from log, s.ordered, s.within) in
    ap (λ u. begins u (drop from log)) s.is ∙ take_begins (end - from) (drop from log) short

pub spells_end : (t log : List ℕ) (from end : ℕ) → Spells t log from end → from + length t ≡ end
spells_end t log from end s =
    let short : end - from ≤ length (drop from log) = omega (arith, length-drop from log, s.ordered, s.within) in
    let long : length t ≡ end - from = ap length s.is ∙ length-take-le (end - from) (drop from log) short in
    omega (arith, long, s.ordered)

pub spells_from : (t log : List ℕ) (from : ℕ) → from ≤ length log → begins t (drop from log) ≡ true → Spells t log from (from + length t)
spells_from t log from h e =
    let back : from + length t - from ≡ length t = omega arith in
    record { ordered = omega arith; within = omega (arith, begins_short t (drop from log) e, length-drop from log); is = begins_is t (drop from log) e ∙ ap (λ n. take n (drop from log)) (sym back) }

-- ---- pieces before one more

pub spelled_none : (log : List ℕ) (from : ℕ) → from ≤ length log → EndsExactly [] log from (from ∷ [])
spelled_none log from h end = (there, back)
  where
    there : has (from ∷ []) end ≡ true → IsSpelled [] log from end
    there m = elim (or_cases (eqb from end) false m) [
      | inl e ↦ subst (λ n. IsSpelled [] log from n) (eqb-true from end e)
          (record { args = []; have = tt; spells = subst (λ n. Spells [] log from n) (omega arith) (spells_from [] log from h refl) })
      | inr r ↦ absurd cc
    ]

    back : IsSpelled [] log from end → has (from ∷ []) end ≡ true
    back s = or_left (eqb from end) false (eq-eqb from end (of s.args s.have s.spells))
      where
        of : (args : List Arg) → HaveKinds [] args → Spells (text_of [] args) log from end → from ≡ end
        of args k t = sym (omega arith) ∙ spells_end [] log from end t

-- the text of pieces and of one more, in two parts
pub record IsCut (s t log : List ℕ) (from end : ℕ) : Type 0 where
  pub mid : ℕ
  pub front : Spells s log from mid
  pub back : Spells t log mid end

pub cut : (s t log : List ℕ) (from end : ℕ) → Spells (s ++ t) log from end → IsCut s t log from end
cut s t log from end p =
    let e : begins s (drop from log) && begins t (drop (length s) (drop from log)) ≡ true = sym (begins_append s t (drop from log)) ∙ spells_begins (s ++ t) log from end p in
    let q = and_parts (begins s (drop from log)) (begins t (drop (length s) (drop from log))) e in
    let h : from ≤ length log = omega (arith, p.ordered, p.within) in
    let m : from + length s ≤ length log = omega (arith, begins_short s (drop from log) q.0, length-drop from log) in
    let b : begins t (drop (from + length s) log) ≡ true = subst (λ l. begins t l ≡ true) (drop-drop (length s) from log) q.1 in
    let last : from + length s + length t ≡ end = omega (arith, spells_end (s ++ t) log from end p, length-append s t) in
    record { mid = from + length s; front = spells_from s log from h q.0; back = subst (λ n. Spells t log (from + length s) n) last (spells_from t log (from + length s) m b) }

pub joined : (s t log : List ℕ) (from mid end : ℕ) → Spells s log from mid → Spells t log mid end → Spells (s ++ t) log from end
joined s t log from mid end p q =
    let h : from ≤ length log = omega (arith, p.ordered, p.within) in
    let a : from + length s ≡ mid = spells_end s log from mid p in
    let b : begins t (drop (length s) (drop from log)) ≡ true =
    subst (λ l. begins t l ≡ true) (sym (drop-drop (length s) from log)) (subst (λ n. begins t (drop n log) ≡ true) (sym a) (spells_begins t log mid end q)) in
    let e : begins (s ++ t) (drop from log) ≡ true = begins_append s t (drop from log) ∙ and_from (begins s (drop from log)) (begins t (drop (length s) (drop from log))) (spells_begins s log from mid p) b in
    let last : from + length (s ++ t) ≡ end = omega (arith, length-append s t, a, spells_end t log mid end q) in
    subst (λ n. Spells (s ++ t) log from n) last (spells_from (s ++ t) log from h e)

-- arguments of pieces and of one more
module _ (ps : List Piece) (p : Piece) (log : List ℕ) (from end : ℕ) where
  pub spelled_more : (mid : ℕ) → IsSpelled ps log from mid → IsPieceSpelled p log mid end → IsSpelled (ps ++ p ∷ []) log from end
  spelled_more mid s q = record {
    args = s.args ++ q.args;
    have = subst (λ k. HaveKinds k (s.args ++ q.args)) (sym (kinds_append ps p)) (have_append (kinds ps) (piece_kinds p) s.args q.args s.have q.have);
    spells = subst (λ t. Spells t log from end) (sym (text_append ps p s.args q.args s.have))
        (joined (text_of ps s.args) (piece_text p q.args) log from mid end s.spells q.spells);
  }

  pub record IsParted : Type 0 where
    pub mid : ℕ
    pub front : IsSpelled ps log from mid
    pub back : IsPieceSpelled p log mid end

  pub spelled_parts : IsSpelled (ps ++ p ∷ []) log from end → IsParted
  spelled_parts s =
      let a = parted (kinds ps) (piece_kinds p) s.args (subst (λ k. HaveKinds k s.args) (kinds_append ps p) s.have) in
      let t : Spells (text_of ps a.front ++ piece_text p a.back) log from end =
      subst (λ u. Spells u log from end) (ap (text_of (ps ++ p ∷ [])) a.is ∙ text_append ps p a.front a.back a.front_have) s.spells in
      let c = cut (text_of ps a.front) (piece_text p a.back) log from end t in
      record { mid = c.mid; front = record { args = a.front; have = a.front_have; spells = c.front }; back = record { args = a.back; have = a.back_have; spells = c.back } }

pub ends_more : (ps : List Piece) (p : Piece) (log : List ℕ) (from : ℕ) (before ends : List ℕ) → EndsExactly ps log from before → EndsBehind p log before ends → EndsExactly (ps ++ p ∷ []) log from ends
ends_more ps p log from before ends b e end = (there, back)
  where
    there : has ends end ≡ true → IsSpelled (ps ++ p ∷ []) log from end
    there m = let r = (e end).0 m in spelled_more ps p log from end r.from ((b r.from).0 r.begins) r.spelled

    back : IsSpelled (ps ++ p ∷ []) log from end → has ends end ≡ true
    back s = let r = spelled_parts ps p log from end s in (e end).1 (record { from = r.mid; begins = (b r.mid).1 r.front; spelled = r.back })

pub ends_within : (ps : List Piece) (log : List ℕ) (from : ℕ) (ends : List ℕ) → EndsExactly ps log from ends → AreWithin log ends
ends_within ps log from ends e y m = ((e y).0 m).spells.within

-- ---- one piece behind some positions

pub behind_none : (p : Piece) (log : List ℕ) → EndsBehind p log [] []
behind_none p log end = (λ m. absurd cc, λ b. absurd (both_ways false refl b.begins))

-- an item of a set is one of them
pub stands : (xs : List ℕ) (i : ℕ) → i < length xs → has xs (get_or xs i 0) ≡ true
stands [] i h = absurd (omega arith)
stands (x ∷ xs) zero h = or_left (eqb x x) (has xs x) (eq-eqb x x refl)
stands (x ∷ xs) (suc i) h = or_right (eqb x (get_or xs i 0)) (has xs (get_or xs i 0)) (stands xs i (omega arith))

pub taken : (xs : List ℕ) (i y : ℕ) → i < length xs → has (take (i + 1) xs) y ≡ (has (take i xs) y || eqb (get_or xs i 0) y)
taken xs i y h = ap (λ l. has l y) (take_more xs i 0 h) ∙ has_more (take i xs) (get_or xs i 0) y

module _ (p : Piece) (log before : List ℕ) (i : ℕ) (old now : List ℕ) (h : i < length before) (e : EndsBehind p log (take i before) old) (a : AddsEnds p log (get_or before i 0) old now) (end : ℕ) where
  abbrev from : ℕ
  from = get_or before i 0

  there : has now end ≡ true → IsBehind p log (take (i + 1) before) end
  there m = elim (or_cases (has old end) (has a.added end) (sym (a.same end) ∙ m)) [
    | inl o ↦ (let r = (e end).0 o in record { from = r.from; begins = taken before i r.from h ∙ or_left (has (take i before) r.from) (eqb from r.from) r.begins; spelled = r.spelled })
    | inr n ↦ record { from = from; begins = taken before i from h ∙ or_right (has (take i before) from) (eqb from from) (eq-eqb from from refl); spelled = (a.exact end).0 n }
  ]

  back : IsBehind p log (take (i + 1) before) end → has now end ≡ true
  back r = a.same end ∙ elim (or_cases (has (take i before) r.from) (eqb from r.from) (sym (taken before i r.from h) ∙ r.begins)) [
    | inl o ↦ or_left (has old end) (has a.added end) ((e end).1 (record { from = r.from; begins = o; spelled = r.spelled }))
    | inr n ↦ or_right (has old end) (has a.added end) ((a.exact end).1 (subst (λ f. IsPieceSpelled p log f end) (sym (eqb-true from r.from n)) r.spelled))
  ]

  pub behind_more : (has now end ≡ true → IsBehind p log (take (i + 1) before) end) × (IsBehind p log (take (i + 1) before) end → has now end ≡ true)
  behind_more = (there, back)

pub behind_all : (p : Piece) (log before : List ℕ) (i : ℕ) (ends : List ℕ) → length before ≤ i → EndsBehind p log (take i before) ends → EndsBehind p log before ends
behind_all p log before i ends h e = subst (λ l. EndsBehind p log l ends) (take_all i before h) e

-- ---- a literal

pub literal_none : (bytes log : List ℕ) (from : ℕ) (old : List ℕ) → begins bytes (drop from log) ≡ false → AddsEnds (Literal bytes) log from old old
literal_none bytes log from old e = record {
  added = [];
  same = λ y. by (has old y);
  exact = λ end. (λ m. absurd cc, λ s. absurd (both_ways (begins bytes (drop from log)) e (spells_begins bytes log from end s.spells)));
}
  where
    by : (b : Bool) → b ≡ (b || false)
    by true = refl
    by false = refl

pub literal_one : (bytes log : List ℕ) (from : ℕ) (old now : List ℕ) → from ≤ length log → begins bytes (drop from log) ≡ true → ((y : ℕ) → has now y ≡ (has old y || eqb (from + length bytes) y))
    → AddsEnds (Literal bytes) log from old now
literal_one bytes log from old now h e n = record {
  added = (from + length bytes) ∷ [];
  same = λ y. n y ∙ ap (λ b. has old y || b) (by (eqb (from + length bytes) y));
  exact = λ end. (there end, λ s. or_left (eqb (from + length bytes) end) false (eq-eqb (from + length bytes) end (spells_end bytes log from end s.spells)));
}
  where
    by : (b : Bool) → b ≡ (b || false)
    by true = refl
    by false = refl

    there : (end : ℕ) → has ((from + length bytes) ∷ []) end ≡ true → IsPieceSpelled (Literal bytes) log from end
    there end m = elim (or_cases (eqb (from + length bytes) end) false m) [
      | inl q ↦ record { args = []; have = tt; spells = subst (λ x. Spells bytes log from x) (eqb-true (from + length bytes) end q) (spells_from bytes log from h e) }
      | inr r ↦ absurd cc
    ]

-- ---- a conversion, by its splits

abbrev pub split_ends : List Split → List ℕ
split_ends splits = map (λ s. s.end) splits

pub split_ends_more : (splits : List Split) (i : ℕ) (s : Split) → i < length splits → s ≡ get_or splits i s → (y : ℕ)
    → has (split_ends (take (i + 1) splits)) y ≡ (has (split_ends (take i splits)) y || eqb s.end y)
split_ends_more splits i s h e y = ap (λ l. has l y) (ap split_ends (take_more splits i s h ∙ ap (λ z. take i splits ++ z ∷ []) (sym e)) ∙ map-append (λ s. s.end) (take i splits) (s ∷ [])) ∙ has_more (split_ends (take i splits)) s.end y

-- an end that some arguments meet is one of the splits'
met_has : (splits : List Split) (args : List Arg) (end : ℕ) → has (met_ends splits args) end ≡ true → has (split_ends splits) end ≡ true
met_has [] args end m = absurd cc
met_has (s ∷ splits) args end m = by (meet_all s.constraints args) refl m (met_has splits args end)
  where
    by : (b : Bool) → meet_all s.constraints args ≡ b → has (cond b (s.end ∷ met_ends splits args) (met_ends splits args)) end ≡ true
        → (has (met_ends splits args) end ≡ true → has (split_ends splits) end ≡ true) → has (split_ends (s ∷ splits)) end ≡ true
    by true e n r = elim (or_cases (eqb s.end end) (has (met_ends splits args) end) n) [
      | inl q ↦ or_left (eqb s.end end) (has (split_ends splits) end) q
      | inr q ↦ or_right (eqb s.end end) (has (split_ends splits) end) (r q)
    ]
    by false e n r = or_right (eqb s.end end) (has (split_ends splits) end) (r n)

-- a split's end is met by some arguments
record MetAt (K : List Kind) (splits : List Split) (end : ℕ) : Type 0 where
  args : List Arg
  have : HaveKinds K args
  met : has (met_ends splits args) end ≡ true

has_met : (K : List Kind) (splits : List Split) (end : ℕ) → All (λ s. IsMet K s) splits → has (split_ends splits) end ≡ true → MetAt K splits end
has_met K [] end a m = absurd cc
has_met K (s ∷ splits) end a m = elim (or_cases (eqb s.end end) (has (split_ends splits) end) m) [
  | inl q ↦ (let r = All-head (λ s. IsMet K s) s splits a in record { args = r.args; have = r.have; met = here r.args (meet_all s.constraints r.args) r.meet q })
  | inr q ↦ (let r = has_met K splits end (All-tail (λ s. IsMet K s) s splits a) q in record { args = r.args; have = r.have; met = there (meet_all s.constraints r.args) (met_ends splits r.args) r.met })
]
  where
    here : (args : List Arg) (b : Bool) → b ≡ true → eqb s.end end ≡ true → has (cond b (s.end ∷ met_ends splits args) (met_ends splits args)) end ≡ true
    here args true e q = or_left (eqb s.end end) (has (met_ends splits args) end) q
    here args false e q = absurd cc

    there : (b : Bool) (l : List ℕ) → has l end ≡ true → has (cond b (s.end ∷ l) l) end ≡ true
    there true l q = or_right (eqb s.end end) (has l end) q
    there false l q = q

ends_of_spells : (t log : List ℕ) (from end : ℕ) → from ≤ length log → has (ends_of t log from) end ≡ true → Spells t log from end
ends_of_spells t log from end h m = by (begins t (drop from log)) refl m
  where
    by : (b : Bool) → begins t (drop from log) ≡ b → has (cond b ((from + length t) ∷ []) []) end ≡ true → Spells t log from end
    by true e n = elim (or_cases (eqb (from + length t) end) false n) [
      | inl q ↦ subst (λ x. Spells t log from x) (eqb-true (from + length t) end q) (spells_from t log from h e)
      | inr r ↦ absurd cc
    ]
    by false e n = absurd cc

spells_ends_of : (t log : List ℕ) (from end : ℕ) → Spells t log from end → has (ends_of t log from) end ≡ true
spells_ends_of t log from end s =
    ap (λ b. has (cond b ((from + length t) ∷ []) []) end) (spells_begins t log from end s)
    ∙ or_left (eqb (from + length t) end) false (eq-eqb (from + length t) end (spells_end t log from end s))

pub converted_ends : (c : Conversion) (M : List Bool) (log : List ℕ) (from : ℕ) (splits : List Split) (old now : List ℕ) → from ≤ length log
    → Describes (conversion_kinds c) M (λ args. kept_ends [] log (ends_of (conversion_text c args) log from)) splits
    → ((y : ℕ) → has now y ≡ (has old y || has (split_ends splits) y)) → AddsEnds (Converted c) log from old now
converted_ends c M log from splits old now h d n = record { added = split_ends splits; same = n; exact = λ end. (there end, back end) }
  where
    there : (end : ℕ) → has (split_ends splits) end ≡ true → IsPieceSpelled (Converted c) log from end
    there end m =
        let r = has_met (conversion_kinds c) splits end d.met m in
        let e : met_ends splits r.args ≡ ends_of (conversion_text c r.args) log from = d.exact r.args r.have ∙ kept_all log (ends_of (conversion_text c r.args) log from) in
        record { args = r.args; have = r.have; spells = ends_of_spells (conversion_text c r.args) log from end h (subst (λ l. has l end ≡ true) e r.met) }

    back : (end : ℕ) → IsPieceSpelled (Converted c) log from end → has (split_ends splits) end ≡ true
    back end s =
        let e : met_ends splits s.args ≡ ends_of (conversion_text c s.args) log from = d.exact s.args s.have ∙ kept_all log (ends_of (conversion_text c s.args) log from) in
        met_has splits s.args end (subst (λ l. has l end ≡ true) (sym e) (spells_ends_of (conversion_text c s.args) log from end s.spells))
