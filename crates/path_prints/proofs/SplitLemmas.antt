-- Splits of one piece are met at the end where the log has its text.
use Rattle.std.proofs.Common.{◌≡◌, ℕ, zero, suc, ◌+◌, ◌-◌, ◌≤◌, Bool, true, false, cond, List, [], ◌∷◌, length, take, drop, All, Some, None, refl, sym, ap, subst, ◌∙◌, arith, append-nil}
use Rattle.std.specs.Prelude.{nat_eq, ◌&&◌}
use Rattle.std.specs.List.{Contains, starts_with}
use Rattle.std.proofs.lemmas.Bool.Decides.{nat_tests}
use Rattle.std.proofs.lemmas.List.{length-take-le, length-drop}
use Rattle.std.proofs.lemmas.List.Elements.{All-nil, All-cons, All-contains, Contains-append_right, Contains-get_or}
use Rattle.printf_text.specs.Texts.{HaveKinds, piece_kinds, piece_text, kinds, text_of}
use Rattle.printf_text.specs.declared.piece.Arg.{Arg}
use Rattle.printf_text.specs.declared.piece.Piece.{Piece}
use Rattle.format_match.specs.Splits.{meet_all, Spells, IsMetAt, met_splits, SplitsExactly}
use Rattle.format_match.specs.Ways.{met_ends}
use Rattle.format_match.specs.declared.split.Split.{Split}
use Rattle.core_tree.specs.States.{along, follows}
use Rattle.path_states.specs.Ways.{to_list}

-- ---- texts in a log

both_true : (a b : Bool) → (a && b) ≡ true → (a ≡ true) × (b ≡ true)
both_true true b h = (refl, h)
both_true false b h = absurd (cc)

eq_of : (a b : ℕ) → nat_eq a b ≡ true → a ≡ b
eq_of a b h = grind (arith, nat_tests)

eq_same : (a : ℕ) → nat_eq a a ≡ true
eq_same a = grind (arith, nat_tests)

stands_is : (text rest : List ℕ) → starts_with nat_eq rest text ≡ true → (text ≡ take (length text) rest) × (length text ≤ length rest)
stands_is [] rest h = (refl, omega arith)
stands_is (x ∷ xs) [] h = absurd (cc)
stands_is (x ∷ xs) (y ∷ ys) h =
    let k = both_true (nat_eq x y) (starts_with nat_eq ys xs) h in
    let r = stands_is xs ys k.1 in
    (ap (λ z. z ∷ xs) (eq_of x y k.0) ∙ ap (λ l. y ∷ l) r.0, omega (arith, r.1))

is_standing : (n : ℕ) (rest : List ℕ) → n ≤ length rest → starts_with nat_eq rest (take n rest) ≡ true
is_standing zero rest h = refl
is_standing (suc n) [] h = absurd (omega arith)
is_standing (suc n) (y ∷ ys) h = ap (λ b. b && starts_with nat_eq ys (take n ys)) (eq_same y) ∙ is_standing n ys (omega arith)

spells_there : (text log : List ℕ) (from : ℕ) → from ≤ length log → follows log from text ≡ true → Spells text log from (from + length text)
spells_there text log from h k =
    let r = stands_is text (drop from log) k in
    let back : from + length text - from ≡ length text = omega arith in
    record {
      ordered = omega arith;
      within = omega (arith, r.1, length-drop from log);
      is = r.0 ∙ ap (λ n. take n (drop from log)) (sym back);
    }

there_spelled : (text log : List ℕ) (from end : ℕ) → Spells text log from end → (follows log from text ≡ true) × (end ≡ from + length text)
there_spelled text log from end s =
    let short : end - from ≤ length (drop from log) = omega (arith, length-drop from log, s.ordered, s.within) in
    let long : length text ≡ end - from = ap length s.is ∙ length-take-le (end - from) (drop from log) short in
    (ap (λ t. starts_with nat_eq (drop from log) t) s.is ∙ is_standing (end - from) (drop from log) short, omega (arith, long, s.ordered))

-- ---- splits that are met

contains_more : (s t : Split) (splits : List Split) → Contains splits s → Contains (t ∷ splits) s
contains_more s t splits c = Contains-append_right (t ∷ []) splits s c

nothing_first : (end : ℕ) (rest : List ℕ) → [] ≡ end ∷ rest → ⊥
nothing_first end rest e = cc

same_first : (a b : ℕ) (l k : List ℕ) → a ∷ l ≡ b ∷ k → a ≡ b
same_first a b l k e = cc

find_met : (splits : List Split) (args : List Arg) (end : ℕ) (rest : List ℕ) → met_ends splits args ≡ end ∷ rest → IsMetAt end args splits
find_met [] args end rest e = absurd (nothing_first end rest e)
find_met (s ∷ splits) args end rest e = by (meet_all s.constraints args) refl e (λ f. find_met splits args end rest f)
  where
    by : (b : Bool) → meet_all s.constraints args ≡ b → cond b (s.end ∷ met_ends splits args) (met_ends splits args) ≡ end ∷ rest
        → (met_ends splits args ≡ end ∷ rest → IsMetAt end args splits) → IsMetAt end args (s ∷ splits)
    by true m f r = (s, Contains-get_or (s ∷ splits) 0 s (omega arith), same_first s.end end (met_ends splits args) rest f, m)
    by false m f r = let g = r f in (g.0, contains_more g.0 s splits g.1, g.2, g.3)

none_met : (splits : List Split) (args : List Arg) → met_ends splits args ≡ [] → All (λ s. meet_all s.constraints args ≡ false) splits
none_met [] args e = All-nil (λ s. meet_all s.constraints args ≡ false)
none_met (s ∷ splits) args e = by (meet_all s.constraints args) refl e (λ f. none_met splits args f)
  where
    by : (b : Bool) → meet_all s.constraints args ≡ b → cond b (s.end ∷ met_ends splits args) (met_ends splits args) ≡ []
        → (met_ends splits args ≡ [] → All (λ t. meet_all t.constraints args ≡ false) splits)
        → All (λ t. meet_all t.constraints args ≡ false) (s ∷ splits)
    by true m f r = absurd (nothing_first s.end (met_ends splits args) (sym f))
    by false m f r = All-cons (λ t. meet_all t.constraints args ≡ false) s splits m (r f)

count_met : (splits : List Split) (args : List Arg) → length (met_splits splits args) ≡ length (met_ends splits args)
count_met [] args = refl
count_met (s ∷ splits) args = by (meet_all s.constraints args) (count_met splits args)
  where
    by : (b : Bool) → length (met_splits splits args) ≡ length (met_ends splits args)
        → length (cond b (s ∷ met_splits splits args) (met_splits splits args)) ≡ length (cond b (s.end ∷ met_ends splits args) (met_ends splits args))
    by true e = ap suc e
    by false e = e

-- ---- the splits of one piece

pub one_end : (p : Piece) (log : List ℕ) (from : ℕ) (splits : List Split) (args : List Arg) → from ≤ length log
    → SplitsExactly (p ∷ []) log from splits → HaveKinds (piece_kinds p) args
    → met_ends splits args ≡ to_list ((along log).take_text (piece_text p args) from)
one_end p log from splits args within h have =
    by (met_ends splits args) refl (follows log from (piece_text p args)) refl
  where
    text : List ℕ
    text = piece_text p args

    kinds_have : HaveKinds (kinds (p ∷ [])) args
    kinds_have = subst (λ ks. HaveKinds ks args) (sym (append-nil (piece_kinds p))) have

    whole : text_of (p ∷ []) args ≡ piece_text p args
    whole = append-nil (piece_text p args)

    spelled : (end : ℕ) → IsMetAt end args splits → (follows log from (piece_text p args) ≡ true) × (end ≡ from + length (piece_text p args))
    spelled end m =
        there_spelled (piece_text p args) log from end
        (subst (λ t. Spells t log from end) whole ((h.spelled args end kinds_have).1 m))

    missed : met_ends splits args ≡ [] → follows log from (piece_text p args) ≡ true → ⊥
    missed e f =
        let m = (h.spelled args (from + length (piece_text p args)) kinds_have).0
        (subst (λ t. Spells t log from (from + length (piece_text p args))) (sym whole) (spells_there (piece_text p args) log from within f)) in
        let no = All-contains (λ s. meet_all s.constraints args ≡ false) splits m.0 (none_met splits args e) m.1 in
        let so : meet_all m.0.constraints args ≡ true = m.3 in
        cc

    short : length (met_ends splits args) ≤ 1
    short = subst (λ n. n ≤ 1) (count_met splits args) (h.once args kinds_have)

    by : (ends : List ℕ) → met_ends splits args ≡ ends → (c : Bool) → follows log from (piece_text p args) ≡ c
        → met_ends splits args ≡ to_list (cond (follows log from (piece_text p args)) (Some (from + length (piece_text p args))) None)
    by [] e true f = absurd (missed e f)
    by [] e false f = rw (e, f) refl
    by (end ∷ []) e c f =
        let k = spelled end (find_met splits args end [] e) in
        rw (e, k.0) (ap (λ n. n ∷ []) k.1)
    by (end ∷ other ∷ rest) e c f = absurd (omega (arith, short, ap length e))
