-- Splits whose met ends are those of the text are exactly the splits of the format.
use Rattle.std.proofs.Common.{◌≡◌, ℕ, suc, ◌+◌, ◌-◌, ◌≤◌, Bool, true, false, cond, List, [], ◌∷◌, length, take, drop, All, refl, sym, ap, subst, ◌∙◌, arith}
use Rattle.std.specs.List.{Contains}
use Rattle.std.proofs.lemmas.List.{length-take-le, length-drop}
use Rattle.std.proofs.lemmas.List.Elements.{All-nil, All-cons, All-contains, Contains-append_right, Contains-get_or}
use Rattle.printf_text.specs.Texts.{kinds, text_of}
use Rattle.printf_text.specs.declared.piece.Arg.{Arg}
use Rattle.printf_text.specs.declared.piece.Piece.{Piece}
use Rattle.format_match.specs.Splits.{begins, meet_all, marks, Spells, IsMetAt, met_splits, SplitsExactly}
use Rattle.format_match.specs.Ways.{met_ends, Describes, ends_of}
use Rattle.format_match.specs.declared.split.Split.{Split}
use Rattle.format_match.proofs.Following.{begins_short, begins_is, take_begins, met_all}

-- the end of a text that stands there
ends_spell : (t log : List ℕ) (from : ℕ) → from ≤ length log → All (λ e. Spells t log from e) (ends_of t log from)
ends_spell t log from h = by (begins t (drop from log)) refl
  where
    by : (b : Bool) → begins t (drop from log) ≡ b → All (λ e. Spells t log from e) (cond b ((from + length t) ∷ []) [])
    by false e = All-nil (λ e. Spells t log from e)
    by true e =
        let back : from + length t - from ≡ length t = omega arith in
        All-cons (λ e. Spells t log from e) (from + length t) []
        (record { ordered = omega arith; within = omega (arith, begins_short t (drop from log) e, length-drop from log); is = begins_is t (drop from log) e ∙ ap (λ n. take n (drop from log)) (sym back) })
        (All-nil (λ e. Spells t log from e))

spells_end : (t log : List ℕ) (from end : ℕ) → Spells t log from end → ends_of t log from ≡ end ∷ []
spells_end t log from end s =
    let short : end - from ≤ length (drop from log) = omega (arith, length-drop from log, s.ordered, s.within) in
    let long : length t ≡ end - from = ap length s.is ∙ length-take-le (end - from) (drop from log) short in
    ap (λ b. cond b ((from + length t) ∷ []) []) (ap (λ u. begins u (drop from log)) s.is ∙ take_begins (end - from) (drop from log) short)
    ∙ ap (λ n. n ∷ []) (omega (arith, long, s.ordered))

contains_more : (s t : Split) (splits : List Split) → Contains splits s → Contains (t ∷ splits) s
contains_more s t splits c = Contains-append_right (t ∷ []) splits s c

find_met : (splits : List Split) (args : List Arg) (end : ℕ) (rest : List ℕ) → met_ends splits args ≡ end ∷ rest → IsMetAt end args splits
find_met [] args end rest e = absurd (nil≢cons end rest e)
  where
    nil≢cons : (end : ℕ) (rest : List ℕ) → [] ≡ end ∷ rest → ⊥
    nil≢cons end rest e = cc
find_met (s ∷ splits) args end rest e = by (meet_all s.constraints args) refl e (λ f. find_met splits args end rest f)
  where
    by : (b : Bool) → meet_all s.constraints args ≡ b → cond b (s.end ∷ met_ends splits args) (met_ends splits args) ≡ end ∷ rest → (met_ends splits args ≡ end ∷ rest → IsMetAt end args splits) → IsMetAt end args (s ∷ splits)
    by true m f r = (s, Contains-get_or (s ∷ splits) 0 s (omega arith), head s.end end (met_ends splits args) rest f, m)
      where
        head : (a b : ℕ) (l k : List ℕ) → a ∷ l ≡ b ∷ k → a ≡ b
        head a b l k e = cc
    by false m f r = let g = r f in (g.0, contains_more g.0 s splits g.1, g.2, g.3)

count_met : (splits : List Split) (args : List Arg) → length (met_splits splits args) ≡ length (met_ends splits args)
count_met [] args = refl
count_met (s ∷ splits) args = by (meet_all s.constraints args) (count_met splits args)
  where
    by : (b : Bool) → length (met_splits splits args) ≡ length (met_ends splits args) → length (cond b (s ∷ met_splits splits args) (met_splits splits args)) ≡ length (cond b (s.end ∷ met_ends splits args) (met_ends splits args))
    by true e = ap suc e
    by false e = e

one_end : (t log : List ℕ) (from : ℕ) → length (ends_of t log from) ≤ 1
one_end t log from = by (begins t (drop from log))
  where
    by : (b : Bool) → length (cond b ((from + length t) ∷ []) []) ≤ 1
    by true = omega arith
    by false = omega arith

pub exactly : (ps : List Piece) (log : List ℕ) (from : ℕ) (splits : List Split) → from ≤ length log → Describes (kinds ps) (marks ps) (λ args. ends_of (text_of ps args) log from) splits → SplitsExactly ps log from splits
exactly ps log from splits h d = record {
  spelled = λ args end k. (
    λ s. find_met splits args end [] (d.exact args k ∙ spells_end (text_of ps args) log from end s),
    λ m. subst (λ e. Spells (text_of ps args) log from e) m.2
        (All-contains (λ s. meet_all s.constraints args ≡ true → Spells (text_of ps args) log from s.end) splits m.0
        (met_all (λ e. Spells (text_of ps args) log from e) splits args (subst (λ l. All (λ e. Spells (text_of ps args) log from e) l) (sym (d.exact args k)) (ends_spell (text_of ps args) log from h))) m.1 m.3),
  );
  once = λ args k. subst (λ n. n ≤ 1) (sym (count_met splits args ∙ ap length (d.exact args k))) (one_end (text_of ps args) log from);
  met = d.met;
  stars = d.stars_are;
}
