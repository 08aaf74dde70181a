-- Splits of later pieces after those of the pieces before them.
use Rattle.std.proofs.Common.{◌≡◌, ℕ, zero, suc, ◌+◌, ◌<◌, ◌≤◌, Bool, true, false, cond, ◌&&◌, eqb, List, [], ◌∷◌, ◌++◌, length, take, drop, map, All, append-nil, append_assoc, refl, sym, ap, subst, ◌∙◌, arith, get_or}
use Rattle.std.specs.List.{flat_map}
use Rattle.std.specs.Str.{bytes_eq}
use Rattle.std.proofs.lemmas.Slice.Eq.{bytes_eq-Decides}
use Rattle.std.proofs.lemmas.List.{length-append, drop-append-le, length-take-le, length-drop, map-append, drop-drop, drop_more, drop_all}
use Rattle.std.proofs.lemmas.List.Elements.{All-nil, All-cons, All-head, All-tail, All-append, All-map, All-weaker, All-filter}
use Rattle.std.proofs.lemmas.Bool.{and_parts, and_from, false_from_ne_true, both_ways, eqb-true, eq-eqb}
use Rattle.printf_text.specs.Texts.{HaveKinds, kinds, piece_kinds, piece_text, text_of, size_kinds, form_kind}
use Rattle.printf_text.specs.Texts.{formed, first, size_of}
use Rattle.printf_text.proofs.KindLemmas.{HaveKinds-length}
use Rattle.printf_text.proofs.Writing.{HaveKinds-rest}
use Rattle.std.proofs.Common.{pos, negsuc}
use Rattle.printf_text.specs.declared.kind.Kind.{Kind}
use Rattle.printf_text.specs.declared.piece.Arg.{Arg}
use Rattle.printf_text.specs.declared.piece.Form.{Form}
use Rattle.printf_text.specs.declared.piece.Flags.{Flags}
use Rattle.printf_text.specs.declared.piece.Size.{Size}
use Rattle.printf_text.specs.declared.piece.Size.TheVariants.{Omitted, Written, Star}
use Rattle.printf_text.specs.declared.piece.Piece.{Piece}
use Rattle.printf_text.specs.declared.piece.Piece.TheVariants.{Literal, Converted}
use Rattle.format_match.specs.Splits.{begins, meets, meet_all, is_between, IsMet, marks}
use Rattle.format_match.specs.Ways.{met_ends, Describes, here, upto, ends_of, piece_marks, followed, AddsAfter, Moves, Follows, kept_ends, kept_here, next_literal}
use Rattle.format_match.specs.declared.split.Constraint.{Constraint}
use Rattle.format_match.specs.declared.split.Split.{Split}
use Rattle.format_match.proofs.MetEnds.{both, met_ends-append, upto_only, upto_below}
use Rattle.format_match.proofs.Printing.{same_bytes}

-- ---- texts along a log

pub begins_append : (s t rest : List ℕ) → begins (s ++ t) rest ≡ (begins s rest && begins t (drop (length s) rest))
begins_append [] t rest = refl
begins_append (x ∷ s) t [] = refl
begins_append (x ∷ s) t (y ∷ rest) = by (eqb x y) _ _ _ (begins_append s t rest)
  where
    by : (b p q r : Bool) → p ≡ (q && r) → (b && p) ≡ (b && q && r)
    by true p q r e = e
    by false p q r e = refl

pub begins_short : (t rest : List ℕ) → begins t rest ≡ true → length t ≤ length rest
begins_short [] rest h = omega arith
begins_short (x ∷ t) [] h = absurd cc
begins_short (x ∷ t) (y ∷ rest) h = let short = begins_short t rest (and_parts (eqb x y) (begins t rest) h).1 in omega arith

pub begins_is : (t rest : List ℕ) → begins t rest ≡ true → t ≡ take (length t) rest
begins_is [] rest h = refl
begins_is (x ∷ t) [] h = absurd cc
begins_is (x ∷ t) (y ∷ rest) h =
    let parts = and_parts (eqb x y) (begins t rest) h in
    λ i. eqb-true x y parts.0 i ∷ begins_is t rest parts.1 i

pub take_begins : (n : ℕ) (rest : List ℕ) → n ≤ length rest → begins (take n rest) rest ≡ true
take_begins zero rest h = refl
take_begins (suc n) [] h = absurd (omega arith)
take_begins (suc n) (y ∷ rest) h = and_from (eqb y y) (begins (take n rest) rest) (eq-eqb y y refl) (take_begins n rest (omega arith))

-- the text that two make ends where the second one ends after the first
pub ends_append : (s t log : List ℕ) (from : ℕ) → ends_of (s ++ t) log from ≡ flat_map (λ mid. ends_of t log mid) (ends_of s log from)
ends_append s t log from =
    ap (λ b. cond b ((from + length (s ++ t)) ∷ []) []) (begins_append s t (drop from log) ∙ ap (λ r. begins s (drop from log) && begins t r) (drop-drop (length s) from log))
    ∙ ap (λ n. cond (begins s (drop from log) && begins t (drop (from + length s) log)) (n ∷ []) []) (omega (arith, length-append s t))
    ∙ by (begins s (drop from log)) []
  where
    by : (p : Bool) (l : List ℕ) → cond (p && begins t (drop (from + length s) log)) ((from + length s + length t) ∷ []) []
        ≡ flat_map (λ mid. cond (begins t (drop mid log)) ((mid + length t) ∷ []) []) (cond p ((from + length s) ∷ []) [])
    by true l = sym (append-nil (cond (begins t (drop (from + length s) log)) ((from + length s + length t) ∷ []) []))
    by false l = refl

-- a text stands there where it is one of the slices that begin there, of which those are looked at that it may be
pub upto_kept : (next t log : List ℕ) (from most : ℕ) → from ≤ length log → most ≤ length (drop from log) → (begins t (drop from log) ≡ true → length t ≤ most)
    → upto (λ len. kept_here next (drop len (drop from log)) (here t (take len (drop from log)) (from + len))) (most + 1) ≡ kept_ends next log (ends_of t log from)
upto_kept next t log from most h m reach = by (begins t (drop from log)) refl
  where
    none : (len : ℕ) → (bytes_eq t (take len (drop from log)) ≡ true → ⊥) → kept_here next (drop len (drop from log)) (here t (take len (drop from log)) (from + len)) ≡ []
    none len f =
        ap (λ l. cond (begins next (drop len (drop from log))) l []) (ap (λ b. cond b ((from + len) ∷ []) []) (false_from_ne_true (bytes_eq t (take len (drop from log))) f))
        ∙ empty (begins next (drop len (drop from log))) []
      where
        empty : (b : Bool) (l : List ℕ) → cond b l l ≡ l
        empty true l = refl
        empty false l = refl

    by : (b : Bool) → begins t (drop from log) ≡ b
        → upto (λ len. kept_here next (drop len (drop from log)) (here t (take len (drop from log)) (from + len))) (most + 1) ≡ kept_ends next log (cond b ((from + length t) ∷ []) [])
    by true e =
        upto_only (λ len. kept_here next (drop len (drop from log)) (here t (take len (drop from log)) (from + len))) (length t) (most + 1) (omega (arith, reach e))
        (λ len l d. none len (λ p. d (sym (ap length (same_bytes t (take len (drop from log)) p) ∙ length-take-le len (drop from log) (omega arith)))))
        ∙ ap (λ b. cond (begins next (drop (length t) (drop from log))) (cond b ((from + length t) ∷ []) []) []) ((bytes_eq-Decides t (take (length t) (drop from log))).1 (begins_is t (drop from log) e))
        ∙ ap (λ r. cond (begins next r) ((from + length t) ∷ []) []) (drop-drop (length t) from log)
    by false e =
        upto_below (λ len. kept_here next (drop len (drop from log)) (here t (take len (drop from log)) (from + len))) (most + 1)
        (λ len l. none len (λ p. both_ways (begins t (drop from log)) e (ap (λ s. begins s (drop from log)) (same_bytes t (take len (drop from log)) p) ∙ take_begins len (drop from log) (omega arith))))

-- ---- arguments in two parts

pub meet_length : (cs : List Constraint) (args : List Arg) → meet_all cs args ≡ true → length cs ≡ length args
meet_length [] [] h = refl
meet_length [] (a ∷ args) h = absurd cc
meet_length (c ∷ cs) [] h = absurd cc
meet_length (c ∷ cs) (a ∷ args) h = ap suc (meet_length cs args (and_parts (meets c a) (meet_all cs args) h).1)

meet_append : (cs ds : List Constraint) (xs ys : List Arg) → length cs ≡ length xs → meet_all (cs ++ ds) (xs ++ ys) ≡ (meet_all cs xs && meet_all ds ys)
meet_append [] ds [] ys h = refl
meet_append [] ds (x ∷ xs) ys h = absurd (omega arith)
meet_append (c ∷ cs) ds [] ys h = absurd (omega arith)
meet_append (c ∷ cs) ds (x ∷ xs) ys h = by (meets c x) _ _ _ (meet_append cs ds xs ys (omega arith))
  where
    by : (b p q r : Bool) → p ≡ (q && r) → (b && p) ≡ (b && q && r)
    by true p q r e = e
    by false p q r e = refl

pub record IsParted (K L : List Kind) (args : List Arg) : Type 0 where
  pub front : List Arg
  pub back : List Arg
  pub is : args ≡ front ++ back
  pub front_have : HaveKinds K front
  pub back_have : HaveKinds L back

pub parted : (K L : List Kind) (args : List Arg) → HaveKinds (K ++ L) args → IsParted K L args
parted [] L args h = record { front = []; back = args; is = refl; front_have = tt; back_have = h }
parted (k ∷ K) L [] h = absurd h
parted (k ∷ K) L (a ∷ args) h =
    let r = parted K L args h.1 in
    record { front = a ∷ r.front; back = r.back; is = ap (λ x. a ∷ x) r.is; front_have = (h.0, r.front_have); back_have = r.back_have }

pub have_append : (K L : List Kind) (xs ys : List Arg) → HaveKinds K xs → HaveKinds L ys → HaveKinds (K ++ L) (xs ++ ys)
have_append [] L [] ys h k = k
have_append [] L (x ∷ xs) ys h k = absurd h
have_append (k ∷ K) L [] ys h g = absurd h
have_append (k ∷ K) L (x ∷ xs) ys h g = (h.0, have_append K L xs ys h.1 g)

-- ---- splits after others

followed_ends : (s : Split) (parts : List Split) (xs ys : List Arg) → length s.constraints ≡ length xs → met_ends (map (followed s) parts) (xs ++ ys) ≡ cond (meet_all s.constraints xs) (met_ends parts ys) []
followed_ends s [] xs ys h = by (meet_all s.constraints xs) []
  where
    by : (b : Bool) (n : List ℕ) → n ≡ cond b n n
    by true n = refl
    by false n = refl
followed_ends s (p ∷ parts) xs ys h =
    ap (λ b. cond b (p.end ∷ met_ends (map (followed s) parts) (xs ++ ys)) (met_ends (map (followed s) parts) (xs ++ ys))) (meet_append s.constraints p.constraints xs ys h)
    ∙ by (meet_all s.constraints xs) (meet_all p.constraints ys) (met_ends (map (followed s) parts) (xs ++ ys)) (met_ends parts ys) (followed_ends s parts xs ys h)
  where
    by : (b q : Bool) (l m : List ℕ) → l ≡ cond b m [] → cond (b && q) (p.end ∷ l) l ≡ cond b (cond q (p.end ∷ m) m) []
    by true true l m e = ap (λ r. p.end ∷ r) e
    by true false l m e = e
    by false q l m e = e

module _ (next : List ℕ) (piece : Piece) (log : List ℕ) (K : List Kind) (M : List Bool) where
  abbrev then_ends : List Arg → ℕ → List ℕ
  then_ends ys mid = kept_ends next log (ends_of (piece_text piece ys) log mid)

  follow_ends : (before now : List Split) (xs ys : List Arg) → Follows next piece log before now → All (λ s. IsMet K s) before → HaveKinds K xs → HaveKinds (piece_kinds piece) ys
      → met_ends now (xs ++ ys) ≡ flat_map (then_ends ys) (met_ends before xs)
  follow_ends [] now xs ys f m h k = ap (λ l. met_ends l (xs ++ ys)) f
  follow_ends (s ∷ before) now xs ys f m h k =
      ap (λ l. met_ends l (xs ++ ys)) f.2.2 ∙ met_ends-append f.0 f.2.0 (xs ++ ys)
      ∙ both (λ (a b : List ℕ). a ++ b)
      (ap (λ l. met_ends l (xs ++ ys)) f.1.is ∙ followed_ends s f.1.added xs ys (same_length (All-head (λ s. IsMet K s) s before m)) ∙ ap (λ l. cond (meet_all s.constraints xs) l []) (f.1.describes.exact ys k))
      (follow_ends before f.2.0 xs ys f.2.1 (All-tail (λ s. IsMet K s) s before m) h k)
      ∙ by (meet_all s.constraints xs) (met_ends before xs)
    where
      same_length : IsMet K s → length s.constraints ≡ length xs
      same_length m = meet_length s.constraints m.args m.meet ∙ sym (HaveKinds-length K m.args m.have) ∙ HaveKinds-length K xs h

      by : (b : Bool) (l : List ℕ) → cond b (then_ends ys s.end) [] ++ flat_map (then_ends ys) l ≡ flat_map (then_ends ys) (cond b (s.end ∷ l) l)
      by true l = refl
      by false l = refl

  met_after : (s p : Split) → IsMet K s → IsMet (piece_kinds piece) p → IsMet (K ++ piece_kinds piece) (followed s p)
  met_after s p m n = record {
    args = m.args ++ n.args;
    have = have_append K (piece_kinds piece) m.args n.args m.have n.have;
    meet = meet_append s.constraints p.constraints m.args n.args (meet_length s.constraints m.args m.meet) ∙ and_from _ _ m.meet n.meet;
  }

  follow_met : (before now : List Split) → Follows next piece log before now → All (λ s. IsMet K s) before → All (λ s. IsMet (K ++ piece_kinds piece) s) now
  follow_met [] now f m = subst (λ l. All (λ s. IsMet (K ++ piece_kinds piece) s) l) (sym f) (All-nil (λ s. IsMet (K ++ piece_kinds piece) s))
  follow_met (s ∷ before) now f m =
      let P : Split → Type 0 = λ s. IsMet (K ++ piece_kinds piece) s in
      subst (λ l. All P l) (sym f.2.2)
      (All-append P f.0 f.2.0
      (subst (λ l. All P l) (sym f.1.is)
      (All-map P (followed s) f.1.added (All-weaker (λ p. IsMet (piece_kinds piece) p) (λ p. IsMet (K ++ piece_kinds piece) (followed s p)) (λ p n. met_after s p (All-head (λ s. IsMet K s) s before m) n) f.1.added f.1.describes.met)))
      (follow_met before f.2.0 f.2.1 (All-tail (λ s. IsMet K s) s before m)))

  follow_stars : (before now : List Split) → Follows next piece log before now → All (λ s. map is_between s.constraints ≡ M) before → All (λ s. map is_between s.constraints ≡ M ++ piece_marks piece) now
  follow_stars [] now f m = subst (λ l. All (λ s. map is_between s.constraints ≡ M ++ piece_marks piece) l) (sym f) (All-nil (λ s. map is_between s.constraints ≡ M ++ piece_marks piece))
  follow_stars (s ∷ before) now f m =
      let P : Split → Type 0 = λ s. map is_between s.constraints ≡ M ++ piece_marks piece in
      subst (λ l. All P l) (sym f.2.2)
      (All-append P f.0 f.2.0
      (subst (λ l. All P l) (sym f.1.is)
      (All-map P (followed s) f.1.added (All-weaker (λ p. map is_between p.constraints ≡ piece_marks piece) (λ p. map is_between (followed s p).constraints ≡ M ++ piece_marks piece)
      (λ p n. map-append is_between s.constraints p.constraints ∙ both (λ (x y : List Bool). x ++ y) (All-head (λ s. map is_between s.constraints ≡ M) s before m) n) f.1.added f.1.describes.stars_are)))
      (follow_stars before f.2.0 f.2.1 (All-tail (λ s. map is_between s.constraints ≡ M) s before m)))

-- ---- pieces

pub kinds_append : (ps : List Piece) (p : Piece) → kinds (ps ++ p ∷ []) ≡ kinds ps ++ piece_kinds p
kinds_append [] p = append-nil (piece_kinds p)
kinds_append (q ∷ ps) p = ap (λ k. piece_kinds q ++ k) (kinds_append ps p) ∙ sym (append_assoc (piece_kinds q) (kinds ps) (piece_kinds p))

marks_append : (ps : List Piece) (p : Piece) → marks (ps ++ p ∷ []) ≡ marks ps ++ piece_marks p
marks_append [] (Literal bytes) = refl
marks_append [] (Converted c) = append-nil (piece_marks (Converted c))
marks_append (Literal bytes ∷ ps) p = marks_append ps p
marks_append (Converted c ∷ ps) p = ap (λ k. piece_marks (Converted c) ++ k) (marks_append ps p) ∙ sym (append_assoc (piece_marks (Converted c)) (marks ps) (piece_marks p))

-- a piece looks at its own arguments alone
size_front : (flags : Flags) (form : Form) (w p : Size) (K : List Kind) (xs ys : List Arg) → HaveKinds (size_kinds w ++ size_kinds p ++ form_kind form ∷ [] ++ K) xs
    → formed flags form (size_of (pos 0) w (xs ++ ys)) (size_of (negsuc 0) p (drop (length (size_kinds w)) (xs ++ ys))) (first (drop (length (size_kinds p)) (drop (length (size_kinds w)) (xs ++ ys))))
    ≡ formed flags form (size_of (pos 0) w xs) (size_of (negsuc 0) p (drop (length (size_kinds w)) xs)) (first (drop (length (size_kinds p)) (drop (length (size_kinds w)) xs)))
size_front flags form Omitted Omitted K [] ys h = absurd h
size_front flags form Omitted Omitted K (a ∷ xs) ys h = refl
size_front flags form Omitted (Written n) K [] ys h = absurd h
size_front flags form Omitted (Written n) K (a ∷ xs) ys h = refl
size_front flags form Omitted Star K [] ys h = absurd h
size_front flags form Omitted Star K (a ∷ []) ys h = absurd h.1
size_front flags form Omitted Star K (a ∷ b ∷ xs) ys h = refl
size_front flags form (Written m) Omitted K [] ys h = absurd h
size_front flags form (Written m) Omitted K (a ∷ xs) ys h = refl
size_front flags form (Written m) (Written n) K [] ys h = absurd h
size_front flags form (Written m) (Written n) K (a ∷ xs) ys h = refl
size_front flags form (Written m) Star K [] ys h = absurd h
size_front flags form (Written m) Star K (a ∷ []) ys h = absurd h.1
size_front flags form (Written m) Star K (a ∷ b ∷ xs) ys h = refl
size_front flags form Star Omitted K [] ys h = absurd h
size_front flags form Star Omitted K (a ∷ []) ys h = absurd h.1
size_front flags form Star Omitted K (a ∷ b ∷ xs) ys h = refl
size_front flags form Star (Written n) K [] ys h = absurd h
size_front flags form Star (Written n) K (a ∷ []) ys h = absurd h.1
size_front flags form Star (Written n) K (a ∷ b ∷ xs) ys h = refl
size_front flags form Star Star K [] ys h = absurd h
size_front flags form Star Star K (a ∷ []) ys h = absurd h.1
size_front flags form Star Star K (a ∷ b ∷ []) ys h = absurd h.1.1
size_front flags form Star Star K (a ∷ b ∷ x ∷ xs) ys h = refl

pub piece_front : (p : Piece) (K : List Kind) (xs ys : List Arg) → HaveKinds (piece_kinds p ++ K) xs → piece_text p (xs ++ ys) ≡ piece_text p xs
piece_front (Literal bytes) K xs ys h = refl
piece_front (Converted c) K xs ys h = size_front c.flags c.form c.width c.precision K xs ys h

have_length : (K L : List Kind) (xs : List Arg) → HaveKinds (K ++ L) xs → length K ≤ length xs
have_length K L xs h = omega (arith, HaveKinds-length (K ++ L) xs h, length-append K L)

pub text_append : (ps : List Piece) (p : Piece) (xs ys : List Arg) → HaveKinds (kinds ps) xs → text_of (ps ++ p ∷ []) (xs ++ ys) ≡ text_of ps xs ++ piece_text p ys
text_append [] p [] ys h = append-nil (piece_text p ys)
text_append [] p (x ∷ xs) ys h = absurd h
text_append (q ∷ ps) p xs ys h =
    both (λ (a b : List ℕ). a ++ b) (piece_front q (kinds ps) xs ys h)
    (ap (text_of (ps ++ p ∷ [])) (drop-append-le (length (piece_kinds q)) xs ys (have_length (piece_kinds q) (kinds ps) xs h))
    ∙ text_append ps p (drop (length (piece_kinds q)) xs) ys (HaveKinds-rest (piece_kinds q) (kinds ps) xs h))
    ∙ sym (append_assoc (piece_text q xs) (text_of ps (drop (length (piece_kinds q)) xs)) (piece_text p ys))

-- ends that can't be followed may be left out
kept_step : (next next' s t log : List ℕ) (from : ℕ) → ((mid : ℕ) → begins next (drop mid log) ≡ false → ends_of t log mid ≡ [])
    → flat_map (λ mid. kept_ends next' log (ends_of t log mid)) (kept_ends next log (ends_of s log from)) ≡ kept_ends next' log (flat_map (λ mid. ends_of t log mid) (ends_of s log from))
kept_step next next' s t log from skip = by (begins s (drop from log))
  where
    one : (k : Bool) → begins next (drop (from + length s) log) ≡ k
        → flat_map (λ mid. kept_ends next' log (ends_of t log mid)) (cond k ((from + length s) ∷ []) []) ≡ kept_ends next' log (ends_of t log (from + length s) ++ [])
    one true e = append-nil (kept_ends next' log (ends_of t log (from + length s))) ∙ ap (kept_ends next' log) (sym (append-nil (ends_of t log (from + length s))))
    one false e = ap (λ l. kept_ends next' log (l ++ [])) (sym (skip (from + length s) e))

    by : (b : Bool) → flat_map (λ mid. kept_ends next' log (ends_of t log mid)) (kept_ends next log (cond b ((from + length s) ∷ []) []))
        ≡ kept_ends next' log (flat_map (λ mid. ends_of t log mid) (cond b ((from + length s) ∷ []) []))
    by true = one (begins next (drop (from + length s) log)) refl
    by false = refl

pub kept_all : (log ends : List ℕ) → kept_ends [] log ends ≡ ends
kept_all log [] = refl
kept_all log (e ∷ ends) = ap (λ r. e ∷ r) (kept_all log ends)

-- where the next piece is a literal that doesn't stand there, nothing follows
pub skipped : (piece : Piece) (pieces : List Piece) (ys : List Arg) (log : List ℕ) (mid : ℕ) → begins (next_literal (piece ∷ pieces)) (drop mid log) ≡ false → ends_of (piece_text piece ys) log mid ≡ []
skipped (Literal bytes) pieces ys log mid e = ap (λ b. cond b ((mid + length bytes) ∷ []) []) e
skipped (Converted c) pieces ys log mid e = absurd cc

-- the splits of pieces, and then of one piece more
pub Describes-piece : (ps rest : List Piece) (p : Piece) (log next' : List ℕ) (from : ℕ) (before now : List Split)
    → Describes (kinds ps) (marks ps) (λ args. kept_ends (next_literal (p ∷ rest)) log (ends_of (text_of ps args) log from)) before → Follows next' p log before now
    → Describes (kinds (ps ++ p ∷ [])) (marks (ps ++ p ∷ [])) (λ args. kept_ends next' log (ends_of (text_of (ps ++ p ∷ []) args) log from)) now
Describes-piece ps rest p log next' from before now d f =
    subst (λ K. Describes K (marks (ps ++ p ∷ [])) (λ args. kept_ends next' log (ends_of (text_of (ps ++ p ∷ []) args) log from)) now) (sym (kinds_append ps p))
    (subst (λ M. Describes (kinds ps ++ piece_kinds p) M (λ args. kept_ends next' log (ends_of (text_of (ps ++ p ∷ []) args) log from)) now) (sym (marks_append ps p))
    (record {
      exact = λ args h. by args (parted (kinds ps) (piece_kinds p) args h);
      met = follow_met next' p log (kinds ps) (marks ps) before now f d.met;
      stars_are = follow_stars next' p log (kinds ps) (marks ps) before now f d.stars_are;
    }))
  where
    by : (args : List Arg) → IsParted (kinds ps) (piece_kinds p) args → met_ends now args ≡ kept_ends next' log (ends_of (text_of (ps ++ p ∷ []) args) log from)
    by args r =
        ap (met_ends now) r.is ∙ follow_ends next' p log (kinds ps) (marks ps) before now r.front r.back f d.met r.front_have r.back_have
        ∙ ap (flat_map (λ mid. kept_ends next' log (ends_of (piece_text p r.back) log mid))) (d.exact r.front r.front_have)
        ∙ kept_step (next_literal (p ∷ rest)) next' (text_of ps r.front) (piece_text p r.back) log from (skipped p rest r.back log)
        ∙ ap (kept_ends next' log) (sym (ends_append (text_of ps r.front) (piece_text p r.back) log from))
        ∙ ap (λ t. kept_ends next' log (ends_of t log from)) (sym (text_append ps p r.front r.back r.front_have))
        ∙ ap (λ a. kept_ends next' log (ends_of (text_of (ps ++ p ∷ []) a) log from)) (sym r.is)

-- one more split that is followed
pub Follows-more : (next : List ℕ) (piece : Piece) (log : List ℕ) (before : List Split) (s : Split) (now now' : List Split) → Follows next piece log before now → AddsAfter next piece log s now now' → Follows next piece log (before ++ s ∷ []) now'
Follows-more next piece log [] s now now' f a =
    (map (followed s) a.added, record { added = a.added; is = refl; describes = a.describes }, ([], refl, a.is ∙ ap (λ l. l ++ map (followed s) a.added) f ∙ sym (append-nil (map (followed s) a.added))))
Follows-more next piece log (t ∷ before) s now now' f a =
    let r = Follows-more next piece log before s f.2.0 (f.2.0 ++ map (followed s) a.added) f.2.1 (record { added = a.added; is = refl; describes = a.describes }) in
    (f.0, f.1, (f.2.0 ++ map (followed s) a.added, r, a.is ∙ ap (λ l. l ++ map (followed s) a.added) f.2.2 ∙ append_assoc f.0 f.2.0 (map (followed s) a.added)))

-- ---- splits end in the log

ends_within : (t log : List ℕ) (from : ℕ) → from ≤ length log → All (λ e. e ≤ length log) (ends_of t log from)
ends_within t log from h = by (begins t (drop from log)) refl
  where
    by : (b : Bool) → begins t (drop from log) ≡ b → All (λ e. e ≤ length log) (cond b ((from + length t) ∷ []) [])
    by true e = All-cons (λ e. e ≤ length log) (from + length t) [] (omega (arith, begins_short t (drop from log) e, length-drop from log)) (All-nil (λ e. e ≤ length log))
    by false e = All-nil (λ e. e ≤ length log)

pub met_all : (P : ℕ → Type 0) (splits : List Split) (args : List Arg) → All P (met_ends splits args) → All (λ s. meet_all s.constraints args ≡ true → P s.end) splits
met_all P [] args h = All-nil (λ s. meet_all s.constraints args ≡ true → P s.end)
met_all P (s ∷ splits) args h = by (meet_all s.constraints args) refl h (λ g. met_all P splits args g)
  where
    by : (b : Bool) → meet_all s.constraints args ≡ b → All P (cond b (s.end ∷ met_ends splits args) (met_ends splits args))
        → (All P (met_ends splits args) → All (λ t. meet_all t.constraints args ≡ true → P t.end) splits) → All (λ t. meet_all t.constraints args ≡ true → P t.end) (s ∷ splits)
    by true e h r = All-cons (λ t. meet_all t.constraints args ≡ true → P t.end) s splits (λ m. All-head P s.end (met_ends splits args) h) (r (All-tail P s.end (met_ends splits args) h))
    by false e h r = All-cons (λ t. meet_all t.constraints args ≡ true → P t.end) s splits (λ m. absurd (both_ways (meet_all s.constraints args) e m)) (r h)

pub splits_within : (ps : List Piece) (next log : List ℕ) (from : ℕ) (splits : List Split) → from ≤ length log → Describes (kinds ps) (marks ps) (λ args. kept_ends next log (ends_of (text_of ps args) log from)) splits → All (λ s. s.end ≤ length log) splits
splits_within ps next log from splits h d = λ k x l.
    let m = d.met k x l in
    met_all (λ e. e ≤ length log) splits m.args (subst (λ e. All (λ e. e ≤ length log) e) (sym (d.exact m.args m.have)) (All-filter (λ e. begins next (drop e log)) (λ e. e ≤ length log) (ends_of (text_of ps m.args) log from) (ends_within (text_of ps m.args) log from h))) k x l m.meet

-- a literal's one split, or none
begins_same : (t rest : List ℕ) → length t ≤ length rest → begins t rest ≡ bytes_eq t (take (length t) rest)
begins_same [] rest h = refl
begins_same (x ∷ t) [] h = absurd (omega arith)
begins_same (x ∷ t) (y ∷ rest) h = ap (λ b. eqb x y && b) (begins_same t rest (omega arith))

pub begins_long : (t rest : List ℕ) → length rest < length t → begins t rest ≡ false
begins_long t rest h = false_from_ne_true (begins t rest) (λ e. absurd (omega (arith, begins_short t rest e)))

pub begins_slice : (t rest : List ℕ) (b : Bool) → length t ≤ length rest → b ≡ bytes_eq t (take (length t) rest) → b ≡ begins t rest
begins_slice t rest b h e = e ∙ sym (begins_same t rest h)

nothing_kinds : (args : List Arg) → HaveKinds [] args → args ≡ []
nothing_kinds [] h = refl
nothing_kinds (a ∷ args) h = absurd h

pub literal_none : (next bytes log : List ℕ) (before : Split) (old : List Split) → begins bytes (drop before.end log) ≡ false → AddsAfter next (Literal bytes) log before old old
literal_none next bytes log before old h = record {
  added = [];
  is = sym (append-nil old);
  describes = record {
    exact = λ args k. sym (ap (λ b. kept_ends next log (cond b ((before.end + length bytes) ∷ []) [])) h);
    met = All-nil (λ s. IsMet [] s);
    stars_are = All-nil (λ s. map is_between s.constraints ≡ []);
  };
}

pub literal_left : (next bytes log : List ℕ) (before : Split) (old : List Split) → begins next (drop (before.end + length bytes) log) ≡ false → AddsAfter next (Literal bytes) log before old old
literal_left next bytes log before old h = record {
  added = [];
  is = sym (append-nil old);
  describes = record {
    exact = λ args k. by (begins bytes (drop before.end log));
    met = All-nil (λ s. IsMet [] s);
    stars_are = All-nil (λ s. map is_between s.constraints ≡ []);
  };
}
  where
    by : (b : Bool) → [] ≡ kept_ends next log (cond b ((before.end + length bytes) ∷ []) [])
    by true = sym (ap (λ b. cond b ((before.end + length bytes) ∷ []) []) h)
    by false = refl

pub literal_one : (next bytes log : List ℕ) (before : Split) (old now : List Split) → begins bytes (drop before.end log) ≡ true → begins next (drop (before.end + length bytes) log) ≡ true
    → now ≡ old ++ record { end = before.end + length bytes; constraints = before.constraints } ∷ [] → AddsAfter next (Literal bytes) log before old now
literal_one next bytes log before old now h g e =
    let s : Split = record { end = before.end + length bytes; constraints = [] } in
    record {
      added = s ∷ [];
      is = e ∙ ap (λ c. old ++ record { end = before.end + length bytes; constraints = c } ∷ []) (sym (append-nil before.constraints));
      describes = record {
        exact = λ args k. ap (λ a. met_ends (s ∷ []) a) (nothing_kinds args k) ∙ sym (ap (λ b. kept_ends next log (cond b ((before.end + length bytes) ∷ []) [])) h ∙ ap (λ b. cond b ((before.end + length bytes) ∷ []) []) g);
        met = All-cons (λ s. IsMet [] s) s [] (record { args = []; have = tt; meet = refl }) (All-nil (λ s. IsMet [] s));
        stars_are = All-cons (λ s. map is_between s.constraints ≡ []) s [] refl (All-nil (λ s. map is_between s.constraints ≡ []));
      };
    }

pub literal_moves : (next bytes log : List ℕ) (before : Split) (old now : List Split) → begins bytes (drop before.end log) ≡ true → Moves next log (length bytes) before old now → AddsAfter next (Literal bytes) log before old now
literal_moves next bytes log before old now h e = by (begins next (drop (before.end + length bytes) log)) refl e
  where
    by : (b : Bool) → begins next (drop (before.end + length bytes) log) ≡ b
        → now ≡ old ++ cond b (record { end = before.end + length bytes; constraints = before.constraints } ∷ []) [] → AddsAfter next (Literal bytes) log before old now
    by true g f = literal_one next bytes log before old now h g f
    by false g f = subst (λ l. AddsAfter next (Literal bytes) log before old l) (sym (f ∙ append-nil old)) (literal_left next bytes log before old g)

pub literal_fits : (bytes log : List ℕ) (end : ℕ) → end ≤ length log → begins bytes (drop end log) ≡ true → end + length bytes ≤ length log
literal_fits bytes log end h e = omega (arith, begins_short bytes (drop end log) e, length-drop end log)

-- before all pieces
pub start_none : (next log : List ℕ) (from : ℕ) → begins next (drop from log) ≡ false → Describes [] [] (λ args. kept_ends next log (ends_of [] log from)) []
start_none next log from h = record {
  exact = λ args k. sym (ap (λ n. kept_ends next log (n ∷ [])) (omega arith) ∙ ap (λ b. cond b (from ∷ []) []) h);
  met = All-nil (λ s. IsMet [] s);
  stars_are = All-nil (λ s. map is_between s.constraints ≡ []);
}

pub start_one : (next log : List ℕ) (from : ℕ) (splits : List Split) → begins next (drop from log) ≡ true → splits ≡ record { end = from; constraints = [] } ∷ [] → Describes [] [] (λ args. kept_ends next log (ends_of [] log from)) splits
start_one next log from splits h e =
    subst (λ l. Describes [] [] (λ args. kept_ends next log (ends_of [] log from)) l) (sym e)
    (record {
      exact = λ args k. ap (λ a. met_ends (record { end = from; constraints = [] } ∷ []) a) (nothing_kinds args k)
          ∙ sym (ap (λ n. kept_ends next log (n ∷ [])) (omega arith) ∙ ap (λ b. cond b (from ∷ []) []) h);
      met = All-cons (λ s. IsMet [] s) (record { end = from; constraints = [] }) [] (record { args = []; have = tt; meet = refl }) (All-nil (λ s. IsMet [] s));
      stars_are = All-cons (λ s. map is_between s.constraints ≡ []) (record { end = from; constraints = [] }) [] refl (All-nil (λ s. map is_between s.constraints ≡ []));
    })

pub next_at : (pieces : List Piece) (i : ℕ) (p : Piece) → i < length pieces → p ≡ get_or pieces i p → next_literal (p ∷ []) ≡ next_literal (drop i pieces)
next_at pieces i p h e = heads p (drop (i + 1) pieces) ∙ ap next_literal (sym (drop_more pieces i p h ∙ ap (λ q. q ∷ drop (i + 1) pieces) (sym e)))
  where
    heads : (p : Piece) (rest : List Piece) → next_literal (p ∷ []) ≡ next_literal (p ∷ rest)
    heads (Literal bytes) rest = refl
    heads (Converted c) rest = refl

pub next_past : (pieces : List Piece) (i : ℕ) → length pieces ≤ i → [] ≡ next_literal (drop i pieces)
next_past pieces i h = ap next_literal (sym (drop_all i pieces h))
