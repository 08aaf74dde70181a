-- What is found of pieces.
use Rattle.std.proofs.Common.{◌≡◌, ℕ, zero, suc, ◌<◌, ◌≤◌, false, ◌||◌, eqb, inl, inr, List, [], ◌∷◌, ◌++◌, Option, Some, None, length, get_or, set, refl, sym, ap, subst, arith}
use Rattle.std.specs.Prelude.{slice_get}
use Rattle.std.proofs.lemmas.Bool.{or_left, or_cases, eqb-true, eq-eqb}
use Rattle.printf_text.specs.declared.piece.Conversion.{Conversion}
use Rattle.printf_text.specs.declared.piece.Piece.{Piece}
use Rattle.printf_text.specs.declared.piece.Piece.TheVariants.{Converted}
use Rattle.positions.specs.Sets.{has}
use Rattle.format_match.specs.Spelled.{AddsEnds, EndsExactly, IsPieceSpelled, IsSpelled}
use Rattle.format_match.proofs.Reached.{spelled_none, spelled_more, spelled_parts}
use Rattle.format_ends.specs.declared.parts.Part.{Part}
use Rattle.format_ends.specs.Found.{AreParts, IsKept, IsPart, KnowsEnds}

-- ---- one conversion

pub adds_read : (c : Conversion) (log : List ℕ) (from : ℕ) (ends old now : List ℕ) → from ≤ length log → EndsExactly (Converted c ∷ []) log from ends
    → ((y : ℕ) → has now y ≡ (has old y || has ends y)) → AddsEnds (Converted c) log from old now
adds_read c log from ends old now h e n = record { added = ends; same = n; exact = λ end. (λ m. one end ((e end).0 m), λ s. (e end).1 (many end s)) }
  where
    many : (end : ℕ) → IsPieceSpelled (Converted c) log from end → IsSpelled (Converted c ∷ []) log from end
    many end s = spelled_more [] (Converted c) log from end from ((spelled_none log from h from).0 (or_left (eqb from from) false (eq-eqb from from refl))) s

    one : (end : ℕ) → IsSpelled (Converted c ∷ []) log from end → IsPieceSpelled (Converted c) log from end
    one end s =
        let r = spelled_parts [] (Converted c) log from end s in
        elim (or_cases (eqb from r.mid) false ((spelled_none log from h r.mid).1 r.front)) [
          | inl q ↦ subst (λ k. IsPieceSpelled (Converted c) log k end) (sym (eqb-true from r.mid q)) r.back
          | inr q ↦ absurd cc
        ]

pub known_more : (known : List (Option (List ℕ))) (at : ℕ) (ends : List ℕ) → slice_get (known ++ None ∷ []) at ≡ Some (Some ends) → slice_get known at ≡ Some (Some ends)
known_more [] zero ends h = absurd cc
known_more [] (suc at) ends h = absurd cc
known_more (x ∷ known) zero ends h = h
known_more (x ∷ known) (suc at) ends h = known_more known at ends h

pub kept_set : (known : List (Option (List ℕ))) (at : ℕ) (ends : List ℕ) (from : ℕ) (got : List ℕ) → slice_get (set known at (Some ends)) from ≡ Some (Some got) → IsKept known at ends from got
kept_set [] at ends from got h = absurd cc
kept_set (x ∷ known) zero ends zero got h = inr (refl, cc)
kept_set (x ∷ known) zero ends (suc from) got h = inl h
kept_set (x ∷ known) (suc at) ends zero got h = inl h
kept_set (x ∷ known) (suc at) ends (suc from) got h = elim (kept_set known at ends from got h) [
  | inl o ↦ inl o
  | inr n ↦ inr (ap suc n.0, n.1)
]

pub still_known : (c : Conversion) (log : List ℕ) (old new : List (Option (List ℕ))) (at : ℕ) (ends : List ℕ) → KnowsEnds c log old → EndsExactly (Converted c ∷ []) log at ends
    → ((from : ℕ) (got : List ℕ) → slice_get new from ≡ Some (Some got) → IsKept old at ends from got) → KnowsEnds c log new
still_known c log old new at ends k e n from got h = elim (n from got h) [
  | inl o ↦ k from got o
  | inr q ↦ subst (λ l. EndsExactly (Converted c ∷ []) log from l) (sym q.1) (subst (λ m. EndsExactly (Converted c ∷ []) log m ends) (sym q.0) e)
]

-- ---- one for each piece

pub parts_more : (pieces : List Piece) (piece : Piece) (log : List ℕ) (parts : List Part) (part : Part) → AreParts pieces log parts → IsPart piece log part
    → AreParts (pieces ++ piece ∷ []) log (parts ++ part ∷ [])
parts_more [] piece log [] part a h = (h, a)
parts_more [] piece log (q ∷ parts) part a h = absurd a
parts_more (p ∷ pieces) piece log [] part a h = absurd a
parts_more (p ∷ pieces) piece log (q ∷ parts) part a h = (a.0, parts_more pieces piece log parts part a.1 h)

pub parts_long : (pieces : List Piece) (log : List ℕ) (parts : List Part) → AreParts pieces log parts → length parts ≡ length pieces
parts_long [] log [] a = refl
parts_long [] log (q ∷ parts) a = absurd a
parts_long (p ∷ pieces) log [] a = absurd a
parts_long (p ∷ pieces) log (q ∷ parts) a = ap suc (parts_long pieces log parts a.1)

pub part_at : (pieces : List Piece) (log : List ℕ) (parts : List Part) (i : ℕ) (piece : Piece) (part : Part) → AreParts pieces log parts → i < length pieces
    → piece ≡ get_or pieces i piece → part ≡ get_or parts i part → IsPart piece log part
part_at [] log parts i piece part a h e f = absurd (omega arith)
part_at (p ∷ pieces) log [] i piece part a h e f = absurd a
part_at (p ∷ pieces) log (q ∷ parts) zero piece part a h e f = subst (λ z. IsPart z log part) (sym e) (subst (λ z. IsPart p log z) (sym f) a.0)
part_at (p ∷ pieces) log (q ∷ parts) (suc i) piece part a h e f = part_at pieces log parts i piece part a.1 (omega arith) e f

pub part_set : (pieces : List Piece) (log : List ℕ) (parts : List Part) (i : ℕ) (piece : Piece) (part : Part) → AreParts pieces log parts → i < length pieces
    → piece ≡ get_or pieces i piece → IsPart piece log part → AreParts pieces log (set parts i part)
part_set [] log parts i piece part a h e x = absurd (omega arith)
part_set (p ∷ pieces) log [] i piece part a h e x = absurd a
part_set (p ∷ pieces) log (q ∷ parts) zero piece part a h e x = (subst (λ z. IsPart z log part) e x, a.1)
part_set (p ∷ pieces) log (q ∷ parts) (suc i) piece part a h e x = (a.0, part_set pieces log parts i piece part a.1 (omega arith) e x)
