-- How many arguments formats take.
use Rattle.std.proofs.Common.{◌≡◌, Bool, ◌||◌, eqb, inl, inr, subst, ℕ, ◌+◌, ◌<◌, List, [], ◌∷◌, length, get_or, take, drop, sym, ap, ◌∙◌, arith}
use Rattle.std.proofs.lemmas.List.{length-append, drop_more}
use Rattle.std.proofs.lemmas.Bool.{or_cases, or_left, or_right, eqb-true}
use Rattle.positions.specs.Sets.{has}
use Rattle.format_match.proofs.Reached.{taken}
use Rattle.log_expr.specs.Flows.{Wider}
use Rattle.log_expr.specs.Logs.{TextsEnd, AllTextsEnd}
use Rattle.printf_text.specs.Texts.{kinds, piece_kinds, conversion_kinds, size_kinds}
use Rattle.printf_text.specs.declared.piece.Conversion.{Conversion}
use Rattle.printf_text.specs.declared.piece.Piece.{Piece}

pub converted_count : (c : Conversion) → length (size_kinds c.width) + length (size_kinds c.precision) + 1 ≡ length (conversion_kinds c)
converted_count c = simp length-append (omega arith)

-- one piece fewer is left
pub kinds_left : (pieces : List Piece) (i : ℕ) (p : Piece) → i < length pieces → p ≡ get_or pieces i p → length (kinds (drop i pieces)) ≡ length (piece_kinds p) + length (kinds (drop (i + 1) pieces))
kinds_left pieces i p h e =
    ap (λ l. length (kinds l)) (drop_more pieces i p h ∙ ap (λ q. q ∷ drop (i + 1) pieces) (sym e)) ∙ length-append (piece_kinds p) (kinds (drop (i + 1) pieces))

-- ---- ends of texts, from more positions on

pub texts_wider : (ps : List Piece) (log : List ℕ) (enough : Bool) (from : ℕ) (to to' : List ℕ) → Wider to to' → TextsEnd ps log enough from to → TextsEnd ps log enough from to'
texts_wider ps log enough from to to' x h = record { holds = λ xs end k s. x end (h.holds xs end k s) }

pub texts_none : (ps : List Piece) (log : List ℕ) (enough : Bool) → AllTextsEnd ps log enough [] []
texts_none ps log enough o m = absurd cc

pub texts_more : (ps : List Piece) (log : List ℕ) (enough : Bool) (from : List ℕ) (i : ℕ) (old new : List ℕ) → i < length from → AllTextsEnd ps log enough (take i from) old → Wider old new
    → TextsEnd ps log enough (get_or from i 0) new → AllTextsEnd ps log enough (take (i + 1) from) new
texts_more ps log enough from i old new h a x t o m =
    elim (or_cases (has (take i from) o) (eqb (get_or from i 0) o) (sym (taken from i o h) ∙ m)) [
      | inl q ↦ texts_wider ps log enough o old new x (a o q)
      | inr q ↦ subst (λ n. TextsEnd ps log enough n new) (eqb-true (get_or from i 0) o q) t
    ]

pub put_wider : (old more new : List ℕ) → ((y : ℕ) → has new y ≡ (has old y || has more y)) → Wider more new
put_wider old more new h y m = h y ∙ or_right (has old y) (has more y) m

pub put_kept : (old more new : List ℕ) → ((y : ℕ) → has new y ≡ (has old y || has more y)) → Wider old new
put_kept old more new h y m = h y ∙ or_left (has old y) (has more y) m
