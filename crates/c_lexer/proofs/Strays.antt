-- Why nothing begins at a text.
use Rattle.std.proofs.Common.{◌≡◌, ℕ, suc, ◌+◌, ◌<◌, Bool, true, false, cond, ◌&&◌, eqb, [], ◌∷◌, length, take}
use Rattle.std.proofs.Common.{slice_index, Option, Some, None, refl, ap, sym, subst, ◌∙◌, arith}
use Rattle.std.specs.List.{prefix_len}
use Rattle.std.proofs.lemmas.Bool.{eqb-true}
use Rattle.c_lexer.specs.Class.{Text, is_in}
use Rattle.c_lexer.specs.Tables.{punctuator}
use Rattle.c_lexer.specs.Number.{number_more}
use Rattle.c_lexer.specs.Literal.{closing}
use Rattle.c_lexer.specs.Directive.{directive}
use Rattle.c_lexer.specs.Piece.{Piece, piece_at, other, closed, comment_end, directive_piece, marked, begins_number}
use Rattle.c_lexer.specs.Piece.{wide}
use Rattle.c_lexer.specs.Spelling.{opens, stray_at}
use Rattle.c_lexer.specs.declared.class.Class.TheVariants as class
use Rattle.c_lexer.specs.declared.directive.Directive.{Directive}
use Rattle.c_lexer.specs.declared.directive.Directive.TheVariants as says
use Rattle.c_lexer.specs.declared.piece.Lexeme.{Lexeme}
use Rattle.c_lexer.specs.declared.piece.Lexeme.TheVariants as lexeme
use Rattle.c_lexer.specs.declared.piece.Stray.{Stray}
use Rattle.c_lexer.specs.declared.piece.Stray.TheVariants as stray
use Rattle.c_language.specs.declared.token.Punctuator.{Punctuator}
use Rattle.c_lexer.proofs.Fronts.{is_stray, shut_plain, other_plain}

-- a piece that is none is so for this reason
abbrev Reason : Bool → Text → Piece → Type 0
Reason fresh text p = (s : Stray) → p.0 ≡ lexeme.Stray s → stray_at fresh text ≡ s

closed_reason : (fresh : Bool) (text : Text) (kind : Lexeme) → is_stray kind ≡ false →
    stray_at fresh text ≡ stray.OpenText → (o : Option ℕ) → Reason fresh text (closed kind o)
closed_reason fresh text kind plain is None s h = is ∙ (cc)
closed_reason fresh text kind plain is (Some end) s h =
    absurd (let e : is_stray (lexeme.Stray s) ≡ false = ap is_stray (sym h) ∙ plain in cc)

marked_reason : (fresh : Bool) (text : Text) → stray_at fresh text ≡ stray.BadByte → (o : Option (Punctuator × ℕ)) →
    Reason fresh text (marked o)
marked_reason fresh text is None s h = is ∙ (cc)
marked_reason fresh text is (Some q) s h = absurd cc

bad_byte : (o : Option (Punctuator × ℕ)) (s : Stray) → (marked o).0 ≡ lexeme.Stray s → stray.BadByte ≡ s
bad_byte None s h = cc
bad_byte (Some q) s h = absurd cc

directive_reason : (text : Text) (n : ℕ) (o : Option Directive) →
    Reason true (35 ∷ text) (directive_piece (35 ∷ text) n o)
directive_reason text n None s h = cc
directive_reason text n (Some (says.Marker line from to)) s h = by_end (eqb n (suc (length text))) s h where
  by_end : (last : Bool) → Reason true (35 ∷ text) (cond last (lexeme.Ignored, n) (lexeme.Marker line from to, n + 1))
  by_end true s h = absurd cc
  by_end false s h = absurd cc
directive_reason text n (Some says.Pragma) s h = by_end (eqb n (suc (length text))) s h where
  by_end : (last : Bool) → Reason true (35 ∷ text) (cond last (lexeme.Ignored, n) (lexeme.Ignored, n + 1))
  by_end true s h = absurd cc
  by_end false s h = absurd cc

shut_reason : (fresh : Bool) (text : Text) → (eqb (slice_index text 0) 35 && fresh) ≡ false → opens fresh text ≡ false →
    stray_at fresh text ≡ stray.BadByte
shut_reason fresh text hash shut =
    ap (λ x. cond x stray.BadDirective (cond (opens fresh text) stray.OpenText stray.BadByte)) hash
    ∙ ap (λ x. cond x stray.OpenText stray.BadByte) shut

-- ---- by the first byte

reason_10 : (fresh : Bool) (text : Text) → Reason fresh (10 ∷ text) (piece_at fresh (10 ∷ text))
unfolding piece_at other
reason_10 fresh text s h = absurd cc

reason_34 : (fresh : Bool) (text : Text) → Reason fresh (34 ∷ text) (piece_at fresh (34 ∷ text))
unfolding piece_at other
reason_34 fresh text = closed_reason fresh (34 ∷ text) lexeme.Text refl refl (closing 34 false 1 text)

reason_39 : (fresh : Bool) (text : Text) → Reason fresh (39 ∷ text) (piece_at fresh (39 ∷ text))
unfolding piece_at other
reason_39 fresh text = closed_reason fresh (39 ∷ text) lexeme.Character refl refl (closing 39 false 1 text)

wide_reason_39 : (fresh : Bool) (text : Text) → Reason fresh (76 ∷ 39 ∷ text) (piece_at fresh (76 ∷ 39 ∷ text))
unfolding piece_at
wide_reason_39 fresh text = closed_reason fresh (76 ∷ 39 ∷ text) lexeme.WideCharacter refl refl
    (closing 39 false 2 text)

wide_reason_34 : (fresh : Bool) (text : Text) → Reason fresh (76 ∷ 34 ∷ text) (piece_at fresh (76 ∷ 34 ∷ text))
unfolding piece_at
wide_reason_34 fresh text = closed_reason fresh (76 ∷ 34 ∷ text) lexeme.WideText refl refl (closing 34 false 2 text)

reason_76 : (fresh : Bool) (text : Text) → Reason fresh (76 ∷ text) (piece_at fresh (76 ∷ text))
unfolding piece_at
reason_76 fresh [] = λ s h. absurd cc
reason_76 fresh (c ∷ text) = by_next (eqb c 39) (eqb c 34) refl refl where
  by_next : (a q : Bool) → eqb c 39 ≡ a → eqb c 34 ≡ q → Reason fresh (76 ∷ c ∷ text) (piece_at fresh (76 ∷ c ∷ text))
  by_next true q h k = subst (λ x. Reason fresh (76 ∷ x ∷ text) (piece_at fresh (76 ∷ x ∷ text)))
      (sym (eqb-true c 39 h)) (wide_reason_39 fresh text)
  by_next false true h k = subst (λ x. Reason fresh (76 ∷ x ∷ text) (piece_at fresh (76 ∷ x ∷ text)))
      (sym (eqb-true c 34 k)) (wide_reason_34 fresh text)
  by_next false false h k = rw (h, k) (λ s l. absurd cc)

comment_reason : (fresh : Bool) (text : Text) → Reason fresh (47 ∷ 42 ∷ text) (piece_at fresh (47 ∷ 42 ∷ text))
unfolding piece_at other
comment_reason fresh text = closed_reason fresh (47 ∷ 42 ∷ text) lexeme.Comment refl refl (comment_end false 2 text)

line_reason : (fresh : Bool) (text : Text) → Reason fresh (47 ∷ 47 ∷ text) (piece_at fresh (47 ∷ 47 ∷ text))
unfolding piece_at other
line_reason fresh text s h = absurd cc

reason_47 : (fresh : Bool) (text : Text) → Reason fresh (47 ∷ text) (piece_at fresh (47 ∷ text))
unfolding piece_at other
reason_47 fresh [] = marked_reason fresh (47 ∷ []) (shut_reason fresh (47 ∷ []) refl refl) (punctuator (47 ∷ []))
reason_47 fresh (c ∷ text) = by_next (eqb c 42) (eqb c 47) refl refl where
  by_next : (s t : Bool) → eqb c 42 ≡ s → eqb c 47 ≡ t → Reason fresh (47 ∷ c ∷ text) (piece_at fresh (47 ∷ c ∷ text))
  by_next true t h k = subst (λ x. Reason fresh (47 ∷ x ∷ text) (piece_at fresh (47 ∷ x ∷ text)))
      (sym (eqb-true c 42 h)) (comment_reason fresh text)
  by_next false true h k = subst (λ x. Reason fresh (47 ∷ x ∷ text) (piece_at fresh (47 ∷ x ∷ text)))
      (sym (eqb-true c 47 k)) (line_reason fresh text)
  by_next false false h k = rw (h, k) (bad_byte (punctuator (47 ∷ c ∷ text)))

reason_35 : (fresh : Bool) (text : Text) → Reason fresh (35 ∷ text) (piece_at fresh (35 ∷ text))
unfolding piece_at other
reason_35 false text = marked_reason false (35 ∷ text) (shut_reason false (35 ∷ text) refl refl)
    (punctuator (35 ∷ text))
reason_35 true text =
    let end = 0 + (1 + prefix_len (is_in class.Line) text) in
    directive_reason text end (directive (take end (35 ∷ text)))

module _ (fresh : Bool) (b : ℕ) (text : Text) (h10 : eqb b 10 ≡ false) (h34 : eqb b 34 ≡ false) (h39 : eqb b 39 ≡ false)
    (h76 : eqb b 76 ≡ false) (h47 : eqb b 47 ≡ false)
    (h35 : eqb b 35 ≡ false) where
  by_tests : (blank letter begins : Bool) (n m k : ℕ) →
      Reason fresh (b ∷ text) (cond blank (lexeme.Blank, n)
      (cond letter (lexeme.Word, m) (cond begins (lexeme.Number, k) (other fresh (b ∷ text)))))
  by_tests true letter begins n m k s h = absurd cc
  by_tests false true begins n m k s h = absurd cc
  by_tests false false true n m k s h = absurd cc
  by_tests false false false n m k s h =
      subst (Reason fresh (b ∷ text)) (sym (other_plain fresh b text h10 h34 h39 h76 h47 h35))
      (marked_reason fresh (b ∷ text)
      (shut_reason fresh (b ∷ text) (ap (λ x. x && fresh) h35) (shut_plain fresh b text h10 h34 h39 h76 h47 h35))
      (punctuator (b ∷ text))) s h

  reason_plain : Reason fresh (b ∷ text) (piece_at fresh (b ∷ text))
  unfolding piece_at
  reason_plain =
      subst (λ x. Reason fresh (b ∷ text)
      (cond (is_in class.Blank b) (lexeme.Blank, 0 + prefix_len (is_in class.Blank) (b ∷ text))
      (cond x (wide (b ∷ text))
      (cond (is_in class.Letter b) (lexeme.Word, 1 + prefix_len (is_in class.Word) text)
      (cond (begins_number (b ∷ text)) (lexeme.Number, 1 + number_more b text) (other fresh (b ∷ text))))))) (sym h76)
      (by_tests (is_in class.Blank b) (is_in class.Letter b) (begins_number (b ∷ text))
      (0 + prefix_len (is_in class.Blank) (b ∷ text)) (1 + prefix_len (is_in class.Word) text) (1 + number_more b text))

pub reason : (fresh : Bool) (text : Text) → 0 < length text → Reason fresh text (piece_at fresh text)
reason fresh [] some = absurd (omega arith)
reason fresh (b ∷ text) some =
    by_first (eqb b 10) (eqb b 34) (eqb b 39) (eqb b 76) (eqb b 47) (eqb b 35) refl refl refl refl refl refl where
      by_first : (b10 b34 b39 b76 b47 b35 : Bool) → eqb b 10 ≡ b10 → eqb b 34 ≡ b34 → eqb b 39 ≡ b39 → eqb b 76 ≡ b76 →
          eqb b 47 ≡ b47 → eqb b 35 ≡ b35 → Reason fresh (b ∷ text) (piece_at fresh (b ∷ text))
      by_first true b34 b39 b76 b47 b35 h i j k l m =
          subst (λ x. Reason fresh (x ∷ text) (piece_at fresh (x ∷ text)))
          (sym (eqb-true b 10 h)) (reason_10 fresh text)
      by_first false true b39 b76 b47 b35 h i j k l m =
          subst (λ x. Reason fresh (x ∷ text) (piece_at fresh (x ∷ text)))
          (sym (eqb-true b 34 i)) (reason_34 fresh text)
      by_first false false true b76 b47 b35 h i j k l m =
          subst (λ x. Reason fresh (x ∷ text) (piece_at fresh (x ∷ text)))
          (sym (eqb-true b 39 j)) (reason_39 fresh text)
      by_first false false false true b47 b35 h i j k l m =
          subst (λ x. Reason fresh (x ∷ text) (piece_at fresh (x ∷ text)))
          (sym (eqb-true b 76 k)) (reason_76 fresh text)
      by_first false false false false true b35 h i j k l m =
          subst (λ x. Reason fresh (x ∷ text) (piece_at fresh (x ∷ text)))
          (sym (eqb-true b 47 l)) (reason_47 fresh text)
      by_first false false false false false true h i j k l m =
          subst (λ x. Reason fresh (x ∷ text) (piece_at fresh (x ∷ text)))
          (sym (eqb-true b 35 m)) (reason_35 fresh text)
      by_first false false false false false false h i j k l m = reason_plain fresh b text h i j k l m
