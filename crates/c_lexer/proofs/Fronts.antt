-- The piece at the front of a text is spelled by what it takes.
use Rattle.std.proofs.Common.{◌≡◌, ℕ, suc, ◌+◌, ◌<◌, Bool, true, false, cond, ◌&&◌, ◌||◌, eqb, [], ◌∷◌, ◌++◌, length}
use Rattle.std.proofs.Common.{get_or, take, drop, Option, Some, None, IsSome, refl, ap, sym, subst, ◌∙◌, inl, inr}
use Rattle.std.proofs.Common.{arith, append_assoc, length-append}
use Rattle.std.specs.List.{prefix_len}
use Rattle.std.proofs.lemmas.Bool.{false≢true, eqb-true, eqb-false}
use Rattle.std.proofs.lemmas.Bool.Decides.{nat_tests, eqb_tells}
use Rattle.std.proofs.lemmas.List.{take-append-drop, length-take-le, drop_more, drop_all}
use Rattle.std.proofs.lemmas.List.Sums.{prefix_len_stops}
use Rattle.c_lexer.specs.Class.{Text, is_in}
use Rattle.c_lexer.specs.Tables.{punctuator}
use Rattle.c_lexer.specs.Number.{goes_on, number_more}
use Rattle.c_lexer.specs.Literal.{closing}
use Rattle.c_lexer.specs.Directive.{directive}
use Rattle.c_lexer.specs.Piece.{Piece, piece_at, other, closed, comment_end, directive_piece, marked, begins_number}
use Rattle.c_lexer.specs.Spelling.{IsBody, Begins, opens}
use Rattle.c_lexer.specs.declared.class.Class.{Class}
use Rattle.c_lexer.specs.declared.class.Class.TheVariants as class
use Rattle.c_lexer.specs.declared.directive.Directive.{Directive}
use Rattle.c_lexer.specs.declared.directive.Directive.TheVariants as says
use Rattle.c_lexer.specs.declared.piece.Lexeme.{Lexeme}
use Rattle.c_lexer.specs.declared.piece.Lexeme.TheVariants as lexeme
use Rattle.c_language.specs.declared.token.Punctuator.{Punctuator}
use Rattle.c_lexer.proofs.Runs.{run_is, run_within, number_is, number_within}
use Rattle.c_lexer.proofs.Closings.{closed_from, ended_from}
use Rattle.c_lexer.proofs.Marks.{punctuator_found}

abbrev pub is_stray : Lexeme → Bool
is_stray (lexeme.Stray s) = true
is_stray _ = false

-- a piece takes some bytes of a text, which spell it
pub record Front (fresh : Bool) (text : Text) (p : Piece) : Type 0 where
  pub bytes : Text
  pub rest : Text
  pub text_is : text ≡ bytes ++ rest
  pub long : length bytes ≡ p.1
  pub begins : Begins fresh p.0 bytes rest

abbrev Sound : Bool → Text → Piece → Type 0
Sound fresh text p = is_stray p.0 ≡ false → Front fresh text p

-- ---- bytes of different classes

pub apart : (c : Class) (b d : ℕ) → is_in c b ≡ true → is_in c d ≡ false → eqb b d ≡ false
apart c b d h k = elim (eqb_tells b d)
    [ inl t ↦ absurd (false≢true (sym k ∙ ap (is_in c) (sym t.1) ∙ h)) | inr t ↦ t.0 ]

pub letter_blank : (b : ℕ) → is_in class.Letter b ≡ true → is_in class.Blank b ≡ false
letter_blank b h = grind (arith, nat_tests, h)

-- ---- each kind

module _ (fresh : Bool) (kind : Lexeme) (quote : ℕ) (text : Text) where
  quoted_front : (o : Option ℕ) → closing quote false 1 text ≡ o →
      ((body rest : Text) → IsBody quote body → Begins fresh kind (quote ∷ body ++ quote ∷ []) rest) →
      Sound fresh (quote ∷ text) (closed kind o)
  quoted_front None h begins sound = absurd (false≢true (sym sound))
  quoted_front (Some end) h begins sound =
      let c = closed_from quote false 1 text end h in
      record {
        bytes = quote ∷ c.body ++ quote ∷ [];
        rest = c.rest;
        text_is = ap (λ t. quote ∷ t) (c.text_is ∙ sym (append_assoc c.body (quote ∷ []) c.rest));
        long = omega (arith, c.end_is, length-append c.body (quote ∷ []));
        begins = begins c.body c.rest c.is_body;
      }

  wide_front : (o : Option ℕ) → closing quote false 2 text ≡ o →
      ((body rest : Text) → IsBody quote body → Begins fresh kind (76 ∷ quote ∷ body ++ quote ∷ []) rest) →
      Sound fresh (76 ∷ quote ∷ text) (closed kind o)
  wide_front None h begins sound = absurd (false≢true (sym sound))
  wide_front (Some end) h begins sound =
      let c = closed_from quote false 2 text end h in
      record {
        bytes = 76 ∷ quote ∷ c.body ++ quote ∷ [];
        rest = c.rest;
        text_is = ap (λ t. 76 ∷ quote ∷ t) (c.text_is ∙ sym (append_assoc c.body (quote ∷ []) c.rest));
        long = omega (arith, c.end_is, length-append c.body (quote ∷ []));
        begins = begins c.body c.rest c.is_body;
      }

block_front : (fresh : Bool) (text : Text) (o : Option ℕ) → comment_end false 2 text ≡ o →
    Sound fresh (47 ∷ 42 ∷ text) (closed lexeme.Comment o)
block_front fresh text None h sound = absurd (false≢true (sym sound))
block_front fresh text (Some end) h sound =
    let e = ended_from false 2 text end h in
    record {
      bytes = 47 ∷ 42 ∷ e.body ++ 47 ∷ [];
      rest = e.rest;
      text_is = ap (λ t. 47 ∷ 42 ∷ t) (e.text_is ∙ sym (append_assoc e.body (47 ∷ []) e.rest));
      long = omega (arith, e.end_is, length-append e.body (47 ∷ []));
      begins = inl (e.body, e.unclosed, e.star, refl);
    }

line_front : (fresh : Bool) (text : Text) →
    Front fresh (47 ∷ 47 ∷ text) (lexeme.Comment, 2 + prefix_len (is_in class.Line) text)
line_front fresh text =
    let n = prefix_len (is_in class.Line) text in
    record {
      bytes = 47 ∷ 47 ∷ take n text;
      rest = drop n text;
      text_is = ap (λ t. 47 ∷ 47 ∷ t) (sym (take-append-drop n text));
      long = omega (arith, length-take-le n text (run_within class.Line text));
      begins = inr (take n text, run_is class.Line text, refl);
    }

word_front : (fresh : Bool) (b : ℕ) (text : Text) → is_in class.Letter b ≡ true → opens fresh (b ∷ text) ≡ false →
    Front fresh (b ∷ text) (lexeme.Word, 1 + prefix_len (is_in class.Word) text)
word_front fresh b text letter shut =
    let n = prefix_len (is_in class.Word) text in
    record {
      bytes = b ∷ take n text;
      rest = drop n text;
      text_is = ap (λ t. b ∷ t) (sym (take-append-drop n text));
      long = omega (arith, length-take-le n text (run_within class.Word text));
      begins = ((letter, run_is class.Word text), ap (λ t. opens fresh (b ∷ t)) (take-append-drop n text) ∙ shut);
    }

mark_front : (fresh : Bool) (text : Text) → opens fresh text ≡ false → (o : Option (Punctuator × ℕ)) →
    punctuator text ≡ o → Sound fresh text (marked o)
mark_front fresh text shut None h sound = absurd (false≢true (sym sound))
mark_front fresh text shut (Some q) h sound =
    let f = punctuator_found text q h in
    record {
      bytes = f.bytes;
      rest = f.rest;
      text_is = f.text_is;
      long = f.long;
      begins =
          (f.has, ap (opens fresh) (sym f.text_is) ∙ shut);
    }

pub digit_goes : (b c : ℕ) → is_in class.Digit c ≡ true → goes_on b c ≡ true
digit_goes b c h = let word : is_in class.Word c ≡ true = grind (arith, nat_tests, h) in
    ap (λ w. w || eqb c 46 || (is_in class.Sign c && (is_in class.Exponent b || is_in class.BinaryExponent b))) word

first_digit : (x y z : Bool) → (x || (y && z)) ≡ true → z ≡ false → (x || (y && false)) ≡ true
first_digit true y z h k = refl
first_digit false true z h k = absurd (false≢true (sym k ∙ h))
first_digit false false z h k = absurd (false≢true h)

not_digit : (b c : ℕ) → goes_on b c ≡ false → is_in class.Digit c ≡ false
not_digit b c h = other_case (is_in class.Digit c) refl where
  other_case : (d : Bool) → is_in class.Digit c ≡ d → is_in class.Digit c ≡ false
  other_case true k = absurd (false≢true (sym h ∙ digit_goes b c k))
  other_case false k = k

number_begins : (b : ℕ) (text : Text) → begins_number (b ∷ text) ≡ true →
    begins_number (b ∷ take (number_more b text) text) ≡ true
number_begins b [] h = h
number_begins b (c ∷ text) h = by_next (goes_on b c) refl where
  by_next : (g : Bool) → goes_on b c ≡ g →
      begins_number (b ∷ take (cond g (1 + number_more c text) 0) (c ∷ text)) ≡ true
  by_next true k = let e : 1 + number_more c text ≡ suc (number_more c text) = omega arith in rw e h
  by_next false k = first_digit (is_in class.Digit b) (eqb b 46) (is_in class.Digit c) h (not_digit b c k)

number_front : (fresh : Bool) (b : ℕ) (text : Text) → begins_number (b ∷ text) ≡ true →
    Front fresh (b ∷ text) (lexeme.Number, 1 + number_more b text)
number_front fresh b text begins =
    let n = number_more b text in
    record {
      bytes = b ∷ take n text;
      rest = drop n text;
      text_is = ap (λ t. b ∷ t) (sym (take-append-drop n text));
      long = omega (arith, length-take-le n text (number_within b text));
      begins = (number_begins b text begins, number_is b text);
    }

blank_front : (fresh : Bool) (b : ℕ) (text : Text) → is_in class.Blank b ≡ true →
    Front fresh (b ∷ text) (lexeme.Blank, 1 + prefix_len (is_in class.Blank) text)
blank_front fresh b text blank =
    let n = prefix_len (is_in class.Blank) text in
    record {
      bytes = b ∷ take n text;
      rest = drop n text;
      text_is = ap (λ t. b ∷ t) (sym (take-append-drop n text));
      long = omega (arith, length-take-le n text (run_within class.Blank text));
      begins = (λ e. cc, (blank, run_is class.Blank text));
    }

-- ---- directives

ten : (b : ℕ) → is_in class.Line b ≡ false → b ≡ 10
ten b h = grind (arith, nat_tests, h)

pub line_break : (text : Text) → prefix_len (is_in class.Line) text < length text →
    text ≡ take (prefix_len (is_in class.Line) text) text ++ 10 ∷ drop (prefix_len (is_in class.Line) text + 1) text
line_break text h =
    let n = prefix_len (is_in class.Line) text in
    let last : get_or text n 0 ≡ 10 = ten (get_or text n 0) (prefix_len_stops (is_in class.Line) text 0 h) in
    sym (take-append-drop n text) ∙ ap (λ t. take n text ++ t) (drop_more text n 0 h)
    ∙ ap (λ b. take n text ++ b ∷ drop (n + 1) text) last

module _ (text : Text) where
  n : ℕ
  n = prefix_len (is_in class.Line) text

  cut_short : length text ≡ n → IsSome (directive (35 ∷ take n text)) → Front true (35 ∷ text) (lexeme.Ignored, suc n)
  unfolding n
  cut_short e some =
      record {
        bytes = 35 ∷ take n text;
        rest = drop n text;
        text_is = ap (λ t. 35 ∷ t) (sym (take-append-drop n text));
        long = omega (arith, length-take-le n text (run_within class.Line text));
        begins = (refl, (take n text, run_is class.Line text, inr (refl, drop_all n text (omega (arith, e)), some)));
      }

  whole_line : (kind : Lexeme) → (length text ≡ n → ⊥) →
      ((rest : Text) → Begins true kind (35 ∷ take n text ++ 10 ∷ []) rest) → Front true (35 ∷ text) (kind, suc n + 1)
  unfolding n
  whole_line kind more begins =
      let within : n < length text = omega (arith, run_within class.Line text) in
      record {
        bytes = 35 ∷ take n text ++ 10 ∷ [];
        rest = drop (n + 1) text;
        text_is = ap (λ t. 35 ∷ t) (line_break text within
            ∙ sym (append_assoc (take n text) (10 ∷ []) (drop (n + 1) text)));
        long = omega (arith, length-append (take n text) (10 ∷ []), length-take-le n text (run_within class.Line text));
        begins = begins (drop (n + 1) text);
      }

  marker_front : (line from to : ℕ) → directive (35 ∷ take n text) ≡ Some (says.Marker line from to) → (last : Bool) →
      eqb (suc n) (suc (length text)) ≡ last →
      Sound true (35 ∷ text) (cond last (lexeme.Ignored, suc n) (lexeme.Marker line from to, suc n + 1))
  unfolding n
  marker_front line from to h true e sound =
      let same = eqb-true (suc n) (suc (length text)) e in
      cut_short (omega (arith, same)) (subst IsSome (sym h) refl)
  marker_front line from to h false e sound =
      whole_line (lexeme.Marker line from to) (λ same. eqb-false (suc n) (suc (length text)) e (ap suc (sym same)))
      (λ rest. (refl, (take n text, run_is class.Line text, refl, h)))

  pragma_front : directive (35 ∷ take n text) ≡ Some says.Pragma → (last : Bool) →
      eqb (suc n) (suc (length text)) ≡ last →
      Sound true (35 ∷ text) (cond last (lexeme.Ignored, suc n) (lexeme.Ignored, suc n + 1))
  unfolding n
  pragma_front h true e sound =
      let same = eqb-true (suc n) (suc (length text)) e in
      cut_short (omega (arith, same)) (subst IsSome (sym h) refl)
  pragma_front h false e sound =
      whole_line lexeme.Ignored (λ same. eqb-false (suc n) (suc (length text)) e (ap suc (sym same)))
      (λ rest. (refl, (take n text, run_is class.Line text, inl (refl, h))))

  directive_front : (o : Option Directive) → directive (35 ∷ take n text) ≡ o →
      Sound true (35 ∷ text) (directive_piece (35 ∷ text) (suc n) o)
  directive_front None h sound = absurd (false≢true (sym sound))
  directive_front (Some (says.Marker line from to)) h sound =
      marker_front line from to h (eqb (suc n) (suc (length text))) refl sound
  directive_front (Some says.Pragma) h sound = pragma_front h (eqb (suc n) (suc (length text))) refl sound

-- ---- the first byte tells the kind

sound_10 : (fresh : Bool) (text : Text) → Sound fresh (10 ∷ text) (piece_at fresh (10 ∷ text))
unfolding piece_at other
sound_10 fresh text sound = record { bytes = 10 ∷ []; rest = text; text_is = refl; long = refl; begins = refl }

sound_34 : (fresh : Bool) (text : Text) → Sound fresh (34 ∷ text) (piece_at fresh (34 ∷ text))
unfolding piece_at other
sound_34 fresh text = quoted_front fresh lexeme.Text 34 text (closing 34 false 1 text) refl
    (λ body rest is. (body, is, refl))

sound_39 : (fresh : Bool) (text : Text) → Sound fresh (39 ∷ text) (piece_at fresh (39 ∷ text))
unfolding piece_at other
sound_39 fresh text = quoted_front fresh lexeme.Character 39 text (closing 39 false 1 text) refl
    (λ body rest is. (body, is, refl))

wide_39 : (fresh : Bool) (text : Text) → Sound fresh (76 ∷ 39 ∷ text) (piece_at fresh (76 ∷ 39 ∷ text))
unfolding piece_at
wide_39 fresh text = wide_front fresh lexeme.WideCharacter 39 text (closing 39 false 2 text) refl
    (λ body rest is. (39 ∷ body ++ 39 ∷ [], (body, is, refl), refl))

wide_34 : (fresh : Bool) (text : Text) → Sound fresh (76 ∷ 34 ∷ text) (piece_at fresh (76 ∷ 34 ∷ text))
unfolding piece_at
wide_34 fresh text = wide_front fresh lexeme.WideText 34 text (closing 34 false 2 text) refl
    (λ body rest is. (34 ∷ body ++ 34 ∷ [], (body, is, refl), refl))

pub shut_76 : (fresh : Bool) (c : ℕ) (text : Text) → eqb c 39 ≡ false → eqb c 34 ≡ false →
    opens fresh (76 ∷ c ∷ text) ≡ false
shut_76 fresh c text a q = rw (a, q) refl

sound_76 : (fresh : Bool) (text : Text) → Sound fresh (76 ∷ text) (piece_at fresh (76 ∷ text))
unfolding piece_at
sound_76 fresh [] = λ sound. word_front fresh 76 [] refl refl
sound_76 fresh (c ∷ text) = by_next (eqb c 39) (eqb c 34) refl refl where
  by_next : (a q : Bool) → eqb c 39 ≡ a → eqb c 34 ≡ q → Sound fresh (76 ∷ c ∷ text) (piece_at fresh (76 ∷ c ∷ text))
  by_next true q h k = subst (λ x. Sound fresh (76 ∷ x ∷ text) (piece_at fresh (76 ∷ x ∷ text))) (sym (eqb-true c 39 h))
      (wide_39 fresh text)
  by_next false true h k = subst (λ x. Sound fresh (76 ∷ x ∷ text) (piece_at fresh (76 ∷ x ∷ text)))
      (sym (eqb-true c 34 k)) (wide_34 fresh text)
  by_next false false h k = rw (h, k) (λ sound. word_front fresh 76 (c ∷ text) refl (shut_76 fresh c text h k))

comment_42 : (fresh : Bool) (text : Text) → Sound fresh (47 ∷ 42 ∷ text) (piece_at fresh (47 ∷ 42 ∷ text))
unfolding piece_at other
comment_42 fresh text = block_front fresh text (comment_end false 2 text) refl

comment_47 : (fresh : Bool) (text : Text) → Sound fresh (47 ∷ 47 ∷ text) (piece_at fresh (47 ∷ 47 ∷ text))
unfolding piece_at other
comment_47 fresh text sound = line_front fresh text

pub shut_47 : (fresh : Bool) (c : ℕ) (text : Text) → eqb c 42 ≡ false → eqb c 47 ≡ false →
    opens fresh (47 ∷ c ∷ text) ≡ false
shut_47 fresh c text s t = rw (s, t) refl

sound_47 : (fresh : Bool) (text : Text) → Sound fresh (47 ∷ text) (piece_at fresh (47 ∷ text))
unfolding piece_at other
sound_47 fresh [] = mark_front fresh (47 ∷ []) refl (punctuator (47 ∷ [])) refl
sound_47 fresh (c ∷ text) = by_next (eqb c 42) (eqb c 47) refl refl where
  by_next : (s t : Bool) → eqb c 42 ≡ s → eqb c 47 ≡ t → Sound fresh (47 ∷ c ∷ text) (piece_at fresh (47 ∷ c ∷ text))
  by_next true t h k = subst (λ x. Sound fresh (47 ∷ x ∷ text) (piece_at fresh (47 ∷ x ∷ text))) (sym (eqb-true c 42 h))
      (comment_42 fresh text)
  by_next false true h k = subst (λ x. Sound fresh (47 ∷ x ∷ text) (piece_at fresh (47 ∷ x ∷ text)))
      (sym (eqb-true c 47 k)) (comment_47 fresh text)
  by_next false false h k = rw (h, k)
      (mark_front fresh (47 ∷ c ∷ text) (shut_47 fresh c text h k) (punctuator (47 ∷ c ∷ text)) refl)

sound_35 : (fresh : Bool) (text : Text) → Sound fresh (35 ∷ text) (piece_at fresh (35 ∷ text))
unfolding piece_at other n
sound_35 false text = mark_front false (35 ∷ text) refl (punctuator (35 ∷ text)) refl
sound_35 true text =
    let m = prefix_len (is_in class.Line) text in
    let e : 0 + (1 + m) ≡ suc m = omega arith in
    subst (λ k. Sound true (35 ∷ text) (directive_piece (35 ∷ text) k (directive (take k (35 ∷ text))))) (sym e)
    (directive_front text (directive (35 ∷ take m text)) refl)

module _ (fresh : Bool) (b : ℕ) (text : Text) (h10 : eqb b 10 ≡ false) (h34 : eqb b 34 ≡ false) (h39 : eqb b 39 ≡ false)
    (h76 : eqb b 76 ≡ false) (h47 : eqb b 47 ≡ false)
    (h35 : eqb b 35 ≡ false) where
  pub shut_plain : opens fresh (b ∷ text) ≡ false
  shut_plain = rw (h34, h39, h76, h47, h35) refl

  pub other_plain : other fresh (b ∷ text) ≡ marked (punctuator (b ∷ text))
  unfolding other
  other_plain = rw (h10, h34, h39, h47, h35) refl

  blank_len : is_in class.Blank b ≡ true →
      1 + prefix_len (is_in class.Blank) text ≡ 0 + prefix_len (is_in class.Blank) (b ∷ text)
  blank_len h = omega (arith, ap (λ x. cond x (1 + prefix_len (is_in class.Blank) text) 0) h)

  by_tests : (blank letter begins : Bool) → is_in class.Blank b ≡ blank → is_in class.Letter b ≡ letter →
      begins_number (b ∷ text) ≡ begins →
      Sound fresh (b ∷ text) (cond blank (lexeme.Blank, 0 + prefix_len (is_in class.Blank) (b ∷ text))
      (cond letter (lexeme.Word, 1 + prefix_len (is_in class.Word) text)
      (cond begins (lexeme.Number, 1 + number_more b text) (other fresh (b ∷ text)))))
  by_tests true letter begins h k l sound =
      subst (λ m. Front fresh (b ∷ text) (lexeme.Blank, m)) (blank_len h) (blank_front fresh b text h)
  by_tests false true begins h k l sound = word_front fresh b text k shut_plain
  by_tests false false true h k l sound = number_front fresh b text l
  by_tests false false false h k l sound =
      subst (Sound fresh (b ∷ text)) (sym other_plain)
      (mark_front fresh (b ∷ text) shut_plain (punctuator (b ∷ text)) refl) sound

  sound_plain : Sound fresh (b ∷ text) (piece_at fresh (b ∷ text))
  unfolding piece_at
  sound_plain = rw h76 (by_tests (is_in class.Blank b) (is_in class.Letter b) (begins_number (b ∷ text)) refl refl refl)

-- what a piece takes spells it
pub sound : (fresh : Bool) (text : Text) → 0 < length text → Sound fresh text (piece_at fresh text)
sound fresh [] some = absurd (omega arith)
sound fresh (b ∷ text) some = by_first (eqb b 10) (eqb b 34) (eqb b 39) (eqb b 76) (eqb b 47)
    (eqb b 35) refl refl refl refl refl refl where
      by_first : (b10 b34 b39 b76 b47 b35 : Bool) → eqb b 10 ≡ b10 → eqb b 34 ≡ b34 → eqb b 39 ≡ b39 → eqb b 76 ≡ b76 →
          eqb b 47 ≡ b47 → eqb b 35 ≡ b35 → Sound fresh (b ∷ text) (piece_at fresh (b ∷ text))
      by_first true b34 b39 b76 b47 b35 h i j k l m =
          subst (λ x. Sound fresh (x ∷ text) (piece_at fresh (x ∷ text))) (sym (eqb-true b 10 h)) (sound_10 fresh text)
      by_first false true b39 b76 b47 b35 h i j k l m =
          subst (λ x. Sound fresh (x ∷ text) (piece_at fresh (x ∷ text))) (sym (eqb-true b 34 i)) (sound_34 fresh text)
      by_first false false true b76 b47 b35 h i j k l m =
          subst (λ x. Sound fresh (x ∷ text) (piece_at fresh (x ∷ text))) (sym (eqb-true b 39 j)) (sound_39 fresh text)
      by_first false false false true b47 b35 h i j k l m =
          subst (λ x. Sound fresh (x ∷ text) (piece_at fresh (x ∷ text))) (sym (eqb-true b 76 k)) (sound_76 fresh text)
      by_first false false false false true b35 h i j k l m =
          subst (λ x. Sound fresh (x ∷ text) (piece_at fresh (x ∷ text))) (sym (eqb-true b 47 l)) (sound_47 fresh text)
      by_first false false false false false true h i j k l m =
          subst (λ x. Sound fresh (x ∷ text) (piece_at fresh (x ∷ text))) (sym (eqb-true b 35 m)) (sound_35 fresh text)
      by_first false false false false false false h i j k l m = sound_plain fresh b text h i j k l m
