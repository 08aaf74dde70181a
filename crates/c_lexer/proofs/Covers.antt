-- What begins at a text is the piece there, or is shorter.
use Rattle.std.proofs.Common.{◌≡◌, ◌≢◌, ℕ, suc, ◌+◌, ◌<◌, ◌≤◌, Bool, true, false, cond, ◌&&◌, ◌||◌, eqb, [], ◌∷◌, ◌++◌}
use Rattle.std.proofs.Common.{length, take, slice_index, Option, Some, None, IsSome, refl, ap, sym, subst, ◌∙◌, ◌⊎◌}
use Rattle.std.proofs.Common.{inl, inr, arith, append_assoc, append-nil, length-append}
use Rattle.std.specs.List.{prefix_len}
use Rattle.std.proofs.lemmas.Bool.{false≢true, eqb-true, eq-eqb, ne_eqb}
use Rattle.std.proofs.lemmas.Bool.Decides.{nat_tests, eqb_tells}
use Rattle.std.proofs.lemmas.List.{take_at}
use Rattle.c_lexer.specs.Class.{Text, is_in}
use Rattle.c_lexer.specs.Tables.{punctuator}
use Rattle.c_lexer.specs.Number.{number_more}
use Rattle.c_lexer.specs.Literal.{closing}
use Rattle.c_lexer.specs.Directive.{directive}
use Rattle.c_lexer.specs.Piece.{Piece, piece_at, other, closed, comment_end, directive_piece, marked, begins_number}
use Rattle.c_lexer.specs.Spelling.{AllIn, IsBody, IsQuoted, IsBlockComment, IsLineComment, IsWord, IsNumber, Begins}
use Rattle.c_lexer.specs.Spelling.{opens, Has}
use Rattle.c_lexer.specs.declared.class.Class.TheVariants as class
use Rattle.c_lexer.specs.declared.directive.Directive.{Directive}
use Rattle.c_lexer.specs.declared.directive.Directive.TheVariants as says
use Rattle.c_lexer.specs.declared.piece.Lexeme.{Lexeme}
use Rattle.c_lexer.specs.declared.piece.Lexeme.TheVariants as lexeme
use Rattle.c_language.specs.declared.token.Punctuator.{Punctuator}
use Rattle.c_lexer.proofs.Runs.{run_covers, number_covers, body_closes}
use Rattle.c_lexer.proofs.Closings.{comment_closes}
use Rattle.c_lexer.specs.Vocabulary.{punctuators}
use Rattle.c_lexer.proofs.Marks.{Finds, punctuator_finds, mark}
use Rattle.c_lexer.proofs.Fronts.{is_stray, apart, letter_blank, digit_goes}

-- a piece is this one, or is longer
abbrev pub Covers : Lexeme → ℕ → Piece → Type 0
Covers kind len p = ((kind ≡ p.0) × (len ≡ p.1)) ⊎ ((is_stray p.0 ≡ false) × (len < p.1))

within : (kind : Lexeme) (len long : ℕ) → is_stray kind ≡ false → len ≤ long → Covers kind len (kind, long)
within kind len long plain le =
    elim (eqb_tells len long) [ inl t ↦ inl (refl, t.1) | inr t ↦ let ne = t.1 in inr (plain, omega (arith, ne)) ]

exactly : (kind : Lexeme) (len long : ℕ) → len ≡ long → Covers kind len (kind, long)
exactly kind len long same = inl (refl, same)

-- ---- each kind

blank_covers : (fresh : Bool) (bytes rest : Text) → bytes ≢ [] → AllIn class.Blank bytes →
    Covers lexeme.Blank (length bytes) (piece_at fresh (bytes ++ rest))
unfolding piece_at
blank_covers fresh [] rest some all = absurd (some refl)
blank_covers fresh (b ∷ bytes) rest some all =
    rw all.0 (within lexeme.Blank (suc (length bytes)) (0 + (1 + prefix_len (is_in class.Blank) (bytes ++ rest))) refl
    (omega (arith, run_covers class.Blank bytes rest all.1)))

newline_covers : (fresh : Bool) (rest : Text) → Covers lexeme.Newline 1 (piece_at fresh (10 ∷ rest))
unfolding piece_at other
newline_covers fresh rest = exactly lexeme.Newline 1 1 refl

block_covers : (fresh : Bool) (body rest : Text) (o : Option ℕ) → o ≡ Some (2 + length body + 1) →
    Covers lexeme.Comment (length (47 ∷ 42 ∷ body ++ 47 ∷ [])) (closed lexeme.Comment o)
block_covers fresh body rest o h =
    subst (λ o. Covers lexeme.Comment (length (47 ∷ 42 ∷ body ++ 47 ∷ [])) (closed lexeme.Comment o)) (sym h)
    (exactly lexeme.Comment (length (47 ∷ 42 ∷ body ++ 47 ∷ [])) (2 + length body + 1)
    (omega (arith, length-append body (47 ∷ []))))

comment_covers : (fresh : Bool) (bytes rest : Text) → IsBlockComment bytes →
    Covers lexeme.Comment (length bytes) (piece_at fresh (bytes ++ rest))
unfolding piece_at other
comment_covers fresh bytes rest (body, unclosed, star, is) =
    subst (λ bs. Covers lexeme.Comment (length bs) (piece_at fresh (bs ++ rest))) (sym is)
    (block_covers fresh body rest (comment_end false 2 ((body ++ 47 ∷ []) ++ rest))
    (ap (comment_end false 2) (append_assoc body (47 ∷ []) rest) ∙ comment_closes false body rest 2 unclosed star))

line_covers : (fresh : Bool) (bytes rest : Text) → IsLineComment bytes →
    Covers lexeme.Comment (length bytes) (piece_at fresh (bytes ++ rest))
unfolding piece_at other
line_covers fresh bytes rest (more, all, is) =
    subst (λ bs. Covers lexeme.Comment (length bs) (piece_at fresh (bs ++ rest))) (sym is)
    (within lexeme.Comment (suc (suc (length more))) (2 + prefix_len (is_in class.Line) (more ++ rest)) refl
    (omega (arith, run_covers class.Line more rest all)))

-- ---- literals

module _ (kind : Lexeme) (quote at : ℕ) (no_newline : eqb quote 10 ≡ false) (itself : eqb quote quote ≡ true)
    (no_backslash : eqb 92 quote ≡ false) (body rest : Text) (is : IsBody quote body) where
  quoted_covers : (len : ℕ) → len ≡ at + length body + 1 →
      Covers kind len (closed kind (closing quote false at ((body ++ quote ∷ []) ++ rest)))
  quoted_covers len same =
      subst (λ o. Covers kind len (closed kind o))
      (sym (ap (closing quote false at) (append_assoc body (quote ∷ []) rest)
      ∙ body_closes quote no_newline itself no_backslash body rest at is))
      (exactly kind len (at + length body + 1) same)

string_covers : (fresh : Bool) (bytes rest : Text) → IsQuoted 34 bytes →
    Covers lexeme.Text (length bytes) (piece_at fresh (bytes ++ rest))
unfolding piece_at other
string_covers fresh bytes rest (body, is_body, is) =
    subst (λ bs. Covers lexeme.Text (length bs) (piece_at fresh (bs ++ rest))) (sym is)
    (quoted_covers lexeme.Text 34 1 refl refl refl body rest is_body (length (34 ∷ body ++ 34 ∷ []))
    (omega (arith, length-append body (34 ∷ []))))

character_covers : (fresh : Bool) (bytes rest : Text) → IsQuoted 39 bytes →
    Covers lexeme.Character (length bytes) (piece_at fresh (bytes ++ rest))
unfolding piece_at other
character_covers fresh bytes rest (body, is_body, is) =
    subst (λ bs. Covers lexeme.Character (length bs) (piece_at fresh (bs ++ rest))) (sym is)
    (quoted_covers lexeme.Character 39 1 refl refl refl body rest is_body (length (39 ∷ body ++ 39 ∷ []))
    (omega (arith, length-append body (39 ∷ []))))

wide_string_covers : (fresh : Bool) (bytes rest more : Text) → IsQuoted 34 more → bytes ≡ 76 ∷ more →
    Covers lexeme.WideText (length bytes) (piece_at fresh (bytes ++ rest))
unfolding piece_at
wide_string_covers fresh bytes rest more (body, is_body, is) whole =
    subst (λ bs. Covers lexeme.WideText (length bs) (piece_at fresh (bs ++ rest))) (sym (whole ∙ ap (λ m. 76 ∷ m) is))
    (quoted_covers lexeme.WideText 34 2 refl refl refl body rest is_body (length (76 ∷ 34 ∷ body ++ 34 ∷ []))
    (omega (arith, length-append body (34 ∷ []))))

wide_character_covers : (fresh : Bool) (bytes rest more : Text) → IsQuoted 39 more → bytes ≡ 76 ∷ more →
    Covers lexeme.WideCharacter (length bytes) (piece_at fresh (bytes ++ rest))
unfolding piece_at
wide_character_covers fresh bytes rest more (body, is_body, is) whole =
    subst (λ bs. Covers lexeme.WideCharacter (length bs) (piece_at fresh (bs ++ rest)))
    (sym (whole ∙ ap (λ m. 76 ∷ m) is))
    (quoted_covers lexeme.WideCharacter 39 2 refl refl refl body rest is_body (length (76 ∷ 39 ∷ body ++ 39 ∷ []))
    (omega (arith, length-append body (39 ∷ []))))

-- ---- directives

line_len : (more rest : Text) → AllIn class.Line more → prefix_len (is_in class.Line) (more ++ 10 ∷ rest) ≡ length more
line_len [] rest all = refl
line_len (b ∷ more) rest all = rw all.0 (omega (arith, line_len more rest all.1))

last_len : (more : Text) → AllIn class.Line more → prefix_len (is_in class.Line) more ≡ length more
last_len [] all = refl
last_len (b ∷ more) all = rw all.0 (omega (arith, last_len more all.1))

module _ (more rest : Text) (all : AllIn class.Line more) where
  ended : Text
  ended = 35 ∷ more ++ 10 ∷ rest

  directive_at : (o : Option Directive) → directive (35 ∷ more) ≡ o →
      piece_at true (35 ∷ more ++ 10 ∷ rest) ≡ directive_piece (35 ∷ more ++ 10 ∷ rest) (suc (length more)) o
  unfolding piece_at other
  directive_at o h =
      let text : Text = 35 ∷ more ++ 10 ∷ rest in
      let len : 0 + (1 + prefix_len (is_in class.Line) (more ++ 10 ∷ rest)) ≡ suc (length more) =
      omega (arith, line_len more rest all) in
      ap (λ k. directive_piece text k (directive (take k text))) len
      ∙ ap (λ t. directive_piece text (suc (length more)) (directive (35 ∷ t)))
      (take_at more (10 ∷ rest) (length more) refl)
      ∙ ap (directive_piece text (suc (length more))) h

  not_last : eqb (suc (length more)) (suc (length (more ++ 10 ∷ rest))) ≡ false
  not_last = ne_eqb (suc (length more)) (suc (length (more ++ 10 ∷ rest)))
      (λ same. absurd (omega (arith, same, length-append more (10 ∷ rest))))

  marker_at : (line from to : ℕ) → directive (35 ∷ more) ≡ Some (says.Marker line from to) →
      piece_at true (35 ∷ more ++ 10 ∷ rest) ≡ (lexeme.Marker line from to, suc (length more) + 1)
  marker_at line from to h =
      directive_at (Some (says.Marker line from to)) h
      ∙ ap (λ last. cond last (lexeme.Ignored, suc (length more)) (lexeme.Marker line from to, suc (length more) + 1))
      not_last

  pragma_at : directive (35 ∷ more) ≡ Some says.Pragma →
      piece_at true (35 ∷ more ++ 10 ∷ rest) ≡ (lexeme.Ignored, suc (length more) + 1)
  pragma_at h =
      directive_at (Some says.Pragma) h
      ∙ ap (λ last. cond last (lexeme.Ignored, suc (length more)) (lexeme.Ignored, suc (length more) + 1)) not_last

itself : (n : ℕ) → eqb n n ≡ true
itself n = eq-eqb n n refl

ignored_last : (more : Text) (o : Option Directive) → IsSome o →
    directive_piece (35 ∷ more) (suc (length more)) o ≡ (lexeme.Ignored, suc (length more))
ignored_last more None some = absurd (false≢true some)
ignored_last more (Some (says.Marker line from to)) some =
    ap (λ last. cond last (lexeme.Ignored, suc (length more)) (lexeme.Marker line from to, suc (length more) + 1))
    (itself (suc (length more)))
ignored_last more (Some says.Pragma) some =
    ap (λ last. cond last (lexeme.Ignored, suc (length more)) (lexeme.Ignored, suc (length more) + 1))
    (itself (suc (length more)))

last_at : (more : Text) → AllIn class.Line more → IsSome (directive (35 ∷ more)) →
    piece_at true (35 ∷ more) ≡ (lexeme.Ignored, suc (length more))
unfolding piece_at other
last_at more all some =
    let text : Text = 35 ∷ more in
    let len : 0 + (1 + prefix_len (is_in class.Line) more) ≡ suc (length more) = omega (arith, last_len more all) in
    ap (λ k. directive_piece text k (directive (take k text))) len
    ∙ ap (λ t. directive_piece text (suc (length more)) (directive (35 ∷ t)))
    (ap (take (length more)) (sym (append-nil more)) ∙ take_at more [] (length more) refl)
    ∙ ignored_last more (directive (35 ∷ more)) some

-- ---- words

split_wide : (p q : Bool) → (((p || q) || false) || false) ≡ false → (p ≡ false) × (q ≡ false)
split_wide false false h = (refl, refl)
split_wide false true h = absurd (false≢true (sym h))
split_wide true q h = absurd (false≢true (sym h))

letter_l : (fresh : Bool) (bytes rest : Text) → AllIn class.Word bytes → opens fresh (76 ∷ bytes ++ rest) ≡ false →
    Covers lexeme.Word (suc (length bytes)) (piece_at fresh (76 ∷ bytes ++ rest))
unfolding piece_at
letter_l fresh bytes rest all shut =
    let s = split_wide (eqb (slice_index (76 ∷ bytes ++ rest) 1) 34)
    (eqb (slice_index (76 ∷ bytes ++ rest) 1) 39) shut in
    rw (s.1, s.0) (within lexeme.Word (suc (length bytes)) (1 + prefix_len (is_in class.Word) (bytes ++ rest)) refl
    (omega (arith, run_covers class.Word bytes rest all)))

letter_other : (fresh : Bool) (b : ℕ) (bytes rest : Text) → is_in class.Letter b ≡ true → AllIn class.Word bytes →
    eqb b 76 ≡ false →
    Covers lexeme.Word (suc (length bytes)) (piece_at fresh (b ∷ bytes ++ rest))
unfolding piece_at
letter_other fresh b bytes rest letter all h =
    rw (letter_blank b letter, h, letter)
    (within lexeme.Word (suc (length bytes)) (1 + prefix_len (is_in class.Word) (bytes ++ rest)) refl
    (omega (arith, run_covers class.Word bytes rest all)))

word_covers : (fresh : Bool) (bytes rest : Text) → IsWord bytes → opens fresh (bytes ++ rest) ≡ false →
    Covers lexeme.Word (length bytes) (piece_at fresh (bytes ++ rest))
word_covers fresh [] rest word shut = absurd word
word_covers fresh (b ∷ bytes) rest word shut =
    elim (eqb_tells b 76) [
      | inl t ↦ subst (λ x. opens fresh (x ∷ bytes ++ rest) ≡ false →
          Covers lexeme.Word (suc (length bytes)) (piece_at fresh (x ∷ bytes ++ rest))) (sym t.1)
          (letter_l fresh bytes rest word.1) shut
      | inr t ↦ letter_other fresh b bytes rest word.0 word.1 t.0
    ]

-- ---- numbers

digit_blank : (b : ℕ) → is_in class.Digit b ≡ true → is_in class.Blank b ≡ false
digit_blank b h = grind (arith, nat_tests, h)

digit_letter : (b : ℕ) → is_in class.Digit b ≡ true → is_in class.Letter b ≡ false
digit_letter b h = grind (arith, nat_tests, h)

record BeginsNumber (b : ℕ) : Type 0 where
  blank : is_in class.Blank b ≡ false
  l : eqb b 76 ≡ false
  letter : is_in class.Letter b ≡ false

number_byte : (b next : ℕ) (digit point : Bool) → is_in class.Digit b ≡ digit → eqb b 46 ≡ point →
    (digit || (point && is_in class.Digit next)) ≡ true → BeginsNumber b
number_byte b next true point h k is =
    record { blank = digit_blank b h; l = apart class.Digit b 76 h refl; letter = digit_letter b h }
number_byte b next false true h k is =
    let e : 46 ≡ b = sym (eqb-true b 46 k) in
    record {
      blank = ap (is_in class.Blank) (eqb-true b 46 k);
      l = ap (λ x. eqb x 76) (eqb-true b 46 k);
      letter =
          ap (is_in class.Letter) (eqb-true b 46 k);
    }
number_byte b next false false h k is = absurd (false≢true is)

or_false : (x y : Bool) → (x || (y && false)) ≡ true → x ≡ true
or_false true y h = refl
or_false false true h = absurd (false≢true h)
or_false false false h = absurd (false≢true h)

begins_with : (b : ℕ) (bytes rest : Text) → begins_number (b ∷ bytes) ≡ true → begins_number (b ∷ bytes ++ rest) ≡ true
begins_with b [] rest h =
    let digit = or_false (is_in class.Digit b) (eqb b 46) h in
    ap (λ d. d || (eqb b 46 && is_in class.Digit (slice_index (b ∷ rest) 1))) digit
begins_with b (c ∷ bytes) rest h = h

number_at : (fresh : Bool) (b : ℕ) (text : Text) → begins_number (b ∷ text) ≡ true →
    piece_at fresh (b ∷ text) ≡ (lexeme.Number, 1 + number_more b text)
unfolding piece_at
number_at fresh b text h =
    let n = number_byte b (slice_index (b ∷ text) 1) (is_in class.Digit b) (eqb b 46) refl refl h in
    rw (n.blank, n.l, n.letter, h) refl

number_piece : (fresh : Bool) (bytes rest : Text) → IsNumber bytes →
    Covers lexeme.Number (length bytes) (piece_at fresh (bytes ++ rest))
number_piece fresh [] rest number = absurd number
number_piece fresh (b ∷ bytes) rest number =
    subst (Covers lexeme.Number (suc (length bytes)))
    (sym (number_at fresh b (bytes ++ rest) (begins_with b bytes rest number.0)))
    (within lexeme.Number (suc (length bytes)) (1 + number_more b (bytes ++ rest)) refl
    (omega (arith, number_covers b bytes rest number.1)))

-- ---- punctuators

record Shut (p q r s t : Bool) : Type 0 where
  first : p ≡ false
  second : q ≡ false
  fourth : s ≡ false
  fifth : t ≡ false

shut_parts : (p q r s t : Bool) → ((((p || q) || r) || s) || t) ≡ false → Shut p q r s t
shut_parts false false false false false h = record { first = refl; second = refl; fourth = refl; fifth = refl }
shut_parts false false false false true h = absurd (false≢true (sym h))
shut_parts false false false true t h = absurd (false≢true (sym h))
shut_parts false false true s t h = absurd (false≢true (sym h))
shut_parts false true r s t h = absurd (false≢true (sym h))
shut_parts true q r s t h = absurd (false≢true (sym h))

both_not : (x y z : Bool) → (x && (y || z)) ≡ false → ((x && y) ≡ false) × ((x && z) ≡ false)
both_not false y z h = (refl, refl)
both_not true false z h = (refl, h)
both_not true true z h = absurd (false≢true (sym h))

found_covers : (p : Punctuator) (len : ℕ) (o : Option (Punctuator × ℕ)) → Finds p len o →
    Covers (lexeme.Punctuator p) len (marked o)
found_covers p len None f = absurd f
found_covers p len (Some q) (inl f) = inl (ap lexeme.Punctuator f.0, f.1)
found_covers p len (Some q) (inr f) = inr (refl, f)

point_digit : (x y z : Bool) → x ≡ false → (x || (y && z)) ≡ true → z ≡ true
point_digit x true true h k = refl
point_digit false true false h k = absurd (false≢true k)
point_digit false false z h k = absurd (false≢true k)
point_digit true y z h k = absurd (false≢true (sym h))

-- a point before a digit begins a number
point_covers : (p : Punctuator) (fresh : Bool) (b : ℕ) (bytes rest : Text) → is_in class.Digit b ≡ false →
    is_in class.Digit (slice_index (b ∷ bytes) 1) ≡ false →
    begins_number (b ∷ bytes ++ rest) ≡ true →
    Covers (lexeme.Punctuator p) (suc (length bytes)) (lexeme.Number, 1 + number_more b (bytes ++ rest))
point_covers p fresh b [] [] first second h =
    absurd (false≢true (point_digit (is_in class.Digit b) (eqb b 46) false first h))
point_covers p fresh b [] (c ∷ rest) first second h =
    let digit = point_digit (is_in class.Digit b) (eqb b 46) (is_in class.Digit c) first h in
    inr (refl, rw (digit_goes b c digit) (omega arith))
point_covers p fresh b (c ∷ bytes) rest first second h =
    absurd (false≢true (sym second ∙ point_digit (is_in class.Digit b) (eqb b 46) (is_in class.Digit c) first h))

not_l : (b : ℕ) → is_in class.Letter b ≡ false → eqb b 76 ≡ false
not_l b h = elim (eqb_tells b 76) [ inl t ↦ absurd (false≢true (sym h ∙ ap (is_in class.Letter) t.1)) | inr t ↦ t.0 ]

module _ (fresh : Bool) (p : Punctuator) (b : ℕ) (bytes rest : Text) (has : Has punctuators (b ∷ bytes) p)
    (shut : opens fresh (b ∷ bytes ++ rest) ≡ false) where
  other_at : other fresh (b ∷ bytes ++ rest) ≡ marked (punctuator (b ∷ bytes ++ rest))
  unfolding other
  other_at =
      let m = mark (b ∷ bytes) p has in
      let next = slice_index (b ∷ bytes ++ rest) 1 in
      let s = shut_parts (eqb b 34) (eqb b 39) (eqb b 76 && (eqb next 34 || eqb next 39))
      (eqb b 47 && (eqb next 42 || eqb next 47)) (eqb b 35 && fresh) shut in
      let c = both_not (eqb b 47) (eqb next 42) (eqb next 47) s.fourth in
      rw (m.newline, m.quote, m.apostrophe, c.0, c.1, s.fifth) refl

  by_number : (begins : Bool) → begins_number (b ∷ bytes ++ rest) ≡ begins →
      Covers (lexeme.Punctuator p) (suc (length bytes))
      (cond begins (lexeme.Number, 1 + number_more b (bytes ++ rest)) (other fresh (b ∷ bytes ++ rest)))
  by_number true h = let m = mark (b ∷ bytes) p has in point_covers p fresh b bytes rest m.digit m.second h
  by_number false h =
      subst (Covers (lexeme.Punctuator p) (suc (length bytes))) (sym other_at)
      (found_covers p (suc (length bytes)) (punctuator (b ∷ bytes ++ rest))
      (punctuator_finds (b ∷ bytes ++ rest) (b ∷ bytes) rest p refl has))

  mark_covers : Covers (lexeme.Punctuator p) (suc (length bytes)) (piece_at fresh (b ∷ bytes ++ rest))
  unfolding piece_at
  mark_covers =
      let m = mark (b ∷ bytes) p has in
      rw (m.blank, not_l b m.letter, m.letter) (by_number (begins_number (b ∷ bytes ++ rest)) refl)

punctuator_covers : (fresh : Bool) (p : Punctuator) (bytes rest : Text) → Has punctuators bytes p →
    opens fresh (bytes ++ rest) ≡ false → Covers (lexeme.Punctuator p) (length bytes) (piece_at fresh (bytes ++ rest))
punctuator_covers fresh p [] rest has shut = absurd (omega (arith, (mark [] p has).some))
punctuator_covers fresh p (b ∷ bytes) rest has shut = mark_covers fresh p b bytes rest has shut

-- ---- all kinds

fresh_line : (kind : Lexeme) (fresh : Bool) (bytes rest more : Text) (long : ℕ) → fresh ≡ true →
    bytes ≡ 35 ∷ more ++ 10 ∷ [] → piece_at true (35 ∷ more ++ 10 ∷ rest) ≡ (kind, suc (length more) + 1) →
    Covers kind (length bytes) (piece_at fresh (bytes ++ rest))
fresh_line kind fresh bytes rest more long first is at =
    subst (λ f. Covers kind (length bytes) (piece_at f (bytes ++ rest))) (sym first)
    (subst (λ bs. Covers kind (length bs) (piece_at true (bs ++ rest))) (sym is)
    (subst (Covers kind (length (35 ∷ more ++ 10 ∷ [])))
    (sym (ap (λ t. piece_at true (35 ∷ t)) (append_assoc more (10 ∷ []) rest) ∙ at))
    (exactly kind (length (35 ∷ more ++ 10 ∷ [])) (suc (length more) + 1)
    (omega (arith, length-append more (10 ∷ []))))))

fresh_last : (fresh : Bool) (bytes rest more : Text) → fresh ≡ true → AllIn class.Line more → bytes ≡ 35 ∷ more →
    rest ≡ [] → IsSome (directive (35 ∷ more)) →
    Covers lexeme.Ignored (length bytes) (piece_at fresh (bytes ++ rest))
fresh_last fresh bytes rest more first all is none some =
    subst (λ f. Covers lexeme.Ignored (length bytes) (piece_at f (bytes ++ rest))) (sym first)
    (subst (λ bs. Covers lexeme.Ignored (length bs) (piece_at true (bs ++ rest))) (sym is)
    (subst (λ r. Covers lexeme.Ignored (suc (length more)) (piece_at true (35 ∷ more ++ r))) (sym none)
    (subst (Covers lexeme.Ignored (suc (length more)))
    (sym (ap (λ t. piece_at true (35 ∷ t)) (append-nil more) ∙ last_at more all some))
    (exactly lexeme.Ignored (suc (length more)) (suc (length more)) refl))))

pub covers : (fresh : Bool) (kind : Lexeme) (bytes rest : Text) → Begins fresh kind bytes rest →
    Covers kind (length bytes) (piece_at fresh (bytes ++ rest))
covers fresh lexeme.Blank bytes rest b = blank_covers fresh bytes rest b.0 b.1
covers fresh lexeme.Newline bytes rest b =
    subst (λ bs. Covers lexeme.Newline (length bs) (piece_at fresh (bs ++ rest))) (sym b) (newline_covers fresh rest)
covers fresh lexeme.Comment bytes rest (inl b) = comment_covers fresh bytes rest b
covers fresh lexeme.Comment bytes rest (inr b) = line_covers fresh bytes rest b
covers fresh (lexeme.Marker line from to) bytes rest (first, (more, all, is, says)) =
    fresh_line (lexeme.Marker line from to) fresh bytes rest more 0 first is (marker_at more rest all line from to says)
covers fresh lexeme.Ignored bytes rest (first, (more, all, inl b)) =
    fresh_line lexeme.Ignored fresh bytes rest more 0 first b.0 (pragma_at more rest all b.1)
covers fresh lexeme.Ignored bytes rest (first, (more, all, inr b)) =
    fresh_last fresh bytes rest more first all b.0 b.1 b.2
covers fresh lexeme.Word bytes rest b = word_covers fresh bytes rest b.0 b.1
covers fresh lexeme.Number bytes rest b = number_piece fresh bytes rest b
covers fresh lexeme.Character bytes rest b = character_covers fresh bytes rest b
covers fresh lexeme.Text bytes rest b = string_covers fresh bytes rest b
covers fresh lexeme.WideCharacter bytes rest (more, quoted, is) = wide_character_covers fresh bytes rest more quoted is
covers fresh lexeme.WideText bytes rest (more, quoted, is) = wide_string_covers fresh bytes rest more quoted is
covers fresh (lexeme.Punctuator p) bytes rest b = punctuator_covers fresh p bytes rest b.0 b.1
covers fresh (lexeme.Stray s) bytes rest b = absurd b
