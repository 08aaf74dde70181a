-- The longest punctuator of a text.
use Rattle.std.proofs.Common.{◌≡◌, ℕ, ◌<◌, ◌≤◌, Bool, true, false, not, cond, ◌&&◌, ◌||◌, eqb, nat_le, nat_lt, nat_eq}
use Rattle.std.proofs.Common.{List, [], ◌∷◌, ◌++◌, length, take, drop, slice_index, Option, Some, None, refl, ap, sym}
use Rattle.std.proofs.Common.{subst, ◌∙◌, ◌⊎◌, inl, inr, arith}
use Rattle.std.specs.List.{starts_with}
use Rattle.std.specs.Str.{bytes_eq}
use Rattle.std.proofs.lemmas.Bool.{false≢true}
use Rattle.std.proofs.lemmas.Bool.Decides.{nat_tests}
use Rattle.std.proofs.lemmas.List.{take_at, take-append-drop}
use Rattle.std.proofs.lemmas.Slice.Eq.{bytes_eq-Decides}
use Rattle.c_lexer.specs.Class.{Text, is_in}
use Rattle.c_lexer.specs.Tables.{first_prefix, punctuator}
use Rattle.c_lexer.specs.Spelling.{Has}
use Rattle.c_lexer.specs.declared.class.Class.TheVariants as class
use Rattle.c_language.specs.declared.token.Punctuator.{Punctuator}
use Rattle.c_lexer.specs.Vocabulary.{punctuators, longest_first, of_length}

abbrev Rows : Type 0
Rows = List (Text × Punctuator)

halves : (a b : Bool) → (a && b) ≡ true → (a ≡ true) × (b ≡ true)
halves true b h = (refl, h)
halves false b h = absurd (false≢true h)

not_true : (b : Bool) → not b ≡ true → b ≡ false
not_true true h = absurd (false≢true h)
not_true false h = refl

none_some : {A : Type 0} {a : A} → None ≡ Some a → ⊥
none_some h = cc

-- ---- fronts

starts : (text bytes rest : Text) → text ≡ bytes ++ rest → starts_with nat_eq text bytes ≡ true
starts text bytes rest h =
    (bytes_eq-Decides bytes (take (length bytes) text)).1
    (sym (ap (take (length bytes)) h ∙ take_at bytes rest (length bytes) refl))

front : (text bytes : Text) → starts_with nat_eq text bytes ≡ true → text ≡ bytes ++ drop (length bytes) text
front text bytes h =
    sym (take-append-drop (length bytes) text)
    ∙ ap (λ b. b ++ drop (length bytes) text) (sym ((bytes_eq-Decides bytes (take (length bytes) text)).0 h))

same_front : (text a b c d : Text) → text ≡ a ++ c → text ≡ b ++ d → length a ≡ length b → a ≡ b
same_front text a b c d h k same =
    sym (take_at a c (length a) refl) ∙ ap (take (length a)) (sym h ∙ k) ∙ ap (λ n. take n (b ++ d)) same
    ∙ take_at b d (length b) refl

-- ---- the table's order

abbrev later : Text → Rows → Bool
later bytes [] = true
later bytes (row ∷ rows) = nat_le (length row.0) (length bytes) && (not (bytes_eq row.0 bytes) && later bytes rows)

abbrev ordered : Rows → Bool
ordered [] = true
ordered (row ∷ rows) = later row.0 rows && ordered rows

later_has : (bytes : Text) (rows : Rows) (more : Text) (p : Punctuator) → later bytes rows ≡ true → Has rows more p →
    (length more ≤ length bytes) × (more ≡ bytes → ⊥)
later_has bytes [] more p h has = absurd has
later_has bytes (row ∷ rows) more p h (inl is) =
    let a = halves (nat_le (length row.0) (length bytes)) (not (bytes_eq row.0 bytes) && later bytes rows) h in
    let b = halves (not (bytes_eq row.0 bytes)) (later bytes rows) a.1 in
    let short : length row.0 ≤ length bytes = grind (arith, nat_tests, a.0) in (
      subst (λ r. length r ≤ length bytes) is.0 short,
      λ same. false≢true (sym (not_true (bytes_eq row.0 bytes) b.0) ∙ (bytes_eq-Decides row.0 bytes).1 (is.0 ∙ same)),
    )
later_has bytes (row ∷ rows) more p h (inr has) =
    let a = halves (nat_le (length row.0) (length bytes)) (not (bytes_eq row.0 bytes) && later bytes rows) h in
    let b = halves (not (bytes_eq row.0 bytes)) (later bytes rows) a.1 in
    later_has bytes rows more p b.1 has

-- what is found is the punctuator, or is longer
abbrev pub Finds : Punctuator → ℕ → Option (Punctuator × ℕ) → Type 0
Finds p k None = ⊥
Finds p k (Some q) = ((p ≡ q.0) × (k ≡ q.1)) ⊎ (k < q.1)

finds_row : (text : Text) (row : Text × Punctuator) (rows : Rows) (bytes rest : Text) (p : Punctuator) →
    later row.0 rows ≡ true → text ≡ bytes ++ rest →
    (s : Bool) → starts_with nat_eq text row.0 ≡ s → Has (row ∷ rows) bytes p →
    (Has rows bytes p → Finds p (length bytes) (first_prefix rows text)) →
    Finds p (length bytes) (cond s (Some (row.1, length row.0)) (first_prefix rows text))
finds_row text row rows bytes rest p order h true s (inl is) more = inl (sym is.1, ap length (sym is.0))
finds_row text row rows bytes rest p order h true s (inr has) more =
    let l = later_has row.0 rows bytes p order has in
    let apart : length bytes ≡ length row.0 →
    ⊥ = λ same. l.1 (same_front text bytes row.0 rest (drop (length row.0) text) h (front text row.0 s) same) in
    inr (omega (arith, l.0))
finds_row text row rows bytes rest p order h false s (inl is) more =
    absurd (false≢true (sym s ∙ starts text row.0 rest (h ∙ ap (λ b. b ++ rest) (sym is.0))))
finds_row text row rows bytes rest p order h false s (inr has) more = more has

finds : (rows : Rows) (text bytes rest : Text) (p : Punctuator) → ordered rows ≡ true → text ≡ bytes ++ rest →
    Has rows bytes p → Finds p (length bytes) (first_prefix rows text)
finds [] text bytes rest p order h has = absurd has
finds (row ∷ rows) text bytes rest p order h has =
    let o = halves (later row.0 rows) (ordered rows) order in
    finds_row text row rows bytes rest p o.0 h (starts_with nat_eq text row.0) refl has
    (finds rows text bytes rest p o.1 h)

-- ---- the same rows, longer ones first

has_in_first : (rows more : Rows) (bytes : Text) (p : Punctuator) → Has rows bytes p → Has (rows ++ more) bytes p
has_in_first [] more bytes p has = absurd has
has_in_first (row ∷ rows) more bytes p (inl is) = inl is
has_in_first (row ∷ rows) more bytes p (inr has) = inr (has_in_first rows more bytes p has)

has_in_second : (rows more : Rows) (bytes : Text) (p : Punctuator) → Has more bytes p → Has (rows ++ more) bytes p
has_in_second [] more bytes p has = has
has_in_second (row ∷ rows) more bytes p has = inr (has_in_second rows more bytes p has)

has_in_one : (rows more : Rows) (bytes : Text) (p : Punctuator) → Has (rows ++ more) bytes p → Has rows bytes p
    ⊎ Has more bytes p
has_in_one [] more bytes p has = inr has
has_in_one (row ∷ rows) more bytes p (inl is) = inl (inl is)
has_in_one (row ∷ rows) more bytes p (inr has) = further (has_in_one rows more bytes p has)
  where
    further : Has rows bytes p ⊎ Has more bytes p → Has (row ∷ rows) bytes p ⊎ Has more bytes p
    further (inl here) = inl (inr here)
    further (inr there) = inr there

of_length_has : (n : ℕ) (rows : Rows) (bytes : Text) (p : Punctuator) → Has (of_length n rows) bytes p →
    Has rows bytes p
of_length_has n [] bytes p has = absurd has
of_length_has n (row ∷ rows) bytes p has = by_test (eqb (length row.0) n) (of_length_has n rows bytes p) has
  where
    by_test : (b : Bool) → (Has (of_length n rows) bytes p → Has rows bytes p) →
        Has (cond b (row ∷ of_length n rows) (of_length n rows)) bytes p → Has (row ∷ rows) bytes p
    by_test true more (inl is) = inl is
    by_test true more (inr has) = inr (more has)
    by_test false more has = inr (more has)

has_of_length : (n : ℕ) (rows : Rows) (bytes : Text) (p : Punctuator) → eqb (length bytes) n ≡ true → Has rows bytes p →
    Has (of_length n rows) bytes p
has_of_length n [] bytes p long has = absurd has
has_of_length n (row ∷ rows) bytes p long (inl is) =
    rw (ap (λ r. eqb (length r) n) is.0 ∙ long) (inl is)
has_of_length n (row ∷ rows) bytes p long (inr has) =
    by_test (eqb (length row.0) n) (has_of_length n rows bytes p long has)
  where
    by_test : (b : Bool) → Has (of_length n rows) bytes p →
        Has (cond b (row ∷ of_length n rows) (of_length n rows)) bytes p
    by_test true has = inr has
    by_test false has = has

abbrev is_short : Text → Bool
is_short bytes = eqb (length bytes) 3 || (eqb (length bytes) 2 || eqb (length bytes) 1)

abbrev all_short : Rows → Bool
all_short [] = true
all_short (row ∷ rows) = is_short row.0 && all_short rows

short_has : (rows : Rows) (bytes : Text) (p : Punctuator) → all_short rows ≡ true → Has rows bytes p →
    is_short bytes ≡ true
short_has [] bytes p h has = absurd has
short_has (row ∷ rows) bytes p h (inl is) = ap is_short (sym is.0) ∙ (halves (is_short row.0) (all_short rows) h).0
short_has (row ∷ rows) bytes p h (inr has) = short_has rows bytes p (halves (is_short row.0) (all_short rows) h).1 has

one_of : (a b c : Bool) → (a || (b || c)) ≡ true → (a ≡ true) ⊎ ((b ≡ true) ⊎ (c ≡ true))
one_of true b c h = inl refl
one_of false true c h = inr (inl refl)
one_of false false c h = inr (inr h)

longest_first_has : (rows : Rows) (bytes : Text) (p : Punctuator) → Has (longest_first rows) bytes p → Has rows bytes p
longest_first_has rows bytes p has =
    by_length (has_in_one (of_length 3 rows) (of_length 2 rows ++ of_length 1 rows) bytes p has)
  where
    shorter : Has (of_length 2 rows) bytes p ⊎ Has (of_length 1 rows) bytes p → Has rows bytes p
    shorter (inl has) = of_length_has 2 rows bytes p has
    shorter (inr has) = of_length_has 1 rows bytes p has

    by_length : Has (of_length 3 rows) bytes p ⊎ Has (of_length 2 rows ++ of_length 1 rows) bytes p → Has rows bytes p
    by_length (inl has) = of_length_has 3 rows bytes p has
    by_length (inr has) = shorter (has_in_one (of_length 2 rows) (of_length 1 rows) bytes p has)

has_longest_first : (rows : Rows) (bytes : Text) (p : Punctuator) → all_short rows ≡ true → Has rows bytes p →
    Has (longest_first rows) bytes p
has_longest_first rows bytes p short has =
    by_length (one_of (eqb (length bytes) 3) (eqb (length bytes) 2) (eqb (length bytes) 1)
    (short_has rows bytes p short has))
  where
    by_length : (eqb (length bytes) 3 ≡ true) ⊎ ((eqb (length bytes) 2 ≡ true) ⊎ (eqb (length bytes) 1 ≡ true)) →
        Has (longest_first rows) bytes p
    by_length (inl long) = has_in_first (of_length 3 rows) (of_length 2 rows ++ of_length 1 rows) bytes p
        (has_of_length 3 rows bytes p long has)
    by_length (inr (inl long)) =
        has_in_second (of_length 3 rows) (of_length 2 rows ++ of_length 1 rows) bytes p
        (has_in_first (of_length 2 rows) (of_length 1 rows) bytes p (has_of_length 2 rows bytes p long has))
    by_length (inr (inr long)) =
        has_in_second (of_length 3 rows) (of_length 2 rows ++ of_length 1 rows) bytes p
        (has_in_second (of_length 2 rows) (of_length 1 rows) bytes p (has_of_length 1 rows bytes p long has))

-- a punctuator that a text begins with is found, or a longer one
pub punctuator_finds : (text bytes rest : Text) (p : Punctuator) → text ≡ bytes ++ rest → Has punctuators bytes p →
    Finds p (length bytes) (punctuator text)
unfolding punctuator
punctuator_finds text bytes rest p h has =
    finds (longest_first punctuators) text bytes rest p refl h (has_longest_first punctuators bytes p refl has)

-- ---- what is found

pub record Found (rows : Rows) (text : Text) (q : Punctuator × ℕ) : Type 0 where
  pub bytes : Text
  pub rest : Text
  pub text_is : text ≡ bytes ++ rest
  pub long : length bytes ≡ q.1
  pub has : Has rows bytes q.0

found_row : (row : Text × Punctuator) (rows : Rows) (text : Text) (q : Punctuator × ℕ) (s : Bool) →
    starts_with nat_eq text row.0 ≡ s →
    cond s (Some (row.1, length row.0)) (first_prefix rows text) ≡ Some q →
    (first_prefix rows text ≡ Some q → Found rows text q) → Found (row ∷ rows) text q
found_row row rows text q true s h more =
    let is : (row.1, length row.0) ≡ q = cc in
    record {
      bytes = row.0;
      rest = drop (length row.0) text;
      text_is = front text row.0 s;
      long = ap (λ x. x.1) is;
      has
          = inl (refl, ap (λ x. x.0) is);
    }
found_row row rows text q false s h more =
    let f = more h in
    record { bytes = f.bytes; rest = f.rest; text_is = f.text_is; long = f.long; has = inr f.has }

found : (rows : Rows) (text : Text) (q : Punctuator × ℕ) → first_prefix rows text ≡ Some q → Found rows text q
found [] text q h = absurd (none_some h)
found (row ∷ rows) text q h = found_row row rows text q (starts_with nat_eq text row.0) refl h (found rows text q)

pub punctuator_found : (text : Text) (q : Punctuator × ℕ) → punctuator text ≡ Some q → Found punctuators text q
unfolding punctuator
punctuator_found text q h =
    let f = found (longest_first punctuators) text q h in
    record {
      bytes = f.bytes;
      rest = f.rest;
      text_is = f.text_is;
      long = f.long;
      has =
          longest_first_has punctuators f.bytes q.0 f.has;
    }

-- ---- how punctuators begin

abbrev is_mark : Text → Bool
is_mark bytes =
    let b = slice_index bytes 0 in
    not (is_in class.Blank b) && (not (eqb b 10) && (not (eqb b 34) && (not (eqb b 39) && (not (is_in class.Letter b)
    && (not (is_in class.Digit b) && (not (is_in class.Digit (slice_index bytes 1)) && nat_lt 0 (length bytes)))))))

abbrev all_marks : Rows → Bool
all_marks [] = true
all_marks (row ∷ rows) = is_mark row.0 && all_marks rows

mark_has : (rows : Rows) (bytes : Text) (p : Punctuator) → all_marks rows ≡ true → Has rows bytes p →
    is_mark bytes ≡ true
mark_has [] bytes p h has = absurd has
mark_has (row ∷ rows) bytes p h (inl is) = ap is_mark (sym is.0) ∙ (halves (is_mark row.0) (all_marks rows) h).0
mark_has (row ∷ rows) bytes p h (inr has) = mark_has rows bytes p (halves (is_mark row.0) (all_marks rows) h).1 has

pub record IsMark (bytes : Text) : Type 0 where
  pub blank : is_in class.Blank (slice_index bytes 0) ≡ false
  pub newline : eqb (slice_index bytes 0) 10 ≡ false
  pub quote : eqb (slice_index bytes 0) 34 ≡ false
  pub apostrophe : eqb (slice_index bytes 0) 39 ≡ false
  pub letter : is_in class.Letter (slice_index bytes 0) ≡ false
  pub digit : is_in class.Digit (slice_index bytes 0) ≡ false
  pub second : is_in class.Digit (slice_index bytes 1) ≡ false
  pub some : 0 < length bytes

parts : (a b c d e f g h : Bool) →
    (not a && (not b && (not c && (not d && (not e && (not f && (not g && h))))))) ≡ true →
    (a ≡ false) × (b ≡ false) × (c ≡ false) × (d ≡ false) × (e ≡ false) × (f ≡ false) × (g ≡ false) × (h ≡ true)
parts false false false false false false false true k = (refl, refl, refl, refl, refl, refl, refl, refl)
parts false false false false false false false false k = absurd (false≢true k)
parts true b c d e f g h k = absurd (false≢true k)
parts false true c d e f g h k = absurd (false≢true k)
parts false false true d e f g h k = absurd (false≢true k)
parts false false false true e f g h k = absurd (false≢true k)
parts false false false false true f g h k = absurd (false≢true k)
parts false false false false false true g h k = absurd (false≢true k)
parts false false false false false false true h k = absurd (false≢true k)

pub mark : (bytes : Text) (p : Punctuator) → Has punctuators bytes p → IsMark bytes
mark bytes p has =
    let b = slice_index bytes 0 in
    let q = parts (is_in class.Blank b) (eqb b 10) (eqb b 34) (eqb b 39) (is_in class.Letter b) (is_in class.Digit b)
    (is_in class.Digit (slice_index bytes 1)) (nat_lt 0 (length bytes))
    (mark_has punctuators bytes p refl has) in
    let some : 0 < length bytes = grind (arith, nat_tests, q.7) in
    record {
      blank = q.0;
      newline = q.1;
      quote = q.2;
      apostrophe = q.3;
      letter = q.4;
      digit = q.5;
      second = q.6;
      some =
          some;
    }
