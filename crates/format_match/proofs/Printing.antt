-- Which arguments print given bytes, by form.
use Rattle.std.proofs.Common.{◌≡◌, ℕ, ◌-◌, ◌^◌, ◌<◌, Bool, true, false, cond, ◌||◌, eqb, pos, List, [], ◌∷◌, ◌++◌, replicate, append-nil, refl, sym, ap, subst, ◌∙◌, arith}
use Rattle.std.specs.Int.{is_negative}
use Rattle.std.specs.Int.RustNames.{unsigned_abs}
use Rattle.std.specs.Str.{bytes_eq}
use Rattle.std.proofs.lemmas.Slice.Eq.{bytes_eq-Decides}
use Rattle.std.proofs.lemmas.Bool.{false_from_ne_true, eqb-true, eqb-false, eq-eqb, both_ways}
use Rattle.std.proofs.lemmas.Int.{ints}
use Rattle.std.proofs.Math.Nat.{mod-eq_of_lt}
use Rattle.std.proofs.lemmas.List.{reverse-append}
use Rattle.plain_data.specs.Words.{bits, word, signed}
use Rattle.plain_data.specs.declared.width.Width.{Width}
use Rattle.plain_data.specs.declared.width.Width.TheVariants.{W8, W16, W32, W64}
use Rattle.plain_data.proofs.WordLaws.{word_below, word-signed}
use Rattle.printf_text.specs.Texts.{HasKind, form_kind, formed, in_field, plain, number_of, fills_zeros, signed_parts, unsigned_parts}
use Rattle.printf_text.specs.declared.kind.Kind.TheVariants as kind
use Rattle.printf_text.specs.declared.piece.Arg.{Arg}
use Rattle.printf_text.specs.declared.piece.Arg.TheVariants as arg
use Rattle.printf_text.specs.declared.piece.Flags.{Flags}
use Rattle.printf_text.specs.declared.piece.Form.{Form}
use Rattle.printf_text.specs.declared.piece.Form.TheVariants.{Signed, Unsigned, Char, Text, Pointer}
use Rattle.format_match.specs.Splits.{meets}
use Rattle.format_match.specs.Reading.{digits_read, first_byte, last_byte, form_width, is_integer, word_read}
use Rattle.format_match.specs.Ways.{here, formed_end, null_end, shown_end}
use Rattle.format_match.specs.declared.split.Constraint.TheVariants.{Equal, Null, Shown}
use Rattle.format_match.specs.declared.way.Sizes.{Sizes}
use Rattle.format_match.proofs.Fields.{unsigned_value, signed_value, shown_value}

pub same_bytes : (xs ys : List ℕ) → bytes_eq xs ys ≡ true → xs ≡ ys
same_bytes xs ys h = (bytes_eq-Decides xs ys).0 h

pub here_false : (xs ys : List ℕ) (end : ℕ) → (bytes_eq xs ys ≡ true → ⊥) → here xs ys end ≡ []
here_false xs ys end h = ap (λ b. cond b (end ∷ []) []) (false_from_ne_true (bytes_eq xs ys) h)

-- ---- one value at most prints the bytes: the one that is read

module _ (f : ℕ → List ℕ) (slice : List ℕ) (end n read : ℕ) (only : bytes_eq (f n) slice ≡ true → n ≡ read) where
  pub read_prints : bytes_eq (f read) slice ≡ true → cond (eqb n read) (end ∷ []) [] ≡ here (f n) slice end
  read_prints h = by (eqb n read) refl
    where
      by : (t : Bool) → eqb n read ≡ t → cond t (end ∷ []) [] ≡ here (f n) slice end
      by true e = sym (ap (λ b. cond b (end ∷ []) []) (ap (λ k. bytes_eq (f k) slice) (eqb-true n read e) ∙ h))
      by false e = sym (here_false (f n) slice end (λ p. eqb-false n read e (only p)))

  pub none_prints : bytes_eq (f read) slice ≡ false → here (f n) slice end ≡ []
  none_prints h = here_false (f n) slice end (λ p. both_ways (bytes_eq (f n) slice) (ap (λ k. bytes_eq (f k) slice) (only p) ∙ h) p)

-- ---- pointers

module _ (flags : Flags) (sizes : Sizes) (slice : List ℕ) (end : ℕ) where
  abbrev printed : Arg → List ℕ
  printed a = formed flags Pointer sizes.width.value sizes.precision.value a

  pub null_prints : bytes_eq (printed arg.Null) slice ≡ true → (a : Arg) → HasKind kind.Pointer a → cond (meets Null a) (end ∷ []) [] ≡ null_end flags sizes slice end a
  null_prints h (arg.Word x w s) k = absurd k
  null_prints h (arg.Text t) k = absurd k
  null_prints h arg.Null k = sym (ap (λ b. cond b (end ∷ []) []) h)
  null_prints h (arg.Shown n) k = refl

  pub null_not : bytes_eq (printed arg.Null) slice ≡ false → (a : Arg) → HasKind kind.Pointer a → null_end flags sizes slice end a ≡ []
  null_not h (arg.Word x w s) k = absurd k
  null_not h (arg.Text t) k = absurd k
  null_not h arg.Null k = ap (λ b. cond b (end ∷ []) []) h
  null_not h (arg.Shown n) k = refl

  shown_read : (n : ℕ) → n < 2 ^ 64 → bytes_eq (printed (arg.Shown n)) slice ≡ true → n ≡ digits_read 16 slice
  shown_read n h p =
      sym (shown_value (flags.left || is_negative sizes.width.value) (fills_zeros flags sizes.precision.value) (unsigned_abs sizes.width.value) n h)
      ∙ ap (digits_read 16) (same_bytes (printed (arg.Shown n)) slice p)

  module _ (word : ℕ) (read : word ≡ digits_read 16 slice) where
    only_shown : (n : ℕ) → n < 2 ^ 64 → bytes_eq (printed (arg.Shown n)) slice ≡ true → n ≡ word
    only_shown n h p = shown_read n h p ∙ sym read

    pub shown_prints : bytes_eq (printed (arg.Shown word)) slice ≡ true → (a : Arg) → HasKind kind.Pointer a → cond (meets (Shown word) a) (end ∷ []) [] ≡ shown_end flags sizes slice end a
    shown_prints h (arg.Word x w s) k = absurd k
    shown_prints h (arg.Text t) k = absurd k
    shown_prints h arg.Null k = refl
    shown_prints h (arg.Shown n) k = read_prints (λ m. printed (arg.Shown m)) slice end n word (only_shown n k.1) h

    pub shown_not : bytes_eq (printed (arg.Shown word)) slice ≡ false → (a : Arg) → HasKind kind.Pointer a → shown_end flags sizes slice end a ≡ []
    shown_not h (arg.Word x w s) k = absurd k
    shown_not h (arg.Text t) k = absurd k
    shown_not h arg.Null k = refl
    shown_not h (arg.Shown n) k = none_prints (λ m. printed (arg.Shown m)) slice end n word (only_shown n k.1) h

  pub shown_zero : digits_read 16 slice ≡ 0 → (a : Arg) → HasKind kind.Pointer a → shown_end flags sizes slice end a ≡ []
  shown_zero z (arg.Word x w s) k = absurd k
  shown_zero z (arg.Text t) k = absurd k
  shown_zero z arg.Null k = refl
  shown_zero z (arg.Shown n) k = here_false (printed (arg.Shown n)) slice end (λ p. k.0 (shown_read n k.1 p ∙ z))

  -- a pointer is null or shown
  pub null_or_shown : (a : Arg) → HasKind kind.Pointer a → null_end flags sizes slice end a ++ shown_end flags sizes slice end a ≡ formed_end flags Pointer sizes slice end a
  null_or_shown (arg.Word x w s) k = absurd k
  null_or_shown (arg.Text t) k = absurd k
  null_or_shown arg.Null k = append-nil (formed_end flags Pointer sizes slice end arg.Null)
  null_or_shown (arg.Shown n) k = refl

-- ---- integers

-- a word of its own width
word_same : (w : Width) (a : ℕ) → a < 2 ^ bits w → word w (pos a) ≡ a
word_same W8 a h = mod-eq_of_lt h
word_same W16 a h = mod-eq_of_lt h
word_same W32 a h = mod-eq_of_lt h
word_same W64 a h = mod-eq_of_lt h

pub word_number : (w : Width) (n : ℕ) → n < 2 ^ bits w → word w (number_of (arg.Word n w false)) ≡ n
word_number w n h = word_same w n h

narrow : (w : Width) (a : ℕ) → a < 2 ^ bits w → a < 2 ^ 64
narrow W8 a h = omega arith
narrow W16 a h = omega arith
narrow W32 a h = omega arith
narrow W64 a h = h

narrow_signed : (w : Width) (a : ℕ) → a < 2 ^ bits w → unsigned_abs (signed w a) < 2 ^ 64
narrow_signed W8 a h = omega (arith, ints)
narrow_signed W16 a h = omega (arith, ints)
narrow_signed W32 a h = omega (arith, ints)
narrow_signed W64 a h = omega (arith, ints)

-- a byte in its field
first_in_field : (fill : Bool) (width b : ℕ) → first_byte (in_field true fill width (plain (b ∷ []))) ≡ b
first_in_field fill width b = refl

last_in_field : (fill : Bool) (width b : ℕ) → last_byte (in_field false fill width (plain (b ∷ []))) ≡ b
last_in_field true width b = ap first_byte (reverse-append (replicate (width - 1) 48) (b ∷ []))
last_in_field false width b = ap first_byte (reverse-append (replicate (width - 1) 32 ++ []) (b ∷ []))

byte_in_field : (left fill : Bool) (width b : ℕ) → cond left (first_byte (in_field left fill width (plain (b ∷ [])))) (last_byte (in_field left fill width (plain (b ∷ [])))) ≡ b
byte_in_field true fill width b = first_in_field fill width b
byte_in_field false fill width b = last_in_field fill width b

module _ (flags : Flags) (form : Form) (sizes : Sizes) (integer : is_integer form ≡ true) where
  abbrev shown_as : Arg → List ℕ
  shown_as a = formed flags form sizes.width.value sizes.precision.value a

  -- the text depends on the word alone
  formed_word : (form : Form) → is_integer form ≡ true → (a : Arg) (n : ℕ) → n < 2 ^ bits (form_width form) → word (form_width form) (number_of a) ≡ n
      → formed flags form sizes.width.value sizes.precision.value a ≡ formed flags form sizes.width.value sizes.precision.value (arg.Word n (form_width form) false)
  formed_word (Signed w) i a n h e = ap (λ k. in_field (flags.left || is_negative sizes.width.value) (fills_zeros flags sizes.precision.value) (unsigned_abs sizes.width.value) (signed_parts flags sizes.precision.value (signed w k))) (e ∙ sym (word_same w n h))
  formed_word (Unsigned r w) i a n h e = ap (λ k. in_field (flags.left || is_negative sizes.width.value) (fills_zeros flags sizes.precision.value) (unsigned_abs sizes.width.value) (unsigned_parts flags r sizes.precision.value k)) (e ∙ sym (word_same w n h))
  formed_word Char i a n h e = ap (λ k. in_field (flags.left || is_negative sizes.width.value) (fills_zeros flags sizes.precision.value) (unsigned_abs sizes.width.value) (plain (k ∷ []))) (e ∙ sym (word_same W8 n h))
  formed_word Text i a n h e = absurd cc
  formed_word Pointer i a n h e = absurd cc

  -- and gives the word back
  formed_read : (form : Form) → is_integer form ≡ true → (a : Arg) → word_read flags form sizes (formed flags form sizes.width.value sizes.precision.value a) ≡ word (form_width form) (number_of a)
  formed_read (Signed w) i a =
      ap (word w) (signed_value (flags.left || is_negative sizes.width.value) (fills_zeros flags sizes.precision.value) (unsigned_abs sizes.width.value) flags sizes.precision.value
      (signed w (word w (number_of a))) (narrow_signed w (word w (number_of a)) (word_below w (number_of a))))
      ∙ word-signed w (word w (number_of a)) (word_below w (number_of a))
  formed_read (Unsigned r w) i a =
      ap (λ k. word w (pos k)) (unsigned_value (flags.left || is_negative sizes.width.value) (fills_zeros flags sizes.precision.value) (unsigned_abs sizes.width.value) flags r sizes.precision.value
      (word w (number_of a)) (narrow w (word w (number_of a)) (word_below w (number_of a))))
      ∙ word_same w (word w (number_of a)) (word_below w (number_of a))
  formed_read Char i a = byte_in_field (flags.left || is_negative sizes.width.value) (fills_zeros flags sizes.precision.value) (unsigned_abs sizes.width.value) (word W8 (number_of a))
  formed_read Text i a = absurd cc
  formed_read Pointer i a = absurd cc

  module _ (slice : List ℕ) (end n : ℕ) (below : n < 2 ^ bits (form_width form)) (read : n ≡ word_read flags form sizes slice) where
    abbrev by_word : ℕ → List ℕ
    by_word k = shown_as (arg.Word k (form_width form) false)

    word_printed : (a : Arg) → bytes_eq (shown_as a) slice ≡ bytes_eq (by_word (word (form_width form) (number_of a))) slice
    word_printed a = ap (λ t. bytes_eq t slice) (formed_word form integer a (word (form_width form) (number_of a)) (word_below (form_width form) (number_of a)) refl)

    only_word : (a : Arg) → bytes_eq (by_word (word (form_width form) (number_of a))) slice ≡ true → word (form_width form) (number_of a) ≡ n
    only_word a p = sym (formed_read form integer a) ∙ ap (word_read flags form sizes) (same_bytes (shown_as a) slice (word_printed a ∙ p)) ∙ sym read

    pub word_prints : bytes_eq (by_word n) slice ≡ true → (a : Arg) → HasKind kind.Integer a → cond (meets (Equal n (form_width form)) a) (end ∷ []) [] ≡ formed_end flags form sizes slice end a
    word_prints h (arg.Word x w s) k =
        read_prints by_word slice end (word (form_width form) (number_of (arg.Word x w s))) n (only_word (arg.Word x w s)) h
        ∙ sym (ap (λ b. cond b (end ∷ []) []) (word_printed (arg.Word x w s)))
    word_prints h (arg.Text t) k = absurd k
    word_prints h arg.Null k = absurd k
    word_prints h (arg.Shown m) k = absurd k

    pub word_not : bytes_eq (by_word n) slice ≡ false → (a : Arg) → HasKind kind.Integer a → formed_end flags form sizes slice end a ≡ []
    word_not h a k = ap (λ b. cond b (end ∷ []) []) (word_printed a) ∙ none_prints by_word slice end (word (form_width form) (number_of a)) n (only_word a) h

pub integer_kind : (form : Form) → is_integer form ≡ true → form_kind form ≡ kind.Integer
integer_kind (Signed w) h = refl
integer_kind (Unsigned r w) h = refl
integer_kind Char h = refl
integer_kind Text h = absurd cc
integer_kind Pointer h = absurd cc

pub word_kind : (form : Form) (n : ℕ) (w : Width) → is_integer form ≡ true → w ≡ form_width form → n < 2 ^ bits (form_width form) → HasKind (form_kind form) (arg.Word n w false)
word_kind form n w i e h =
    let is : n < 2 ^ bits w = subst (λ v. n < 2 ^ bits v) (sym e) h in
    subst (λ k. HasKind k (arg.Word n w false)) (sym (integer_kind form i)) is

module _ (flags : Flags) (form : Form) (sizes : Sizes) (slice : List ℕ) (end n : ℕ) (w : Width) (integer : is_integer form ≡ true) (same : w ≡ form_width form) (below : n < 2 ^ bits (form_width form)) (read : n ≡ word_read flags form sizes slice) where
  pub word_added : bytes_eq (formed flags form sizes.width.value sizes.precision.value (arg.Word n w false)) slice ≡ true
      → (a : Arg) → HasKind (form_kind form) a → cond (meets (Equal n w) a) (end ∷ []) [] ≡ formed_end flags form sizes slice end a
  word_added =
      subst (λ v. bytes_eq (formed flags form sizes.width.value sizes.precision.value (arg.Word n v false)) slice ≡ true → (a : Arg) → HasKind (form_kind form) a → cond (meets (Equal n v) a) (end ∷ []) [] ≡ formed_end flags form sizes slice end a) (sym same)
      (subst (λ k. bytes_eq (formed flags form sizes.width.value sizes.precision.value (arg.Word n (form_width form) false)) slice ≡ true → (a : Arg) → HasKind k a → cond (meets (Equal n (form_width form)) a) (end ∷ []) [] ≡ formed_end flags form sizes slice end a) (sym (integer_kind form integer))
      (word_prints flags form sizes integer slice end n below read))

  pub word_left_out : bytes_eq (formed flags form sizes.width.value sizes.precision.value (arg.Word n w false)) slice ≡ false
      → (a : Arg) → HasKind (form_kind form) a → formed_end flags form sizes slice end a ≡ []
  word_left_out =
      subst (λ v. bytes_eq (formed flags form sizes.width.value sizes.precision.value (arg.Word n v false)) slice ≡ false → (a : Arg) → HasKind (form_kind form) a → formed_end flags form sizes slice end a ≡ []) (sym same)
      (subst (λ k. bytes_eq (formed flags form sizes.width.value sizes.precision.value (arg.Word n (form_width form) false)) slice ≡ false → (a : Arg) → HasKind k a → formed_end flags form sizes slice end a ≡ []) (sym (integer_kind form integer))
      (word_not flags form sizes integer slice end n below read))

  pub word_met : meets (Equal n w) (arg.Word n w false) ≡ true
  word_met = eq-eqb _ _ (word_number w n (subst (λ v. n < 2 ^ bits v) (sym same) below))
