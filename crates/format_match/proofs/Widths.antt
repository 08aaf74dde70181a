-- How long fields are.
use Rattle.std.proofs.Common.{◌≡◌, ℕ, ◌+◌, ◌^◌, ◌<◌, ◌≤◌, max, Bool, true, false, not, cond, ◌&&◌, ◌||◌, eqb, ℤ, pos, negsuc, List, [], ◌∷◌, ◌++◌, length, drop, sym, ap, subst, ◌∙◌, arith}
use Rattle.std.specs.Int.{is_negative}
use Rattle.std.specs.Int.Digits.{digits_of}
use Rattle.std.specs.Int.RustNames.{unsigned_abs}
use Rattle.std.proofs.lemmas.Int.{ints}
use Rattle.std.proofs.lemmas.Int.Digits.{length-digits_of-le}
use Rattle.std.proofs.lemmas.List.{drop-drop, length-append, length-map, length-replicate, length-take}
use Rattle.plain_data.specs.Words.{bits, word, signed}
use Rattle.plain_data.specs.declared.width.Width.{Width}
use Rattle.plain_data.specs.declared.width.Width.TheVariants.{W8, W16, W32, W64}
use Rattle.plain_data.proofs.WordLaws.{word_below}
use Rattle.printf_text.specs.Texts.{HasKind, HaveKinds, base, digits, digits_wanted, sign_of, unsigned_parts, with_zero, number_of, parts, first, size_of, size_kinds, form_kind, text_bytes, fills_zeros}
use Rattle.printf_text.specs.declared.kind.Kind.{Kind}
use Rattle.printf_text.specs.declared.piece.Arg.{Arg}
use Rattle.printf_text.specs.declared.piece.Arg.TheVariants as arg
use Rattle.printf_text.specs.declared.piece.Conversion.{Conversion}
use Rattle.printf_text.specs.declared.piece.Flags.{Flags}
use Rattle.printf_text.specs.declared.piece.Form.TheVariants.{Char, Text, Pointer}
use Rattle.printf_text.specs.declared.piece.Radix.{Radix}
use Rattle.printf_text.specs.declared.piece.Radix.TheVariants.{Decimal, Octal, LowerHex, UpperHex}
use Rattle.printf_text.specs.declared.piece.Size.{Size}
use Rattle.printf_text.specs.declared.piece.Size.TheVariants.{Written}
use Rattle.printf_text.proofs.TextLaws.{length-in_field}
use Rattle.printf_text.proofs.Writing.{HaveKinds-rest}
use Rattle.format_match.specs.Reaches.{part_length, HasMostDigits, IsWidest, IsLongest, IsLongestField, IsLongestNumber}

pub text_longest : (n : ℕ) → IsLongest Text (Written n) n
text_longest n flags args a k = omega (arith, length-take n (text_bytes a))

pub char_longest : (precision : Size) → IsLongest Char precision 1
char_longest precision flags args a k = omega arith

-- ---- digits

pub most_digits_8 : HasMostDigits W8 3
most_digits_8 Decimal n h = length-digits_of-le 10 3 n (omega arith) (omega arith)
most_digits_8 Octal n h = length-digits_of-le 8 3 n (omega arith) (omega arith)
most_digits_8 LowerHex n h = length-digits_of-le 16 3 n (omega arith) (omega arith)
most_digits_8 UpperHex n h = length-digits_of-le 16 3 n (omega arith) (omega arith)

pub most_digits_16 : HasMostDigits W16 6
most_digits_16 Decimal n h = length-digits_of-le 10 6 n (omega arith) (omega arith)
most_digits_16 Octal n h = length-digits_of-le 8 6 n (omega arith) (omega arith)
most_digits_16 LowerHex n h = length-digits_of-le 16 6 n (omega arith) (omega arith)
most_digits_16 UpperHex n h = length-digits_of-le 16 6 n (omega arith) (omega arith)

pub most_digits_32 : HasMostDigits W32 11
most_digits_32 Decimal n h = length-digits_of-le 10 11 n (omega arith) (omega arith)
most_digits_32 Octal n h = length-digits_of-le 8 11 n (omega arith) (omega arith)
most_digits_32 LowerHex n h = length-digits_of-le 16 11 n (omega arith) (omega arith)
most_digits_32 UpperHex n h = length-digits_of-le 16 11 n (omega arith) (omega arith)

pub most_digits_64 : HasMostDigits W64 22
most_digits_64 Decimal n h = length-digits_of-le 10 22 n (omega arith) (omega arith)
most_digits_64 Octal n h = length-digits_of-le 8 22 n (omega arith) (omega arith)
most_digits_64 LowerHex n h = length-digits_of-le 16 22 n (omega arith) (omega arith)
most_digits_64 UpperHex n h = length-digits_of-le 16 22 n (omega arith) (omega arith)

length-digits : (radix : Radix) (least n : ℕ) → length (digits radix least n) ≡ max least (length (digits_of (base radix) n))
length-digits radix least n = simp (length-append, length-replicate, length-map) (omega arith)

-- ---- numbers

sign_length : (flags : Flags) (z : ℤ) → length (sign_of flags z) ≤ 1
sign_length flags (negsuc n) = omega arith
sign_length flags (pos n) = by flags.plus flags.space
  where
    by : (s t : Bool) → length {A = ℕ} (cond s (43 ∷ []) (cond t (32 ∷ []) [])) ≤ 1
    by true t = omega arith
    by false true = omega arith
    by false false = omega arith

zero_length : (ds : List ℕ) → length (with_zero ds) ≤ length ds + 1
zero_length [] = omega arith
zero_length (d ∷ ds) = by (eqb d 48)
  where
    by : (t : Bool) → length (cond t (d ∷ ds) (48 ∷ d ∷ ds)) ≤ length (d ∷ ds) + 1
    by true = omega arith
    by false = omega arith

-- a prefix or a zero are two bytes at most
unsigned_length : (flags : Flags) (radix : Radix) (precision : ℤ) (n : ℕ) → part_length (unsigned_parts flags radix precision n) ≤ length (digits radix (digits_wanted precision) n) + 2
unsigned_length flags Decimal precision n = omega arith
unsigned_length flags Octal precision n = by flags.alternate
  where
    by : (t : Bool) → 0 + 0 + length (cond t (with_zero (digits Octal (digits_wanted precision) n)) (digits Octal (digits_wanted precision) n)) ≤ length (digits Octal (digits_wanted precision) n) + 2
    by true = omega (arith, zero_length (digits Octal (digits_wanted precision) n))
    by false = omega arith
unsigned_length flags LowerHex precision n = by (flags.alternate && not (eqb n 0)) (length (digits LowerHex (digits_wanted precision) n))
  where
    by : (t : Bool) (l : ℕ) → 0 + length {A = ℕ} (cond t (48 ∷ 120 ∷ []) []) + l ≤ l + 2
    by true l = omega arith
    by false l = omega arith
unsigned_length flags UpperHex precision n = by (flags.alternate && not (eqb n 0)) (length (digits UpperHex (digits_wanted precision) n))
  where
    by : (t : Bool) (l : ℕ) → 0 + length {A = ℕ} (cond t (48 ∷ 88 ∷ []) []) + l ≤ l + 2
    by true l = omega arith
    by false l = omega arith

signed_below : (w : Width) (a : ℕ) → a < 2 ^ bits w → unsigned_abs (signed w a) < 2 ^ bits w
signed_below W8 a h = omega (arith, ints)
signed_below W16 a h = omega (arith, ints)
signed_below W32 a h = omega (arith, ints)
signed_below W64 a h = omega (arith, ints)

-- numbers have so many digits as the precision asks for or as a word has, and two bytes before them
pub number_longest : (w : Width) (precision : Size) (k m : ℕ) → HasMostDigits w k → ((args : List Arg) → digits_wanted (size_of (negsuc 0) precision args) ≤ m) → k ≤ m
    → IsLongestNumber w precision (m + 2)
number_longest w precision k m most wanted h = record {
  signed_are = λ flags args a i.
      let p = size_of (negsuc 0) precision args in
      let z = signed w (word w (number_of a)) in
      omega (
        arith,
        h,
        wanted args,
        sign_length flags z,
        length-digits Decimal (digits_wanted p) (unsigned_abs z),
        most Decimal (unsigned_abs z) (signed_below w (word w (number_of a)) (word_below w (number_of a))),
      );
  unsigned_are = λ radix flags args a i.
      let p = size_of (negsuc 0) precision args in
      let n = word w (number_of a) in
      omega (
        arith,
        h,
        wanted args,
        unsigned_length flags radix p n,
        length-digits radix (digits_wanted p) n,
        most radix n (word_below w (number_of a)),
      );
}

pub pointer_longest : (precision : Size) → IsLongest Pointer precision 18
pointer_longest precision flags args (arg.Word x w s) k = absurd k
pointer_longest precision flags args (arg.Text t) k = absurd k
pointer_longest precision flags args arg.Null k = omega arith
pointer_longest precision flags args (arg.Shown n) k = omega (arith, length-digits LowerHex 1 n, length-digits_of-le 16 16 n (omega arith) (omega (arith, k.1)))

-- ---- fields

-- the argument that is converted has its kind
converted_kind : (K L : List Kind) (k : Kind) (args : List Arg) → HaveKinds (K ++ L ++ k ∷ []) args → HasKind k (first (drop (length L) (drop (length K) args)))
converted_kind K L k args h =
    let at : drop (length (K ++ L)) args ≡ drop (length L) (drop (length K) args) = ap (λ n. drop n args) (length-append K L) ∙ sym (drop-drop (length L) (length K) args) in
    by (drop (length L) (drop (length K) args)) (subst (λ r. HaveKinds (k ∷ []) r) at (HaveKinds-rest (K ++ L) (k ∷ []) args h))
  where
    by : (rest : List Arg) → HaveKinds (k ∷ []) rest → HasKind k (first rest)
    by [] h = absurd h
    by (a ∷ rest) h = h.0

pub field_length : (c : Conversion) (w t : ℕ) → IsWidest c.width w → IsLongest c.form c.precision t → IsLongestField c (max w t)
field_length c w t wide long args h =
    let behind = drop (length (size_kinds c.width)) args in
    let width = size_of (pos 0) c.width args in
    let precision = size_of (negsuc 0) c.precision behind in
    let a = first (drop (length (size_kinds c.precision)) behind) in
    omega (
      arith,
      length-in_field (c.flags.left || is_negative width) (fills_zeros c.flags precision) (unsigned_abs width) (parts c.flags c.form precision a),
      wide args,
      long c.flags behind a (converted_kind (size_kinds c.width) (size_kinds c.precision) (form_kind c.form) args h),
    )
