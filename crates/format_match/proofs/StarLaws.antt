-- Widths and precisions that arguments give: which of them print alike.
use Rattle.std.proofs.Common.{◌≡◌, ◌≢◌, ◌⊎◌, inl, inr, ℕ, zero, suc, ◌+◌, ◌-◌, ◌^◌, ◌<◌, ◌≤◌, Bool, true, false, not, cond, ◌&&◌, ◌||◌, eqb, ltb, ℤ, pos, negsuc, neg_ℤ, Option, Some, List, [], ◌∷◌, ◌++◌, length, take, drop, map, replicate, append-nil, refl, sym, ap, subst, ◌∙◌, arith}
use Rattle.std.specs.Int.{is_negative}
use Rattle.std.specs.Int.RustNames.{unsigned_abs, int_lt}
use Rattle.std.specs.Int.Digits.{digits_of}
use Rattle.std.specs.Str.{bytes_eq}
use Rattle.std.proofs.lemmas.Int.{ints}
use Rattle.std.proofs.lemmas.Bool.{false_from_ne_true, eq-eqb, ne_eqb, lt-ltb, le-ltb, cases_lt, cases_eq, or_from}
use Rattle.std.proofs.lemmas.Bool.Decides.{nat_tests}
use Rattle.std.proofs.lemmas.List.{length-append, length-replicate, length-take, take_all}
use Rattle.plain_data.specs.Words.{word, signed, is_signed}
use Rattle.plain_data.specs.declared.width.Width.TheVariants.{W32}
use Rattle.plain_data.proofs.WordLaws.{word_below, signed-word}
use Rattle.printf_text.specs.Texts.{HaveKinds, Parts, first, int_of, number_of, formed, in_field, parts, plain, text_bytes, fills_zeros, form_kind, size_of, size_kinds, marked, with_zero, digit, digits, base}
use Rattle.printf_text.proofs.TextLaws.{length-in_field}
use Rattle.printf_text.specs.declared.kind.Kind.{Kind}
use Rattle.printf_text.specs.declared.kind.Kind.TheVariants as kind
use Rattle.printf_text.specs.declared.piece.Arg.{Arg}
use Rattle.printf_text.specs.declared.piece.Arg.TheVariants as arg
use Rattle.printf_text.specs.declared.piece.Flags.{Flags}
use Rattle.printf_text.specs.declared.piece.Radix.{Radix}
use Rattle.printf_text.specs.declared.piece.Radix.TheVariants.{Decimal, Octal, LowerHex, UpperHex}
use Rattle.printf_text.specs.declared.piece.Form.{Form}
use Rattle.printf_text.specs.declared.piece.Form.TheVariants.{Signed, Unsigned, Char, Text, Pointer}
use Rattle.printf_text.specs.declared.piece.Size.{Size}
use Rattle.printf_text.specs.declared.piece.Size.TheVariants.{Omitted, Written, Star}
use Rattle.printf_text.specs.declared.piece.Conversion.{Conversion}
use Rattle.format_match.specs.Splits.{star_marks}
use Rattle.format_match.specs.Ways.{Adds, IsHeld, IsInt, is_star, range_kinds, range_marks, ranged, here, upto, precision_end, no_precision_end, precision_at_end, short_precisions_end, long_precisions_end, star_precision_end, thin_widths_end, exact_width_end, star_width_end, width_kinds}
use Rattle.format_match.specs.declared.split.Split.{Split}
use Rattle.format_match.specs.declared.way.Range.{Range}
use Rattle.format_match.proofs.MetEnds.{both, upto_one, upto_none, upto_below}
use Rattle.format_match.proofs.Printing.{same_bytes}

-- ---- values of `int`

abbrev pub between : ℤ → ℤ → ℤ → Bool
between low high z = not (int_lt z low || int_lt high z)

int_of_word : (z : ℤ) → IsInt z → int_of (arg.Word (word W32 z) W32 true) ≡ z
int_of_word z h = ap (λ y. signed W32 (word W32 y)) (signed-word W32 z h) ∙ signed-word W32 z h

pub held_by : (z low high : ℤ) → IsInt z → between low high z ≡ true → IsHeld (Some (record { low = low; high = high }))
held_by z low high h b = (arg.Word (word W32 z) W32 true, word_below W32 z, ap (between low high) (int_of_word z h) ∙ b)

int_is : (x : ℕ) → x < 2 ^ 32 → is_signed W32 (signed W32 x) ≡ true
int_is x h = by (signed W32 x) refl
  where
    by : (z : ℤ) → signed W32 x ≡ z → is_signed W32 z ≡ true
    by (pos n) e = lt-ltb n 2147483648 (small n (e))
      where
        small : (n : ℕ) → signed W32 x ≡ pos n → n < 2147483648
        small n e = omega (arith, ints, e)
    by (negsuc n) e = lt-ltb n 2147483648 (small n (e))
      where
        small : (n : ℕ) → signed W32 x ≡ negsuc n → n < 2147483648
        small n e = omega (arith, ints, e)

pub int_of_int : (a : Arg) → IsInt (int_of a)
int_of_int a = int_is (word W32 (number_of a)) (word_below W32 (number_of a))

-- ---- precisions

module _ (flags : Flags) (form : Form) (width : ℤ) where
  abbrev printed : ℤ → Arg → List ℕ
  printed precision a = formed flags form width precision a

  -- all below 0 are none
  none_same : (m : ℕ) (a : Arg) → printed (negsuc m) a ≡ printed (negsuc 0) a
  none_same m a = by form
    where
      by : (form : Form) → formed flags form width (negsuc m) a ≡ formed flags form width (negsuc 0) a
      by (Signed w) = refl
      by (Unsigned r w) = refl
      by Char = refl
      by Text = refl
      by Pointer = refl

digits_long : (radix : Radix) (least n : ℕ) → least ≤ length (digits radix least n)
digits_long radix least n =
    let written = map (digit radix) (digits_of (base radix) n) in
    omega (arith, length-append (replicate (least - length written) 48) written, length-replicate {A = ℕ} (least - length written) 48)

marked_long : (flags : Flags) (radix : Radix) (ds : List ℕ) → length ds ≤ length (marked flags radix ds)
marked_long flags Decimal ds = omega arith
marked_long flags LowerHex ds = omega arith
marked_long flags UpperHex ds = omega arith
marked_long flags Octal ds = by flags.alternate
  where
    zeroed : (ds : List ℕ) → length ds ≤ length (with_zero ds)
    zeroed [] = omega arith
    zeroed (d ∷ ds) = pick (eqb d 48)
      where
        pick : (t : Bool) → length (d ∷ ds) ≤ length (cond t (d ∷ ds) (48 ∷ d ∷ ds))
        pick true = omega arith
        pick false = omega arith

    by : (t : Bool) → length ds ≤ length (cond t (with_zero ds) ds)
    by true = zeroed ds
    by false = omega arith

not_filled : (flags : Flags) (n : ℕ) → fills_zeros flags (pos n) ≡ false
not_filled flags n = ap (λ t. flags.zero && t) (le-ltb n 0 (omega arith)) ∙ by flags.zero
  where
    by : (t : Bool) → (t && false) ≡ false
    by true = refl
    by false = refl

-- what is longer than the bytes doesn't print them
too_long : (left fill : Bool) (width : ℕ) (p : Parts) (slice : List ℕ) → length slice < length p.body → bytes_eq (in_field left fill width p) slice ≡ false
too_long left fill width p slice h =
    false_from_ne_true (bytes_eq (in_field left fill width p) slice)
    (λ e. absurd (omega (arith, ap length (same_bytes (in_field left fill width p) slice e), length-in_field left fill width p)))

-- a precision above the number of bytes prints them as any other does
pub long_same : (flags : Flags) (form : Form) (width : ℤ) (slice : List ℕ) (m n : ℕ) (a : Arg) → length slice < m → length slice < n
    → bytes_eq (formed flags form width (pos m) a) slice ≡ bytes_eq (formed flags form width (pos n) a) slice
long_same flags form width slice m n a hm hn = by form
  where
    left : Bool
    left = flags.left || is_negative width

    filled : (form : Form) (k : ℕ) → bytes_eq (formed flags form width (pos k) a) slice ≡ bytes_eq (in_field (flags.left || is_negative width) false (unsigned_abs width) (parts flags form (pos k) a)) slice
    filled form k = ap (λ f. bytes_eq (in_field (flags.left || is_negative width) f (unsigned_abs width) (parts flags form (pos k) a)) slice) (not_filled flags k)

    signed_long : (w : _) (k : ℕ) → length slice < k → bytes_eq (in_field (flags.left || is_negative width) false (unsigned_abs width) (parts flags (Signed w) (pos k) a)) slice ≡ false
    signed_long w k h =
        too_long (flags.left || is_negative width) false (unsigned_abs width) (parts flags (Signed w) (pos k) a) slice
        (omega (arith, digits_long Decimal k (unsigned_abs (signed w (word w (number_of a))))))

    unsigned_long : (r : Radix) (w : _) (k : ℕ) → length slice < k → bytes_eq (in_field (flags.left || is_negative width) false (unsigned_abs width) (parts flags (Unsigned r w) (pos k) a)) slice ≡ false
    unsigned_long r w k h =
        too_long (flags.left || is_negative width) false (unsigned_abs width) (parts flags (Unsigned r w) (pos k) a) slice
        (omega (arith, digits_long r k (word w (number_of a)), marked_long flags r (digits r k (word w (number_of a)))))

    text_long : (whole : List ℕ) → bytes_eq (in_field (flags.left || is_negative width) false (unsigned_abs width) (plain (take m whole))) slice ≡ bytes_eq (in_field (flags.left || is_negative width) false (unsigned_abs width) (plain (take n whole))) slice
    text_long whole = pick (cases_lt (length slice) (length whole))
      where
        pick : (length slice < length whole) ⊎ (length whole ≤ length slice)
            → bytes_eq (in_field (flags.left || is_negative width) false (unsigned_abs width) (plain (take m whole))) slice ≡ bytes_eq (in_field (flags.left || is_negative width) false (unsigned_abs width) (plain (take n whole))) slice
        pick (inl l) =
            too_long (flags.left || is_negative width) false (unsigned_abs width) (plain (take m whole)) slice (omega (arith, length-take m whole))
            ∙ sym (too_long (flags.left || is_negative width) false (unsigned_abs width) (plain (take n whole)) slice (omega (arith, length-take n whole)))
        pick (inr s) =
            ap (λ t. bytes_eq (in_field (flags.left || is_negative width) false (unsigned_abs width) (plain t)) slice) (take_all m whole (omega arith) ∙ sym (take_all n whole (omega arith)))

    by : (form : Form) → bytes_eq (formed flags form width (pos m) a) slice ≡ bytes_eq (formed flags form width (pos n) a) slice
    by (Signed w) = filled (Signed w) m ∙ signed_long w m hm ∙ sym (signed_long w n hn) ∙ sym (filled (Signed w) n)
    by (Unsigned r w) = filled (Unsigned r w) m ∙ unsigned_long r w m hm ∙ sym (unsigned_long r w n hn) ∙ sym (filled (Unsigned r w) n)
    by Char = filled Char m ∙ sym (filled Char n)
    by Text = filled Text m ∙ text_long (text_bytes a) ∙ sym (filled Text n)
    by Pointer = filled Pointer m ∙ sym (filled Pointer n)

-- ---- the ranges of `*`

in_true : (a b n : ℕ) → a ≤ n → n ≤ b → not (ltb n a || ltb b n) ≡ true
in_true a b n h k = ap not (or_from (ltb n a) (ltb b n) (le-ltb n a h) (le-ltb b n k))

in_low : (a b n : ℕ) → n < a → not (ltb n a || ltb b n) ≡ false
in_low a b n h = ap (λ t. not (t || ltb b n)) (lt-ltb n a h)

in_high : (a b n : ℕ) → b < n → not (ltb n a || ltb b n) ≡ false
in_high a b n h = ap (λ t. not (ltb n a || t)) (lt-ltb b n h) ∙ by (ltb n a)
  where
    by : (t : Bool) → not (t || true) ≡ false
    by true = refl
    by false = refl

exact_other : (k n : ℕ) → k ≢ n → not (ltb n k || ltb k n) ≡ false
exact_other k n d = by (cases_lt n k)
  where
    by : (n < k) ⊎ (k ≤ n) → not (ltb n k || ltb k n) ≡ false
    by (inl l) = in_low k k n l
    by (inr g) = in_high k k n (omega arith)

small_int : (n : ℕ) → ltb n 2147483648 ≡ true → n ≤ 2147483647
small_int n h = grind (arith, nat_tests)

pick_true : (b : Bool) (l : List ℕ) → b ≡ true → cond b l [] ≡ l
pick_true b l e = ap (λ t. cond t l []) e

pick_false : (b : Bool) (l : List ℕ) → b ≡ false → cond b l [] ≡ []
pick_false b l e = ap (λ t. cond t l []) e

join : {a a' b b' : List ℕ} → a ≡ a' → b ≡ b' → a ++ b ≡ a' ++ b'
join p q = both (λ (x y : List ℕ). x ++ y) p q

module _ (c : Conversion) (width : ℤ) (slice : List ℕ) (end : ℕ) where
  abbrev at : Arg → ℤ → List ℕ
  at a p = here (formed c.flags c.form width p a) slice end

  -- the precisions below 0, those up to the number of bytes and those above it are all
  precision_cells : (a : Arg) (z : ℤ) → IsInt z
      → cond (between (negsuc 2147483647) (negsuc 0) z) (at a (negsuc 0)) [] ++ upto (λ k. cond (between (pos k) (pos k) z) (at a (pos k)) []) (length slice + 1)
      ++ cond (between (pos (length slice + 1)) (pos 2147483647) z) (at a (pos (length slice + 1))) [] ≡ at a z
  precision_cells a (negsuc m) h =
      join (join (pick_true _ (at a (negsuc 0)) (ap not (or_from (ltb 2147483647 m) (ltb m 0) (le-ltb 2147483647 m (small_int m h)) (le-ltb m 0 (omega arith))))) (upto_none (λ k. []) (length slice + 1) (λ k. refl))) refl
      ∙ append-nil (at a (negsuc 0) ++ []) ∙ append-nil (at a (negsuc 0)) ∙ ap (λ t. here t slice end) (sym (none_same c.flags c.form width m a))
  precision_cells a (pos m) h = by (cases_lt (length slice) m)
    where
      by : (length slice < m) ⊎ (m ≤ length slice)
          → [] ++ upto (λ k. cond (between (pos k) (pos k) (pos m)) (at a (pos k)) []) (length slice + 1)
          ++ cond (between (pos (length slice + 1)) (pos 2147483647) (pos m)) (at a (pos (length slice + 1))) [] ≡ at a (pos m)
      by (inl l) =
          join (upto_past' (λ k. cond (between (pos k) (pos k) (pos m)) (at a (pos k)) []) (length slice + 1) (λ k b. pick_false _ (at a (pos k)) (exact_other k m (omega arith))))
          (pick_true _ (at a (pos (length slice + 1))) (in_true (length slice + 1) 2147483647 m (omega arith) (small_int m h)))
          ∙ ap (λ t. cond t (end ∷ []) []) (long_same c.flags c.form width slice (length slice + 1) m a (omega arith) l)
        where
          upto_past' : (f : ℕ → List ℕ) (n : ℕ) → ((k : ℕ) → k < n → f k ≡ []) → upto f n ≡ []
          upto_past' f n h = upto_below f n h
      by (inr g) =
          join (upto_one (λ k. cond (between (pos k) (pos k) (pos m)) (at a (pos k)) []) m (length slice + 1) (omega arith) (λ k d. pick_false _ (at a (pos k)) (exact_other k m d))
          ∙ pick_true _ (at a (pos m)) (in_true m m m (omega arith) (omega arith)))
          (pick_false _ (at a (pos (length slice + 1))) (in_low (length slice + 1) 2147483647 m (omega arith)))
          ∙ append-nil (at a (pos m))

  pub star_precisions : (args : List Arg) → HaveKinds (kind.Integer ∷ form_kind c.form ∷ []) args
      → no_precision_end c width slice end args ++ short_precisions_end c width slice end (length slice + 1) args ++ long_precisions_end c width slice end args
      ≡ star_precision_end c width slice end args
  star_precisions [] h = absurd h
  star_precisions (arg.Text t ∷ args) h = absurd h.0
  star_precisions (arg.Null ∷ args) h = absurd h.0
  star_precisions (arg.Shown n ∷ args) h = absurd h.0
  star_precisions (arg.Word x w s ∷ args) h = precision_cells (first args) (int_of (arg.Word x w s)) (int_of_int (arg.Word x w s))

-- ---- widths

-- fields narrower than the bytes print them alike
thin_same : (l l' f f' : Bool) (w w' : ℕ) (p : Parts) (slice : List ℕ) → w < length slice → w' < length slice → bytes_eq (in_field l f w p) slice ≡ bytes_eq (in_field l' f' w' p) slice
thin_same l l' f f' w w' p slice h h' = by (cases_eq (length p.sign + length p.prefix + length p.body) (length slice))
  where
    no_padding : (l f : Bool) (w : ℕ) → w ≤ length (p.sign ++ p.prefix ++ p.body) → in_field l f w p ≡ p.sign ++ p.prefix ++ p.body
    no_padding l f w s = lay l f (w - length (p.sign ++ p.prefix ++ p.body)) (omega arith)
      where
        lay : (l f : Bool) (m : ℕ) → m ≡ 0 → cond l (p.sign ++ p.prefix ++ p.body ++ replicate m 32) (cond f (p.sign ++ p.prefix ++ replicate m 48 ++ p.body) (replicate m 32 ++ (p.sign ++ p.prefix) ++ p.body)) ≡ p.sign ++ p.prefix ++ p.body
        lay true f m e = ap (λ k. p.sign ++ p.prefix ++ p.body ++ replicate k 32) e ∙ append-nil (p.sign ++ p.prefix ++ p.body)
        lay false true m e = ap (λ k. p.sign ++ p.prefix ++ replicate k 48 ++ p.body) e ∙ ap (λ r. r ++ p.body) (append-nil (p.sign ++ p.prefix))
        lay false false m e = ap (λ k. replicate k 32 ++ (p.sign ++ p.prefix) ++ p.body) e

    whole : length (p.sign ++ p.prefix ++ p.body) ≡ length p.sign + length p.prefix + length p.body
    whole = length-append (p.sign ++ p.prefix) p.body ∙ ap (λ n. n + length p.body) (length-append p.sign p.prefix)

    not_same : (l f : Bool) (w : ℕ) → w < length slice → (length p.sign + length p.prefix + length p.body ≡ length slice → ⊥) → bytes_eq (in_field l f w p) slice ≡ false
    not_same l f w s d = false_from_ne_true (bytes_eq (in_field l f w p) slice) (λ e. d (omega (arith, ap length (same_bytes (in_field l f w p) slice e), length-in_field l f w p)))

    by : (length p.sign + length p.prefix + length p.body ≡ length slice) ⊎ (length p.sign + length p.prefix + length p.body ≡ length slice → ⊥) → bytes_eq (in_field l f w p) slice ≡ bytes_eq (in_field l' f' w' p) slice
    by (inl e) = ap (λ t. bytes_eq t slice) (no_padding l f w (omega (arith, whole)) ∙ sym (no_padding l' f' w' (omega (arith, whole))))
    by (inr d) = not_same l f w h d ∙ sym (not_same l' f' w' h' d)

wide_none : (l f : Bool) (w : ℕ) (p : Parts) (slice : List ℕ) → length slice < w → bytes_eq (in_field l f w p) slice ≡ false
wide_none l f w p slice h =
    false_from_ne_true (bytes_eq (in_field l f w p) slice) (λ e. absurd (omega (arith, ap length (same_bytes (in_field l f w p) slice e), length-in_field l f w p)))

inner_pos : (l m : ℕ) → between (neg_ℤ (pos l)) (pos l) (pos m) ≡ not (ltb l m)
inner_pos zero m = ap (λ t. not (t || ltb 0 m)) (le-ltb m 0 (omega arith))
inner_pos (suc l) m = refl

inner_neg : (l m : ℕ) → between (neg_ℤ (pos l)) (pos l) (negsuc m) ≡ ltb m l
inner_neg zero m = sym (le-ltb m 0 (omega arith))
inner_neg (suc l) m = grind (arith, nat_tests)

left_neg : (l m : ℕ) → between (negsuc l) (negsuc l) (negsuc m) ≡ not (ltb l m || ltb m l)
left_neg l m = refl

module _ (c : Conversion) (slice : List ℕ) (end : ℕ) where
  abbrev by_width : List Arg → ℤ → List ℕ
  by_width rest z = precision_end c z slice end rest

  thin_width : (rest : List Arg) (z : ℤ) → unsigned_abs z < length slice → by_width rest (pos 0) ≡ by_width rest z
  thin_width rest z h =
      ap (λ t. cond t (end ∷ []) [])
      (thin_same (c.flags.left || is_negative (pos 0)) (c.flags.left || is_negative z) _ _ 0 (unsigned_abs z)
      (parts c.flags c.form (size_of (negsuc 0) c.precision rest) (first (drop (length (size_kinds c.precision)) rest))) slice (omega arith) h)

  wide_width : (rest : List Arg) (z : ℤ) → length slice < unsigned_abs z → by_width rest z ≡ []
  wide_width rest z h =
      ap (λ t. cond t (end ∷ []) [])
      (wide_none (c.flags.left || is_negative z) (fills_zeros c.flags (size_of (negsuc 0) c.precision rest)) (unsigned_abs z)
      (parts c.flags c.form (size_of (negsuc 0) c.precision rest) (first (drop (length (size_kinds c.precision)) rest))) slice h)

  -- the widths that are thin, as wide as the bytes, or that to the left, are all that print them
  width_cells : (l : ℕ) (rest : List Arg) (z : ℤ) → length slice ≡ suc l
      → cond (between (neg_ℤ (pos l)) (pos l) z) (by_width rest (pos 0)) [] ++ cond (between (pos (suc l)) (pos (suc l)) z) (by_width rest (pos (suc l))) []
      ++ cond (between (negsuc l) (negsuc l) z) (by_width rest (negsuc l)) [] ≡ by_width rest z
  width_cells l rest (pos m) e = by (cases_lt l m)
    where
      by : (l < m) ⊎ (m ≤ l) → cond (between (neg_ℤ (pos l)) (pos l) (pos m)) (by_width rest (pos 0)) [] ++ cond (not (ltb m (suc l) || ltb (suc l) m)) (by_width rest (pos (suc l))) [] ++ [] ≡ by_width rest (pos m)
      by (inr s) =
          join (join (pick_true _ (by_width rest (pos 0)) (inner_pos l m ∙ ap not (le-ltb l m s))) (pick_false _ (by_width rest (pos (suc l))) (in_low (suc l) (suc l) m (omega arith)))) refl
          ∙ append-nil (by_width rest (pos 0) ++ []) ∙ append-nil (by_width rest (pos 0)) ∙ thin_width rest (pos m) (omega (arith, e))
      by (inl g) = exact (cases_eq m (suc l))
        where
          none : cond (between (neg_ℤ (pos l)) (pos l) (pos m)) (by_width rest (pos 0)) [] ≡ []
          none = pick_false _ (by_width rest (pos 0)) (inner_pos l m ∙ ap not (lt-ltb l m g))

          exact : (m ≡ suc l) ⊎ (m ≡ suc l → ⊥) → cond (between (neg_ℤ (pos l)) (pos l) (pos m)) (by_width rest (pos 0)) [] ++ cond (not (ltb m (suc l) || ltb (suc l) m)) (by_width rest (pos (suc l))) [] ++ [] ≡ by_width rest (pos m)
          exact (inl q) =
              join (join none (pick_true _ (by_width rest (pos (suc l))) (in_true (suc l) (suc l) m (omega (arith, q)) (omega (arith, q))))) refl
              ∙ append-nil (by_width rest (pos (suc l))) ∙ ap (λ k. by_width rest (pos k)) (sym q)
          exact (inr d) =
              join (join none (pick_false _ (by_width rest (pos (suc l))) (exact_other (suc l) m (λ x. d (sym x))))) refl
              ∙ sym (wide_width rest (pos m) (above m l g d e))
            where
              above : (m l : ℕ) → l < m → (m ≡ suc l → ⊥) → length slice ≡ suc l → length slice < m
              above m l g d e = omega arith
  width_cells l rest (negsuc m) e = by (cases_lt m l)
    where
      by : (m < l) ⊎ (l ≤ m) → cond (between (neg_ℤ (pos l)) (pos l) (negsuc m)) (by_width rest (pos 0)) [] ++ [] ++ cond (not (ltb l m || ltb m l)) (by_width rest (negsuc l)) [] ≡ by_width rest (negsuc m)
      by (inl s) =
          join (join (pick_true _ (by_width rest (pos 0)) (inner_neg l m ∙ lt-ltb m l s)) refl) (pick_false _ (by_width rest (negsuc l)) (exact_other m l (omega arith)))
          ∙ append-nil (by_width rest (pos 0) ++ []) ∙ append-nil (by_width rest (pos 0)) ∙ thin_width rest (negsuc m) (omega (arith, e))
      by (inr g) = exact (cases_eq m l)
        where
          none : cond (between (neg_ℤ (pos l)) (pos l) (negsuc m)) (by_width rest (pos 0)) [] ≡ []
          none = pick_false _ (by_width rest (pos 0)) (inner_neg l m ∙ le-ltb m l g)

          exact : (m ≡ l) ⊎ (m ≡ l → ⊥) → cond (between (neg_ℤ (pos l)) (pos l) (negsuc m)) (by_width rest (pos 0)) [] ++ [] ++ cond (not (ltb l m || ltb m l)) (by_width rest (negsuc l)) [] ≡ by_width rest (negsuc m)
          exact (inl q) =
              join (join none refl) (pick_true _ (by_width rest (negsuc l)) (in_true m m l (omega (arith, q)) (omega (arith, q)))) ∙ ap (λ k. by_width rest (negsuc k)) (sym q)
          exact (inr d) =
              join (join none refl) (pick_false _ (by_width rest (negsuc l)) (exact_other m l d)) ∙ sym (wide_width rest (negsuc m) (above m l g d e))
            where
              above : (m l : ℕ) → l ≤ m → (m ≡ l → ⊥) → length slice ≡ suc l → length slice < suc m
              above m l g d e = omega arith

  no_width_cells : (rest : List Arg) (z : ℤ) → length slice ≡ 0 → cond (between (pos 0) (pos 0) z) (by_width rest (pos 0)) [] ≡ by_width rest z
  no_width_cells rest (negsuc m) e = sym (wide_width rest (negsuc m) (omega (arith, e)))
  no_width_cells rest (pos m) e = by (cases_eq m 0)
    where
      by : (m ≡ 0) ⊎ (m ≡ 0 → ⊥) → cond (not (ltb m 0 || ltb 0 m)) (by_width rest (pos 0)) [] ≡ by_width rest (pos m)
      by (inl q) = pick_true _ (by_width rest (pos 0)) (in_true 0 0 m (omega arith) (omega (arith, q))) ∙ ap (λ k. by_width rest (pos k)) (sym q)
      by (inr d) = pick_false _ (by_width rest (pos 0)) (in_high 0 0 m (above m d)) ∙ sym (wide_width rest (pos m) (omega (arith, e, above m d)))
        where
          above : (m : ℕ) → (m ≡ 0 → ⊥) → 0 < m
          above m d = omega arith

  pub star_widths : (args : List Arg) → HaveKinds (kind.Integer ∷ width_kinds c) args → 0 < length slice
      → thin_widths_end c slice end args ++ exact_width_end c (pos (length slice)) slice end args ++ exact_width_end c (neg_ℤ (pos (length slice))) slice end args ≡ star_width_end c slice end args
  star_widths [] h s = absurd h
  star_widths (arg.Text t ∷ args) h s = absurd h.0
  star_widths (arg.Null ∷ args) h s = absurd h.0
  star_widths (arg.Shown n ∷ args) h s = absurd h.0
  star_widths (arg.Word x w s ∷ args) h k = by (length slice - 1) (omega arith)
    where
      z : ℤ
      z = int_of (arg.Word x w s)

      by : (l : ℕ) → length slice ≡ suc l
          → cond (eqb (length slice) 0) [] (cond (between (neg_ℤ (pos (length slice - 1))) (pos (length slice - 1)) (int_of (arg.Word x w s))) (by_width args (pos 0)) [])
          ++ cond (between (pos (length slice)) (pos (length slice)) (int_of (arg.Word x w s))) (by_width args (pos (length slice))) []
          ++ cond (between (neg_ℤ (pos (length slice))) (neg_ℤ (pos (length slice))) (int_of (arg.Word x w s))) (by_width args (neg_ℤ (pos (length slice)))) [] ≡ by_width args (int_of (arg.Word x w s))
      by l e =
          ap (λ n. cond (eqb n 0) [] (cond (between (neg_ℤ (pos (n - 1))) (pos (n - 1)) (int_of (arg.Word x w s))) (by_width args (pos 0)) [])
          ++ cond (between (pos n) (pos n) (int_of (arg.Word x w s))) (by_width args (pos n)) []
          ++ cond (between (neg_ℤ (pos n)) (neg_ℤ (pos n)) (int_of (arg.Word x w s))) (by_width args (neg_ℤ (pos n))) []) e
          ∙ join (join (ap (λ t. cond t [] (cond (between (neg_ℤ (pos (suc l - 1))) (pos (suc l - 1)) (int_of (arg.Word x w s))) (by_width args (pos 0)) [])) (ne_eqb (suc l) 0 (omega arith))
          ∙ ap (λ n. cond (between (neg_ℤ (pos n)) (pos n) (int_of (arg.Word x w s))) (by_width args (pos 0)) []) (omega arith)) refl) refl
          ∙ width_cells l args (int_of (arg.Word x w s)) e

  pub star_widths_empty : (args : List Arg) → HaveKinds (kind.Integer ∷ width_kinds c) args → length slice ≡ 0
      → thin_widths_end c slice end args ++ exact_width_end c (pos (length slice)) slice end args ≡ star_width_end c slice end args
  star_widths_empty [] h s = absurd h
  star_widths_empty (arg.Text t ∷ args) h s = absurd h.0
  star_widths_empty (arg.Null ∷ args) h s = absurd h.0
  star_widths_empty (arg.Shown n ∷ args) h s = absurd h.0
  star_widths_empty (arg.Word x w s ∷ args) h e =
      join (ap (λ t. cond t [] (cond (between (neg_ℤ (pos (length slice - 1))) (pos (length slice - 1)) (int_of (arg.Word x w s))) (by_width args (pos 0)) [])) (eq-eqb (length slice) 0 e))
      (ap (λ n. cond (between (pos n) (pos n) (int_of (arg.Word x w s))) (by_width args (pos n)) []) e)
      ∙ no_width_cells args (int_of (arg.Word x w s)) e

-- ---- what the matcher adds, by its steps

module _ (c : Conversion) (r : Option Range) (width : ℤ) (slice : List ℕ) (end : ℕ) (old now : List Split) where
  abbrev StarAdds : (List Arg → List ℕ) → Type 0
  StarAdds E = Adds (range_kinds r ++ kind.Integer ∷ form_kind c.form ∷ []) (range_marks r ++ true ∷ false ∷ []) (ranged r E) old now

  pub precision_added : (k : ℕ) (z : ℤ) → z ≡ pos k → StarAdds (ranged (Some (record { low = z; high = z })) (λ args. here (formed c.flags c.form width z (first args)) slice end)) → StarAdds (precision_at_end c width slice end k)
  precision_added k z e h = subst (λ z. StarAdds (ranged (Some (record { low = z; high = z })) (λ args. here (formed c.flags c.form width z (first args)) slice end))) e h

  pub long_added : (z : ℤ) → z ≡ pos (length slice + 1) → StarAdds (ranged (Some (record { low = z; high = pos 2147483647 })) (λ args. here (formed c.flags c.form width z (first args)) slice end)) → StarAdds (long_precisions_end c width slice end)
  long_added z e h = subst (λ z. StarAdds (ranged (Some (record { low = z; high = pos 2147483647 })) (λ args. here (formed c.flags c.form width z (first args)) slice end))) e h

-- no value of `int` is in a range above it
past_range : (low : ℕ) (high : ℤ) → 2147483647 < low → (z : ℤ) → IsInt z → between (pos low) high z ≡ false
past_range low high l (negsuc m) h = refl
past_range low high l (pos m) h = ap (λ t. not (t || int_lt high (pos m))) (lt-ltb m low (omega (arith, small_int m h)))

past_low_range : (high : ℕ) (low : ℤ) → 2147483647 < high → (z : ℤ) → IsInt z → between low (negsuc high) z ≡ false
past_low_range high low l (pos m) h = by (int_lt (pos m) low)
  where
    by : (t : Bool) → not (t || true) ≡ false
    by true = refl
    by false = refl
past_low_range high low l (negsuc m) h = ap (λ t. not (int_lt (negsuc m) low || t)) (lt-ltb m high (omega (arith, small_int m h))) ∙ by (int_lt (negsuc m) low)
  where
    by : (t : Bool) → not (t || true) ≡ false
    by true = refl
    by false = refl

none_held : (low high : ℤ) (K : List Kind) (E : List Arg → List ℕ) → ((z : ℤ) → IsInt z → between low high z ≡ false)
    → (args : List Arg) → HaveKinds (kind.Integer ∷ K) args → ranged (Some (record { low = low; high = high })) E args ≡ []
none_held low high K E f [] h = absurd h
none_held low high K E f (arg.Text t ∷ args) h = absurd h.0
none_held low high K E f (arg.Null ∷ args) h = absurd h.0
none_held low high K E f (arg.Shown n ∷ args) h = absurd h.0
none_held low high K E f (arg.Word x w s ∷ args) h = pick_false _ (E args) (f (int_of (arg.Word x w s)) (int_of_int (arg.Word x w s)))

pub precision_past : (c : Conversion) (width : ℤ) (slice : List ℕ) (end k : ℕ) → 2147483647 < k → (args : List Arg) → HaveKinds (kind.Integer ∷ form_kind c.form ∷ []) args → precision_at_end c width slice end k args ≡ []
precision_past c width slice end k l = none_held (pos k) (pos k) (form_kind c.form ∷ []) (λ args. here (formed c.flags c.form width (pos k) (first args)) slice end) (past_range k (pos k) l)

pub long_past : (c : Conversion) (width : ℤ) (slice : List ℕ) (end : ℕ) → 2147483647 ≤ length slice → (args : List Arg) → HaveKinds (kind.Integer ∷ form_kind c.form ∷ []) args → long_precisions_end c width slice end args ≡ []
long_past c width slice end l =
    none_held (pos (length slice + 1)) (pos 2147483647) (form_kind c.form ∷ []) (λ args. here (formed c.flags c.form width (pos (length slice + 1)) (first args)) slice end) (past_range (length slice + 1) (pos 2147483647) (omega arith))

pub right_past : (c : Conversion) (slice : List ℕ) (end : ℕ) → 2147483647 < length slice → (args : List Arg) → HaveKinds (kind.Integer ∷ width_kinds c) args → exact_width_end c (pos (length slice)) slice end args ≡ []
right_past c slice end l = none_held (pos (length slice)) (pos (length slice)) (width_kinds c) (precision_end c (pos (length slice)) slice end) (past_range (length slice) (pos (length slice)) l)

pub left_past : (c : Conversion) (slice : List ℕ) (end : ℕ) → 2147483648 < length slice → (args : List Arg) → HaveKinds (kind.Integer ∷ width_kinds c) args → exact_width_end c (neg_ℤ (pos (length slice))) slice end args ≡ []
left_past c slice end l args h =
    ap (λ n. ranged (Some (record { low = neg_ℤ (pos n); high = neg_ℤ (pos n) })) (precision_end c (neg_ℤ (pos n)) slice end) args) (back (length slice) l)
    ∙ none_held (negsuc (length slice - 1)) (negsuc (length slice - 1)) (width_kinds c) (precision_end c (negsuc (length slice - 1)) slice end) (past_low_range (length slice - 1) (negsuc (length slice - 1)) (omega arith)) args h
  where
    back : (n : ℕ) → 2147483648 < n → n ≡ suc (n - 1)
    back n l = omega arith

-- values of `int`
pub int_pos : (z : ℤ) (k : ℕ) → z ≡ pos k → k ≤ 2147483647 → IsInt z
int_pos z k e h = ap (is_signed W32) e ∙ lt-ltb k 2147483648 (omega arith)

pub int_neg : (z : ℤ) (k : ℕ) → z ≡ neg_ℤ (pos k) → k ≤ 2147483648 → IsInt z
int_neg z zero e h = ap (is_signed W32) e
int_neg z (suc k) e h = ap (is_signed W32) e ∙ lt-ltb k 2147483648 (omega arith)

-- a value of `int` is in its own range
pub held_exact : (z : ℤ) → IsInt z → IsHeld (Some (record { low = z; high = z }))
held_exact z h = held_by z z z h (ap not (or_from (int_lt z z) (int_lt z z) (not_less z) (not_less z)))
  where
    not_less : (z : ℤ) → int_lt z z ≡ false
    not_less (pos n) = le-ltb n n (omega arith)
    not_less (negsuc n) = le-ltb n n (omega arith)

pub held_long : (z : ℤ) (k : ℕ) → z ≡ pos k → k ≤ 2147483647 → IsHeld (Some (record { low = z; high = pos 2147483647 }))
held_long z k e h = held_by z z (pos 2147483647) (int_pos z k e h) (ap (λ z. between z (pos 2147483647) z) e ∙ in_true k 2147483647 k (omega arith) h)

pub held_thin : (low high : ℤ) (k : ℕ) → low ≡ neg_ℤ (pos k) → high ≡ pos k → IsHeld (Some (record { low = low; high = high }))
held_thin low high k e f = held_by (pos 0) low high refl (both (λ (x y : ℤ). between x y (pos 0)) e f ∙ inner_pos k 0 ∙ ap not (le-ltb k 0 (omega arith)))

-- ---- a `*` or none

module _ (flags : Flags) (form : Form) (width : ℤ) (slice : List ℕ) (end : ℕ) (r : Option Range) (old now : List Split) where
  abbrev SizeAdds : Size → Type 0
  SizeAdds size =
      Adds (range_kinds r ++ (size_kinds size ++ form_kind form ∷ [])) (range_marks r ++ (star_marks size ++ false ∷ []))
      (ranged r (λ args. here (formed flags form width (size_of (negsuc 0) size args) (first (drop (length (size_kinds size)) args))) slice end)) old now

  pub star_added : (size : Size) → is_star size ≡ true
      → Adds (range_kinds r ++ kind.Integer ∷ form_kind form ∷ []) (range_marks r ++ true ∷ false ∷ []) (ranged r (λ args. here (formed flags form width (int_of (first args)) (first (drop 1 args))) slice end)) old now → SizeAdds size
  star_added Omitted h d = absurd cc
  star_added (Written n) h d = absurd cc
  star_added Star h d = d

  pub written_added : (size : Size) → is_star size ≡ false
      → Adds (range_kinds r ++ form_kind form ∷ []) (range_marks r ++ false ∷ []) (ranged r (λ args. here (formed flags form width (size_of (negsuc 0) size []) (first args)) slice end)) old now → SizeAdds size
  written_added Omitted h d = d
  written_added (Written n) h d = d
  written_added Star h d = absurd cc

module _ (K : List Kind) (M : List Bool) (k : Kind) (P : ℤ → List Arg → List ℕ) (old now : List Split) where
  abbrev WidthAdds : Size → Type 0
  WidthAdds size = Adds (size_kinds size ++ K ++ k ∷ []) (star_marks size ++ M ++ false ∷ []) (λ args. P (size_of (pos 0) size args) (drop (length (size_kinds size)) args)) old now

  pub star_width_added : (size : Size) → is_star size ≡ true → Adds (kind.Integer ∷ (K ++ k ∷ [])) (true ∷ (M ++ false ∷ [])) (λ args. P (int_of (first args)) (drop 1 args)) old now → WidthAdds size
  star_width_added Omitted h d = absurd cc
  star_width_added (Written n) h d = absurd cc
  star_width_added Star h d = d

  pub written_width_added : (size : Size) → is_star size ≡ false → Adds (K ++ k ∷ []) (M ++ false ∷ []) (λ args. P (size_of (pos 0) size []) args) old now → WidthAdds size
  written_width_added Omitted h d = d
  written_width_added (Written n) h d = d
  written_width_added Star h d = absurd cc

pub positive_length : (n : ℕ) → (n ≡ 0 → ⊥) → 0 < n
positive_length n h = omega arith
