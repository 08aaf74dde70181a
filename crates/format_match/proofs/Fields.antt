-- What a text in its field tells of its parts.
use Rattle.std.proofs.Common.{◌≡◌, ◌≢◌, ℕ, zero, suc, ◌+◌, ◌-◌, ◌%◌, ◌^◌, ◌<◌, ◌≤◌, Bool, true, false, not, cond, ◌&&◌, ◌||◌, eqb, ℤ, pos, negsuc, neg_ℤ, List, [], ◌∷◌, ◌++◌, length, map, replicate, append-nil, refl, sym, ap, ◌∙◌, arith}
use Rattle.std.specs.Int.{is_negative}
use Rattle.std.specs.Int.RustNames.{unsigned_abs}
use Rattle.std.specs.List.{filter}
use Rattle.std.specs.Char.{digit_value, is_digit}
use Rattle.std.specs.Int.Digits.{digits_of, AllBelowBase}
use Rattle.std.specs.Str.Parse.{digits_value, digits_value_after}
use Rattle.std.proofs.lemmas.Int.Digits.{all_below_base_digits_of}
use Rattle.std.proofs.lemmas.List.Elements.{filter-append}
use Rattle.std.proofs.lemmas.List.{replicate-append-replicate}
use Rattle.std.proofs.lemmas.Bool.Decides.{nat_tests}
use Rattle.std.proofs.lemmas.Bool.{lt-ltb, le-ltb}
use Rattle.std.proofs.Math.Nat.{mod-eq_of_lt}
use Rattle.printf_text.specs.Texts.{Parts, base, digit, digits, in_field, signed_parts, unsigned_parts, sign_of, prefix_of, marked, with_zero, digits_wanted}
use Rattle.printf_text.specs.declared.piece.Flags.{Flags}
use Rattle.printf_text.specs.declared.piece.Radix.{Radix}
use Rattle.printf_text.specs.declared.piece.Radix.TheVariants.{Decimal, Octal, LowerHex, UpperHex}
use Rattle.printf_text.proofs.Digits.{base_least, base_most}
use Rattle.printf_text.proofs.TextLaws.{digit_value-digit, digits_value-digits}
use Rattle.format_match.specs.Reading.{digits_read, has_minus, signed_read}

-- the digits among bytes
abbrev kept : ℕ → List ℕ → List ℕ
kept b bytes = filter (λ c. is_digit c b) bytes

kept-append : (b : ℕ) (xs ys : List ℕ) → kept b (xs ++ ys) ≡ kept b xs ++ kept b ys
kept-append b xs ys = filter-append (λ c. is_digit c b) xs ys

-- a byte that is no digit in a base up to 16
kept_none : (radix : Radix) (k c : ℕ) → 16 ≤ digit_value c → kept (base radix) (replicate k c) ≡ []
kept_none radix zero c h = refl
kept_none radix (suc k) c h = ap (λ t. cond t (c ∷ kept (base radix) (replicate k c)) (kept (base radix) (replicate k c))) (not_digit radix c h) ∙ kept_none radix k c h
  where
    not_digit : (radix : Radix) (c : ℕ) → 16 ≤ digit_value c → is_digit c (base radix) ≡ false
    not_digit radix c h = grind (arith, nat_tests, base_most radix)

kept_zeros : (radix : Radix) (k : ℕ) → kept (base radix) (replicate k 48) ≡ replicate k 48
kept_zeros radix zero = refl
kept_zeros Decimal (suc k) = ap (λ r. 48 ∷ r) (kept_zeros Decimal k)
kept_zeros Octal (suc k) = ap (λ r. 48 ∷ r) (kept_zeros Octal k)
kept_zeros LowerHex (suc k) = ap (λ r. 48 ∷ r) (kept_zeros LowerHex k)
kept_zeros UpperHex (suc k) = ap (λ r. 48 ∷ r) (kept_zeros UpperHex k)

kept_digits : (radix : Radix) (ds : List ℕ) → AllBelowBase (base radix) ds → kept (base radix) (map (digit radix) ds) ≡ map (digit radix) ds
kept_digits radix [] h = refl
kept_digits radix (d ∷ ds) h =
    ap (λ t. cond t (digit radix d ∷ kept (base radix) (map (digit radix) ds)) (kept (base radix) (map (digit radix) ds))) (is radix d h.0)
    ∙ ap (λ r. digit radix d ∷ r) (kept_digits radix ds h.1)
  where
    is : (radix : Radix) (d : ℕ) → d < base radix → is_digit (digit radix d) (base radix) ≡ true
    is radix d h = lt-ltb (digit_value (digit radix d)) (base radix) (omega (arith, digit_value-digit radix d (omega (arith, base_most radix)), base_most radix))

kept_number : (radix : Radix) (least n : ℕ) → kept (base radix) (digits radix least n) ≡ digits radix least n
kept_number radix least n =
    let written = map (digit radix) (digits_of (base radix) n) in
    kept-append (base radix) (replicate (least - length written) 48) written
    ∙ ap (λ r. r ++ kept (base radix) written) (kept_zeros radix (least - length written))
    ∙ ap (λ r. replicate (least - length written) 48 ++ r) (kept_digits radix (digits_of (base radix) n) (all_below_base_digits_of (base radix) n (omega (arith, base_least radix))))

-- zeros before digits change nothing
zeros_first : (b k : ℕ) (ds : List ℕ) → digits_value b (replicate k 48 ++ ds) ≡ digits_value b ds
zeros_first b zero ds = refl
zeros_first b (suc k) ds = ap (λ n. digits_value_after b n (replicate k 48 ++ ds)) (omega arith) ∙ zeros_first b k ds

-- the sign has no digit, the prefix zeros at most, and the body digits alone
record IsNumber (radix : Radix) (p : Parts) (n : ℕ) : Type 0 where
  zeros : ℕ
  sign : kept (base radix) p.sign ≡ []
  prefix : kept (base radix) p.prefix ≡ replicate zeros 48
  body : kept (base radix) p.body ≡ p.body
  value : digits_value (base radix) p.body ≡ n

front_kept : (radix : Radix) (p : Parts) (n : ℕ) (h : IsNumber radix p n) → kept (base radix) (p.sign ++ p.prefix) ≡ replicate h.zeros 48
front_kept radix p n h =
    kept-append (base radix) p.sign p.prefix ∙ ap (λ r. r ++ kept (base radix) p.prefix) h.sign ∙ h.prefix

-- so the field's digits write the number
field_value : (radix : Radix) (left fill : Bool) (width : ℕ) (p : Parts) (n : ℕ) → IsNumber radix p n → digits_value (base radix) (kept (base radix) (in_field left fill width p)) ≡ n
field_value radix true fill width p n h =
    let m = width - length (p.sign ++ p.prefix ++ p.body) in
    ap (digits_value (base radix))
    (kept-append (base radix) (p.sign ++ p.prefix ++ p.body) (replicate m 32)
    ∙ ap (λ r. kept (base radix) (p.sign ++ p.prefix ++ p.body) ++ r) (kept_none radix m 32 (omega arith))
    ∙ append-nil (kept (base radix) (p.sign ++ p.prefix ++ p.body))
    ∙ kept-append (base radix) (p.sign ++ p.prefix) p.body
    ∙ ap (λ r. r ++ kept (base radix) p.body) (front_kept radix p n h)
    ∙ ap (λ r. replicate h.zeros 48 ++ r) h.body)
    ∙ zeros_first (base radix) h.zeros p.body ∙ h.value
field_value radix false true width p n h =
    let m = width - length (p.sign ++ p.prefix ++ p.body) in
    ap (digits_value (base radix))
    (kept-append (base radix) (p.sign ++ p.prefix ++ replicate m 48) p.body
    ∙ ap (λ r. r ++ kept (base radix) p.body) (kept-append (base radix) (p.sign ++ p.prefix) (replicate m 48))
    ∙ ap (λ r. r ++ kept (base radix) (replicate m 48) ++ kept (base radix) p.body) (front_kept radix p n h)
    ∙ ap (λ r. replicate h.zeros 48 ++ r ++ kept (base radix) p.body) (kept_zeros radix m)
    ∙ ap (λ r. replicate h.zeros 48 ++ replicate m 48 ++ r) h.body
    ∙ ap (λ r. r ++ p.body) (replicate-append-replicate h.zeros m 48))
    ∙ zeros_first (base radix) (h.zeros + m) p.body ∙ h.value
field_value radix false false width p n h =
    let m = width - length (p.sign ++ p.prefix ++ p.body) in
    ap (digits_value (base radix))
    (kept-append (base radix) (replicate m 32 ++ (p.sign ++ p.prefix)) p.body
    ∙ ap (λ r. r ++ kept (base radix) p.body) (kept-append (base radix) (replicate m 32) (p.sign ++ p.prefix))
    ∙ ap (λ r. r ++ kept (base radix) (p.sign ++ p.prefix) ++ kept (base radix) p.body) (kept_none radix m 32 (omega arith))
    ∙ ap (λ r. r ++ kept (base radix) p.body) (front_kept radix p n h)
    ∙ ap (λ r. replicate h.zeros 48 ++ r) h.body)
    ∙ zeros_first (base radix) h.zeros p.body ∙ h.value

-- ---- an unsigned number's parts

with_zero_kept : (ds : List ℕ) → kept 8 ds ≡ ds → kept 8 (with_zero ds) ≡ with_zero ds
with_zero_kept [] h = refl
with_zero_kept (d ∷ ds) h = by (eqb d 48)
  where
    by : (t : Bool) → kept 8 (cond t (d ∷ ds) (48 ∷ d ∷ ds)) ≡ cond t (d ∷ ds) (48 ∷ d ∷ ds)
    by true = h
    by false = ap (λ r. 48 ∷ r) h

with_zero_value : (ds : List ℕ) → digits_value 8 (with_zero ds) ≡ digits_value 8 ds
with_zero_value [] = refl
with_zero_value (d ∷ ds) = by (eqb d 48)
  where
    by : (t : Bool) → digits_value 8 (cond t (d ∷ ds) (48 ∷ d ∷ ds)) ≡ digits_value 8 (d ∷ ds)
    by true = refl
    by false = zeros_first 8 1 (d ∷ ds)

marked_kept : (flags : Flags) (radix : Radix) (ds : List ℕ) → kept (base radix) ds ≡ ds → kept (base radix) (marked flags radix ds) ≡ marked flags radix ds
marked_kept flags Decimal ds h = h
marked_kept flags LowerHex ds h = h
marked_kept flags UpperHex ds h = h
marked_kept flags Octal ds h = by flags.alternate
  where
    by : (t : Bool) → kept 8 (cond t (with_zero ds) ds) ≡ cond t (with_zero ds) ds
    by true = with_zero_kept ds h
    by false = h

marked_value : (flags : Flags) (radix : Radix) (ds : List ℕ) → digits_value (base radix) (marked flags radix ds) ≡ digits_value (base radix) ds
marked_value flags Decimal ds = refl
marked_value flags LowerHex ds = refl
marked_value flags UpperHex ds = refl
marked_value flags Octal ds = by flags.alternate
  where
    by : (t : Bool) → digits_value 8 (cond t (with_zero ds) ds) ≡ digits_value 8 ds
    by true = with_zero_value ds
    by false = refl

prefix_zeros : (flags : Flags) (radix : Radix) (n : ℕ) → (k : ℕ) × (kept (base radix) (prefix_of flags radix n) ≡ replicate k 48)
prefix_zeros flags Decimal n = (0, refl)
prefix_zeros flags Octal n = (0, refl)
prefix_zeros flags LowerHex n = by (flags.alternate && not (eqb n 0))
  where
    by : (t : Bool) → (k : ℕ) × (kept 16 (cond t (48 ∷ 120 ∷ []) []) ≡ replicate k 48)
    by true = (1, refl)
    by false = (0, refl)
prefix_zeros flags UpperHex n = by (flags.alternate && not (eqb n 0))
  where
    by : (t : Bool) → (k : ℕ) × (kept 16 (cond t (48 ∷ 88 ∷ []) []) ≡ replicate k 48)
    by true = (1, refl)
    by false = (0, refl)

pub unsigned_value : (left fill : Bool) (width : ℕ) (flags : Flags) (radix : Radix) (precision : ℤ) (n : ℕ) → n < 2 ^ 64
    → digits_read (base radix) (in_field left fill width (unsigned_parts flags radix precision n)) ≡ n
unsigned_value left fill width flags radix precision n h =
    let ds = digits radix (digits_wanted precision) n in
    let zeros = prefix_zeros flags radix n in
    let number : IsNumber radix (unsigned_parts flags radix precision n) n = record {
      zeros = zeros.0;
      sign = refl;
      prefix = zeros.1;
      body = marked_kept flags radix ds (kept_number radix (digits_wanted precision) n);
      value = marked_value flags radix ds ∙ digits_value-digits radix (digits_wanted precision) n;
    } in
    ap (λ k. k % 2 ^ 64) (field_value radix left fill width (unsigned_parts flags radix precision n) n number) ∙ mod-eq_of_lt h

-- a shown pointer's
pub shown_value : (left fill : Bool) (width n : ℕ) → n < 2 ^ 64
    → digits_read 16 (in_field left fill width (record { sign = []; prefix = 48 ∷ 120 ∷ []; body = digits LowerHex 1 n })) ≡ n
shown_value left fill width n h =
    let p : Parts = record { sign = []; prefix = 48 ∷ 120 ∷ []; body = digits LowerHex 1 n } in
    let number : IsNumber LowerHex p n = record {
      zeros = 1;
      sign = refl;
      prefix = refl;
      body = kept_number LowerHex 1 n;
      value = digits_value-digits LowerHex 1 n;
    } in
    ap (λ k. k % 2 ^ 64) (field_value LowerHex left fill width p n number) ∙ mod-eq_of_lt h

-- ---- a signed number's

signed_sign : (flags : Flags) (z : ℤ) → kept 10 (sign_of flags z) ≡ []
signed_sign flags (negsuc n) = refl
signed_sign flags (pos n) = by flags.plus flags.space
  where
    by : (s t : Bool) → kept 10 (cond s (43 ∷ []) (cond t (32 ∷ []) [])) ≡ []
    by true t = refl
    by false true = refl
    by false false = refl

minus-append : (xs ys : List ℕ) → has_minus (xs ++ ys) ≡ (has_minus xs || has_minus ys)
minus-append [] ys = refl
minus-append (x ∷ xs) ys = by (eqb x 45) (has_minus (xs ++ ys)) (has_minus xs) (minus-append xs ys)
  where
    by : (t l m : Bool) → l ≡ (m || has_minus ys) → (t || l) ≡ (t || m || has_minus ys)
    by true l m h = refl
    by false l m h = h

minus_none : (k c : ℕ) → c ≢ 45 → has_minus (replicate k c) ≡ false
minus_none zero c h = refl
minus_none (suc k) c h = grind (arith, nat_tests, minus_none k c h)

minus_digits : (ds : List ℕ) → has_minus (map (digit Decimal) ds) ≡ false
minus_digits [] = refl
minus_digits (d ∷ ds) = by (eqb (digit Decimal d) 45) (has_minus (map (digit Decimal) ds)) (differs d) (minus_digits ds)
  where
    differs : (d : ℕ) → eqb (digit Decimal d) 45 ≡ false
    differs d = grind (arith, nat_tests)

    by : (s t : Bool) → s ≡ false → t ≡ false → (s || t) ≡ false
    by s t e f = ap (λ x. x || t) e ∙ f

minus_body : (least n : ℕ) → has_minus (digits Decimal least n) ≡ false
minus_body least n =
    let written = map (digit Decimal) (digits_of 10 n) in
    minus-append (replicate (least - length written) 48) written ∙ ap (λ t. t || has_minus written) (minus_none (least - length written) 48 (omega arith)) ∙ minus_digits (digits_of 10 n)

minus_sign : (flags : Flags) (z : ℤ) → has_minus (sign_of flags z) ≡ is_negative z
minus_sign flags (negsuc n) = refl
minus_sign flags (pos n) = by flags.plus flags.space ∙ sym (le-ltb n 0 (omega arith))
  where
    by : (s t : Bool) → has_minus (cond s (43 ∷ []) (cond t (32 ∷ []) [])) ≡ false
    by true t = refl
    by false true = refl
    by false false = refl

or_false : (t : Bool) → (t || false) ≡ t
or_false true = refl
or_false false = refl

-- the field has a `-` where the sign is one
minus_field : (left fill : Bool) (width : ℕ) (p : Parts) → p.prefix ≡ [] → has_minus p.body ≡ false → has_minus (in_field left fill width p) ≡ has_minus p.sign
minus_field true fill width p none body =
    let m = width - length (p.sign ++ p.prefix ++ p.body) in
    minus-append (p.sign ++ p.prefix ++ p.body) (replicate m 32)
    ∙ ap (λ t. has_minus (p.sign ++ p.prefix ++ p.body) || t) (minus_none m 32 (omega arith)) ∙ or_false _
    ∙ minus-append (p.sign ++ p.prefix) p.body ∙ ap (λ t. has_minus (p.sign ++ p.prefix) || t) body ∙ or_false _
    ∙ ap (λ r. has_minus (p.sign ++ r)) none ∙ ap has_minus (append-nil p.sign)
minus_field false true width p none body =
    let m = width - length (p.sign ++ p.prefix ++ p.body) in
    minus-append (p.sign ++ p.prefix ++ replicate m 48) p.body ∙ ap (λ t. has_minus (p.sign ++ p.prefix ++ replicate m 48) || t) body ∙ or_false _
    ∙ minus-append (p.sign ++ p.prefix) (replicate m 48) ∙ ap (λ t. has_minus (p.sign ++ p.prefix) || t) (minus_none m 48 (omega arith)) ∙ or_false _
    ∙ ap (λ r. has_minus (p.sign ++ r)) none ∙ ap has_minus (append-nil p.sign)
minus_field false false width p none body =
    let m = width - length (p.sign ++ p.prefix ++ p.body) in
    minus-append (replicate m 32 ++ (p.sign ++ p.prefix)) p.body ∙ ap (λ t. has_minus (replicate m 32 ++ (p.sign ++ p.prefix)) || t) body ∙ or_false _
    ∙ minus-append (replicate m 32) (p.sign ++ p.prefix) ∙ ap (λ t. t || has_minus (p.sign ++ p.prefix)) (minus_none m 32 (omega arith))
    ∙ ap (λ r. has_minus (p.sign ++ r)) none ∙ ap has_minus (append-nil p.sign)

pub signed_value : (left fill : Bool) (width : ℕ) (flags : Flags) (precision z : ℤ) → unsigned_abs z < 2 ^ 64
    → signed_read (in_field left fill width (signed_parts flags precision z)) ≡ z
signed_value left fill width flags precision z h =
    let p = signed_parts flags precision z in
    let number : IsNumber Decimal p (unsigned_abs z) = record {
      zeros = 0;
      sign = signed_sign flags z;
      prefix = refl;
      body = kept_number Decimal (digits_wanted precision) (unsigned_abs z);
      value = digits_value-digits Decimal (digits_wanted precision) (unsigned_abs z);
    } in
    let value : digits_read 10 (in_field left fill width p) ≡ unsigned_abs z = ap (λ k. k % 2 ^ 64) (field_value Decimal left fill width p (unsigned_abs z) number) ∙ mod-eq_of_lt h in
    let minus : has_minus (in_field left fill width p) ≡ is_negative z = minus_field left fill width p refl (minus_body (digits_wanted precision) (unsigned_abs z)) ∙ minus_sign flags z in
    ap (λ t. cond t (neg_ℤ (pos (digits_read 10 (in_field left fill width p)))) (pos (digits_read 10 (in_field left fill width p)))) minus
    ∙ ap (λ n. cond (is_negative z) (neg_ℤ (pos n)) (pos n)) value ∙ back z
  where
    back : (z : ℤ) → cond (is_negative z) (neg_ℤ (pos (unsigned_abs z))) (pos (unsigned_abs z)) ≡ z
    back (pos n) = ap (λ t. cond t (neg_ℤ (pos n)) (pos n)) (le-ltb n 0 (omega arith))
    back (negsuc n) = refl
