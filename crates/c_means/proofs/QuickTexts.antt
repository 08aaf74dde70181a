-- The texts of formats, by as many steps for a number as it may have digits. By the definition it is as many as the
-- number has units, so that the text of a large one doesn't compute; here it does, and is the same.
use Rattle.std.proofs.Common.{◌≡◌, ◌<◌, ◌≤◌, ℕ, zero, suc, ◌-◌, ◌/◌, ◌%◌, ◌^◌, ℤ, pos, negsuc, Bool, true, false, cond}
use Rattle.std.proofs.Common.{List, [], ◌∷◌, ◌++◌, refl, sym, ap, ◌∙◌, arith, pow-suc}
use Rattle.std.specs.Prelude.{nat_lt, ◌==◌, ◌||◌, length, map, replicate, drop, unsigned_abs}
use Rattle.std.specs.Int.{is_negative}
use Rattle.std.specs.Int.Digits.{digits_with_fuel, digits_of}
use Rattle.std.proofs.lemmas.Int.Digits.{digits_of_step}
use Rattle.plain_data.specs.Words.{word, signed}
use Rattle.printf_text.specs.declared.piece.Arg.{Arg}
use Rattle.printf_text.specs.declared.piece.Arg.TheVariants as arg
use Rattle.printf_text.specs.declared.piece.Conversion.{Conversion}
use Rattle.printf_text.specs.declared.piece.Flags.{Flags}
use Rattle.printf_text.specs.declared.piece.Form.{Form}
use Rattle.printf_text.specs.declared.piece.Form.TheVariants as form
use Rattle.printf_text.specs.declared.piece.Piece.{Piece}
use Rattle.printf_text.specs.declared.piece.Piece.TheVariants as piece
use Rattle.printf_text.specs.declared.piece.Radix.{Radix}
use Rattle.printf_text.specs.declared.piece.Radix.TheVariants as radix_
use Rattle.printf_text.specs.Texts.{digit, digits, digits_wanted, sign_of, prefix_of, marked, number_of, base, Parts}
use Rattle.printf_text.specs.Texts.{parts, in_field, fills_zeros, size_kinds, size_of, first, piece_kinds}
use Rattle.printf_text.specs.Texts.{conversion_text, piece_text, text_of}
use Rattle.printf_text.proofs.Digits.{base_least}
use Rattle.std.proofs.lemmas.Nat.{div_below}
use Rattle.std.proofs.Math.Nat.{pow-zero}

-- ---- digits

abbrev digits_by : Bool → ℕ → ℕ → List ℕ
digits_by true b n = digits_with_fuel b 22 n
digits_by false b n = digits_of b n

abbrev quick_digits_of : ℕ → ℕ → List ℕ
quick_digits_of b n = digits_by (nat_lt n (2 ^ 64)) b n

abbrev quick_digits : Radix → ℕ → ℕ → List ℕ
quick_digits radix least n =
    let written = map (digit radix) (quick_digits_of (base radix) n) in
    replicate (least - length written) 48 ++ written

is_some_number : (m : ℕ) → (suc m == 0) ≡ false
is_some_number m = grind arith

is_below : (n b : ℕ) → nat_lt n b ≡ true → n < b
is_below n b = grind arith

more_digits : (b turns m : ℕ) →
    digits_with_fuel b (suc turns) (suc m) ≡ digits_with_fuel b turns (suc m / b) ++ suc m % b ∷ []
more_digits b turns m =
    ap (λ c. cond c [] (digits_with_fuel b turns (suc m / b) ++ suc m % b ∷ [])) (is_some_number m)

-- a number below the power has no more digits than its exponent
enough : (b turns n : ℕ) → 2 ≤ b → n < b ^ turns → digits_with_fuel b turns n ≡ digits_of b n
enough b zero n two h = let z : n ≡ 0 = omega (arith, h, pow-zero b) in ap (digits_of b) (sym z)
enough b (suc turns) zero two h = refl
enough b (suc turns) (suc m) two h =
    more_digits b turns m
    ∙ ap (λ ds. ds ++ suc m % b ∷ []) (enough b turns (suc m / b) two below)
    ∙ sym (digits_of_step b (suc m) two (omega arith))
  where
    below : suc m / b < b ^ turns
    below = div_below (suc m) b (b ^ turns) (omega arith) (omega (arith, h, pow-suc b turns))

same_by : (c : Bool) (radix : Radix) (n : ℕ) → nat_lt n (2 ^ 64) ≡ c → digits_by c (base radix) n ≡ digits_of
    (base radix) n
same_by true radix n e = enough (base radix) 22 n (omega (arith, base_least radix)) (below radix)
  where
    below : (radix : Radix) → n < base radix ^ 22
    below radix_.Decimal = omega (arith, is_below n (2 ^ 64) e)
    below radix_.Octal = omega (arith, is_below n (2 ^ 64) e)
    below radix_.LowerHex = omega (arith, is_below n (2 ^ 64) e)
    below radix_.UpperHex = omega (arith, is_below n (2 ^ 64) e)
same_by false radix n e = refl

same_digits : (radix : Radix) (least n : ℕ) → quick_digits radix least n ≡ digits radix least n
same_digits radix least n =
    ap (λ ds. let written = map (digit radix) ds in replicate (least - length written) 48 ++ written)
    (same_by (nat_lt n (2 ^ 64)) radix n refl)

-- ---- texts

abbrev quick_parts : Flags → Form → ℤ → Arg → Parts
quick_parts flags (form.Signed width) precision a =
    let z = signed width (word width (number_of a)) in
    record {
      sign = sign_of flags z;
      prefix = [];
      body = quick_digits radix_.Decimal (digits_wanted precision)
          (unsigned_abs z);
    }
quick_parts flags (form.Unsigned radix width) precision a =
    let n = word width (number_of a) in
    record {
      sign = [];
      prefix = prefix_of flags radix n;
      body = marked flags radix (quick_digits radix (digits_wanted precision) n);
    }
quick_parts flags form.Char precision a = parts flags form.Char precision a
quick_parts flags form.Text precision a = parts flags form.Text precision a
quick_parts flags form.Pointer precision (arg.Shown n) =
    record { sign = []; prefix = 48 ∷ 120 ∷ []; body = quick_digits radix_.LowerHex 1 n }
quick_parts flags form.Pointer precision a = parts flags form.Pointer precision a

same_parts : (flags : Flags) (f : Form) (precision : ℤ) (a : Arg) →
    quick_parts flags f precision a ≡ parts flags f precision a
same_parts flags (form.Signed width) precision a =
    let z = signed width (word width (number_of a)) in
    ap (λ ds. record { sign = sign_of flags z; prefix = []; body = ds })
    (same_digits radix_.Decimal (digits_wanted precision) (unsigned_abs z))
same_parts flags (form.Unsigned radix width) precision a =
    let n = word width (number_of a) in
    ap (λ ds. record { sign = []; prefix = prefix_of flags radix n; body = marked flags radix ds })
    (same_digits radix (digits_wanted precision) n)
same_parts flags form.Char precision a = refl
same_parts flags form.Text precision a = refl
same_parts flags form.Pointer precision (arg.Shown n) =
    ap (λ ds. record { sign = []; prefix = 48 ∷ 120 ∷ []; body = ds }) (same_digits radix_.LowerHex 1 n)
same_parts flags form.Pointer precision arg.Null = refl
same_parts flags form.Pointer precision (arg.Word a width sign) = refl
same_parts flags form.Pointer precision (arg.Text bytes) = refl

abbrev quick_formed : Flags → Form → ℤ → ℤ → Arg → List ℕ
quick_formed flags f width precision a =
    in_field (flags.left || is_negative width) (fills_zeros flags precision) (unsigned_abs width)
    (quick_parts flags f precision a)

abbrev quick_conversion : Conversion → List Arg → List ℕ
quick_conversion c args =
    let after_width = drop (length (size_kinds c.width)) args in
    let after_precision = drop (length (size_kinds c.precision)) after_width in
    quick_formed c.flags c.form (size_of (pos 0) c.width args) (size_of (negsuc 0) c.precision after_width)
    (first after_precision)

same_conversion : (c : Conversion) (args : List Arg) → quick_conversion c args ≡ conversion_text c args
same_conversion c args =
    let after_width = drop (length (size_kinds c.width)) args in
    let width = size_of (pos 0) c.width args in
    let precision = size_of (negsuc 0) c.precision after_width in
    ap (in_field (c.flags.left || is_negative width) (fills_zeros c.flags precision) (unsigned_abs width))
    (same_parts c.flags c.form precision (first (drop (length (size_kinds c.precision)) after_width)))

abbrev quick_piece : Piece → List Arg → List ℕ
quick_piece (piece.Literal bytes) args = bytes
quick_piece (piece.Converted c) args = quick_conversion c args

same_piece : (p : Piece) (args : List Arg) → quick_piece p args ≡ piece_text p args
same_piece (piece.Literal bytes) args = refl
same_piece (piece.Converted c) args = same_conversion c args

abbrev pub quick_text : List Piece → List Arg → List ℕ
quick_text [] args = []
quick_text (p ∷ ps) args = quick_piece p args ++ quick_text ps (drop (length (piece_kinds p)) args)

pub same_text : (ps : List Piece) (args : List Arg) → quick_text ps args ≡ text_of ps args
same_text [] args = refl
same_text (p ∷ ps) args =
    let rest = drop (length (piece_kinds p)) args in
    ap (λ bytes. bytes ++ quick_text ps rest) (same_piece p args)
    ∙ ap (λ bytes. piece_text p args ++ bytes) (same_text ps rest)
