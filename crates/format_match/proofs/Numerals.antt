-- Texts of numbers and pointers hold no other bytes than those that stand in texts of their form.
use Rattle.std.proofs.Common.{◌≡◌, ℕ, zero, suc, ◌-◌, ◌<◌, ◌≤◌, inl, inr, sym, ap, Bool, true, false, not, cond, ◌&&◌, ◌||◌, eqb, ℤ, pos, negsuc, List, [], ◌∷◌, ◌++◌, length, get_or, map, replicate, refl, ◌∙◌, arith}
use Rattle.std.specs.List.{list_any}
use Rattle.std.specs.Int.{is_negative}
use Rattle.std.specs.Int.RustNames.{unsigned_abs}
use Rattle.std.specs.Int.Digits.{digits_of, AllBelowBase}
use Rattle.std.proofs.lemmas.Int.Digits.{all_below_base_digits_of}
use Rattle.std.proofs.Math.Nat.{eq-or-lt_of_le}
use Rattle.std.proofs.lemmas.Bool.{or_from, or_parts, and_parts, both_ways, eqb-true}
use Rattle.plain_data.specs.Words.{word, signed}
use Rattle.plain_data.specs.declared.width.Width.{Width}
use Rattle.printf_text.specs.Texts.{Parts, formed, in_field, fills_zeros, number_of, signed_parts, unsigned_parts, pointer_parts, base, digit, digits, digits_wanted, sign_of, prefix_of, marked, with_zero}
use Rattle.printf_text.specs.declared.piece.Arg.{Arg}
use Rattle.printf_text.specs.declared.piece.Arg.TheVariants as arg
use Rattle.printf_text.specs.declared.piece.Flags.{Flags}
use Rattle.printf_text.specs.declared.piece.Radix.{Radix}
use Rattle.printf_text.specs.declared.piece.Radix.TheVariants.{Decimal, Octal, LowerHex, UpperHex}
use Rattle.printf_text.specs.declared.piece.Form.{Form}
use Rattle.printf_text.specs.declared.piece.Form.TheVariants.{Signed, Unsigned, Char, Text, Pointer}
use Rattle.format_match.specs.Splits.{begins}
use Rattle.format_match.specs.Reaches.{is_other, is_numeric}

-- no byte stands in these that stands in no text of the form
abbrev pub IsPlain : Form → List ℕ → Type 0
IsPlain form bytes = list_any (is_other form) bytes ≡ false

plain_append : (form : Form) (xs ys : List ℕ) → IsPlain form xs → IsPlain form ys → IsPlain form (xs ++ ys)
plain_append form [] ys h k = k
plain_append form (x ∷ xs) ys h k =
    let parts = or_parts (is_other form x) (list_any (is_other form) xs) h in
    or_from (is_other form x) (list_any (is_other form) (xs ++ ys)) parts.0 (plain_append form xs ys parts.1 k)

plain_replicate : (form : Form) (k c : ℕ) → is_other form c ≡ false → IsPlain form (replicate k c)
plain_replicate form zero c h = refl
plain_replicate form (suc k) c h = or_from (is_other form c) (list_any (is_other form) (replicate k c)) h (plain_replicate form k c h)

-- what a table says of each number below its length
abbrev none_of : (ℕ → Bool) → ℕ → Bool
none_of f zero = true
none_of f (suc n) = not (f n) && none_of f n

one_of : (f : ℕ → Bool) (n d : ℕ) → none_of f n ≡ true → d < n → f d ≡ false
one_of f zero d h l = absurd (omega arith)
one_of f (suc n) d h l = elim (eq-or-lt_of_le (within d l)) [
  | inl e ↦ ap f e ∙ by (f n) (and_parts (not (f n)) (none_of f n) h).0
  | inr k ↦ one_of f n d (and_parts (not (f n)) (none_of f n) h).1 k
]
  where
    within : (d : ℕ) → d < suc n → d ≤ n
    within d l = omega arith

    by : (b : Bool) → not b ≡ true → b ≡ false
    by true e = absurd cc
    by false e = refl

-- the digits of a radix stand in the texts of a form
abbrev HasDigits : Form → Radix → Type 0
HasDigits form radix = (d : ℕ) → d < base radix → is_other form (digit radix d) ≡ false

decimal_digits : (form : Form) → HasDigits form Decimal
decimal_digits form d h = one_of (λ d. is_other form (digit Decimal d)) 10 d refl h

unsigned_digits : (radix : Radix) (w : Width) → HasDigits (Unsigned radix w) radix
unsigned_digits Decimal w d h = decimal_digits (Unsigned Decimal w) d h
unsigned_digits Octal w d h = one_of (λ d. is_other (Unsigned Octal w) (digit Octal d)) 8 d refl h
unsigned_digits LowerHex w d h = one_of (λ d. is_other (Unsigned LowerHex w) (digit LowerHex d)) 16 d refl h
unsigned_digits UpperHex w d h = one_of (λ d. is_other (Unsigned UpperHex w) (digit UpperHex d)) 16 d refl h

pointer_digits : HasDigits Pointer LowerHex
pointer_digits d h = one_of (λ d. is_other Pointer (digit LowerHex d)) 16 d refl h

base_least : (radix : Radix) → 2 ≤ base radix
base_least Decimal = omega arith
base_least Octal = omega arith
base_least LowerHex = omega arith
base_least UpperHex = omega arith

module _ (form : Form) (radix : Radix) (has : HasDigits form radix) where
  plain_map : (ds : List ℕ) → AllBelowBase (base radix) ds → IsPlain form (map (digit radix) ds)
  plain_map [] h = refl
  plain_map (d ∷ ds) h = or_from (is_other form (digit radix d)) (list_any (is_other form) (map (digit radix) ds)) (has d h.0) (plain_map ds h.1)

  plain_digits : (least n : ℕ) → IsPlain form (digits radix least n)
  plain_digits least n =
      let written = map (digit radix) (digits_of (base radix) n) in
      plain_append form (replicate (least - length written) 48) written (plain_replicate form (least - length written) 48 refl) (plain_map (digits_of (base radix) n) (all_below_base_digits_of (base radix) n (base_least radix)))

plain_field : (form : Form) (left fill : Bool) (width : ℕ) (p : Parts) → IsPlain form p.sign → IsPlain form p.prefix → IsPlain form p.body → IsPlain form (in_field left fill width p)
plain_field form true fill width p s f b =
    plain_append form (p.sign ++ p.prefix ++ p.body) (replicate (width - length (p.sign ++ p.prefix ++ p.body)) 32)
    (plain_append form (p.sign ++ p.prefix) p.body (plain_append form p.sign p.prefix s f) b) (plain_replicate form (width - length (p.sign ++ p.prefix ++ p.body)) 32 refl)
plain_field form false true width p s f b =
    plain_append form (p.sign ++ p.prefix ++ replicate (width - length (p.sign ++ p.prefix ++ p.body)) 48) p.body
    (plain_append form (p.sign ++ p.prefix) (replicate (width - length (p.sign ++ p.prefix ++ p.body)) 48) (plain_append form p.sign p.prefix s f) (plain_replicate form (width - length (p.sign ++ p.prefix ++ p.body)) 48 refl)) b
plain_field form false false width p s f b =
    plain_append form (replicate (width - length (p.sign ++ p.prefix ++ p.body)) 32 ++ (p.sign ++ p.prefix)) p.body
    (plain_append form (replicate (width - length (p.sign ++ p.prefix ++ p.body)) 32) (p.sign ++ p.prefix) (plain_replicate form (width - length (p.sign ++ p.prefix ++ p.body)) 32 refl) (plain_append form p.sign p.prefix s f)) b

plain_sign : (w : Width) (flags : Flags) (z : ℤ) → IsPlain (Signed w) (sign_of flags z)
plain_sign w flags (negsuc n) = refl
plain_sign w flags (pos n) = by flags.plus flags.space
  where
    by : (s t : Bool) → IsPlain (Signed w) (cond s (43 ∷ []) (cond t (32 ∷ []) []))
    by true t = refl
    by false true = refl
    by false false = refl

plain_prefix : (w : Width) (flags : Flags) (radix : Radix) (n : ℕ) → IsPlain (Unsigned radix w) (prefix_of flags radix n)
plain_prefix w flags Decimal n = refl
plain_prefix w flags Octal n = refl
plain_prefix w flags LowerHex n = by (flags.alternate && not (eqb n 0))
  where
    by : (t : Bool) → IsPlain (Unsigned LowerHex w) (cond t (48 ∷ 120 ∷ []) [])
    by true = refl
    by false = refl
plain_prefix w flags UpperHex n = by (flags.alternate && not (eqb n 0))
  where
    by : (t : Bool) → IsPlain (Unsigned UpperHex w) (cond t (48 ∷ 88 ∷ []) [])
    by true = refl
    by false = refl

plain_zero : (form : Form) (ds : List ℕ) → IsPlain form ds → IsPlain form (with_zero ds)
plain_zero form [] h = refl
plain_zero form (d ∷ ds) h = by (eqb d 48)
  where
    by : (t : Bool) → IsPlain form (cond t (d ∷ ds) (48 ∷ d ∷ ds))
    by true = h
    by false = h

plain_marked : (form : Form) (flags : Flags) (radix : Radix) (ds : List ℕ) → IsPlain form ds → IsPlain form (marked flags radix ds)
plain_marked form flags Decimal ds h = h
plain_marked form flags LowerHex ds h = h
plain_marked form flags UpperHex ds h = h
plain_marked form flags Octal ds h = by flags.alternate
  where
    by : (t : Bool) → IsPlain form (cond t (with_zero ds) ds)
    by true = plain_zero form ds h
    by false = h

plain_pointer : (a : Arg) → IsPlain Pointer (pointer_parts a).sign × IsPlain Pointer (pointer_parts a).prefix × IsPlain Pointer (pointer_parts a).body
plain_pointer (arg.Word x w s) = (refl, refl, refl)
plain_pointer (arg.Text t) = (refl, refl, refl)
plain_pointer arg.Null = (refl, refl, refl)
plain_pointer (arg.Shown n) = (refl, refl, plain_digits Pointer LowerHex pointer_digits 1 n)

module _ (flags : Flags) (width precision : ℤ) (a : Arg) where
  abbrev left : Bool
  left = flags.left || is_negative width

  pub plain_formed : (form : Form) → is_numeric form ≡ true → IsPlain form (formed flags form width precision a)
  plain_formed (Signed w) h =
      let z = signed w (word w (number_of a)) in
      plain_field (Signed w) left (fills_zeros flags precision) (unsigned_abs width) (signed_parts flags precision z) (plain_sign w flags z) refl
      (plain_digits (Signed w) Decimal (decimal_digits (Signed w)) (digits_wanted precision) (unsigned_abs z))
  plain_formed (Unsigned r w) h =
      let n = word w (number_of a) in
      plain_field (Unsigned r w) left (fills_zeros flags precision) (unsigned_abs width) (unsigned_parts flags r precision n) refl (plain_prefix w flags r n)
      (plain_marked (Unsigned r w) flags r (digits r (digits_wanted precision) n) (plain_digits (Unsigned r w) r (unsigned_digits r w) (digits_wanted precision) n))
  plain_formed Char h = absurd cc
  plain_formed Text h = absurd cc
  plain_formed Pointer h =
      let p = plain_pointer a in plain_field Pointer left (fills_zeros flags precision) (unsigned_abs width) (pointer_parts a) p.0 p.1 p.2

-- a text without other bytes ends before one
pub before_other : (form : Form) (t rest : List ℕ) (n : ℕ) → begins t rest ≡ true → IsPlain form t → is_other form (get_or rest n 0) ≡ true → length t ≤ n
before_other form [] rest n h p e = omega arith
before_other form (x ∷ t) [] n h p e = absurd cc
before_other form (x ∷ t) (y ∷ rest) zero h p e =
    absurd (both_ways (is_other form y) (sym (ap (is_other form) (eqb-true x y (and_parts (eqb x y) (begins t rest) h).0)) ∙ (or_parts (is_other form x) (list_any (is_other form) t) p).0) e)
before_other form (x ∷ t) (y ∷ rest) (suc n) h p e =
    let short = before_other form t rest n (and_parts (eqb x y) (begins t rest) h).1 (or_parts (is_other form x) (list_any (is_other form) t) p).1 e in omega arith
