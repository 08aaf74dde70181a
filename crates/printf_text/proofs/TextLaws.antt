-- Laws of texts: digits determine their number, and a text is as long as its field or its parts.
use Rattle.std.proofs.Common.{◌≡◌, ℕ, zero, suc, ◌+◌, ◌-◌, ◌<◌, ◌≤◌, max, Bool, true, false, List, [], ◌∷◌, ◌++◌, length, map, replicate, refl, sym, ap, ◌∙◌, arith}
use Rattle.std.specs.Char.{digit_value}
use Rattle.std.specs.Int.Digits.{digits_of, number_from_digits, AllBelowBase}
use Rattle.std.specs.Str.Parse.{digits_value, digits_value_after}
use Rattle.std.proofs.lemmas.List.{length-append, length-replicate}
use Rattle.std.proofs.lemmas.Int.Digits.{digits_value_is, number_digits_of, all_below_base_digits_of}
use Rattle.std.proofs.lemmas.Bool.Decides.{nat_tests}
use Rattle.printf_text.specs.Texts.{Parts, base, digit, digits, in_field}
use Rattle.printf_text.proofs.Digits.{base_least, base_most}
use Rattle.printf_text.specs.declared.piece.Radix.{Radix}
use Rattle.printf_text.specs.declared.piece.Radix.TheVariants.{Decimal, Octal, LowerHex, UpperHex}

-- a digit's character has its value
pub digit_value-digit : (radix : Radix) (d : ℕ) → d < 16 → digit_value (digit radix d) ≡ d
digit_value-digit Decimal d h = grind (arith, nat_tests)
digit_value-digit Octal d h = grind (arith, nat_tests)
digit_value-digit LowerHex d h = grind (arith, nat_tests)
digit_value-digit UpperHex d h = grind (arith, nat_tests)

map-digit_value : (radix : Radix) (b : ℕ) (ds : List ℕ) → b ≤ 16 → AllBelowBase b ds → map digit_value (map (digit radix) ds) ≡ ds
map-digit_value radix b [] few h = refl
map-digit_value radix b (d ∷ ds) few h =
    (λ i. digit_value-digit radix d (omega (arith, h.0)) i ∷ map-digit_value radix b ds few h.1 i)

-- zeros before digits change nothing
zeros_before : (b k : ℕ) (ds : List ℕ) → digits_value b (replicate k 48 ++ ds) ≡ digits_value b ds
zeros_before b zero ds = refl
zeros_before b (suc k) ds =
    ap (λ n. digits_value_after b n (replicate k 48 ++ ds)) (omega arith) ∙ zeros_before b k ds

-- the number is the value of its digits, however many zeros stand before them
pub digits_value-digits : (radix : Radix) (least n : ℕ) → digits_value (base radix) (digits radix least n) ≡ n
digits_value-digits radix least n =
    let two : 2 ≤ base radix = omega (arith, base_least radix) in
    let written = map (digit radix) (digits_of (base radix) n) in
    zeros_before (base radix) (least - length written) written
    ∙ digits_value_is (base radix) written
    ∙ ap (number_from_digits (base radix)) (map-digit_value radix (base radix) (digits_of (base radix) n) (base_most radix) (all_below_base_digits_of (base radix) n two))
    ∙ number_digits_of (base radix) n two

-- so digits determine their number
pub same_from_digits : (radix : Radix) (least least' m n : ℕ) → digits radix least m ≡ digits radix least' n → m ≡ n
same_from_digits radix least least' m n e =
    sym (digits_value-digits radix least m) ∙ ap (digits_value (base radix)) e ∙ digits_value-digits radix least' n

-- a text is as long as its field, or as its parts where these are longer
pub length-in_field : (left zeros : Bool) (width : ℕ) (p : Parts) → length (in_field left zeros width p) ≡ max width (length p.sign + length p.prefix + length p.body)
length-in_field true zeros width p = simp (length-append, length-replicate) (omega arith)
length-in_field false true width p = simp (length-append, length-replicate) (omega arith)
length-in_field false false width p = simp (length-append, length-replicate) (omega arith)
