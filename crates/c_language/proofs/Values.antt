-- What a number is converted to is a value of the type, and a value of the type is itself (C99 6.3.1.3p1).
use Rattle.std.proofs.Common.{◌≡◌, ℕ, zero, suc, ◌-◌, ◌<◌, ◌^◌, Bool, true, false, not, ◌&&◌, ℤ, pos, negsuc, FitsSigned, refl, ap, arith}
use Rattle.std.proofs.lemmas.Bool.Decides.{nat_tests}
use Rattle.std.proofs.Math.Facts.{sfits_to_z}
use Rattle.plain_data.specs.Words.{machine, bits, word, signed}
use Rattle.plain_data.specs.Words as words
use Rattle.plain_data.proofs.WordLaws.{signed-word, word_below}
use Rattle.plain_data.specs.declared.width.Width.{Width}
use Rattle.plain_data.specs.declared.width.Width.TheVariants as w
use Rattle.c_language.specs.declared.ctype.IntegerKind.{IntegerKind}
use Rattle.c_language.specs.declared.ctype.IntegerKind.TheVariants as k
use Rattle.c_language.specs.Integers.{is_in, converted, number_of, is_zero, at_most}

-- the range of a signed type, as the words have it
abbrev in_signed : Width → ℤ → Bool
in_signed width z = at_most (negsuc (2 ^ (bits width - 1) - 1)) z && at_most z (pos (2 ^ (bits width - 1) - 1))

to_words : (width : Width) (z : ℤ) → in_signed width z ≡ true → words.is_signed width z ≡ true
to_words w.W8 (pos n) h = grind (arith, nat_tests)
to_words w.W8 (negsuc n) h = grind (arith, nat_tests)
to_words w.W16 (pos n) h = grind (arith, nat_tests)
to_words w.W16 (negsuc n) h = grind (arith, nat_tests)
to_words w.W32 (pos n) h = grind (arith, nat_tests)
to_words w.W32 (negsuc n) h = grind (arith, nat_tests)
to_words w.W64 (pos n) h = grind (arith, nat_tests)
to_words w.W64 (negsuc n) h = grind (arith, nat_tests)

same_signed : (width : Width) (z : ℤ) → in_signed width z ≡ true → signed width (word width z) ≡ z
same_signed width z h = signed-word width z (to_words width z h)

abbrev in_unsigned : Width → ℤ → Bool
in_unsigned width z = at_most (pos 0) z && at_most z (pos (2 ^ bits width - 1))

same_unsigned : (width : Width) (z : ℤ) → in_unsigned width z ≡ true → pos (word width z) ≡ z
same_unsigned w.W8 (pos n) h = ap pos (grind (arith, nat_tests))
same_unsigned w.W8 (negsuc n) h = cc
same_unsigned w.W16 (pos n) h = ap pos (grind (arith, nat_tests))
same_unsigned w.W16 (negsuc n) h = cc
same_unsigned w.W32 (pos n) h = ap pos (grind (arith, nat_tests))
same_unsigned w.W32 (negsuc n) h = cc
same_unsigned w.W64 (pos n) h = ap pos (grind (arith, nat_tests))
same_unsigned w.W64 (negsuc n) h = cc

same_truth : (z : ℤ) → at_most (pos 0) z && at_most z (pos 1) ≡ true → number_of (not (is_zero z)) ≡ z
same_truth (pos zero) h = refl
same_truth (pos (suc zero)) h = refl
same_truth (pos (suc (suc n))) h = grind (arith, nat_tests)
same_truth (negsuc n) h = cc

pub converted_same : (kind : IntegerKind) (z : ℤ) → is_in kind z ≡ true → converted kind z ≡ z
unfolding converted
converted_same k.Bool z h = same_truth z h
converted_same k.Char z h = same_signed w.W8 z h
converted_same k.SignedChar z h = same_signed w.W8 z h
converted_same k.UnsignedChar z h = same_unsigned w.W8 z h
converted_same k.Short z h = same_signed w.W16 z h
converted_same k.UnsignedShort z h = same_unsigned w.W16 z h
converted_same k.Int z h = same_signed w.W32 z h
converted_same k.UnsignedInt z h = same_unsigned w.W32 z h
converted_same k.Long z h = same_signed w.W64 z h
converted_same k.UnsignedLong z h = same_unsigned w.W64 z h
converted_same k.LongLong z h = same_signed w.W64 z h
converted_same k.UnsignedLongLong z h = same_unsigned w.W64 z h

fits_within : (width : Width) (z : ℤ) → FitsSigned (machine width) z → in_signed width z ≡ true
fits_within w.W8 (pos n) h = grind (arith, nat_tests, h.sfits)
fits_within w.W8 (negsuc n) h = grind (arith, nat_tests, h.sfits)
fits_within w.W16 (pos n) h = grind (arith, nat_tests, h.sfits)
fits_within w.W16 (negsuc n) h = grind (arith, nat_tests, h.sfits)
fits_within w.W32 (pos n) h = grind (arith, nat_tests, h.sfits)
fits_within w.W32 (negsuc n) h = grind (arith, nat_tests, h.sfits)
fits_within w.W64 (pos n) h = grind (arith, nat_tests, h.sfits)
fits_within w.W64 (negsuc n) h = grind (arith, nat_tests, h.sfits)

signed_fits : (width : Width) (a : ℕ) → a < 2 ^ bits width → FitsSigned (machine width) (signed width a)
signed_fits w.W8 a h = sfits_to_z (record { fits = h })
signed_fits w.W16 a h = sfits_to_z (record { fits = h })
signed_fits w.W32 a h = sfits_to_z (record { fits = h })
signed_fits w.W64 a h = sfits_to_z (record { fits = h })

signed_within : (width : Width) (z : ℤ) → in_signed width (signed width (word width z)) ≡ true
signed_within width z = fits_within width _ (signed_fits width (word width z) (word_below width z))

natural_within : (m n : ℕ) → n < m → at_most (pos 0) (pos n) && at_most (pos n) (pos (m - 1)) ≡ true
natural_within m n h = grind (arith, nat_tests)

unsigned_within : (width : Width) (z : ℤ) → in_unsigned width (pos (word width z)) ≡ true
unsigned_within w.W8 z = natural_within (2 ^ 8) (word w.W8 z) (word_below w.W8 z)
unsigned_within w.W16 z = natural_within (2 ^ 16) (word w.W16 z) (word_below w.W16 z)
unsigned_within w.W32 z = natural_within (2 ^ 32) (word w.W32 z) (word_below w.W32 z)
unsigned_within w.W64 z = natural_within (2 ^ 64) (word w.W64 z) (word_below w.W64 z)

truth_within : (b : Bool) → at_most (pos 0) (number_of b) && at_most (number_of b) (pos 1) ≡ true
truth_within true = refl
truth_within false = refl

pub converted_within : (kind : IntegerKind) (z : ℤ) → is_in kind (converted kind z) ≡ true
unfolding converted
converted_within k.Bool z = truth_within (not (is_zero z))
converted_within k.Char z = signed_within w.W8 z
converted_within k.SignedChar z = signed_within w.W8 z
converted_within k.UnsignedChar z = unsigned_within w.W8 z
converted_within k.Short z = signed_within w.W16 z
converted_within k.UnsignedShort z = unsigned_within w.W16 z
converted_within k.Int z = signed_within w.W32 z
converted_within k.UnsignedInt z = unsigned_within w.W32 z
converted_within k.Long z = signed_within w.W64 z
converted_within k.UnsignedLong z = unsigned_within w.W64 z
converted_within k.LongLong z = signed_within w.W64 z
converted_within k.UnsignedLongLong z = unsigned_within w.W64 z
