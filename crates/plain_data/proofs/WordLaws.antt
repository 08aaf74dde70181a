-- Laws of words: to and from signed numbers, a word of a word, arithmetic, bytes.
use Rattle.std.proofs.Common.{◌≡◌, ℕ, zero, suc, ◌+◌, ◌-◌, ◌*◌, ◌/◌, ◌%◌, ◌^◌, ◌<◌, ◌≤◌, Bool, true, false, not, ℤ, pos, negsuc, neg_ℤ, ◌+ℤ◌, ◌-ℤ◌, ◌*ℤ◌, List, [], ◌∷◌, length, All, FitsSigned, w8, w32, w64, refl, sym, ap, subst, ◌∙◌, arith}
use Rattle.std.specs.Int.{w16, cast_signed, cast_unsigned, int_rem_euclid, int_wrap}
use Rattle.std.specs.Int.{Width as Machine}
use Rattle.std.specs.Int.RustNames.{unsigned_abs}
use Rattle.std.proofs.lemmas.Int.{of_z-to_z, int_wrap_fits, int_wrap-add_left, int_wrap-add_right, int_wrap-sub_right, int_wrap-mul_left, int_wrap-mul_right, wrapping_add-bits, wrapping_sub-bits, wrapping_mul-bits}
use Rattle.std.proofs.lemmas.Bool.Decides.{nat_tests}
use Rattle.std.proofs.Math.Nat.{mod-lt, mod-add-div', add-mul-mod_self_right, div-lt_iff_lt-mul, mul-pos, pow-suc}
use Rattle.std.proofs.lemmas.Nat.{mod-mul-add, pow-add}
use Rattle.std.proofs.lemmas.List.Elements.{All-nil, All-cons, All-head, All-tail}
use Rattle.std.proofs.Math.Pow.{pow_pos}
use Rattle.std.proofs.Math.Facts.{sfits_to_z}
use mir.Val.{bits as machine_bits}
use Rattle.plain_data.specs.Words.{machine, bits, word, signed, is_signed, add, sub, mul, add_over, sub_over, mul_over, from_bytes, to_bytes}
use Rattle.plain_data.specs.declared.width.Width.{Width}
use Rattle.plain_data.specs.declared.width.Width.TheVariants.{W8, W16, W32, W64}

-- a number modulo n is below n
below : (z : ℤ) (n : ℕ) → 0 < n → unsigned_abs (int_rem_euclid z (pos n)) < n
below (pos a) n h = mod-lt a h
below (negsuc a) n h = omega arith

pub word_below : (w : Width) (z : ℤ) → word w z < 2 ^ bits w
word_below W8 z = below z (2 ^ 8) (omega arith)
word_below W16 z = below z (2 ^ 16) (omega arith)
word_below W32 z = below z (2 ^ 32) (omega arith)
word_below W64 z = below z (2 ^ 64) (omega arith)

-- what holds of a machine's type of m bits
wrapped : Machine → ℤ → ℕ
wrapped m z = unsigned_abs (int_rem_euclid z (pos (2 ^ machine_bits m)))

wrapped_below : (m : Machine) (z : ℤ) → wrapped m z < 2 ^ machine_bits m
unfolding wrapped
wrapped_below m z = below z (2 ^ machine_bits m) (pow_pos (machine_bits m))

same_bits : (m : Machine) (a b : ℕ) → a < 2 ^ machine_bits m → b < 2 ^ machine_bits m → cast_signed m a ≡ cast_signed m b → a ≡ b
same_bits m a b ha hb e = sym (of_z-to_z m a ha) ∙ ap (cast_unsigned m) e ∙ of_z-to_z m b hb

wrapped-signed : (m : Machine) (a : ℕ) → a < 2 ^ machine_bits m → wrapped m (cast_signed m a) ≡ a
unfolding wrapped int_wrap
wrapped-signed m a h =
    same_bits m _ a (below (cast_signed m a) (2 ^ machine_bits m) (pow_pos (machine_bits m))) h (int_wrap_fits m (cast_signed m a) (sfits_to_z (record { fits = h })))

signed-wrapped : (m : Machine) (z : ℤ) → FitsSigned m z → cast_signed m (wrapped m z) ≡ z
unfolding wrapped int_wrap
signed-wrapped m z h = int_wrap_fits m z h

wrapped-add : (m : Machine) (x y : ℤ) → wrapped m (x +ℤ y) ≡ (wrapped m x + wrapped m y) % 2 ^ machine_bits m
unfolding wrapped int_wrap
wrapped-add m x y =
    same_bits m _ _ (wrapped_below m (x +ℤ y)) (mod-lt _ (pow_pos (machine_bits m)))
    (sym (wrapping_add-bits m (wrapped m x) (wrapped m y) (wrapped_below m x) (wrapped_below m y) ∙ int_wrap-add_left m x (int_wrap m y) ∙ int_wrap-add_right m x y))

wrapped-sub : (m : Machine) (x y : ℤ) → wrapped m (x -ℤ y) ≡ (wrapped m x + (2 ^ machine_bits m - wrapped m y)) % 2 ^ machine_bits m
unfolding wrapped int_wrap
wrapped-sub m x y =
    same_bits m _ _ (wrapped_below m (x -ℤ y)) (mod-lt _ (pow_pos (machine_bits m)))
    (sym (wrapping_sub-bits m (wrapped m x) (wrapped m y) (wrapped_below m x) (wrapped_below m y) ∙ int_wrap-add_left m x (neg_ℤ (int_wrap m y)) ∙ int_wrap-sub_right m x y))

wrapped-mul : (m : Machine) (x y : ℤ) → wrapped m (x *ℤ y) ≡ (wrapped m x * wrapped m y) % 2 ^ machine_bits m
unfolding wrapped int_wrap
wrapped-mul m x y =
    same_bits m _ _ (wrapped_below m (x *ℤ y)) (mod-lt _ (pow_pos (machine_bits m)))
    (sym (wrapping_mul-bits m (wrapped m x) (wrapped m y) (wrapped_below m x) (wrapped_below m y) ∙ int_wrap-mul_left m x (int_wrap m y) ∙ int_wrap-mul_right m x y))

-- to signed and back, and the other way round where the number is in the type
pub word-signed : (w : Width) (a : ℕ) → a < 2 ^ bits w → word w (signed w a) ≡ a
unfolding wrapped
word-signed W8 a h = wrapped-signed w8 a h
word-signed W16 a h = wrapped-signed w16 a h
word-signed W32 a h = wrapped-signed w32 a h
word-signed W64 a h = wrapped-signed w64 a h

-- a number in the type fits the machine's
pub fits_of_test : (w : Width) (z : ℤ) → is_signed w z ≡ true → FitsSigned (machine w) z
fits_of_test W8 (pos n) h = record { sfits = grind (arith, nat_tests) }
fits_of_test W8 (negsuc n) h = record { sfits = grind (arith, nat_tests) }
fits_of_test W16 (pos n) h = record { sfits = grind (arith, nat_tests) }
fits_of_test W16 (negsuc n) h = record { sfits = grind (arith, nat_tests) }
fits_of_test W32 (pos n) h = record { sfits = grind (arith, nat_tests) }
fits_of_test W32 (negsuc n) h = record { sfits = grind (arith, nat_tests) }
fits_of_test W64 (pos n) h = record { sfits = grind (arith, nat_tests) }
fits_of_test W64 (negsuc n) h = record { sfits = grind (arith, nat_tests) }

pub signed-word : (w : Width) (z : ℤ) → is_signed w z ≡ true → signed w (word w z) ≡ z
unfolding wrapped
signed-word W8 z h = signed-wrapped w8 z (fits_of_test W8 z h)
signed-word W16 z h = signed-wrapped w16 z (fits_of_test W16 z h)
signed-word W32 z h = signed-wrapped w32 z (fits_of_test W32 z h)
signed-word W64 z h = signed-wrapped w64 z (fits_of_test W64 z h)

-- the word of a result is the result of the words
pub word-add : (w : Width) (x y : ℤ) → word w (x +ℤ y) ≡ add w (word w x) (word w y)
unfolding wrapped
word-add W8 x y = wrapped-add w8 x y
word-add W16 x y = wrapped-add w16 x y
word-add W32 x y = wrapped-add w32 x y
word-add W64 x y = wrapped-add w64 x y

pub word-sub : (w : Width) (x y : ℤ) → word w (x -ℤ y) ≡ sub w (word w x) (word w y)
unfolding wrapped
word-sub W8 x y = wrapped-sub w8 x y
word-sub W16 x y = wrapped-sub w16 x y
word-sub W32 x y = wrapped-sub w32 x y
word-sub W64 x y = wrapped-sub w64 x y

pub word-mul : (w : Width) (x y : ℤ) → word w (x *ℤ y) ≡ mul w (word w x) (word w y)
unfolding wrapped
word-mul W8 x y = wrapped-mul w8 x y
word-mul W16 x y = wrapped-mul w16 x y
word-mul W32 x y = wrapped-mul w32 x y
word-mul W64 x y = wrapped-mul w64 x y

-- where a signed result stays in the type, the word that `add`, `sub` or `mul` gives is that result
of_not : (b : Bool) → not b ≡ false → b ≡ true
of_not true h = refl
of_not false h = cc

pub signed-add : (w : Width) (a b : ℕ) → a < 2 ^ bits w → b < 2 ^ bits w → add_over w a b ≡ false → signed w (add w a b) ≡ signed w a +ℤ signed w b
signed-add w a b ha hb h =
    (λ i. signed w (add w (sym (word-signed w a ha) i) (sym (word-signed w b hb) i)))
    ∙ ap (signed w) (sym (word-add w (signed w a) (signed w b))) ∙ signed-word w (signed w a +ℤ signed w b) (of_not _ h)

pub signed-sub : (w : Width) (a b : ℕ) → a < 2 ^ bits w → b < 2 ^ bits w → sub_over w a b ≡ false → signed w (sub w a b) ≡ signed w a -ℤ signed w b
signed-sub w a b ha hb h =
    (λ i. signed w (sub w (sym (word-signed w a ha) i) (sym (word-signed w b hb) i)))
    ∙ ap (signed w) (sym (word-sub w (signed w a) (signed w b))) ∙ signed-word w (signed w a -ℤ signed w b) (of_not _ h)

pub signed-mul : (w : Width) (a b : ℕ) → a < 2 ^ bits w → b < 2 ^ bits w → mul_over w a b ≡ false → signed w (mul w a b) ≡ signed w a *ℤ signed w b
signed-mul w a b ha hb h =
    (λ i. signed w (mul w (sym (word-signed w a ha) i) (sym (word-signed w b hb) i)))
    ∙ ap (signed w) (sym (word-mul w (signed w a) (signed w b))) ∙ signed-word w (signed w a *ℤ signed w b) (of_not _ h)

-- a number modulo a multiple of m, and then modulo m
mod-multiple : (a m k : ℕ) → a % (k * m) % m ≡ a % m
mod-multiple a m k =
    let e : a % (k * m) + (a / (k * m) * k) * m ≡ a = omega (arith, mod-add-div' a (k * m)) in
    sym (add-mul-mod_self_right (a % (k * m)) (a / (k * m) * k) m) ∙ ap (λ n. n % m) e

mirrored : (r m k : ℕ) → 0 < m → r < k * m → (k * m - 1 - r) % m ≡ m - 1 - r % m
mirrored r m k hm hr =
    let q : r / m < k = (div-lt_iff_lt-mul {k = m} {x = r} {y = k} hm).1 hr in
    let j = k - 1 - r / m in
    let ek : k ≡ r / m + j + 1 = omega arith in
    let ekm : k * m ≡ (r / m + j + 1) * m = ap (λ n. n * m) ek in
    let er : r % m + r / m * m ≡ r = mod-add-div' r m in
    let lt = mod-lt r hm in
    let e : k * m - 1 - r ≡ j * m + (m - 1 - r % m) = omega arith in
    ap (λ n. n % m) e ∙ mod-mul-add j m (m - 1 - r % m) (omega arith)

narrower : (z : ℤ) (m k : ℕ) → 0 < m → 0 < k → unsigned_abs (int_rem_euclid z (pos (k * m))) % m ≡ unsigned_abs (int_rem_euclid z (pos m))
narrower (pos a) m k hm hk = mod-multiple a m k
narrower (negsuc a) m k hm hk =
    mirrored (a % (k * m)) m k hm (mod-lt a (mul-pos hk hm)) ∙ ap (λ n. m - 1 - n) (mod-multiple a m k)

-- a word of a word that is at least as wide
pub word-word : (v w : Width) (z : ℤ) → bits v ≤ bits w → word v (pos (word w z)) ≡ word v z
word-word v w z h =
    let e : 2 ^ (bits w - bits v) * 2 ^ bits v ≡ 2 ^ bits w = sym (pow-add 2 (bits w - bits v) (bits v)) ∙ ap (λ n. 2 ^ n) (omega arith) in
    subst (λ n. unsigned_abs (int_rem_euclid z (pos n)) % 2 ^ bits v ≡ unsigned_abs (int_rem_euclid z (pos (2 ^ bits v)))) e
    (narrower z (2 ^ bits v) (2 ^ (bits w - bits v)) (pow_pos (bits v)) (pow_pos (bits w - bits v)))

-- the bytes of a number, the lowest first
pub length-to_bytes : (n a : ℕ) → length (to_bytes n a) ≡ n
length-to_bytes zero a = refl
length-to_bytes (suc n) a = ap suc (length-to_bytes n (a / 256))

pub to_bytes_below : (n a : ℕ) → All (λ b. b < 256) (to_bytes n a)
to_bytes_below zero a = All-nil (λ b. b < 256)
to_bytes_below (suc n) a = All-cons (λ b. b < 256) (a % 256) (to_bytes n (a / 256)) (omega arith) (to_bytes_below n (a / 256))

pub from_bytes-to_bytes : (n a : ℕ) → a < 256 ^ n → from_bytes (to_bytes n a) ≡ a
from_bytes-to_bytes zero a h = omega arith
from_bytes-to_bytes (suc n) a h =
    let rest : a / 256 < 256 ^ n = omega (arith, pow-suc 256 n) in
    omega (arith, from_bytes-to_bytes n (a / 256) rest)

pub to_bytes-from_bytes : (bytes : List ℕ) → All (λ b. b < 256) bytes → to_bytes (length bytes) (from_bytes bytes) ≡ bytes
to_bytes-from_bytes [] h = refl
to_bytes-from_bytes (b ∷ bytes) h =
    let low : b < 256 = All-head (λ b. b < 256) b bytes h in
    let first : (b + 256 * from_bytes bytes) % 256 ≡ b = omega arith in
    let rest : (b + 256 * from_bytes bytes) / 256 ≡ from_bytes bytes = omega arith in
    (λ i. first i ∷ to_bytes (length bytes) (rest i)) ∙ ap (λ r. b ∷ r) (to_bytes-from_bytes bytes (All-tail (λ b. b < 256) b bytes h))

pub from_bytes_below : (bytes : List ℕ) → All (λ b. b < 256) bytes → from_bytes bytes < 256 ^ length bytes
from_bytes_below [] h = omega arith
from_bytes_below (b ∷ bytes) h =
    let low : b < 256 = All-head (λ b. b < 256) b bytes h in
    let rest = from_bytes_below bytes (All-tail (λ b. b < 256) b bytes h) in
    omega (arith, pow-suc 256 (length bytes))
