-- Signed numbers that pass through wider types unchanged, and quotients that fit.
use Rattle.std.proofs.Common.{◌≡◌, ℕ, zero, suc, ◌-◌, ◌/◌, ◌^◌, ◌<◌, ◌≤◌, Bool, ℤ, pos, negsuc, neg_ℤ, ◌-ℤ◌, ◌*ℤ◌, FitsSigned, to_z, of_z, w64, refl, sym, ap, ◌∙◌, arith}
use Rattle.std.specs.Int.{w128}
use Rattle.std.specs.Int.Signed.{mag, mag_rem}
use Rattle.std.specs.Int.RustNames.{int_div, int_rem, unsigned_abs}
use Rattle.std.proofs.lemmas.Int.{ints, to_z-of_z, of_z-to_z, fits_signed_mul, quot_is, rem_is}
use Rattle.std.proofs.Math.Nat.{div-le_self, div-lt_self, div-one}
use Rattle.plain_data.specs.Words.{bits, signed, IsLeastByMinusOne}
use Rattle.plain_data.specs.declared.width.Width.{Width}
use Rattle.plain_data.specs.declared.width.Width.TheVariants.{W8, W16, W32, W64}

-- a difference of 64-bit numbers, computed at 128 bits
pub difference_passed : (f : ℤ → Bool) (x y p q : ℤ) → FitsSigned w64 x → FitsSigned w64 y → p ≡ to_z w64 (of_z w64 x) → q ≡ to_z w64 (of_z w64 y)
    → f (to_z w128 (of_z w128 (to_z w128 (of_z w128 p) -ℤ to_z w128 (of_z w128 q)))) ≡ f (x -ℤ y)
difference_passed f x y p q fx fy ep eq = ap f (omega (arith, ints))

mag_abs : (x : ℤ) → mag x < 2 ^ 63 → unsigned_abs x ≤ 2 ^ 63
mag_abs (pos n) h = omega arith
mag_abs (negsuc n) h = omega arith

wider : (x : ℤ) → FitsSigned w64 x → FitsSigned w128 x
wider x h = record { sfits = omega (arith, h.sfits) }

product_fits : (x y : ℤ) → FitsSigned w64 x → FitsSigned w64 y → FitsSigned w128 (x *ℤ y)
product_fits x y fx fy = fits_signed_mul w128 x y (2 ^ 63) (2 ^ 63) (mag_abs x fx.sfits) (mag_abs y fy.sfits) (omega arith)

-- a product of 64-bit numbers, computed at 128 bits
pub product_passed : (f : ℤ → Bool) (x y p q : ℤ) → FitsSigned w64 x → FitsSigned w64 y → p ≡ to_z w64 (of_z w64 x) → q ≡ to_z w64 (of_z w64 y)
    → f (to_z w128 (of_z w128 (to_z w128 (of_z w128 p) *ℤ to_z w128 (of_z w128 q)))) ≡ f (x *ℤ y)
product_passed f x y p q fx fy ep eq =
    let px : to_z w128 (of_z w128 p) ≡ x = ap (λ n. to_z w128 (of_z w128 n)) (ep ∙ to_z-of_z w64 x fx) ∙ to_z-of_z w128 x (wider x fx) in
    let qy : to_z w128 (of_z w128 q) ≡ y = ap (λ n. to_z w128 (of_z w128 n)) (eq ∙ to_z-of_z w64 y fy) ∙ to_z-of_z w128 y (wider y fy) in
    ap f ((λ i. to_z w128 (of_z w128 (px i *ℤ qy i))) ∙ to_z-of_z w128 (x *ℤ y) (product_fits x y fx fy))

mag-neg : (n : ℕ) → mag (neg_ℤ (pos n)) ≡ n - 1
mag-neg zero = refl
mag-neg (suc n) = omega arith

-- the quotient fits but for the least number by -1
div_fits : (x y : ℤ) → mag x < 2 ^ 63 → (x ≡ negsuc (2 ^ 63 - 1) → y ≡ negsuc 0 → ⊥) → mag (int_div x y) < 2 ^ 63
div_fits (pos a) (pos b) h ne = omega (arith, div-le_self a b)
div_fits (pos a) (negsuc b) h ne = omega (arith, mag-neg (a / suc b), div-le_self a (suc b))
div_fits (negsuc a) (pos b) h ne = omega (arith, mag-neg (suc a / b), div-le_self (suc a) b)
div_fits (negsuc a) (negsuc zero) h ne = rw div-one (least a h (λ e. ne (ap negsuc e) refl))
  where
    least : (n : ℕ) → n < 2 ^ 63 → (n ≡ 2 ^ 63 - 1 → ⊥) → suc n < 2 ^ 63
    least n below other = omega arith
div_fits (negsuc a) (negsuc (suc b)) h ne = omega (arith, div-lt_self {n = suc a} {k = suc (suc b)} (omega arith) (omega arith))

sized : (w : Width) (a : ℕ) → a < 2 ^ bits w → FitsSigned w64 (signed w a)
sized W8 a h = omega (arith, ints)
sized W16 a h = omega (arith, ints)
sized W32 a h = omega (arith, ints)
sized W64 a h = omega (arith, ints)

least_only : (w : Width) (a b : ℕ) → a < 2 ^ bits w → b < 2 ^ bits w → ¬ IsLeastByMinusOne w a b → signed w a ≡ negsuc (2 ^ 63 - 1) → signed w b ≡ negsuc 0 → ⊥
least_only W8 a b ha hb ne x y = omega (arith, ints)
least_only W16 a b ha hb ne x y = omega (arith, ints)
least_only W32 a b ha hb ne x y = omega (arith, ints)
least_only W64 a b ha hb ne x y = ne (record { least = sym (of_z-to_z w64 a ha) ∙ ap (of_z w64) x; minus_one = sym (of_z-to_z w64 b hb) ∙ ap (of_z w64) y })

-- a signed quotient and remainder, computed at 64 bits and then wrapped from 128
pub quotient_passed : (w : Width) (a b : ℕ) (x y p : ℤ) → a < 2 ^ bits w → b < 2 ^ bits w → ¬ IsLeastByMinusOne w a b → x ≡ signed w a → y ≡ signed w b
    → p ≡ to_z w64 (of_z w64 (int_div (to_z w64 (of_z w64 x)) (to_z w64 (of_z w64 y)))) → to_z w128 (of_z w128 p) ≡ int_div (signed w a) (signed w b)
quotient_passed w a b x y p ha hb ne ex ey ep =
    let fa = sized w a ha in
    let fb = sized w b hb in
    let q : FitsSigned w64 (int_div (signed w a) (signed w b)) = record { sfits = div_fits _ _ fa.sfits (least_only w a b ha hb ne) } in
    let e : p ≡ int_div (signed w a) (signed w b) = ep ∙ (λ i. to_z w64 (of_z w64 (int_div (to_z w64 (of_z w64 (ex i))) (to_z w64 (of_z w64 (ey i)))))) ∙ quot_is w64 _ _ fa fb q in
    ap (λ z. to_z w128 (of_z w128 z)) e ∙ to_z-of_z w128 _ (wider _ q)

pub remainder_passed : (w : Width) (a b : ℕ) (x y p : ℤ) → a < 2 ^ bits w → b < 2 ^ bits w → x ≡ signed w a → y ≡ signed w b
    → p ≡ to_z w64 (of_z w64 (int_rem (to_z w64 (of_z w64 x)) (to_z w64 (of_z w64 y)))) → to_z w128 (of_z w128 p) ≡ int_rem (signed w a) (signed w b)
remainder_passed w a b x y p ha hb ex ey ep =
    let fa = sized w a ha in
    let fb = sized w b hb in
    let r : FitsSigned w64 (int_rem (signed w a) (signed w b)) = record { sfits = omega (arith, mag_rem (signed w a) (signed w b), fa.sfits) } in
    let e : p ≡ int_rem (signed w a) (signed w b) = ep ∙ (λ i. to_z w64 (of_z w64 (int_rem (to_z w64 (of_z w64 (ex i))) (to_z w64 (of_z w64 (ey i)))))) ∙ rem_is w64 _ _ fa fb in
    ap (λ z. to_z w128 (of_z w128 z)) e ∙ to_z-of_z w128 _ (wider _ r)
