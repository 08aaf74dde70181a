-- Words below 2^N, and products of numbers of 64 bits.
use Rattle.std.proofs.Common.{◌≡◌, ℕ, ◌-◌, ◌<◌, ◌≤◌, ◌^◌, ℤ, pos, negsuc, ◌*ℤ◌, ◌≤ℤ◌, FitsSigned, to_z, of_z, bit_and, arith, ◌∙◌}
use Rattle.std.specs.Int.{w128}
use Rattle.std.specs.Int.RustNames.{unsigned_abs}
use Rattle.std.proofs.lemmas.Int.{ints, to_z-of_z, fits_signed_mul}
use Rattle.std.proofs.lemmas.Nat.{and_le_l}

pub and_below : (k a b : ℕ) → a < 2 ^ k → b < 2 ^ k → bit_and a b < 2 ^ k
and_below k a b ha hb = grind (arith, and_le_l)

abs_most : (x : ℤ) → negsuc (2 ^ 63 - 1) ≤ℤ x → x ≤ℤ pos (2 ^ 63 - 1) → unsigned_abs x ≤ 2 ^ 63
abs_most (pos n) low high = omega (arith, ints)
abs_most (negsuc n) low high = omega (arith, ints)

wide : (x : ℤ) → negsuc (2 ^ 63 - 1) ≤ℤ x → x ≤ℤ pos (2 ^ 63 - 1) → FitsSigned w128 x
wide (pos n) low high = record { sfits = omega (arith, ints) }
wide (negsuc n) low high = record { sfits = omega (arith, ints) }

-- a product of numbers of 64 bits, computed at 128 bits
pub product_passed : (x y : ℤ) → negsuc (2 ^ 63 - 1) ≤ℤ x → x ≤ℤ pos (2 ^ 63 - 1)
    → negsuc (2 ^ 63 - 1) ≤ℤ y → y ≤ℤ pos (2 ^ 63 - 1)
    → to_z w128 (of_z w128 (to_z w128 (of_z w128 x) *ℤ to_z w128 (of_z w128 y))) ≡ x *ℤ y
product_passed x y xl xh yl yh =
    (λ i. to_z w128 (of_z w128 (to_z-of_z w128 x (wide x xl xh) i *ℤ to_z-of_z w128 y (wide y yl yh) i)))
    ∙ to_z-of_z w128 (x *ℤ y)
    (fits_signed_mul w128 x y (2 ^ 63) (2 ^ 63) (abs_most x xl xh) (abs_most y yl yh) (omega arith))
