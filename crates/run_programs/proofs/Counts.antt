-- Numbers of places that count.
use Rattle.std.proofs.Common.{◌≡◌, ◌≤◌, ◌<◌, ◌+◌, ◌^◌, ◌⊎◌, inl, inr, ℕ, ◌∙◌, arith}
use Rattle.std.proofs.Math.Nat.{min-eq_left, min-eq_right}
use Rattle.std.proofs.lemmas.Bool.{cases_lt}
use Rattle.code_steps.specs.Below.{capped}

-- what is below 2^63 wasn't capped
pub uncapped : (first x r : ℕ) → x ≡ capped r → first + x < 2 ^ 63 → x ≡ r
uncapped first x r is low = by (cases_lt 18446744073709551615 r)
  where
    by : (18446744073709551615 < r) ⊎ (r ≤ 18446744073709551615) → x ≡ r
    by (inl more) =
        let most : x ≡ 18446744073709551615 = is ∙ min-eq_right (omega (arith, more)) in
        absurd (omega (arith, most, low))
    by (inr less) = is ∙ min-eq_left less

pub room_found : (sum first x r : ℕ) → sum ≡ first + x → first + x < 2 ^ 63 → x ≡ capped r → sum ≡ first + r
room_found sum first x r found low is =
    let same : x ≡ r = uncapped first x r is low in
    omega (arith, found, same)

-- a number that is capped and below 2^63
pub low_room : (x r : ℕ) → x ≡ capped r → x < 2 ^ 63 → 0 + r < 2 ^ 63
low_room x r is low =
    let none : 0 + x < 2 ^ 63 = omega (arith, low) in
    let same : x ≡ r = uncapped 0 x r is none in
    omega (arith, low, same)
