-- What the reader of formats keeps.
use Rattle.std.proofs.Common.{◌≡◌, ℕ, zero, suc, ◌+◌, ◌-◌, ◌*◌, ◌<◌, ◌≤◌, Bool, true, IsTrue, List, [], ◌∷◌, length, get_or, take, All, length-take, get_or-take, sym, ap, subst, ◌∙◌, arith}
use Rattle.std.specs.List.{prefix_len}
use Rattle.std.specs.Char.{digit_value}
use Rattle.std.specs.Str.Parse.{digits_value_after}
use Rattle.std.proofs.lemmas.Int.Digits.{digits_value_more}
use Rattle.std.proofs.lemmas.List.Sums.{prefix_len_passes}
use Rattle.std.proofs.lemmas.Bool.Decides.{nat_tests}
use Rattle.printf_text.specs.Pieces.{is_digit, decimal, run}

-- a digit's value
pub digit_value_is : (c : ℕ) → IsTrue (is_digit c) → (digit_value c ≡ c - 48) × (48 ≤ c) × (c ≤ 57)
digit_value_is c h =
    let low : 48 ≤ c = grind (arith, nat_tests) in
    let high : c ≤ 57 = grind (arith, nat_tests) in
    (grind (arith, nat_tests), low, high)

-- more digits write no smaller number
digits_grow : (n : ℕ) (ds : List ℕ) → n ≤ digits_value_after 10 n ds
digits_grow n [] = omega arith
digits_grow n (c ∷ ds) = omega (arith, digits_grow (n * 10 + digit_value c) ds)

digits_grow_from : (n k : ℕ) (ds : List ℕ) → digits_value_after 10 n (take k ds) ≤ digits_value_after 10 n ds
digits_grow_from n zero ds = digits_grow n ds
digits_grow_from n (suc k) [] = omega arith
digits_grow_from n (suc k) (c ∷ ds) = digits_grow_from (n * 10 + digit_value c) k ds

pub decimal_grows : (k : ℕ) (ds : List ℕ) → decimal (take k ds) ≤ decimal ds
decimal_grows k ds = digits_grow_from 0 k ds

-- a run of digits is made of digits
pub All-run : (p : ℕ → Bool) (bytes : List ℕ) → All (λ b. IsTrue (p b)) (run p bytes)
All-run p bytes k d h =
    let within : k < prefix_len p bytes = omega (arith, length-take (prefix_len p bytes) bytes) in
    subst (λ b. p b ≡ true) (sym (get_or-take (prefix_len p bytes) bytes k d within)) (prefix_len_passes p bytes k d within)

-- one digit more, where the items so far are a part of the digits
pub decimal_more : (ds : List ℕ) (i c : ℕ) → i < length ds → c ≡ get_or ds i 0 → IsTrue (is_digit c) → decimal (take (i + 1) ds) ≡ decimal (take i ds) * 10 + (c - 48)
decimal_more ds i c h e digit = digits_value_more 10 ds i h ∙ ap (λ v. decimal (take i ds) * 10 + v) (ap digit_value (sym e) ∙ (digit_value_is c digit).0)
