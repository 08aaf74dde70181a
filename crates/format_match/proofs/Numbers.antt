-- The number that the digits among bytes write, read one byte after the other.
use Rattle.std.proofs.Common.{◌≡◌, ℕ, ◌+◌, ◌*◌, ◌%◌, ◌<◌, ◌≤◌, Bool, true, false, cond, List, [], ◌∷◌, length, get_or, drop, refl, sym, ap, ◌∙◌}
use Rattle.std.specs.List.{filter}
use Rattle.std.specs.Char.{digit_value, is_digit}
use Rattle.std.specs.Str.Parse.{digits_value_after}
use Rattle.std.proofs.lemmas.List.{drop_more, drop_all}
use Rattle.std.proofs.lemmas.Nat.{mul-mod_first}
use Rattle.std.proofs.Math.Nat.{mod-add-mod, mod-mod, mod-eq_of_lt}

-- numbers alike modulo m stay so as digits come
pub same_after : (m b x y : ℕ) (cs : List ℕ) → x % m ≡ y % m → digits_value_after b x cs % m ≡ digits_value_after b y cs % m
same_after m b x y [] h = h
same_after m b x y (c ∷ cs) h = same_after m b (x * b + digit_value c) (y * b + digit_value c) cs (step m x y b (digit_value c) h)
  where
    step : (m x y b d : ℕ) → x % m ≡ y % m → (x * b + d) % m ≡ (y * b + d) % m
    step m x y b d h =
        sym (mod-add-mod (x * b) m d) ∙ ap (λ k. (k + d) % m) (sym (mul-mod_first x b m) ∙ ap (λ k. (k * b) % m) h ∙ mul-mod_first y b m) ∙ mod-add-mod (y * b) m d

-- one byte more, which is a digit or isn't
pub read_more : (m b n n' i c : ℕ) (s : List ℕ) → i < length s → c ≡ get_or s i 0 → n' ≡ cond (is_digit c b) ((n * b + digit_value c) % m) n
    → digits_value_after b n' (filter (λ d. is_digit d b) (drop (i + 1) s)) % m ≡ digits_value_after b n (filter (λ d. is_digit d b) (drop i s)) % m
read_more m b n n' i c s h ec en =
    ap (λ k. digits_value_after b k (filter (λ d. is_digit d b) (drop (i + 1) s)) % m) en ∙ by (filter (λ d. is_digit d b) (drop (i + 1) s)) (is_digit c b)
    ∙ ap (λ d. digits_value_after b n (filter (λ e. is_digit e b) (d ∷ drop (i + 1) s)) % m) ec ∙ ap (λ r. digits_value_after b n (filter (λ d. is_digit d b) r) % m) (sym (drop_more s i 0 h))
  where
    by : (r : List ℕ) (t : Bool) → digits_value_after b (cond t ((n * b + digit_value c) % m) n) r % m ≡ digits_value_after b n (cond t (c ∷ r) r) % m
    by r true = same_after m b ((n * b + digit_value c) % m) (n * b + digit_value c) r (mod-mod (n * b + digit_value c) m)
    by r false = refl

-- no byte more
pub read_all : (m b n i w : ℕ) (s : List ℕ) → length s ≤ i → n < m → digits_value_after b n (filter (λ d. is_digit d b) (drop i s)) % m ≡ w → n ≡ w
read_all m b n i w s h small e = sym (mod-eq_of_lt small) ∙ ap (λ r. digits_value_after b n (filter (λ d. is_digit d b) r) % m) (sym (drop_all i s h)) ∙ e
