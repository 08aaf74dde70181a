-- The two numbers of an entry's line.
use Rattle.std.proofs.Common.{◌≡◌, ℕ, ◌+◌, ◌-◌, ◌*◌, ◌/◌, ◌%◌, ◌^◌, ◌<◌, ◌≤◌, min, ◌==◌, true, false, nat_le, [], ◌∷◌, ◌++◌, length, get_or, drop, append_assoc, refl, sym, ap, ◌∙◌, arith}
use Rattle.std.specs.Fmt.{decimal}
use Rattle.std.specs.Char.{is_ascii_digit}
use Rattle.std.proofs.lemmas.Fmt.{decimal_by_steps}
use Rattle.std.proofs.lemmas.List.{drop_more, drop_all}
use Rattle.std.proofs.lemmas.Bool.Decides.{nat_tests}
use Rattle.cert_text.specs.Lines.{Text}
use Rattle.cert_text.specs.WorldTexts.{entry_line}
use Rattle.cert_text.specs.WorldSteps.{entry_with, entry_after, entry_in}
use Rattle.cert_text.specs.declared.entry.Entry.{Entry}
use Rattle.cert_text.proofs.LineLemmas.{IsPlain, IsLine, plain-append, line-append, line-cons, newline_line}

-- ---- the loop over bytes

pub after_more : (entry entry' : Entry) (i b : ℕ) (s : Text) (whole : Entry) → i < length s → b ≡ get_or s i 0 → entry' ≡ entry_with entry b
    → entry_after entry (drop i s) ≡ whole → entry_after entry' (drop (i + 1) s) ≡ whole
after_more entry entry' i b s whole h eb ee is =
    ap (λ e. entry_after e (drop (i + 1) s)) (ee ∙ ap (entry_with entry) eb) ∙ ap (entry_after entry) (sym (drop_more s i 0 h)) ∙ is

pub after_all : (entry whole : Entry) (i : ℕ) (s : Text) → length s ≤ i → entry_after entry (drop i s) ≡ whole → entry ≡ whole
after_all entry whole i s h is = ap (entry_after entry) (sym (drop_all i s h)) ∙ is

-- ---- digits

abbrev entry : ℕ → ℕ → Entry
entry k v = record { key = k; value = v }

digit-with : (k v d : ℕ) → d < 10 → v * 10 + d < 2 ^ 64 → entry_with (entry k v) (48 + d) ≡ entry k (v * 10 + d)
digit-with k v d h small =
    let space : (48 + d == 32) ≡ false = grind (arith, nat_tests) in
    let low : nat_le 48 (48 + d) ≡ true = grind (arith, nat_tests) in
    let high : nat_le (48 + d) 57 ≡ true = grind (arith, nat_tests) in
    let is : is_ascii_digit (48 + d) ≡ true = rw (low, high) refl in
    let sum : min (v * 10 + (48 + d - 48)) 18446744073709551615 ≡ v * 10 + d = omega arith in
    rw (space, is, sum) refl

-- these digits give this number
record Gives (k n : ℕ) (ds : Text) : Type 0 where
  after : n < 2 ^ 64 → (rest : Text) → entry_after (entry k 0) (ds ++ rest) ≡ entry_after (entry k n) rest

gives-one : (k n : ℕ) → n < 10 → Gives k n ((48 + n) ∷ [])
gives-one k n h = record { after = λ small rest. ap (λ e. entry_after e rest) (digit-with k 0 n h (omega arith) ∙ ap (entry k) (omega arith)) }

gives-more : (k n : ℕ) (ds : Text) → 10 ≤ n → Gives k (n / 10) ds → Gives k n (ds ++ ((48 + n % 10) ∷ []))
gives-more k n ds h ih = record { after = step }
  where
    step : n < 2 ^ 64 → (rest : Text) → entry_after (entry k 0) ((ds ++ ((48 + n % 10) ∷ [])) ++ rest) ≡ entry_after (entry k n) rest
    step small rest =
        let same : n / 10 * 10 + n % 10 ≡ n = omega arith in
        ap (entry_after (entry k 0)) (append_assoc ds ((48 + n % 10) ∷ []) rest)
        ∙ ih.after (omega arith) ((48 + n % 10) ∷ rest)
        ∙ ap (λ e. entry_after e rest) (digit-with k (n / 10) (n % 10) (omega arith) (omega arith) ∙ ap (entry k) same)

pub decimal-after : (k n : ℕ) (rest : Text) → n < 2 ^ 64 → entry_after (entry k 0) (decimal n ++ rest) ≡ entry_after (entry k n) rest
decimal-after k n rest small = (decimal_by_steps (Gives k) (gives-one k) (gives-more k) n small).after small rest

-- the line gives its numbers back
pub entry-in_line : (letter k v : ℕ) → (letter == 32) ≡ false → is_ascii_digit letter ≡ false → k < 2 ^ 64 → v < 2 ^ 64 → entry_in (entry_line letter (k, v)) ≡ entry k v
entry-in_line letter k v h1 h2 hk hv =
    let head : entry_with (entry 0 0) letter ≡ entry 0 0 = rw (h1, h2) refl in
    ap (λ e. entry_after (entry_with e 32) (decimal k ++ 32 ∷ (decimal v ++ 10 ∷ []))) head
    ∙ decimal-after 0 k (32 ∷ (decimal v ++ 10 ∷ [])) hk
    ∙ decimal-after k v (10 ∷ []) hv

-- ---- no newline but the last

plain-decimal : (n : ℕ) → n < 2 ^ 64 → IsPlain (decimal n)
plain-decimal n small = decimal_by_steps (λ n ds. IsPlain ds) one more n small
  where
    digit : (d : ℕ) → (48 + d == 10) ≡ false
    digit d = grind (arith, nat_tests)

    one : (n : ℕ) → n < 10 → IsPlain ((48 + n) ∷ [])
    one n h = (digit n, tt)

    more : (n : ℕ) (ds : Text) → 10 ≤ n → IsPlain ds → IsPlain (ds ++ ((48 + n % 10) ∷ []))
    more n ds h ih = plain-append ds ((48 + n % 10) ∷ []) ih (digit (n % 10), tt)

pub entry-line : (letter k v : ℕ) → (letter == 10) ≡ false → k < 2 ^ 64 → v < 2 ^ 64 → IsLine (entry_line letter (k, v))
entry-line letter k v h hk hv =
    line-cons letter _ h (line-cons 32 _ refl (line-append (decimal k) _ (plain-decimal k hk) (line-cons 32 _ refl
    (line-append (decimal v) (10 ∷ []) (plain-decimal v hv) newline_line))))
