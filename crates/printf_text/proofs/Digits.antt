-- Digits, written from the last one on.
use Rattle.std.proofs.Common.{◌≡◌, ℕ, ◌+◌, ◌-◌, ◌/◌, ◌%◌, ◌^◌, ◌<◌, ◌≤◌, List, [], ◌∷◌, ◌++◌, length, map, drop, set, append_assoc, append-nil, sym, ap, ◌∙◌, arith}
use Rattle.std.specs.Int.Digits.{digits_of}
use Rattle.std.proofs.lemmas.List.{drop-set, map-append, length-set}
use Rattle.std.proofs.Math.ListN.{drop_of_length-le}
use Rattle.std.proofs.lemmas.Int.Digits.{digits_of_step, length-digits_of_step, length-digits_of-le}
use Rattle.printf_text.specs.Texts.{base, digit}
use Rattle.printf_text.specs.declared.piece.Radix.{Radix}
use Rattle.printf_text.specs.declared.piece.Radix.TheVariants.{Decimal, Octal, LowerHex, UpperHex}

pub base_least : (radix : Radix) → 8 ≤ base radix
base_least Decimal = omega arith
base_least Octal = omega arith
base_least LowerHex = omega arith
base_least UpperHex = omega arith

pub base_most : (radix : Radix) → base radix ≤ 16
base_most Decimal = omega arith
base_most Octal = omega arith
base_most LowerHex = omega arith
base_most UpperHex = omega arith

-- a word has at most 22 digits
pub digits_room : (radix : Radix) (n : ℕ) → n < 2 ^ 64 → length (digits_of (base radix) n) ≤ 22
digits_room Decimal n h = length-digits_of-le 10 22 n (omega arith) (omega arith)
digits_room Octal n h = length-digits_of-le 8 22 n (omega arith) (omega arith)
digits_room LowerHex n h = length-digits_of-le 16 22 n (omega arith) (omega arith)
digits_room UpperHex n h = length-digits_of-le 16 22 n (omega arith) (omega arith)

-- the digits that remain, and those that stand in the buffer from a place on, are a number's
pub record IsWriting (radix : Radix) (whole n at : ℕ) (buffer : List ℕ) : Type 0 where
  pub long : length buffer ≡ 22
  pub at_in : at ≤ 22
  pub room : length (digits_of (base radix) n) ≤ at
  pub is : map (digit radix) (digits_of (base radix) n) ++ drop at buffer ≡ map (digit radix) (digits_of (base radix) whole)

pub IsWriting-start : (radix : Radix) (n : ℕ) (buffer : List ℕ) → n < 2 ^ 64 → length buffer ≡ 22 → IsWriting radix n n 22 buffer
IsWriting-start radix n buffer h long = record {
  long = long;
  at_in = omega arith;
  room = digits_room radix n h;
  is = ap (λ r. map (digit radix) (digits_of (base radix) n) ++ r) (drop_of_length-le buffer {i = 22} (omega arith)) ∙ append-nil (map (digit radix) (digits_of (base radix) n));
}

pub IsWriting-room : (radix : Radix) (whole n at : ℕ) (buffer : List ℕ) → IsWriting radix whole n at buffer → 0 < n → 0 < at
IsWriting-room radix whole n at buffer w h = omega (arith, w.room, length-digits_of_step (base radix) n (omega (arith, base_least radix)) h)

pub IsWriting-more : (radix : Radix) (whole n at d : ℕ) (buffer : List ℕ) → IsWriting radix whole n at buffer → 0 < n → d ≡ digit radix (n % base radix)
    → IsWriting radix whole (n / base radix) (at - 1) (set buffer (at - 1) d)
IsWriting-more radix whole n at d buffer w h e =
    let two : 2 ≤ base radix = omega (arith, base_least radix) in
    let some = IsWriting-room radix whole n at buffer w h in
    let step = digits_of_step (base radix) n two h in
    let here : at - 1 < length buffer = omega (arith, w.long, w.at_in) in
    let back : at - 1 + 1 ≡ at = omega arith in
    let rest : drop (at - 1) (set buffer (at - 1) d) ≡ d ∷ drop at buffer = drop-set buffer (at - 1) d here ∙ ap (λ i. d ∷ drop i buffer) back in
    record {
      long = simp length-set (w.long);
      at_in = omega (arith, w.at_in);
      room = omega (arith, w.room, length-digits_of_step (base radix) n two h);
      is =
          ap (λ r. map (digit radix) (digits_of (base radix) (n / base radix)) ++ r) (rest ∙ ap (λ x. x ∷ drop at buffer) e)
          ∙ sym (append_assoc (map (digit radix) (digits_of (base radix) (n / base radix))) (digit radix (n % base radix) ∷ []) (drop at buffer))
          ∙ ap (λ r. r ++ drop at buffer) (sym (map-append (digit radix) (digits_of (base radix) (n / base radix)) (n % base radix ∷ [])) ∙ ap (map (digit radix)) (sym step))
          ∙ w.is;
    }

pub IsWriting-end : (radix : Radix) (whole at : ℕ) (buffer : List ℕ) → IsWriting radix whole 0 at buffer → drop at buffer ≡ map (digit radix) (digits_of (base radix) whole)
IsWriting-end radix whole at buffer w = w.is
