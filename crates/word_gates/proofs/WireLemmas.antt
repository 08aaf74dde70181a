-- What wires spell.
use Rattle.std.proofs.Common.{◌≡◌, ◌++◌, ◌∷◌, [], ℕ, ◌+◌, ◌*◌, ◌^◌, zero, suc, List, Bool, true, false, not, refl, ap, ◌∙◌, arith, length, take, drop, replicate, map}
use Rattle.std.proofs.lemmas.List.Elements.{All-nil, All-cons, All-head, All-tail, All-append}
use Rattle.std.proofs.Math.Nat.{pow-succ', mul_assoc}
use Rattle.cnf_core.specs.Truth.{Valuation}
use Rattle.gates.specs.declared.bit.Bit.{Bit}
use Rattle.gates.specs.declared.bit.Bit.TheVariants.{Known}
use Rattle.gates.specs.Nets.{Net, IsBit, bit_holds, opposite}
use Rattle.gates.proofs.BitLemmas.{opposite-bit, opposite-holds}
use Rattle.word_gates.specs.Spelling.{number, spelled, AreBits}

-- ---- bits of a net

pub bits-append : (net : Net) (xs ys : List Bit) → AreBits net xs → AreBits net ys → AreBits net (xs ++ ys)
bits-append net xs ys h k = All-append (IsBit net) xs ys h k

pub bits-replicate : (net : Net) (n : ℕ) (x : Bit) → IsBit net x → AreBits net (replicate n x)
bits-replicate net zero x h = All-nil (IsBit net)
bits-replicate net (suc n) x h = All-cons (IsBit net) x (replicate n x) h (bits-replicate net n x h)

pub bits-take : (net : Net) (n : ℕ) (xs : List Bit) → AreBits net xs → AreBits net (take n xs)
bits-take net zero xs h = All-nil (IsBit net)
bits-take net (suc n) [] h = All-nil (IsBit net)
bits-take net (suc n) (x ∷ xs) h = All-cons (IsBit net) x (take n xs) (All-head (IsBit net) x xs h) (bits-take net n xs (All-tail (IsBit net) x xs h))

pub bits-drop : (net : Net) (n : ℕ) (xs : List Bit) → AreBits net xs → AreBits net (drop n xs)
bits-drop net zero xs h = h
bits-drop net (suc n) [] h = All-nil (IsBit net)
bits-drop net (suc n) (x ∷ xs) h = bits-drop net n xs (All-tail (IsBit net) x xs h)

pub bits-opposite : (net : Net) (xs : List Bit) → AreBits net xs → AreBits net (map opposite xs)
bits-opposite net [] h = All-nil (IsBit net)
bits-opposite net (x ∷ xs) h = All-cons (IsBit net) (opposite x) (map opposite xs) (opposite-bit net x (All-head (IsBit net) x xs h)) (bits-opposite net xs (All-tail (IsBit net) x xs h))

-- ---- numbers

pub spelled-append : (v : Valuation) (xs ys : List Bit) → spelled v (xs ++ ys) ≡ spelled v xs + 2 ^ length xs * spelled v ys
spelled-append v [] ys = omega arith
spelled-append v (x ∷ xs) ys =
    let rest = spelled-append v xs ys in
    let power : 2 ^ suc (length xs) * spelled v ys ≡ 2 * (2 ^ length xs * spelled v ys) = ap (λ p. p * spelled v ys) (pow-succ' 2 (length xs)) ∙ mul_assoc 2 (2 ^ length xs) (spelled v ys) in
    omega (arith, rest, power)

pub spelled-replicate : (v : Valuation) (n : ℕ) (x : Bit) → spelled v (replicate n x) + number (bit_holds v x) ≡ 2 ^ n * number (bit_holds v x)
spelled-replicate v zero x = omega arith
spelled-replicate v (suc n) x =
    let rest = spelled-replicate v n x in
    let power : 2 ^ suc n * number (bit_holds v x) ≡ 2 * (2 ^ n * number (bit_holds v x)) = ap (λ p. p * number (bit_holds v x)) (pow-succ' 2 n) ∙ mul_assoc 2 (2 ^ n) (number (bit_holds v x)) in
    omega (arith, rest, power)

pub spelled-zeros : (v : Valuation) (n : ℕ) → spelled v (replicate n (Known false)) ≡ 0
spelled-zeros v zero = refl
spelled-zeros v (suc n) = omega (arith, spelled-zeros v n)

pub spelled-opposite : (v : Valuation) (xs : List Bit) → spelled v (map opposite xs) + spelled v xs + 1 ≡ 2 ^ length xs
spelled-opposite v [] = refl
spelled-opposite v (x ∷ xs) =
    let rest = spelled-opposite v xs in
    let first : number (bit_holds v (opposite x)) + number (bit_holds v x) ≡ 1 = ap (λ b. number b + number (bit_holds v x)) (opposite-holds v x) ∙ one (bit_holds v x) in
    omega (arith, rest, first, pow-succ' 2 (length xs))
  where
    one : (b : Bool) → number (not b) + number b ≡ 1
    one true = refl
    one false = refl

pub spelled-split : (v : Valuation) (n : ℕ) (xs : List Bit) → spelled v xs ≡ spelled v (take n xs) + 2 ^ n * spelled v (drop n xs)
spelled-split v zero xs = omega arith
spelled-split v (suc n) [] = let e : 2 ^ suc n * 0 ≡ 0 = omega arith in rw e refl
spelled-split v (suc n) (x ∷ xs) =
    let rest = spelled-split v n xs in
    let power : 2 ^ suc n * spelled v (drop n xs) ≡ 2 * (2 ^ n * spelled v (drop n xs)) = ap (λ p. p * spelled v (drop n xs)) (pow-succ' 2 n) ∙ mul_assoc 2 (2 ^ n) (spelled v (drop n xs)) in
    omega (arith, rest, power)

pub length-replicated : (n : ℕ) (x : Bit) → length (replicate n x) ≡ n
length-replicated zero x = refl
length-replicated (suc n) x = ap suc (length-replicated n x)

pub length-opposite : (xs : List Bit) → length (map opposite xs) ≡ length xs
length-opposite [] = refl
length-opposite (x ∷ xs) = ap suc (length-opposite xs)
