-- What the writer of texts keeps.
use Rattle.std.proofs.Common.{◌≡◌, ◌≢◌, ℕ, zero, suc, ◌+◌, ◌-◌, ◌<◌, ◌≤◌, List, [], ◌∷◌, ◌++◌, length, get_or, map, take, drop, append_assoc, add-one, drop-cons, length-drop, sym, ap, subst, ◌∙◌, arith}
use Rattle.std.specs.Int.Digits.{digits_of}
use Rattle.std.proofs.lemmas.List.{length-append, drop-drop}
use Rattle.std.proofs.Math.Seq.{take-length}
use Rattle.std.proofs.lemmas.Int.Digits.{first_digits_of}
use Rattle.std.proofs.lemmas.Bool.Decides.{nat_tests}
use Rattle.printf_text.specs.Texts.{HasKind, HaveKinds, BeginsWithKinds, kinds, piece_kinds, base, digit, HasNoLeadingZero, piece_text, text_of}
use Rattle.printf_text.proofs.Digits.{base_least}
use Rattle.printf_text.specs.declared.piece.Radix.{Radix}
use Rattle.printf_text.specs.declared.piece.Radix.TheVariants.{Decimal, Octal, LowerHex, UpperHex}
use Rattle.printf_text.specs.declared.piece.Piece.{Piece}
use Rattle.printf_text.specs.declared.kind.Kind.{Kind}
use Rattle.printf_text.specs.declared.piece.Arg.{Arg}

-- no digit but that of 0 is written `0`
digit_other : (radix : Radix) (d : ℕ) → 0 < d → digit radix d ≢ 48
digit_other Decimal d h e = grind (arith, nat_tests)
digit_other Octal d h e = grind (arith, nat_tests)
digit_other LowerHex d h e = grind (arith, nat_tests)
digit_other UpperHex d h e = grind (arith, nat_tests)

pub no_leading_zero : (radix : Radix) (n : ℕ) → HasNoLeadingZero (map (digit radix) (digits_of (base radix) n))
no_leading_zero radix zero = tt
no_leading_zero radix (suc n) = by (digits_of (base radix) (suc n)) (first_digits_of (base radix) (suc n) (omega (arith, base_least radix)) (omega arith))
  where
    by : (ds : List ℕ) → 0 < get_or ds 0 0 → HasNoLeadingZero (map (digit radix) ds)
    by [] h = tt
    by (d ∷ ds) h = digit_other radix d h

-- kinds in a row
pub BeginsWithKinds-rest : (xs ys : List Kind) (args : List Arg) → BeginsWithKinds (xs ++ ys) args → BeginsWithKinds ys (drop (length xs) args)
BeginsWithKinds-rest [] ys args h = h
BeginsWithKinds-rest (x ∷ xs) ys [] h = absurd h
BeginsWithKinds-rest (x ∷ xs) ys (a ∷ args) h = BeginsWithKinds-rest xs ys args h.1

pub HaveKinds-first : (xs ys : List Kind) (args : List Arg) → HaveKinds (xs ++ ys) args → BeginsWithKinds xs args
HaveKinds-first [] ys args h = tt
HaveKinds-first (x ∷ xs) ys [] h = absurd h
HaveKinds-first (x ∷ xs) ys (a ∷ args) h = (h.0, HaveKinds-first xs ys args h.1)

pub HaveKinds-rest : (xs ys : List Kind) (args : List Arg) → HaveKinds (xs ++ ys) args → HaveKinds ys (drop (length xs) args)
HaveKinds-rest [] ys args h = h
HaveKinds-rest (x ∷ xs) ys [] h = absurd h
HaveKinds-rest (x ∷ xs) ys (a ∷ args) h = HaveKinds-rest xs ys args h.1

-- the argument that is converted, after those of the width and the precision
pub kind_at : (xs ys : List Kind) (k : Kind) (args rest : List Arg) (a : Arg) → BeginsWithKinds (xs ++ ys ++ k ∷ []) args → rest ≡ drop (length ys) (drop (length xs) args)
    → 1 ≤ length rest → a ≡ get_or rest 0 a → HasKind k a
kind_at xs ys k args rest a h e some is =
    let at : drop (length (xs ++ ys)) args ≡ rest = ap (λ n. drop n args) (length-append xs ys) ∙ sym (drop-drop (length ys) (length xs) args) ∙ sym e in
    by rest (subst (λ r. BeginsWithKinds (k ∷ []) r) at (BeginsWithKinds-rest (xs ++ ys) (k ∷ []) args h)) some is
  where
    by : (r : List Arg) → BeginsWithKinds (k ∷ []) r → 1 ≤ length r → a ≡ get_or r 0 a → HasKind k a
    by [] begins one same = absurd begins
    by (b ∷ r) begins one same = subst (λ x. HasKind k x) (sym same) begins.0

pub rest_at : (xs ys : List Kind) (k : Kind) (args rest : List Arg) → rest ≡ drop (length ys) (drop (length xs) args)
    → take (length rest - 1) (drop 1 rest) ≡ drop (length (xs ++ ys ++ k ∷ [])) args
rest_at xs ys k args rest e =
    let all : take (length rest - 1) (drop 1 rest) ≡ drop 1 rest = ap (λ n. take n (drop 1 rest)) (sym (length-drop 1 rest)) ∙ take-length (drop 1 rest) in
    let count : length (xs ++ ys ++ k ∷ []) ≡ length xs + length ys + 1 = simp length-append (omega arith) in
    all ∙ ap (drop 1) (e ∙ drop-drop (length ys) (length xs) args) ∙ drop-drop 1 (length xs + length ys) args ∙ ap (λ n. drop n args) (sym count)

-- what is written, and the text of the pieces and arguments that remain, is the whole text
pub record IsWritten (whole : List ℕ) (pieces : List Piece) (out : List ℕ) (args : List Arg) : Type 0 where
  pub kinds_are : HaveKinds (kinds pieces) args
  pub is : out ++ text_of pieces args ≡ whole

-- the next piece of a list
pub next_piece : (pieces : List Piece) (i : ℕ) (p : Piece) → i < length pieces → p ≡ get_or pieces i p → drop i pieces ≡ p ∷ drop (i + 1) pieces
next_piece pieces i p h e = rw (add-one, drop-cons pieces i p) (ap (λ x. x ∷ drop (suc i) pieces) (sym e))

pub IsWritten-more : (whole : List ℕ) (piece : Piece) (pieces : List Piece) (out : List ℕ) (args : List Arg) → IsWritten whole (piece ∷ pieces) out args
    → IsWritten whole pieces (out ++ piece_text piece args) (drop (length (piece_kinds piece)) args)
IsWritten-more whole piece pieces out args w = record {
  kinds_are = HaveKinds-rest (piece_kinds piece) (kinds pieces) args w.kinds_are;
  is = append_assoc out (piece_text piece args) (text_of pieces (drop (length (piece_kinds piece)) args)) ∙ w.is;
}
