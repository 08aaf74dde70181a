-- Operators and tests as gates.
use Rattle.std.proofs.Common.{◌≡◌, ℕ, ◌+◌, ◌-◌, ◌*◌, ◌%◌, ◌^◌, List, [], ◌∷◌, Bool, true, false, ◌&&◌, refl, sym, ap, ◌∙◌, arith, length}
use Rattle.std.specs.Prelude.{nat_eq, nat_lt, bit_and, bit_or, bit_xor, Result, Ok, Err, IfOk}
use Rattle.std.proofs.lemmas.Nat.{and_block, or_block, xor_block}
use Rattle.cnf_core.specs.Truth.{Valuation}
use Rattle.gates.specs.declared.bit.Bit.{Bit}
use Rattle.gates.specs.declared.gates.BlastFault.{BlastFault}
use Rattle.gates.specs.Nets.{Net, IsGate}
use Rattle.gates.proofs.BitLemmas.{same-grows}
use Rattle.plain_data.specs.Words.{bits, word, signed, sdiv, srem, shl, lshr, ashr, add_over, sub_over, mul_over, shl_over, slt}
use Rattle.plain_data.specs.declared.width.Width.{Width}
use Rattle.word_gates.specs.declared.operators.BitOperator.{BitOperator}
use Rattle.word_gates.specs.declared.operators.BitOperator.TheVariants as bitwise
use Rattle.word_gates.specs.declared.quotients.Division.{Division}
use Rattle.word_gates.specs.Spelling.{HasTruths, IsWord, each_two, connected, number, number_of, spelled, truths}
use Rattle.word_gates.specs.Quotients.{IsDivision}
use Rattle.word_gates.proofs.NumberLemmas.{number-small}
use Rattle.word_gates.proofs.WordLemmas.{length-truths}
use Rattle.signed_gates.specs.Signs.{divided, near}
use Rattle.signed_gates.proofs.NetLemmas.{gate-after, word-after}
use Rattle.term_bank.specs.declared.shape.WordOperator.{WordOperator}
use Rattle.term_bank.specs.declared.shape.WordOperator.TheVariants as operator
use Rattle.term_bank.specs.declared.shape.WordTest.{WordTest}
use Rattle.term_bank.specs.declared.shape.WordTest.TheVariants as test
use Rattle.term_bank.specs.declared.shape.Extension.{Extension}
use Rattle.term_bank.specs.declared.shape.Extension.TheVariants as extension
use Rattle.term_bank.specs.Values.{converted, outcome_of, result_of}
use Rattle.bitvectors.specs.Amounts.{bit_result}

pub word-result : (old new : Net) (n m : ℕ) (f g : Valuation → ℕ) (r : Result (List Bit) BlastFault) → n ≡ m → ((v : Valuation) → f v ≡ g v) → IfOk r (IsWord old new n f) → IfOk r (IsWord old new m g)
word-result old new n m f g (Ok x) e s h = word-after old old new n m f g x (same-grows old) e h (λ v k. s v)
word-result old new n m f g (Err x) e s h = tt

pub gate-result : (old new : Net) (f g : Valuation → Bool) (r : Result Bit BlastFault) → ((v : Valuation) → f v ≡ g v) → IfOk r (IsGate old new f) → IfOk r (IsGate old new g)
gate-result old new f g (Ok x) s h = gate-after old old new f g x (same-grows old) h (λ v k. s v)
gate-result old new f g (Err x) s h = tt

-- ---- bitwise operators

bit-block : (op : BitOperator) (a b : Bool) (x y : ℕ) → number (connected op a b) + 2 * bit_result op x y ≡ bit_result op (number a + 2 * x) (number b + 2 * y)
bit-block bitwise.And a b x y = rw (turned a x, turned b y, and_block 1 x y (number a) (number b) (number-small a) (number-small b)) (bottom a b (bit_and x y))
  where
    turned : (a : Bool) (x : ℕ) → number a + 2 * x ≡ x * 2 ^ 1 + number a
    turned a x = omega arith

    bottom : (a b : Bool) (n : ℕ) → number (a && b) + 2 * n ≡ n * 2 ^ 1 + bit_and (number a) (number b)
    bottom true true n = omega arith
    bottom true false n = omega arith
    bottom false true n = omega arith
    bottom false false n = omega arith
bit-block bitwise.Or a b x y = rw (turned a x, turned b y, or_block 1 x y (number a) (number b) (number-small a) (number-small b)) (bottom a b (bit_or x y))
  where
    turned : (a : Bool) (x : ℕ) → number a + 2 * x ≡ x * 2 ^ 1 + number a
    turned a x = omega arith

    bottom : (a b : Bool) (n : ℕ) → number (connected bitwise.Or a b) + 2 * n ≡ n * 2 ^ 1 + bit_or (number a) (number b)
    bottom true true n = omega arith
    bottom true false n = omega arith
    bottom false true n = omega arith
    bottom false false n = omega arith
bit-block bitwise.Xor a b x y = rw (turned a x, turned b y, xor_block 1 x y (number a) (number b) (number-small a) (number-small b)) (bottom a b (bit_xor x y))
  where
    turned : (a : Bool) (x : ℕ) → number a + 2 * x ≡ x * 2 ^ 1 + number a
    turned a x = omega arith

    bottom : (a b : Bool) (n : ℕ) → number (connected bitwise.Xor a b) + 2 * n ≡ n * 2 ^ 1 + bit_xor (number a) (number b)
    bottom true true n = omega arith
    bottom true false n = omega arith
    bottom false true n = omega arith
    bottom false false n = omega arith

none : (op : BitOperator) → bit_result op 0 0 ≡ 0
none bitwise.And = refl
none bitwise.Or = refl
none bitwise.Xor = refl

bit-numbers : (op : BitOperator) (xs ys : List Bool) → length xs ≡ length ys → number_of (each_two op xs ys) ≡ bit_result op (number_of xs) (number_of ys)
bit-numbers op [] [] e = sym (none op)
bit-numbers op [] (y ∷ ys) e = absurd (omega arith)
bit-numbers op (x ∷ xs) [] e = absurd (omega arith)
bit-numbers op (x ∷ xs) (y ∷ ys) e = ap (λ n. number (connected op x y) + 2 * n) (bit-numbers op xs ys (omega arith)) ∙ bit-block op x y (number_of xs) (number_of ys)

pub bitwise-of : (old new : Net) (op : BitOperator) (a b word : List Bit) → length a ≡ length b → HasTruths old new (length a) (λ v. each_two op (truths v a) (truths v b)) word → IsWord old new (length a) (λ v. bit_result op (spelled v a) (spelled v b)) word
bitwise-of old new op a b word n h = record {
  width = h.width;
  grows = h.grows;
  stand = h.stand;
  means = λ v m. ap number_of (h.means v m) ∙ bit-numbers op (truths v a) (truths v b) (length-truths v a ∙ n ∙ sym (length-truths v b));
}

-- ---- operators

pub quotient-of : (old new : Net) (w : Width) (a b : List Bit) (division : Division) → length a ≡ bits w → IsDivision old new a b division → IsWord old new (bits w) (λ v. result_of operator.Udiv w (spelled v a) (spelled v b)) division.quotient
unfolding result_of
quotient-of old new w a b division n d = record { width = d.quotient_width ∙ n; grows = d.grows; stand = d.quotient_stands; means = λ v m. d.quotient_is v m }

pub remainder-of : (old new : Net) (w : Width) (a b : List Bit) (division : Division) → length a ≡ bits w → IsDivision old new a b division → IsWord old new (bits w) (λ v. result_of operator.Urem w (spelled v a) (spelled v b)) division.remainder
unfolding result_of
remainder-of old new w a b division n d = record { width = d.remainder_width ∙ n; grows = d.grows; stand = d.remainder_stands; means = λ v m. d.remainder_is v m }

pub add-result : (old new : Net) (w : Width) (a b : List Bit) (op : WordOperator) (r : Result (List Bit) BlastFault) → op ≡ operator.Add → length a ≡ bits w → IfOk r (IsWord old new (length a) (λ v. (spelled v a + spelled v b) % 2 ^ length a)) → IfOk r (IsWord old new (bits w) (λ v. result_of op w (spelled v a) (spelled v b)))
unfolding result_of
add-result old new w a b op r is n h = rw is (word-result old new (length a) (bits w) _ _ r n (λ v i. (spelled v a + spelled v b) % 2 ^ n i) h)

pub sub-result : (old new : Net) (w : Width) (a b : List Bit) (op : WordOperator) (r : Result (List Bit) BlastFault) → op ≡ operator.Sub → length a ≡ bits w → IfOk r (IsWord old new (length a) (λ v. (spelled v a + (2 ^ length a - spelled v b)) % 2 ^ length a)) → IfOk r (IsWord old new (bits w) (λ v. result_of op w (spelled v a) (spelled v b)))
unfolding result_of
sub-result old new w a b op r is n h = rw is (word-result old new (length a) (bits w) _ _ r n (λ v i. (spelled v a + (2 ^ n i - spelled v b)) % 2 ^ n i) h)

pub mul-result : (old new : Net) (w : Width) (a b : List Bit) (op : WordOperator) (r : Result (List Bit) BlastFault) → op ≡ operator.Mul → length a ≡ bits w → IfOk r (IsWord old new (length a) (λ v. (spelled v a * spelled v b) % 2 ^ length a)) → IfOk r (IsWord old new (bits w) (λ v. result_of op w (spelled v a) (spelled v b)))
unfolding result_of
mul-result old new w a b op r is n h = rw is (word-result old new (length a) (bits w) _ _ r n (λ v i. (spelled v a * spelled v b) % 2 ^ n i) h)

pub and-result : (old new : Net) (w : Width) (a b : List Bit) (op : WordOperator) (r : Result (List Bit) BlastFault) → op ≡ operator.And → length a ≡ bits w → IfOk r (IsWord old new (length a) (λ v. bit_result bitwise.And (spelled v a) (spelled v b))) → IfOk r (IsWord old new (bits w) (λ v. result_of op w (spelled v a) (spelled v b)))
unfolding result_of
and-result old new w a b op r is n h = rw is (word-result old new (length a) (bits w) _ _ r n (λ v. refl) h)

pub or-result : (old new : Net) (w : Width) (a b : List Bit) (op : WordOperator) (r : Result (List Bit) BlastFault) → op ≡ operator.Or → length a ≡ bits w → IfOk r (IsWord old new (length a) (λ v. bit_result bitwise.Or (spelled v a) (spelled v b))) → IfOk r (IsWord old new (bits w) (λ v. result_of op w (spelled v a) (spelled v b)))
unfolding result_of
or-result old new w a b op r is n h = rw is (word-result old new (length a) (bits w) _ _ r n (λ v. refl) h)

pub xor-result : (old new : Net) (w : Width) (a b : List Bit) (op : WordOperator) (r : Result (List Bit) BlastFault) → op ≡ operator.Xor → length a ≡ bits w → IfOk r (IsWord old new (length a) (λ v. bit_result bitwise.Xor (spelled v a) (spelled v b))) → IfOk r (IsWord old new (bits w) (λ v. result_of op w (spelled v a) (spelled v b)))
unfolding result_of
xor-result old new w a b op r is n h = rw is (word-result old new (length a) (bits w) _ _ r n (λ v. refl) h)

pub sdiv-result : (old new : Net) (w : Width) (a b : List Bit) (op : WordOperator) (r : Result (List Bit) BlastFault) → op ≡ operator.Sdiv → IfOk r (IsWord old new (bits w) (λ v. divided (spelled v b) (sdiv w (spelled v a) (spelled v b)))) → IfOk r (IsWord old new (bits w) (λ v. result_of op w (spelled v a) (spelled v b)))
unfolding result_of
sdiv-result old new w a b op r is h = rw is (word-result old new (bits w) (bits w) _ _ r refl (λ v. refl) h)

pub srem-result : (old new : Net) (w : Width) (a b : List Bit) (op : WordOperator) (r : Result (List Bit) BlastFault) → op ≡ operator.Srem → IfOk r (IsWord old new (bits w) (λ v. divided (spelled v b) (srem w (spelled v a) (spelled v b)))) → IfOk r (IsWord old new (bits w) (λ v. result_of op w (spelled v a) (spelled v b)))
unfolding result_of
srem-result old new w a b op r is h = rw is (word-result old new (bits w) (bits w) _ _ r refl (λ v. refl) h)

pub shl-result : (old new : Net) (w : Width) (a b : List Bit) (op : WordOperator) (r : Result (List Bit) BlastFault) → op ≡ operator.Shl → IfOk r (IsWord old new (bits w) (λ v. near w (spelled v b) (shl w (spelled v a) (spelled v b)))) → IfOk r (IsWord old new (bits w) (λ v. result_of op w (spelled v a) (spelled v b)))
unfolding result_of
shl-result old new w a b op r is h = rw is (word-result old new (bits w) (bits w) _ _ r refl (λ v. refl) h)

pub lshr-result : (old new : Net) (w : Width) (a b : List Bit) (op : WordOperator) (r : Result (List Bit) BlastFault) → op ≡ operator.Lshr → IfOk r (IsWord old new (bits w) (λ v. near w (spelled v b) (lshr (spelled v a) (spelled v b)))) → IfOk r (IsWord old new (bits w) (λ v. result_of op w (spelled v a) (spelled v b)))
unfolding result_of
lshr-result old new w a b op r is h = rw is (word-result old new (bits w) (bits w) _ _ r refl (λ v. refl) h)

pub ashr-result : (old new : Net) (w : Width) (a b : List Bit) (op : WordOperator) (r : Result (List Bit) BlastFault) → op ≡ operator.Ashr → IfOk r (IsWord old new (bits w) (λ v. near w (spelled v b) (ashr w (spelled v a) (spelled v b)))) → IfOk r (IsWord old new (bits w) (λ v. result_of op w (spelled v a) (spelled v b)))
unfolding result_of
ashr-result old new w a b op r is h = rw is (word-result old new (bits w) (bits w) _ _ r refl (λ v. refl) h)

-- ---- tests

pub equal-result : (old new : Net) (w : Width) (a b : List Bit) (op : WordTest) (r : Result Bit BlastFault) → op ≡ test.Equal → IfOk r (IsGate old new (λ v. nat_eq (spelled v a) (spelled v b))) → IfOk r (IsGate old new (λ v. outcome_of op w (spelled v a) (spelled v b)))
unfolding outcome_of
equal-result old new w a b op r is h = rw is (gate-result old new _ _ r (λ v. refl) h)

pub below-result : (old new : Net) (w : Width) (a b : List Bit) (op : WordTest) (r : Result Bit BlastFault) → op ≡ test.Below → IfOk r (IsGate old new (λ v. nat_lt (spelled v a) (spelled v b))) → IfOk r (IsGate old new (λ v. outcome_of op w (spelled v a) (spelled v b)))
unfolding outcome_of
below-result old new w a b op r is h = rw is (gate-result old new _ _ r (λ v. refl) h)

pub signed-below-result : (old new : Net) (w : Width) (a b : List Bit) (op : WordTest) (r : Result Bit BlastFault) → op ≡ test.SignedBelow → IfOk r (IsGate old new (λ v. slt w (spelled v a) (spelled v b))) → IfOk r (IsGate old new (λ v. outcome_of op w (spelled v a) (spelled v b)))
unfolding outcome_of
signed-below-result old new w a b op r is h = rw is (gate-result old new _ _ r (λ v. refl) h)

pub add-over-result : (old new : Net) (w : Width) (a b : List Bit) (op : WordTest) (r : Result Bit BlastFault) → op ≡ test.AddOver → IfOk r (IsGate old new (λ v. add_over w (spelled v a) (spelled v b))) → IfOk r (IsGate old new (λ v. outcome_of op w (spelled v a) (spelled v b)))
unfolding outcome_of
add-over-result old new w a b op r is h = rw is (gate-result old new _ _ r (λ v. refl) h)

pub sub-over-result : (old new : Net) (w : Width) (a b : List Bit) (op : WordTest) (r : Result Bit BlastFault) → op ≡ test.SubOver → IfOk r (IsGate old new (λ v. sub_over w (spelled v a) (spelled v b))) → IfOk r (IsGate old new (λ v. outcome_of op w (spelled v a) (spelled v b)))
unfolding outcome_of
sub-over-result old new w a b op r is h = rw is (gate-result old new _ _ r (λ v. refl) h)

pub mul-over-result : (old new : Net) (w : Width) (a b : List Bit) (op : WordTest) (r : Result Bit BlastFault) → op ≡ test.MulOver → IfOk r (IsGate old new (λ v. mul_over w (spelled v a) (spelled v b))) → IfOk r (IsGate old new (λ v. outcome_of op w (spelled v a) (spelled v b)))
unfolding outcome_of
mul-over-result old new w a b op r is h = rw is (gate-result old new _ _ r (λ v. refl) h)

pub div-over-result : (old new : Net) (w : Width) (a b : List Bit) (op : WordTest) (r : Result Bit BlastFault) → op ≡ test.DivOver → IfOk r (IsGate old new (λ v. nat_eq (spelled v a) (2 ^ (bits w - 1)) && nat_eq (spelled v b) (2 ^ bits w - 1))) → IfOk r (IsGate old new (λ v. outcome_of op w (spelled v a) (spelled v b)))
unfolding outcome_of
div-over-result old new w a b op r is h = rw is (gate-result old new _ _ r (λ v. refl) h)

pub shl-over-result : (old new : Net) (w : Width) (a b : List Bit) (op : WordTest) (r : Result Bit BlastFault) → op ≡ test.ShlOver → IfOk r (IsGate old new (λ v. shl_over w (spelled v a) (spelled v b))) → IfOk r (IsGate old new (λ v. outcome_of op w (spelled v a) (spelled v b)))
unfolding outcome_of
shl-over-result old new w a b op r is h = rw is (gate-result old new _ _ r (λ v. refl) h)

-- ---- conversions

pub zero-result : (net : Net) (from to : Width) (a : List Bit) (op : Extension) (r : Result (List Bit) BlastFault) → op ≡ extension.Zero → IfOk r (IsWord net net (bits to) (λ v. spelled v a % 2 ^ bits to)) → IfOk r (IsWord net net (bits to) (λ v. converted op from to (spelled v a)))
unfolding converted
zero-result net from to a op r is h = rw is (word-result net net (bits to) (bits to) _ _ r refl (λ v. refl) h)

pub sign-result : (net : Net) (from to : Width) (a : List Bit) (op : Extension) (r : Result (List Bit) BlastFault) → op ≡ extension.Sign → IfOk r (IsWord net net (bits to) (λ v. word to (signed from (spelled v a)))) → IfOk r (IsWord net net (bits to) (λ v. converted op from to (spelled v a)))
unfolding converted
sign-result net from to a op r is h = rw is (word-result net net (bits to) (bits to) _ _ r refl (λ v. refl) h)
