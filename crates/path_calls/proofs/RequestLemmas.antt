-- How many bytes a call asks for.
use Rattle.std.proofs.Common.{◌≡◌, ℕ, zero, suc, ◌-◌, ◌*◌, ◌%◌, ◌^◌, ◌<◌, ◌≤◌, List, Bool, true, false, cond, not, nat_eq, nat_lt, refl, ap, ◌∙◌, arith}
use Rattle.std.specs.Prelude.{Ok}
use Rattle.std.proofs.Math.Nat.{mod-eq_of_lt}
use Rattle.std.proofs.lemmas.Nat.{mul-le}
use Rattle.std.proofs.lemmas.Bool.Decides.{nat_tests}
use Rattle.plain_data.specs.declared.width.Width.TheVariants.{W64}
use Rattle.term_bank.specs.declared.shape.Connective.TheVariants as connective
use Rattle.term_bank.specs.declared.shape.WordOperator.TheVariants as operator
use Rattle.term_bank.specs.declared.shape.WordTest.TheVariants as test
use Rattle.term_bank.specs.declared.shape.Shape.{Shape}
use Rattle.term_bank.specs.declared.shape.Shape.TheVariants.{Constant, Binary, Test, Not, Connect}
use Rattle.term_bank.specs.declared.sort.Node.{Node}
use Rattle.term_bank.specs.Terms.{Makes}
use Rattle.term_bank.specs.Values.{Values, result_of, outcome_of}
use Rattle.term_bank.proofs.BankLemmas.{weaken, grows_on}
use Rattle.term_bank.proofs.TermLemmas.{term_grown}
use Rattle.path_numbers.specs.Answers.{Truthful, Worded}
use Rattle.path_numbers.proofs.Nodes.{truth_is, word_is}
use Rattle.path_calls.specs.Allocations.{product_exceeds, Requests}

-- ---- tests

pub zero_found : (a b c : List Shape) (word none n : Node) → Makes a b (Constant 0 W64) (Ok none)
    → Makes b c (Test test.Equal W64 word.index none.index) (Ok n) → Truthful a c n (λ v. nat_eq (v word.index).word 0)
unfolding outcome_of
zero_found a b c word none n hz hn = record {
  grows = grows_on hz.grows hn.grows;
  bank = hn.bank;
  term = hn.node;
  is = λ e v m.
      truth_is (hn.value.is e v m) ∙ ap (λ k. nat_eq (v word.index).word k) (word_is (hz.value.is e v (weaken hn.grows m)));
}

pub above_found : (a b c : List Shape) (most : ℕ) (word bound n : Node) → Makes a b (Constant most W64) (Ok bound)
    → Makes b c (Test test.Below W64 bound.index word.index) (Ok n) → Truthful a c n (λ v. nat_lt most (v word.index).word)
unfolding outcome_of
above_found a b c most word bound n hb hn = record {
  grows = grows_on hb.grows hn.grows;
  bank = hn.bank;
  term = hn.node;
  is = λ e v m.
      truth_is (hn.value.is e v m) ∙ ap (λ k. nat_lt k (v word.index).word) (word_is (hb.value.is e v (weaken hn.grows m)));
}

pub factor_found : (a b c d f : List Shape) (above none some n : Node) (x y : Values → Bool) → Truthful a b above x → Truthful b c none y
    → Makes c d (Not none.index) (Ok some) → Makes d f (Connect connective.And above.index some.index) (Ok n)
    → Truthful a f n (λ v. cond (x v) (not (y v)) false)
factor_found a b c d f above none some n x y ha hz hs hn = record {
  grows = grows_on ha.grows (grows_on hz.grows (grows_on hs.grows hn.grows));
  bank = hn.bank;
  term = hn.node;
  is = λ e v m.
      let md = weaken hn.grows m in let mc = weaken hs.grows md in let mb = weaken hz.grows mc in
      truth_is (hn.value.is e v m)
      ∙ ap (λ p. cond p (v some.index).truth false) (ha.is e v mb)
      ∙ ap (λ p. cond (x v) p false) (truth_is (hs.value.is e v md) ∙ ap not (hz.is e v mc));
}

pub either_found : (a b c d : List Shape) (one other n : Node) (x y : Values → Bool) → Truthful a b one x → Truthful b c other y
    → Makes c d (Connect connective.Or one.index other.index) (Ok n) → Truthful a d n (λ v. cond (x v) true (y v))
either_found a b c d one other n x y ho hq hn = record {
  grows = grows_on ho.grows (grows_on hq.grows hn.grows);
  bank = hn.bank;
  term = hn.node;
  is = λ e v m.
      let mc = weaken hn.grows m in
      truth_is (hn.value.is e v m)
      ∙ ap (λ p. cond p true (v other.index).truth) (ho.is e v (weaken hq.grows mc))
      ∙ ap (λ p. cond (x v) true p) (hq.is e v mc);
}

-- ---- products

beyond_by : (most a b p : ℕ) → 1 ≤ a → 1 ≤ b → a ≤ p → b ≤ p → (a ≤ most → b ≤ most → p < 2 ^ 64)
    → product_exceeds most a b (p % 2 ^ 64) ≡ nat_lt most p
beyond_by most a b p one other left right whole = by (nat_lt most a) (nat_lt most b) refl refl
  where
    by : (x y : Bool) → nat_lt most a ≡ x → nat_lt most b ≡ y → product_exceeds most a b (p % 2 ^ 64) ≡ nat_lt most p
    by true y h k = grind (arith, nat_tests)
    by false true h k = grind (arith, nat_tests)
    by false false h k =
        let same : p % 2 ^ 64 ≡ p = mod-eq_of_lt (whole (grind (arith, nat_tests)) (grind (arith, nat_tests))) in
        grind (arith, nat_tests)

square : (most a b : ℕ) → most < 2 ^ 32 → a ≤ most → b ≤ most → a * b < 2 ^ 64
square most a b small h k = omega (arith, mul-le a b (2 ^ 32 - 1) (2 ^ 32 - 1) (omega arith) (omega arith))

none_beyond : (most a b p : ℕ) → p ≡ 0 → (a ≡ 0) → product_exceeds most a b (p % 2 ^ 64) ≡ nat_lt most p
none_beyond most a b p h k = rw (h, k) (grind (arith, nat_tests))

beyond_none : (most a b p : ℕ) → p ≡ 0 → (b ≡ 0) → product_exceeds most a b (p % 2 ^ 64) ≡ nat_lt most p
beyond_none most a b p h k = rw (h, k) (grind (arith, nat_tests))

pub product_beyond : (most a b : ℕ) → most < 2 ^ 32 → product_exceeds most a b ((a * b) % 2 ^ 64) ≡ nat_lt most (a * b)
product_beyond most zero b small = none_beyond most zero b (zero * b) (omega arith) refl
product_beyond most (suc a) zero small = beyond_none most (suc a) zero (suc a * zero) (omega arith) refl
product_beyond most (suc a) (suc b) small =
    beyond_by most (suc a) (suc b) (suc a * suc b) (omega arith) (omega arith)
    (omega (arith, mul-le (suc a) 1 (suc a) (suc b) (omega arith) (omega arith)))
    (omega (arith, mul-le 1 (suc b) (suc a) (suc b) (omega arith) (omega arith))) (λ h k. square most (suc a) (suc b) small h k)

not_beyond : (most n : ℕ) → nat_lt most n ≡ false → n ≤ most
not_beyond most n h = grind (arith, nat_tests)

whole_product : (most p : ℕ) → most < 2 ^ 32 → nat_lt most p ≡ false → p % 2 ^ 64 ≡ p
whole_product most p small h = let least = not_beyond most p h in mod-eq_of_lt (omega arith)

-- ---- requests

pub bytes_requested : (a b c : List Shape) (most : ℕ) (size n : Node) (x : Values → ℕ) → Worded a b W64 size x
    → Truthful b c n (λ v. nat_lt most (v size.index).word) → Requests a c most (record { size = size; exceeds = n }) x
bytes_requested a b c most size n x hs hn = record {
  grows = grows_on hs.grows hn.grows;
  size = term_grown b c _ size hn.grows hs.term;
  exceeds = hn.term;
  beyond = λ e v m. hn.is e v m ∙ ap (λ k. nat_lt most k) (hs.is e v (weaken hn.grows m));
  bytes = λ e v m k. hs.is e v (weaken hn.grows m);
}

pub array_requested : (a b c d f : List Shape) (most : ℕ) (left right product n : Node) (x y : Values → ℕ) → most < 2 ^ 32
    → Worded a b W64 left x → Worded b c W64 right y → Makes c d (Binary operator.Mul W64 left.index right.index) (Ok product)
    → Truthful d f n (λ v. product_exceeds most (v left.index).word (v right.index).word (v product.index).word)
    → Requests a f most (record { size = product; exceeds = n }) (λ v. x v * y v)
unfolding result_of
array_requested a b c d f most left right product n x y small hl hr hp hn = record {
  grows = grows_on hl.grows (grows_on hr.grows (grows_on hp.grows hn.grows));
  size = term_grown d f _ product hn.grows hp.node;
  exceeds = hn.term;
  beyond = λ e v m.
      let md = weaken hn.grows m in let mc = weaken hp.grows md in
      hn.is e v m
      ∙ ap (λ k. product_exceeds most (v left.index).word (v right.index).word k) (word_is (hp.value.is e v md))
      ∙ product_beyond most (v left.index).word (v right.index).word small
      ∙ ap (λ k. nat_lt most (k * (v right.index).word)) (hl.is e v (weaken hr.grows mc))
      ∙ ap (λ k. nat_lt most (x v * k)) (hr.is e v mc);
  bytes = λ e v m k.
      let md = weaken hn.grows m in let mc = weaken hp.grows md in
      word_is (hp.value.is e v md)
      ∙ ap (λ q. (q * (v right.index).word) % 2 ^ 64) (hl.is e v (weaken hr.grows mc))
      ∙ ap (λ q. (x v * q) % 2 ^ 64) (hr.is e v mc)
      ∙ whole_product most (x v * y v) small k;
}
