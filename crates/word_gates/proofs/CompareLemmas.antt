-- Comparisons' loops, the lowest bits first.
use Rattle.std.proofs.Common.{◌≡◌, ◌<◌, ◌≤◌, ℕ, ◌+◌, ◌^◌, ◌&&◌, List, Bool, refl, ◌∙◌, arith, length, take, take_all, get_or}
use Rattle.std.specs.Prelude.{nat_eq, nat_le}
use Rattle.cnf_core.specs.Truth.{Valuation}
use Rattle.gates.specs.declared.bit.Bit.{Bit}
use Rattle.gates.specs.declared.bit.Bit.TheVariants.{Known}
use Rattle.gates.specs.Nets.{Net, IsGate, bit_holds, opposite, exclusive, majority}
use Rattle.gates.proofs.BitLemmas.{same-grows, then-grows, opposite-holds}
use Rattle.word_gates.specs.Spelling.{spelled}
use Rattle.word_gates.proofs.NumberLemmas.{equal-step, at_most-step, zero-step, pow-pos}
use Rattle.word_gates.proofs.WordLemmas.{taken-small, spelled-so-far}

pub known-gate : (net : Net) (b : Bool) (f : Valuation → Bool) → ((v : Valuation) → b ≡ f v) → IsGate net net f (Known b)
known-gate net b f e = record { grows = same-grows net; stands = tt; means = λ v m. e v }

pub equal-more : (old now middle next : Net) (a b : List Bit) (i : ℕ) (same differ off x p q : Bit) → length a ≡ length b → i < length a → p ≡ get_or a i p → q ≡ get_or b i q → IsGate old now (λ v. nat_eq (spelled v (take i a)) (spelled v (take i b))) same → IsGate now middle (λ v. exclusive (bit_holds v p) (bit_holds v q)) differ → off ≡ opposite differ → IsGate middle next (λ v. bit_holds v same && bit_holds v off) x → IsGate old next (λ v. nat_eq (spelled v (take (i + 1) a)) (spelled v (take (i + 1) b))) x
equal-more old now middle next a b i same differ off x p q width in_a is_p is_q g h is_off k = record {
  grows = then-grows old now next g.grows (then-grows now middle next h.grows k.grows);
  stands = k.stands;
  means = λ v m.
      let m2 = k.grows.keeps v m in
      let m1 = h.grows.keeps v m2 in
      let in_b : i < length b = omega (arith, width) in
      k.means v m ∙ rw (is_off, opposite-holds v differ, h.means v m2, g.means v m1, spelled-so-far v a i p in_a is_p, spelled-so-far v b i q in_b is_q) (equal-step (2 ^ i) (spelled v (take i a)) (spelled v (take i b)) (bit_holds v p) (bit_holds v q) (taken-small v a i (omega arith)) (taken-small v b i (omega arith)));
}

pub at_most-more : (old now next : Net) (a b : List Bit) (i : ℕ) (carried off x p q : Bit) → length a ≡ length b → i < length a → p ≡ get_or a i p → q ≡ get_or b i q → IsGate old now (λ v. nat_le (spelled v (take i a)) (spelled v (take i b))) carried → off ≡ opposite p → IsGate now next (λ v. majority (bit_holds v off) (bit_holds v q) (bit_holds v carried)) x → IsGate old next (λ v. nat_le (spelled v (take (i + 1) a)) (spelled v (take (i + 1) b))) x
at_most-more old now next a b i carried off x p q width in_a is_p is_q g is_off k = record {
  grows = then-grows old now next g.grows k.grows;
  stands = k.stands;
  means = λ v m.
      let m1 = k.grows.keeps v m in
      let in_b : i < length b = omega (arith, width) in
      k.means v m ∙ rw (is_off, opposite-holds v p, g.means v m1, spelled-so-far v a i p in_a is_p, spelled-so-far v b i q in_b is_q) (at_most-step (2 ^ i) (spelled v (take i a)) (spelled v (take i b)) (bit_holds v p) (bit_holds v q) (taken-small v a i (omega arith)) (taken-small v b i (omega arith)));
}

pub gate-as : (old now : Net) (f g : Valuation → Bool) (x : Bit) → IsGate old now f x → ((v : Valuation) → f v ≡ g v) → IsGate old now g x
gate-as old now f g x h e = record { grows = h.grows; stands = h.stands; means = λ v m. h.means v m ∙ e v }

pub compared-whole : (old now : Net) (test : ℕ → ℕ → Bool) (a b : List Bit) (i : ℕ) (x : Bit) → length a ≡ length b → length a ≤ i → IsGate old now (λ v. test (spelled v (take i a)) (spelled v (take i b))) x → IsGate old now (λ v. test (spelled v a) (spelled v b)) x
compared-whole old now test a b i x width h g = gate-as old now _ (λ v. test (spelled v a) (spelled v b)) x g (λ v. rw (take_all i a h, take_all i b (omega (arith, width))) refl)

pub zero-more : (old now next : Net) (a : List Bit) (i : ℕ) (zero off x p : Bit) → i < length a → p ≡ get_or a i p → IsGate old now (λ v. nat_eq (spelled v (take i a)) 0) zero → off ≡ opposite p → IsGate now next (λ v. bit_holds v zero && bit_holds v off) x → IsGate old next (λ v. nat_eq (spelled v (take (i + 1) a)) 0) x
zero-more old now next a i zero off x p in_a is_p g is_off k = record {
  grows = then-grows old now next g.grows k.grows;
  stands = k.stands;
  means = λ v m.
      let m1 = k.grows.keeps v m in
      k.means v m ∙ rw (is_off, opposite-holds v p, g.means v m1, spelled-so-far v a i p in_a is_p) (zero-step (2 ^ i) (spelled v (take i a)) (bit_holds v p) (pow-pos i));
}

pub zero-whole : (old now : Net) (a : List Bit) (i : ℕ) (x : Bit) → length a ≤ i → IsGate old now (λ v. nat_eq (spelled v (take i a)) 0) x → IsGate old now (λ v. nat_eq (spelled v a) 0) x
zero-whole old now a i x h g = gate-as old now _ (λ v. nat_eq (spelled v a) 0) x g (λ v. rw (take_all i a h) refl)
