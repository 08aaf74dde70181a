-- A ripple-carry adder's loop.
use Rattle.std.proofs.Common.{◌≡◌, ◌<◌, ◌++◌, ◌∷◌, [], ℕ, ◌+◌, ◌*◌, ◌^◌, List, refl, sym, ap, ◌∙◌, arith, length, take, get_or, take_all, add-one}
use Rattle.std.proofs.lemmas.List.{length_push}
use Rattle.std.proofs.lemmas.List.Elements.{All-nil}
use Rattle.std.proofs.Math.Nat.{pow-succ'}
use Rattle.cnf_core.specs.Truth.{Valuation}
use Rattle.gates.specs.declared.bit.Bit.{Bit}
use Rattle.gates.specs.Nets.{Net, IsModel, Grows, IsBit, IsGate, bit_holds, exclusive, majority}
use Rattle.gates.proofs.BitLemmas.{same-grows, then-grows, bit-grown}
use Rattle.word_gates.specs.declared.sums.Column.{Column}
use Rattle.word_gates.specs.Spelling.{number, AreBits, spelled}
use Rattle.word_gates.specs.Sums.{IsColumn, IsSum}
use Rattle.word_gates.proofs.NumberLemmas.{add-table, column-sum}
use Rattle.word_gates.proofs.WordLemmas.{bits-push, spelled-push, spelled-so-far}

pub column-of : (g0 g1 g2 g3 : Net) (half bit carry a b c : Bit) → IsGate g0 g1 (λ v. exclusive (bit_holds v a) (bit_holds v b)) half → IsGate g1 g2 (λ v. exclusive (bit_holds v half) (bit_holds v c)) bit → IsGate g2 g3 (λ v. majority (bit_holds v a) (bit_holds v b) (bit_holds v c)) carry → IsColumn g0 g3 (λ v. number (bit_holds v a) + number (bit_holds v b) + number (bit_holds v c)) (record { bit = bit; carry = carry })
column-of g0 g1 g2 g3 half bit carry a b c p q r = record {
  grows = then-grows g0 g1 g3 p.grows (then-grows g1 g2 g3 q.grows r.grows);
  bit_stands = bit-grown g2 g3 bit r.grows q.stands;
  carry_stands = r.stands;
  means = λ v h.
      let h2 = r.grows.keeps v h in
      let h1 = q.grows.keeps v h2 in
      rw (r.means v h, q.means v h2, p.means v h1) (add-table (bit_holds v a) (bit_holds v b) (bit_holds v c));
}

pub record Adding (old now : Net) (a b : List Bit) (carry : Bit) (i : ℕ) (word : List Bit) (carried : Bit) : Type 0 where
  pub grows : Grows old now
  pub stand : AreBits now word
  pub carry_stands : IsBit now carried
  pub width : length word ≡ i
  pub means : (v : Valuation) → IsModel now v → spelled v word + 2 ^ i * number (bit_holds v carried) ≡ spelled v (take i a) + spelled v (take i b) + number (bit_holds v carry)

pub adding-start : (g : Net) (a b : List Bit) (carry : Bit) → IsBit g carry → Adding g g a b carry 0 [] carry
adding-start g a b carry h = record {
  grows = same-grows g;
  stand = All-nil (IsBit g);
  carry_stands = h;
  width = refl;
  means = λ v _. omega arith;
}

pub adding-more : (old now next : Net) (a b : List Bit) (carry : Bit) (i : ℕ) (word longer : List Bit) (carried : Bit) (after : Column) (p q : Bit) → Adding old now a b carry i word carried → length a ≡ length b → i < length a → p ≡ get_or a i p → q ≡ get_or b i q → IsColumn now next (λ v. number (bit_holds v p) + number (bit_holds v q) + number (bit_holds v carried)) after → longer ≡ word ++ after.bit ∷ [] → Adding old next a b carry (i + 1) longer after.carry
adding-more old now next a b carry i word longer carried after p q s same in_a is_p is_q column is = record {
  grows = then-grows old now next s.grows column.grows;
  stand = rw is (bits-push now next word after.bit column.grows s.stand column.bit_stands);
  carry_stands = column.carry_stands;
  width = rw is (length_push word after.bit ∙ ap (λ n. n + 1) s.width);
  means = λ v h.
      let in_b : i < length b = omega (arith, same) in
      let before = s.means v (column.grows.keeps v h) in
      let power : 2 ^ (i + 1) ≡ 2 * 2 ^ i = rw (add-one i) (pow-succ' 2 i) in
      let sum = column-sum (2 ^ i) (spelled v word) (number (bit_holds v after.bit)) (number (bit_holds v after.carry)) (number (bit_holds v p)) (number (bit_holds v q)) (number (bit_holds v carried)) (spelled v (take i a)) (spelled v (take i b)) (number (bit_holds v carry)) (column.means v h) before in
      let spelled_word : spelled v longer ≡ spelled v word + 2 ^ i * number (bit_holds v after.bit) = rw is (spelled-push v word after.bit ∙ ap (λ n. spelled v word + 2 ^ n * number (bit_holds v after.bit)) s.width) in
      rw (power, spelled-so-far v a i p in_a is_p, spelled-so-far v b i q in_b is_q, spelled_word) sum;
}

pub adding-end : (old now : Net) (a b : List Bit) (carry : Bit) (i : ℕ) (word : List Bit) (carried : Bit) → Adding old now a b carry i word carried → i ≡ length a → length a ≡ length b → IsSum old now (length a) (λ v. spelled v a + spelled v b + number (bit_holds v carry)) (record { word = word; carry = carried })
adding-end old now a b carry i word carried s is same = record {
  width = s.width ∙ is;
  grows = s.grows;
  stand = s.stand;
  carry_stands = s.carry_stands;
  means = λ v h.
      let whole_a : take i a ≡ a = take_all i a (omega (arith, is)) in
      let whole_b : take i b ≡ b = take_all i b (omega (arith, is, same)) in
      let both : spelled v (take i a) + spelled v (take i b) ≡ spelled v a + spelled v b = rw (whole_a, whole_b) refl in
      let total = s.means v h in
      let power : 2 ^ length a ≡ 2 ^ i = ap (λ n. 2 ^ n) (sym is) in
      ap (λ p. spelled v word + p * number (bit_holds v carried)) power ∙ total ∙ ap (λ t. t + number (bit_holds v carry)) both;
}
