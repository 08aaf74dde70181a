-- Addresses by numbers.
use Rattle.std.proofs.Common.{◌≡◌, List, ℕ, suc, ◌+◌, ◌-◌, ◌%◌, ◌^◌, ◌<◌, ◌≤◌, ℤ, pos, negsuc, Bool, true, false, cond, ap, ◌∙◌, arith}
use Rattle.std.specs.Prelude.{Ok, unsigned_abs, int_lt}
use Rattle.std.specs.Int.Signed.{mag}
use Rattle.std.proofs.lemmas.Bool.Decides.{nat_tests}
use Rattle.std.proofs.Math.Nat.{mod-eq_of_lt}
use Rattle.plain_data.specs.declared.width.Width.{Width}
use Rattle.plain_data.specs.declared.width.Width.TheVariants.{W8, W16, W32, W64}
use Rattle.plain_data.specs.Words.{bits, word, signed, sub, slt}
use Rattle.plain_data.proofs.WordLaws.{signed-word}
use Rattle.core_tree.specs.Numbers.{value_of_word}
use Rattle.term_bank.specs.declared.sort.Sort.TheVariants as sort
use Rattle.term_bank.specs.declared.sort.Node.{Node}
use Rattle.term_bank.specs.declared.shape.WordOperator.TheVariants as operator
use Rattle.term_bank.specs.declared.shape.WordTest.TheVariants as test
use Rattle.term_bank.specs.declared.shape.Shape.{Shape}
use Rattle.term_bank.specs.declared.shape.Shape.TheVariants.{Constant, Binary, Test, Choose}
use Rattle.term_bank.specs.Terms.{Makes}
use Rattle.term_bank.specs.Values.{Worth, result_of, outcome_of}
use Rattle.term_bank.proofs.BankLemmas.{weaken, grows_on}
use Rattle.term_bank.proofs.TermLemmas.{term_grown}
use Rattle.path_states.specs.declared.state.Number.{Number}
use Rattle.path_states.specs.States.{IsNumber, number_in}
use Rattle.path_numbers.specs.Answers.{Worded}
use Rattle.path_numbers.proofs.WordSums.{of_type}
use Rattle.path_numbers.proofs.DivisionLaws.{fits, is_fit}
use Rattle.path_numbers.proofs.Nodes.{term_below}

most_bits : (w : Width) → 2 ^ bits w ≤ 2 ^ 64
most_bits W8 = omega arith
most_bits W16 = omega arith
most_bits W32 = omega arith
most_bits W64 = omega arith

most_half : (w : Width) → 2 ^ (bits w - 1) ≤ 2 ^ 63
most_half W8 = omega arith
most_half W16 = omega arith
most_half W32 = omega arith
most_half W64 = omega arith

-- an unsigned number is its word
unsigned_word : (s : Bool) (w : Width) (a : ℕ) → s ≡ false → a < 2 ^ bits w
    → word W64 (value_of_word (of_type s w) a) ≡ unsigned_abs (value_of_word (of_type s w) a)
unsigned_word true w a e h = cc
unsigned_word false w a e h = let small : a < 2 ^ 64 = omega (arith, most_bits w) in mod-eq_of_lt small

pub natural_unsigned : (a b : List Shape) (x : Number) (n : Node) → IsNumber a x → x.word.is_signed ≡ false
    → Worded a b W64 n (λ v. word W64 (number_in v x)) → Worded a b W64 n (λ v. unsigned_abs (number_in v x))
natural_unsigned a b x n number e h = record {
  grows = h.grows;
  bank = h.bank;
  term = h.term;
  is = λ env v m.
      h.is env v m
      ∙ unsigned_word x.word.is_signed x.word.width (v x.node.index).word e
      (term_below b x.word.width x.node env v h.bank (term_grown a b _ x.node h.grows number.term) m);
}

none_less : (k : ℕ) → int_lt (pos k) (pos 0) ≡ false
none_less k = grind (arith, nat_tests)

-- of a number of 64 bits with a sign
magnitude : (z : ℤ) → mag z < 2 ^ 63
    → cond (int_lt (signed W64 (word W64 z)) (pos 0)) ((0 + (2 ^ 64 - word W64 z)) % 2 ^ 64) (word W64 z) ≡ unsigned_abs z
magnitude (pos k) h =
    let small : k < 2 ^ 64 = omega arith in
    let back : signed W64 (word W64 (pos k)) ≡ pos k = signed-word W64 (pos k) (is_fit W64 (pos k) h) in
    ap (λ z. cond (int_lt z (pos 0)) ((0 + (2 ^ 64 - word W64 (pos k))) % 2 ^ 64) (word W64 (pos k))) back
    ∙ ap (λ (c : Bool). cond c ((0 + (2 ^ 64 - word W64 (pos k))) % 2 ^ 64) (word W64 (pos k))) (none_less k) ∙ mod-eq_of_lt small
magnitude (negsuc k) h =
    let small : k % 2 ^ 64 ≡ k = mod-eq_of_lt (omega arith) in
    let low : suc k < 2 ^ 64 = omega arith in
    let e : 0 + (2 ^ 64 - word W64 (negsuc k)) ≡ suc k = omega (arith, small) in
    let back : signed W64 (word W64 (negsuc k)) ≡ negsuc k = signed-word W64 (negsuc k) (is_fit W64 (negsuc k) h) in
    ap (λ z. cond (int_lt z (pos 0)) ((0 + (2 ^ 64 - word W64 (negsuc k))) % 2 ^ 64) (word W64 (negsuc k))) back
    ∙ ap (λ n. n % 2 ^ 64) e ∙ mod-eq_of_lt low

small_value : (s : Bool) (w : Width) (a : ℕ) → s ≡ true → a < 2 ^ bits w → mag (value_of_word (of_type s w) a) < 2 ^ 63
small_value true w a e h = omega (arith, fits w a h, most_half w)
small_value false w a e h = cc

choose_word : (c : Bool) (x y z : Worth) → z ≡ cond c x y → z.word ≡ cond c x.word y.word
choose_word true x y z h = ap (λ (w : Worth). w.word) h
choose_word false x y z h = ap (λ (w : Worth). w.word) h

pub natural_signed : (a b c d f g : List Shape) (x : Number) (n none negative opposite r : Node) → IsNumber a x → x.word.is_signed ≡ true
    → Worded a b W64 n (λ v. word W64 (number_in v x)) → Makes b c (Constant 0 W64) (Ok none)
    → Makes c d (Test test.SignedBelow W64 n.index none.index) (Ok negative)
    → Makes d f (Binary operator.Sub W64 none.index n.index) (Ok opposite)
    → Makes f g (Choose (sort.Word W64) negative.index opposite.index n.index) (Ok r)
    → Worded a g W64 r (λ v. unsigned_abs (number_in v x))
unfolding result_of outcome_of
natural_signed a b c d f g x n none negative opposite r number s h hz hn ho hr =
    let fg = hr.grows in let dg = grows_on ho.grows fg in let cg = grows_on hn.grows dg in let bg = grows_on hz.grows cg in
    record {
      grows = grows_on h.grows bg;
      bank = hr.bank;
      term = hr.node;
      is = λ e v m.
          let mf = weaken fg m in let md = weaken dg m in let mc = weaken cg m in let mb = weaken bg m in
          let z = number_in v x in
          let low = term_below b x.word.width x.node e v h.bank (term_grown a b _ x.node h.grows number.term) mb in
          let nothing : (v none.index).word ≡ 0 = ap (λ (w : Worth). w.word) (hz.value.is e v mc) in
          choose_word (v negative.index).truth (v opposite.index) (v n.index) (v r.index) (hr.value.is e v m)
          ∙ ap (λ (t : Bool). cond t (v opposite.index).word (v n.index).word)
          (ap (λ (w : Worth). w.truth) (hn.value.is e v md) ∙ ap (λ k. slt W64 (v n.index).word k) nothing)
          ∙ ap (λ k. cond (slt W64 (v n.index).word 0) k (v n.index).word)
          (ap (λ (w : Worth). w.word) (ho.value.is e v mf) ∙ ap (λ k. sub W64 k (v n.index).word) nothing)
          ∙ ap (λ k. cond (slt W64 k 0) (sub W64 0 k) k) (h.is e v mb)
          ∙ magnitude z (small_value x.word.is_signed x.word.width (v x.node.index).word s low);
    }
