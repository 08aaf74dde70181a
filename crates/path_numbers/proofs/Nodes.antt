-- What nodes say of numbers.
use Rattle.std.proofs.Common.{◌≡◌, ℕ, ◌-◌, ◌^◌, ◌<◌, List, Bool, true, false, not, cond, refl, sym, ap, ◌∙◌, arith}
use Rattle.std.proofs.Common.{ℤ, pos, negsuc}
use Rattle.std.specs.Prelude.{Ok, nat_eq, int_lt, ◌&&◌}
use Rattle.std.proofs.lemmas.Bool.Decides.{nat_tests}
use Rattle.plain_data.specs.declared.width.Width.{Width}
use Rattle.plain_data.specs.declared.width.Width.TheVariants.{W32, W64}
use Rattle.plain_data.specs.Words.{bits, word}
use Rattle.plain_data.proofs.WordLaws.{signed-word}
use Rattle.c_language.specs.Integers.{is_zero, number_of}
use Rattle.core_tree.specs.declared.types.WordType.{WordType}
use Rattle.core_tree.specs.Numbers.{is_in, value_of_word, wrapped, int}
use Rattle.term_bank.specs.declared.sort.Sort.TheVariants as sort
use Rattle.term_bank.specs.declared.sort.Node.{Node}
use Rattle.term_bank.specs.declared.shape.WordTest.TheVariants as test
use Rattle.term_bank.specs.declared.shape.Shape.{Shape}
use Rattle.term_bank.specs.declared.shape.Shape.TheVariants.{Constant, Convert, Test, Not, Choose}
use Rattle.term_bank.specs.Banks.{IsBank}
use Rattle.term_bank.specs.Terms.{IsTerm, Makes}
use Rattle.term_bank.specs.Values.{Environment, Worth, Values, Models, converted, outcome_of}
use Rattle.term_bank.proofs.BankLemmas.{weaken, stays, grows_on}
use Rattle.term_bank.proofs.BindingLemmas.{node_sorted}
use Rattle.term_bank.proofs.TermLemmas.{part_of, term_grown}
use Rattle.path_states.specs.declared.state.Number.{Number}
use Rattle.path_states.specs.States.{IsNumber, number_in}
use Rattle.path_numbers.specs.Answers.{Numbered, Truthful, Worded, extension_of}
use Rattle.path_numbers.proofs.WordSums.{of_type, word-pos, word_of_value, wrapped_is, in_signed, zero_word}

pub truth_is : {x y : Worth} → x ≡ y → x.truth ≡ y.truth
truth_is h = ap (λ (w : Worth). w.truth) h

pub word_is : {x y : Worth} → x ≡ y → x.word ≡ y.word
word_is h = ap (λ (w : Worth). w.word) h

-- a node's word is below 2^N
pub term_below : (b : List Shape) (w : Width) (n : Node) (e : Environment) (v : Values) → IsBank b → IsTerm b (sort.Word w) n
    → Models b e v → (v n.index).word < 2 ^ bits w
term_below b w n e v bank term m =
    let h = node_sorted b e v (record { index = n.index; sort = sort.Word w }) bank (part_of b (sort.Word w) n term) m in h.1

-- ---- words of numbers

pub in_same_width : (b : List Shape) (x : Number) (w : Width) → IsBank b → IsNumber b x → x.word.width ≡ w
    → Worded b b w x.node (λ v. word w (number_in v x))
in_same_width b x w bank number same = record {
  grows = stays;
  bank = bank;
  term = rw (← same) number.term;
  is = λ e v m.
      rw (← same) (sym (word_of_value x.word.is_signed x.word.width (v x.node.index).word (term_below b x.word.width x.node e v bank number.term m)));
}

converted_by : (s : Bool) (from to : Width) (a : ℕ) → converted (extension_of s) from to a ≡ word to (value_of_word (of_type s from) a)
unfolding converted
converted_by true from to a = refl
converted_by false from to a = refl

pub in_other_width : (a b : List Shape) (x : Number) (w : Width) (n : Node)
    → Makes a b (Convert (extension_of x.word.is_signed) x.word.width w x.node.index) (Ok n)
    → Worded a b w n (λ v. word w (number_in v x))
in_other_width a b x w n h = record {
  grows = h.grows;
  bank = h.bank;
  term = h.node;
  is = λ e v m. word_is (h.value.is e v m) ∙ converted_by x.word.is_signed x.word.width w (v x.node.index).word;
}

-- ---- numbers

pub numbered_wrapped : (a b : List Shape) (t : WordType) (n : Node) (z : Values → ℤ) → Worded a b t.width n (λ v. word t.width (z v))
    → Numbered a b (record { node = n; word = t }) (λ v. wrapped t (z v))
numbered_wrapped a b t n z h = record {
  grows = h.grows;
  bank = h.bank;
  number = record { term = h.term };
  is = λ e v m. ap (value_of_word t) (h.is e v m) ∙ sym (wrapped_is t (z v));
}

pub numbered_same : (b : List Shape) (x : Number) → IsBank b → IsNumber b x → Numbered b b x (λ v. number_in v x)
numbered_same b x bank number = record { grows = stays; bank = bank; number = number; is = λ e v m. refl }

least_in : (z : ℤ) (N : ℕ) → (not (int_lt z (pos 0)) && not (int_lt (pos (N - 1)) z)) ≡ true → 0 < N → (k : ℕ) × (z ≡ pos k) × (k < N)
least_in (pos k) N h some = (k, refl, grind (arith, nat_tests))
least_in (negsuc k) N h some = cc

in_unsigned : (w : Width) (z : ℤ) → 0 < 2 ^ bits w → is_in (of_type false w) z ≡ true → pos (word w z) ≡ z
in_unsigned w z some h =
    let e = least_in z (2 ^ bits w) h some in
    rw e.1 (ap pos (word-pos w e.0 e.2))

some_words : (w : Width) → 0 < 2 ^ bits w
some_words w = omega (arith, Rattle.plain_data.proofs.WordLaws.word_below w (pos 0))

pub value_of_in : (t : WordType) (z : ℤ) → is_in t z ≡ true → value_of_word t (word t.width z) ≡ z
value_of_in t z h = by t.is_signed t.width z h
  where
    by : (s : Bool) (w : Width) (z : ℤ) → is_in (of_type s w) z ≡ true → value_of_word (of_type s w) (word w z) ≡ z
    by true w z h = signed-word w z (sym (in_signed w z) ∙ h)
    by false w z h = in_unsigned w z (some_words w) h

pub numbered_constant : (a b : List Shape) (t : WordType) (n : Node) (x : ℕ) (z : ℤ) → is_in t z ≡ true → x ≡ word t.width z
    → Makes a b (Constant x t.width) (Ok n) → Numbered a b (record { node = n; word = t }) (λ v. z)
numbered_constant a b t n x z h e m = record {
  grows = m.grows;
  bank = m.bank;
  number = record { term = m.node };
  is = λ env v k. ap (value_of_word t) (word_is (m.value.is env v k) ∙ e) ∙ value_of_in t z h;
}

-- ---- truths

pub truthful : (a b c d : List Shape) (x : Number) (none equal n : Node) → IsNumber a x
    → Makes a b (Constant 0 x.word.width) (Ok none) → Makes b c (Test test.Equal x.word.width x.node.index none.index) (Ok equal)
    → Makes c d (Not equal.index) (Ok n) → Truthful a d n (λ v. not (is_zero (number_in v x)))
unfolding outcome_of
truthful a b c d x none equal n number h i j =
    let g = grows_on h.grows (grows_on i.grows j.grows) in
    record {
      grows = g;
      bank = j.bank;
      term = j.node;
      is = λ e v m.
          let mc = weaken j.grows m in
          truth_is (j.value.is e v m)
          ∙ ap not (truth_is (i.value.is e v mc)
          ∙ ap (λ k. nat_eq (v x.node.index).word k) (word_is (h.value.is e v (weaken i.grows mc)))
          ∙ sym (zero_word x.word.is_signed x.word.width (v x.node.index).word
          (term_below d x.word.width x.node e v j.bank (term_grown a d _ x.node g number.term) m)));
    }

flag_of : (c : Bool) (x y z : Worth) → z ≡ cond c x y → x.word ≡ 1 → y.word ≡ 0 → value_of_word int z.word ≡ number_of c
flag_of true x y z h i j = ap (value_of_word int) (word_is h ∙ i)
flag_of false x y z h i j = ap (value_of_word int) (word_is h ∙ j)

pub flagged : (a b c d : List Shape) (t one none n : Node) → Makes a b (Constant 1 W32) (Ok one) → Makes b c (Constant 0 W32) (Ok none)
    → Makes c d (Choose (sort.Word W32) t.index one.index none.index) (Ok n)
    → Numbered a d (record { node = n; word = int }) (λ v. number_of (v t.index).truth)
flagged a b c d t one none n h i j = record {
  grows = grows_on h.grows (grows_on i.grows j.grows);
  bank = j.bank;
  number = record { term = j.node };
  is = λ e v m.
      let mc = weaken j.grows m in
      flag_of (v t.index).truth (v one.index) (v none.index) (v n.index) (j.value.is e v m)
      (word_is (h.value.is e v (weaken i.grows mc))) (word_is (i.value.is e v mc));
}

pub numbered_flag : (a b c : List Shape) (t : Node) (x : Number) (is : Values → Bool) → Truthful a b t is
    → Numbered b c x (λ v. number_of (v t.index).truth) → Numbered a c x (λ v. number_of (is v))
numbered_flag a b c t x is h i = record {
  grows = grows_on h.grows i.grows;
  bank = i.bank;
  number = i.number;
  is = λ e v m. i.is e v m ∙ ap number_of (h.is e v (weaken i.grows m));
}

pub numbered_address : (a b : List Shape) (n : Node) (z : Values → ℤ) → Worded a b W64 n (λ v. word W64 (z v))
    → Numbered a b (record { node = n; word = record { width = W64; is_signed = false } }) (λ v. pos (word W64 (z v)))
numbered_address a b n z h = record {
  grows = h.grows;
  bank = h.bank;
  number = record { term = h.term };
  is = λ e v m. ap pos (h.is e v m);
}
