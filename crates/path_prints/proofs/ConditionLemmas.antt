-- What splits say of integers.
use Rattle.std.proofs.Common.{◌≡◌, ℕ, suc, ℤ, List, [], ◌∷◌, Bool, true, false, not, cond, refl, ap, ◌∙◌, arith}
use Rattle.std.specs.Prelude.{Ok, nat_eq, ◌&&◌, ◌||◌, ◌==◌, length, int_lt}
use Rattle.std.proofs.lemmas.Bool.Decides.{nat_tests}
use Rattle.plain_data.specs.declared.width.Width.{Width}
use Rattle.plain_data.specs.declared.width.Width.TheVariants.{W32, W64}
use Rattle.plain_data.specs.Words.{word, signed, is_signed}
use Rattle.plain_data.proofs.WordLaws.{word_below, signed-word}
use Rattle.format_match.specs.Splits.{meets, meet_all}
use Rattle.format_match.specs.declared.split.Constraint.{Constraint}
use Rattle.format_match.specs.declared.split.Constraint.TheVariants.{Equal, Between}
use Rattle.core_tree.specs.Numbers.{int, wrapped}
use Rattle.term_bank.specs.declared.sort.Node.{Node}
use Rattle.term_bank.specs.declared.shape.Connective.TheVariants as connective
use Rattle.term_bank.specs.declared.shape.WordTest.TheVariants as test
use Rattle.term_bank.specs.declared.shape.Shape.{Shape}
use Rattle.term_bank.specs.declared.shape.Shape.TheVariants.{Flag, Constant, Test, Connect, Not}
use Rattle.term_bank.specs.Terms.{Makes}
use Rattle.term_bank.specs.Values.{Worth, Values, outcome_of}
use Rattle.term_bank.proofs.BankLemmas.{weaken, grows_on}
use Rattle.path_states.specs.declared.state.Number.{Number}
use Rattle.path_states.specs.States.{number_in}
use Rattle.path_numbers.specs.Answers.{Numbered, Truthful, Worded}
use Rattle.path_numbers.proofs.WordSums.{wrapped_is}
use Rattle.path_numbers.proofs.DivisionLaws.{fits, is_fit}
use Rattle.path_prints.specs.Arguments.{arg_in, args_in}

pub met_equal : (a b c d : List Shape) (x : Number) (k : ℕ) (w : Width) (n wanted equal : Node) → Worded a b w n (λ v. word w (number_in v x))
    → Makes b c (Constant k w) (Ok wanted) → Makes c d (Test test.Equal w n.index wanted.index) (Ok equal)
    → Truthful a d equal (λ v. meets (Equal k w) (arg_in v x))
unfolding outcome_of
met_equal a b c d x k w n wanted equal h i j = record {
  grows = grows_on h.grows (grows_on i.grows j.grows);
  bank = j.bank;
  term = j.node;
  is = λ e v m.
      let mc = weaken j.grows m in
      ap (λ (w : Worth). w.truth) (j.value.is e v m)
      ∙ ap (λ q. nat_eq (v n.index).word q) (ap (λ (w : Worth). w.word) (i.value.is e v mc))
      ∙ ap (λ q. nat_eq q k) (h.is e v (weaken i.grows mc));
}

pub met_both : (a b c d : List Shape) (first rest both : Node) (p q : Values → Bool) → Truthful a b first p → Truthful b c rest q
    → Makes c d (Connect connective.And first.index rest.index) (Ok both) → Truthful a d both (λ v. p v && q v)
met_both a b c d first rest both p q h i j = record {
  grows = grows_on h.grows (grows_on i.grows j.grows);
  bank = j.bank;
  term = j.node;
  is = λ e v m.
      let mc = weaken j.grows m in
      ap (λ (w : Worth). w.truth) (j.value.is e v m)
      ∙ ap (λ t. cond (v first.index).truth t false) (i.is e v mc)
      ∙ ap (λ t. cond t (q v) false) (h.is e v (weaken i.grows mc))
      ∙ both_as (p v) (q v);
}
  where
    both_as : (c d : Bool) → cond c d false ≡ (c && d)
    both_as true d = refl
    both_as false d = refl

some_left : (n : ℕ) → (suc n == 0) ≡ false
some_left n = grind (arith, nat_tests)

none_all : (v : Values) (cs : List Constraint) (xs : List Number) → length cs ≡ 0 → (length xs == 0) ≡ meet_all cs (args_in v xs)
none_all v [] [] h = refl
none_all v [] (x ∷ xs) h = some_left (length xs)
none_all v (c ∷ cs) xs h = absurd (cc)

pub met_none : (a b : List Shape) (cs : List Constraint) (xs : List Number) (t : Bool) (n : Node) → length cs ≡ 0 → t ≡ (length xs == 0)
    → Makes a b (Flag t) (Ok n) → Truthful a b n (λ v. meet_all cs (args_in v xs))
met_none a b cs xs t n none same h = record {
  grows = h.grows;
  bank = h.bank;
  term = h.node;
  is = λ e v m. ap (λ (w : Worth). w.truth) (h.value.is e v m) ∙ same ∙ none_all v cs xs none;
}

-- ---- the number of a `*`

pub word_made : (a b : List Shape) (k : ℕ) (z w : ℤ) (n : Node) → k ≡ word W64 w → w ≡ z → Makes a b (Constant k W64) (Ok n)
    → Worded a b W64 n (λ v. word W64 z)
word_made a b k z w n is same h = record {
  grows = h.grows;
  bank = h.bank;
  term = h.node;
  is = λ e v m. ap (λ (q : Worth). q.word) (h.value.is e v m) ∙ is ∙ ap (word W64) same;
}

int_fits : (z : ℤ) → is_signed W64 (signed W32 (word W32 z)) ≡ true
int_fits z = is_fit W64 (signed W32 (word W32 z)) (omega (arith, fits W32 (word W32 z) (word_below W32 z)))

-- the order of two numbers, by their words
ordered : (x y : ℤ) (m n : ℕ) → is_signed W64 x ≡ true → is_signed W64 y ≡ true → m ≡ word W64 x → n ≡ word W64 y
    → int_lt (signed W64 m) (signed W64 n) ≡ int_lt x y
ordered x y m n h k i j =
    ap (λ q. int_lt (signed W64 q) (signed W64 n)) i ∙ ap (λ q. int_lt (signed W64 (word W64 x)) (signed W64 q)) j
    ∙ ap (λ q. int_lt q (signed W64 (word W64 y))) (signed-word W64 x h) ∙ ap (int_lt x) (signed-word W64 y k)

either_as : (p q : Bool) → cond p true q ≡ (p || q)
either_as true q = refl
either_as false q = refl

pub met_between : (a b c d f g h i j : List Shape) (x y : Number) (n least most below above outside within : Node) (low high : ℤ)
    → is_signed W64 low ≡ true → is_signed W64 high ≡ true → Numbered a b y (λ v. wrapped int (number_in v x))
    → Worded b c W64 n (λ v. word W64 (number_in v y)) → Worded c d W64 least (λ v. word W64 low) → Worded d f W64 most (λ v. word W64 high)
    → Makes f g (Test test.SignedBelow W64 n.index least.index) (Ok below) → Makes g h (Test test.SignedBelow W64 most.index n.index) (Ok above)
    → Makes h i (Connect connective.Or below.index above.index) (Ok outside) → Makes i j (Not outside.index) (Ok within)
    → Truthful a j within (λ v. meets (Between low high) (arg_in v x))
unfolding outcome_of
met_between a b c d f g h i j x y n least most below above outside within low high small large hy hn hl hm hb ha ho hw =
    let df = hm.grows in let cf = grows_on hl.grows df in let bf = grows_on hn.grows cf in
    record {
      grows = grows_on hy.grows (grows_on bf (grows_on hb.grows (grows_on ha.grows (grows_on ho.grows hw.grows))));
      bank = hw.bank;
      term = hw.node;
      is = λ e v m.
          let mi = weaken hw.grows m in let mh = weaken ho.grows mi in let mg = weaken ha.grows mh in let mf = weaken hb.grows mg in
          let md = weaken df mf in let mc = weaken hl.grows md in let mb = weaken hn.grows mc in
          let z : ℤ = signed W32 (word W32 (number_in v x)) in
          let is_int : number_in v y ≡ z = hy.is e v mb ∙ wrapped_is int (number_in v x) in
          let here : (v n.index).word ≡ word W64 z = hn.is e v mc ∙ ap (word W64) is_int in
          let fit : is_signed W64 z ≡ true = int_fits (number_in v x) in
          let less : (v below.index).truth ≡ int_lt z low =
          ap (λ (q : Worth). q.truth) (hb.value.is e v mg)
          ∙ ordered z low (v n.index).word (v least.index).word fit small here (hl.is e v md) in
          let more : (v above.index).truth ≡ int_lt high z =
          ap (λ (q : Worth). q.truth) (ha.value.is e v mh)
          ∙ ordered high z (v most.index).word (v n.index).word large fit (hm.is e v mf) here in
          ap (λ (q : Worth). q.truth) (hw.value.is e v m)
          ∙ ap not (ap (λ (q : Worth). q.truth) (ho.value.is e v mi)
          ∙ ap (λ q. cond q true (v above.index).truth) less ∙ ap (λ q. cond (int_lt z low) true q) more
          ∙ either_as (int_lt z low) (int_lt high z));
    }
