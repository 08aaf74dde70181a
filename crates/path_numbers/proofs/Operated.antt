-- Operators' answers by the nodes of their words.
use Rattle.std.proofs.Common.{◌≡◌, ℕ, List, Bool, true, false, not, cond, Option, Some, None, refl, sym, ap, ◌∙◌}
use Rattle.std.proofs.Common.{ℤ, pos, negsuc, ◌-ℤ◌}
use Rattle.std.specs.Prelude.{Ok, Err, nat_eq, nat_lt}
use Rattle.plain_data.specs.declared.width.Width.{Width}
use Rattle.plain_data.specs.declared.run.Undefined.{Undefined}
use Rattle.plain_data.specs.declared.run.Undefined.TheVariants.{Overflow, ZeroDivisor, Shift}
use Rattle.plain_data.specs.Words.{bits, word, sub, ult, slt}
use Rattle.plain_data.proofs.WordLaws.{word-sub}
use Rattle.plain_data.specs.declared.width.Width.TheVariants.{W8, W16, W32, W64}
use Rattle.c_language.specs.Integers.{number_of}
use Rattle.c_language.specs.Operators.{Answer}
use Rattle.core_tree.specs.declared.types.WordType.{WordType}
use Rattle.core_tree.specs.declared.types.Arithmetic.TheVariants as o
use Rattle.core_tree.specs.declared.types.Turning.TheVariants as turning
use Rattle.core_tree.specs.Numbers.{value_of_word, wrapped, exact, worked, turned, is_far, precedes, differs}
use Rattle.term_bank.specs.declared.sort.Node.{Node}
use Rattle.term_bank.specs.declared.shape.WordOperator.{WordOperator}
use Rattle.term_bank.specs.declared.shape.WordOperator.TheVariants as operator
use Rattle.term_bank.specs.declared.shape.WordTest.{WordTest}
use Rattle.term_bank.specs.declared.shape.WordTest.TheVariants as test
use Rattle.term_bank.specs.declared.shape.Shape.{Shape}
use Rattle.term_bank.specs.declared.shape.Shape.TheVariants.{Binary, Test, Constant, Not}
use Rattle.term_bank.specs.Banks.{IsBank}
use Rattle.term_bank.specs.Terms.{Makes}
use Rattle.term_bank.specs.Values.{Environment, Values, Models, Grows, result_of, outcome_of}
use Rattle.term_bank.proofs.BankLemmas.{weaken, stays, grows_on}
use Rattle.term_bank.proofs.TermLemmas.{term_grown}
use Rattle.path_states.specs.declared.state.Number.{Number}
use Rattle.path_states.specs.States.{IsNumber, number_in}
use Rattle.path_numbers.specs.declared.operators.Words.{Words}
use Rattle.path_numbers.specs.declared.tested.Fault.{Fault}
use Rattle.path_numbers.specs.declared.tested.Tested.{Tested}
use Rattle.path_numbers.specs.Answers.{Worded, AreWords, Faulty, IsMaybeFault, Answers, failing, faults_in, fits_in, divides_in, by_sign, test_by_sign, Truthful, Numbered}
use Rattle.path_numbers.proofs.WordSums.{of_type, added, subtracted, multiplied, less_than, equal_to, wrapped_is}
use Rattle.path_numbers.proofs.DivisionLaws.{quotient_is, remainder_is}
use Rattle.path_numbers.proofs.ShiftLaws.{far_is, shifted_left_is, shifted_right_is}
use Rattle.path_numbers.proofs.Nodes.{truth_is, word_is, term_below}

-- ---- words

pub both_words : (a b c : List Shape) (w : Width) (x y : Node) (left right : Values → ℕ) → Worded a b w x left → Worded b c w y right
    → AreWords a c w (record { left = x; right = y }) left right
both_words a b c w x y left right h i = record {
  grows = grows_on h.grows i.grows;
  bank = i.bank;
  left_term = term_grown b c _ x i.grows h.term;
  right_term = i.term;
  left_is = λ e v m. h.is e v (weaken i.grows m);
  right_is = λ e v m. i.is e v m;
}

-- ---- faults

fault_none : (s c : Bool) (kind : Undefined) (x : Answer) → s ≡ false → x ≡ cond (cond s c false) (Err kind) x
fault_none s c kind x h = rw h refl

pub no_fault : (b : List Shape) (t : WordType) (kind : Undefined) (k : WordTest) (x y : Node) → IsBank b → t.is_signed ≡ false
    → Faulty b b None (faults_in t kind k x y)
no_fault b t kind k x y bank h = record {
  grows = stays;
  bank = bank;
  fault = tt;
  is = λ e v m z. fault_none t.is_signed (outcome_of k t.width (v x.index).word (v y.index).word) kind z h;
}

fault_some : (s c d : Bool) (kind : Undefined) (x : Answer) → s ≡ true → d ≡ c → cond d (Err kind) x ≡ cond (cond s c false) (Err kind) x
fault_some s c d kind x h k = rw (h, k) refl

pub a_fault : (a b : List Shape) (t : WordType) (kind : Undefined) (k : WordTest) (x y n : Node) → t.is_signed ≡ true
    → Makes a b (Test k t.width x.index y.index) (Ok n) → Faulty a b (Some (record { truth = n; kind = kind })) (faults_in t kind k x y)
a_fault a b t kind k x y n h m = record {
  grows = m.grows;
  bank = m.bank;
  fault = record { term = m.node };
  is = λ e v l z.
      fault_some t.is_signed (outcome_of k t.width (v x.index).word (v y.index).word) (v n.index).truth kind z h
      (truth_is (m.value.is e v l));
}

pub fault_grown : {a b : List Shape} (g : Grows a b) (f : Option Fault) → IsMaybeFault a f → IsMaybeFault b f
fault_grown g None h = tt
fault_grown {a} {b} g (Some f) h = record { term = term_grown a b _ f.truth g h.term }

pub of_not_true : (s : Bool) → not s ≡ true → s ≡ false
of_not_true true h = cc
of_not_true false h = refl

pub of_not_false : (s : Bool) → not s ≡ false → s ≡ true
of_not_false true h = refl
of_not_false false h = cc

-- ---- answers

pub one_fault : (a b c : List Shape) (t : WordType) (k : WordOperator) (l : WordTest) (x y n : Node) (f : Option Fault)
    → Faulty a b f (faults_in t Overflow l x y) → Makes b c (Binary k t.width x.index y.index) (Ok n)
    → Answers a c (record { number = record { node = n; word = t }; first = f; second = None }) (fits_in t k l x y)
one_fault a b c t k l x y n f h m = record {
  grows = grows_on h.grows m.grows;
  bank = m.bank;
  number = record { term = m.node };
  first = fault_grown m.grows f h.fault;
  second = tt;
  is = λ e v i.
      h.is e v (weaken m.grows i) (Ok (value_of_word t (v n.index).word))
      ∙ ap (λ q. faults_in t Overflow l x y v (Ok (value_of_word t q))) (word_is (m.value.is e v i));
}

pub answers_as : (a b c : List Shape) (x : Tested) (f g : Values → Answer) → Grows a b → Answers b c x f
    → ((e : Environment) (v : Values) → Models c e v → f v ≡ g v) → Answers a c x g
answers_as a b c x f g grows h same = record {
  grows = grows_on grows h.grows;
  bank = h.bank;
  number = h.number;
  first = h.first;
  second = h.second;
  is = λ e v m. h.is e v m ∙ same e v m;
}

module _ (a b c : List Shape) (t : WordType) (w : Words) (x : Tested) (p q : Values → ℤ)
    (h : AreWords a b t.width w (λ v. word t.width (p v)) (λ v. word t.width (q v))) where
  pub summed : Answers b c x (fits_in t operator.Add test.AddOver w.left w.right) → Answers a c x (λ v. worked o.Add t (p v) (q v))
  unfolding result_of outcome_of
  summed i =
      answers_as a b c x (fits_in t operator.Add test.AddOver w.left w.right) (λ v. worked o.Add t (p v) (q v)) h.grows i (λ e v m.
      let n = weaken i.grows m in
      sym (added t.width (p v) (q v) (v w.left.index).word (v w.right.index).word (h.left_is e v n) (h.right_is e v n) t.is_signed))

  pub differing : Answers b c x (fits_in t operator.Sub test.SubOver w.left w.right)
      → Answers a c x (λ v. worked o.Subtract t (p v) (q v))
  unfolding result_of outcome_of
  differing i =
      answers_as a b c x (fits_in t operator.Sub test.SubOver w.left w.right) (λ v. worked o.Subtract t (p v) (q v)) h.grows i (λ e v m.
      let n = weaken i.grows m in
      sym (subtracted t.width (p v) (q v) (v w.left.index).word (v w.right.index).word (h.left_is e v n) (h.right_is e v n) t.is_signed))

  pub producing : Answers b c x (fits_in t operator.Mul test.MulOver w.left w.right)
      → Answers a c x (λ v. worked o.Multiply t (p v) (q v))
  unfolding result_of outcome_of
  producing i =
      answers_as a b c x (fits_in t operator.Mul test.MulOver w.left w.right) (λ v. worked o.Multiply t (p v) (q v)) h.grows i (λ e v m.
      let n = weaken i.grows m in
      sym (multiplied t.width (p v) (q v) (v w.left.index).word (v w.right.index).word (h.left_is e v n) (h.right_is e v n) t.is_signed))

-- ---- divisions

pub division : (a b c d f : List Shape) (t : WordType) (k : WordOperator) (x y none equal n : Node) (g : Option Fault)
    → Makes a b (Constant 0 t.width) (Ok none) → Makes b c (Test test.Equal t.width y.index none.index) (Ok equal)
    → Faulty c d g (faults_in t Overflow test.DivOver x y) → Makes d f (Binary k t.width x.index y.index) (Ok n)
    → Answers a f (record {
      number = record { node = n; word = t };
      first = Some (record { truth = equal; kind = ZeroDivisor });
      second = g;
    }) (divides_in t k x y)
unfolding outcome_of
division a b c d f t k x y none equal n g hz he hg hn =
    let df = hn.grows in let cf = grows_on hg.grows df in let bf = grows_on he.grows cf in
    record {
      grows = grows_on hz.grows bf;
      bank = hn.bank;
      number = record { term = hn.node };
      first = record { term = term_grown c f _ equal cf he.node };
      second = fault_grown df g hg.fault;
      is = λ e v m.
          let md = weaken df m in
          ap (λ (r : Bool). cond r (Err ZeroDivisor) (failing v g (Ok (value_of_word t (v n.index).word))))
          (truth_is (he.value.is e v (weaken cf m)) ∙ ap (λ q. nat_eq (v y.index).word q) (word_is (hz.value.is e v (weaken bf m))))
          ∙ ap (λ r. cond (nat_eq (v y.index).word 0) (Err ZeroDivisor) r)
          (hg.is e v md (Ok (value_of_word t (v n.index).word))
          ∙ ap (λ q. faults_in t Overflow test.DivOver x y v (Ok (value_of_word t q))) (word_is (hn.value.is e v m)));
    }

by_either : (s : Bool) (k l : WordOperator) (w : Width) (a b : ℕ) → result_of (by_sign s k l) w a b ≡ cond s (result_of k w a b) (result_of l w a b)
by_either true k l w a b = refl
by_either false k l w a b = refl

module _ (a b c : List Shape) (t : WordType) (w : Words) (x : Tested) (p q : Values → ℤ)
    (h : AreWords a b t.width w (λ v. word t.width (p v)) (λ v. word t.width (q v))) where
  pub dividing : Answers b c x (divides_in t (by_sign t.is_signed operator.Sdiv operator.Udiv) w.left w.right)
      → Answers a c x (λ v. worked o.Divide t (p v) (q v))
  unfolding result_of outcome_of
  dividing i =
      answers_as a b c x (divides_in t (by_sign t.is_signed operator.Sdiv operator.Udiv) w.left w.right) (λ v. worked o.Divide t (p v) (q v))
      h.grows i (λ e v m.
      let n = weaken i.grows m in
      ap (λ r. cond (nat_eq (v w.right.index).word 0) (Err ZeroDivisor) (faults_in t Overflow test.DivOver w.left w.right v (Ok (value_of_word t r))))
      (by_either t.is_signed operator.Sdiv operator.Udiv t.width (v w.left.index).word (v w.right.index).word)
      ∙ sym (quotient_is t.width (p v) (q v) (v w.left.index).word (v w.right.index).word (h.left_is e v n) (h.right_is e v n) t.is_signed))

  pub remaining : Answers b c x (divides_in t (by_sign t.is_signed operator.Srem operator.Urem) w.left w.right)
      → Answers a c x (λ v. worked o.Remainder t (p v) (q v))
  unfolding result_of outcome_of
  remaining i =
      answers_as a b c x (divides_in t (by_sign t.is_signed operator.Srem operator.Urem) w.left w.right) (λ v. worked o.Remainder t (p v) (q v))
      h.grows i (λ e v m.
      let n = weaken i.grows m in
      ap (λ r. cond (nat_eq (v w.right.index).word 0) (Err ZeroDivisor) (faults_in t Overflow test.DivOver w.left w.right v (Ok (value_of_word t r))))
      (by_either t.is_signed operator.Srem operator.Urem t.width (v w.left.index).word (v w.right.index).word)
      ∙ sym (remainder_is t.width (p v) (q v) (v w.left.index).word (v w.right.index).word (h.left_is e v n) (h.right_is e v n) t.is_signed))

-- ---- shifts

pub far_made : (a b c d : List Shape) (t : WordType) (y : Number) (most near n : Node) (k : ℕ) → k ≡ bits t.width → IsNumber a y
    → Makes a b (Constant k y.word.width) (Ok most) → Makes b c (Test test.Below y.word.width y.node.index most.index) (Ok near)
    → Makes c d (Not near.index) (Ok n) → Truthful a d n (λ v. is_far t (number_in v y))
unfolding outcome_of
far_made a b c d t y most near n k is number h i j =
    let g = grows_on h.grows (grows_on i.grows j.grows) in
    record {
      grows = g;
      bank = j.bank;
      term = j.node;
      is = λ e v m.
          let mc = weaken j.grows m in
          truth_is (j.value.is e v m)
          ∙ ap not (truth_is (i.value.is e v mc)
          ∙ ap (λ r. nat_lt (v y.node.index).word r) (word_is (h.value.is e v (weaken i.grows mc)) ∙ is))
          ∙ sym (far_is t y.word.is_signed y.word.width (v y.node.index).word
          (term_below d y.word.width y.node e v j.bank (term_grown a d _ y.node g number.term) m));
    }

module _ (a b c : List Shape) (t : WordType) (far : Node) (w : Words) (p q : Values → ℤ)
    (hf : Truthful a b far (λ v. is_far t (q v))) (h : AreWords b c t.width w (λ v. word t.width (p v)) (λ v. word t.width (q v))) where
  pub left_shift : (d f : List Shape) (n : Node) (g : Option Fault) → Faulty c d g (faults_in t Shift test.ShlOver w.left w.right)
      → Makes d f (Binary operator.Shl t.width w.left.index w.right.index) (Ok n)
      → Answers a f (record {
        number = record { node = n; word = t };
        first = Some (record { truth = far; kind = Shift });
        second = g;
      }) (λ v. worked o.ShiftLeft t (p v) (q v))
  unfolding result_of outcome_of
  left_shift d f n g hg hn =
      let df = hn.grows in let cf = grows_on hg.grows df in let bf = grows_on h.grows cf in
      record {
        grows = grows_on hf.grows bf;
        bank = hn.bank;
        number = record { term = hn.node };
        first = record { term = term_grown b f _ far bf hf.term };
        second = fault_grown df g hg.fault;
        is = λ e v m.
            let mc = weaken cf m in
            ap (λ (r : Bool). cond r (Err Shift) (failing v g (Ok (value_of_word t (v n.index).word)))) (hf.is e v (weaken bf m))
            ∙ ap (λ r. cond (is_far t (q v)) (Err Shift) r)
            (hg.is e v (weaken df m) (Ok (value_of_word t (v n.index).word))
            ∙ ap (λ r. faults_in t Shift test.ShlOver w.left w.right v (Ok (value_of_word t r))) (word_is (hn.value.is e v m)))
            ∙ sym (shifted_left_is t.width (p v) (q v) (v w.left.index).word (v w.right.index).word (h.left_is e v mc) (h.right_is e v mc) t.is_signed);
      }

  pub right_shift : (f : List Shape) (n : Node)
      → Makes c f (Binary (by_sign t.is_signed operator.Ashr operator.Lshr) t.width w.left.index w.right.index) (Ok n)
      → Answers a f (record {
        number = record { node = n; word = t };
        first = Some (record { truth = far; kind = Shift });
        second = None;
      }) (λ v. worked o.ShiftRight t (p v) (q v))
  unfolding result_of outcome_of
  right_shift f n hn =
      let cf = hn.grows in let bf = grows_on h.grows cf in
      record {
        grows = grows_on hf.grows bf;
        bank = hn.bank;
        number = record { term = hn.node };
        first = record { term = term_grown b f _ far bf hf.term };
        second = tt;
        is = λ e v m.
            let mc = weaken cf m in
            ap (λ (r : Bool). cond r (Err Shift) (Ok (value_of_word t (v n.index).word))) (hf.is e v (weaken bf m))
            ∙ ap (λ r. cond (is_far t (q v)) (Err Shift) (Ok (value_of_word t r)))
            (word_is (hn.value.is e v m)
            ∙ by_either t.is_signed operator.Ashr operator.Lshr t.width (v w.left.index).word (v w.right.index).word)
            ∙ sym (shifted_right_is t.width (p v) (q v) (v w.left.index).word (v w.right.index).word (h.left_is e v mc) (h.right_is e v mc) t.is_signed);
      }

-- ---- answers without faults

pub surely : (a b : List Shape) (x : Number) (z : Values → ℤ) → Numbered a b x z
    → Answers a b (record { number = x; first = None; second = None }) (λ v. Ok (z v))
surely a b x z h = record {
  grows = h.grows;
  bank = h.bank;
  number = h.number;
  first = tt;
  second = tt;
  is = λ e v m. ap (λ t. Ok t) (h.is e v m);
}

test_either : (s : Bool) (w : Width) (a b : ℕ) → outcome_of (test_by_sign s test.SignedBelow test.Below) w a b ≡ cond s (slt w a b) (ult a b)
unfolding outcome_of
test_either true w a b = refl
test_either false w a b = refl

module _ (a b : List Shape) (t : WordType) (w : Words) (p q : Values → ℤ)
    (h : AreWords a b t.width w (λ v. word t.width (p v)) (λ v. word t.width (q v))) where
  pub preceding : (c : List Shape) (n : Node)
      → Makes b c (Test (test_by_sign t.is_signed test.SignedBelow test.Below) t.width w.left.index w.right.index) (Ok n)
      → Truthful a c n (λ v. precedes t (p v) (q v))
  preceding c n m = record {
    grows = grows_on h.grows m.grows;
    bank = m.bank;
    term = m.node;
    is = λ e v i.
        let k = weaken m.grows i in
        truth_is (m.value.is e v i) ∙ test_either t.is_signed t.width (v w.left.index).word (v w.right.index).word
        ∙ sym (less_than t.width (p v) (q v) (v w.left.index).word (v w.right.index).word (h.left_is e v k) (h.right_is e v k) t.is_signed);
  }

  twice : (x : Bool) → not (not x) ≡ x
  twice true = refl
  twice false = refl

  pub differing_words : (c d : List Shape) (equal n : Node) → Makes b c (Test test.Equal t.width w.left.index w.right.index) (Ok equal)
      → Makes c d (Not equal.index) (Ok n) → Truthful a d n (λ v. differs t (p v) (q v))
  unfolding outcome_of
  differing_words c d equal n m k = record {
    grows = grows_on h.grows (grows_on m.grows k.grows);
    bank = k.bank;
    term = k.node;
    is = λ e v i.
        let mc = weaken k.grows i in let mb = weaken m.grows mc in
        truth_is (k.value.is e v i)
        ∙ ap not (truth_is (m.value.is e v mc)
        ∙ sym (equal_to t.width (p v) (q v) (v w.left.index).word (v w.right.index).word (h.left_is e v mb) (h.right_is e v mb) t.is_signed))
        ∙ twice (differs t (p v) (q v));
  }

  pub by_words : (c : List Shape) (k : WordOperator) (n : Node) → Makes b c (Binary k t.width w.left.index w.right.index) (Ok n)
      → Answers a c (record { number = record { node = n; word = t }; first = None; second = None })
      (λ v. Ok (value_of_word t (result_of k t.width (word t.width (p v)) (word t.width (q v)))))
  by_words c k n m = record {
    grows = grows_on h.grows m.grows;
    bank = m.bank;
    number = record { term = m.node };
    first = tt;
    second = tt;
    is = λ e v i.
        let mb = weaken m.grows i in
        ap (λ r. Ok (value_of_word t r))
        (word_is (m.value.is e v i)
        ∙ ap (λ r. result_of k t.width r (v w.right.index).word) (h.left_is e v mb)
        ∙ ap (λ r. result_of k t.width (word t.width (p v)) r) (h.right_is e v mb));
  }

pub answers_after : (a b c : List Shape) (x : Tested) (n : Node) (f : Values → Bool) (g : Bool → Answer) → Truthful a b n f
    → Answers b c x (λ v. g (v n.index).truth) → Answers a c x (λ v. g (f v))
answers_after a b c x n f g h i =
    answers_as a b c x (λ v. g (v n.index).truth) (λ v. g (f v)) h.grows i (λ e v m. ap g (h.is e v (weaken i.grows m)))

pub denied_flag : (a b c : List Shape) (t n : Node) (x : Number) → Makes a b (Not t.index) (Ok n)
    → Numbered b c x (λ v. number_of (v n.index).truth)
    → Answers a c (record { number = x; first = None; second = None }) (λ v. Ok (number_of (not (v t.index).truth)))
denied_flag a b c t n x m i =
    surely a c x (λ v. number_of (not (v t.index).truth)) (record {
      grows = grows_on m.grows i.grows;
      bank = i.bank;
      number = i.number;
      is = λ e v k. i.is e v k ∙ ap number_of (truth_is (m.value.is e v (weaken i.grows k)));
    })

-- ---- unary operators

zero_in : (s : Bool) (w : Width) → value_of_word (of_type s w) 0 ≡ pos 0
zero_in true W8 = refl
zero_in true W16 = refl
zero_in true W32 = refl
zero_in true W64 = refl
zero_in false w = refl

word_of_zero : (w : Width) → word w (pos 0) ≡ 0
word_of_zero W8 = refl
word_of_zero W16 = refl
word_of_zero W32 = refl
word_of_zero W64 = refl

wrapped_zero : (t : WordType) → wrapped t (pos 0) ≡ pos 0
wrapped_zero t = wrapped_is t (pos 0) ∙ ap (value_of_word t) (word_of_zero t.width) ∙ zero_in t.is_signed t.width

pub negative : (a b c : List Shape) (t : WordType) (zero : Number) (x : Tested) (q : Values → ℤ) → Numbered a b zero (λ v. pos 0)
    → Answers b c x (λ v. worked o.Subtract t (number_in v zero) (q v)) → Answers a c x (λ v. turned turning.Minus t (q v))
negative a b c t zero x q h i =
    answers_as a b c x (λ v. worked o.Subtract t (number_in v zero) (q v)) (λ v. turned turning.Minus t (q v)) h.grows i (λ e v m.
    ap (λ z. worked o.Subtract t z (q v)) (h.is e v (weaken i.grows m))
    ∙ ap (λ z. exact t (z -ℤ wrapped t (q v))) (wrapped_zero t))

pub complemented : (a b c : List Shape) (t : WordType) (ones : Number) (x : Tested) (q : Values → ℤ) → Numbered a b ones (λ v. negsuc 0)
    → Answers b c x (λ v. Ok (value_of_word t (result_of operator.Sub t.width (word t.width (number_in v ones)) (word t.width (q v)))))
    → Answers a c x (λ v. turned turning.Complement t (q v))
unfolding result_of
complemented a b c t ones x q h i =
    answers_as a b c x (λ v. Ok (value_of_word t (result_of operator.Sub t.width (word t.width (number_in v ones)) (word t.width (q v)))))
    (λ v. turned turning.Complement t (q v)) h.grows i (λ e v m.
    ap (λ z. Ok (value_of_word t (sub t.width (word t.width z) (word t.width (q v))))) (h.is e v (weaken i.grows m))
    ∙ ap (λ n. Ok (value_of_word t n)) (sym (word-sub t.width (negsuc 0) (q v)))
    ∙ ap (λ z. Ok z) (sym (wrapped_is t (negsuc 0 -ℤ q v))))
