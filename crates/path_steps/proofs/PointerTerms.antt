-- Terms of pointers that are moved, compared and subtracted.
use Rattle.std.proofs.Common.{◌≡◌, ℕ, zero, suc, ◌+◌, ◌-◌, ◌/◌, ◌^◌, ◌<◌, ℤ, pos, ◌+ℤ◌, ◌-ℤ◌, ◌*ℤ◌, List, Bool, true, false, not, cond, ◌&&◌, ◌||◌, refl, sym, ap, ◌∙◌, arith}
use Rattle.std.specs.Prelude.{Ok, nat_eq, nat_lt, nat_le, int_lt, unsigned_abs}
use Rattle.std.proofs.lemmas.Bool.Decides.{nat_tests}
use Rattle.plain_data.specs.declared.run.Undefined.TheVariants.{PointerRange, PointerOrder}
use Rattle.plain_data.specs.declared.width.Width.TheVariants.{W64}
use Rattle.plain_data.proofs.WordLaws.{word_below}
use Rattle.c_store.specs.Store.{Store}
use Rattle.c_store.specs.Access.{in_one_object}
use Rattle.c_means.specs.Values.{address}
use Rattle.c_means.specs.Pointers.{elements_in}
use Rattle.c_language.specs.Integers.{number_of}
use Rattle.core_tree.specs.declared.types.Arithmetic.TheVariants as o
use Rattle.core_tree.specs.declared.types.Relation.{Relation}
use Rattle.core_tree.specs.declared.types.Relation.TheVariants as r
use Rattle.core_tree.specs.Memory.{moved, apart, ordered}
use Rattle.core_tree.specs.Numbers.{worked, wrapped, differs, in_order}
use Rattle.core_tree.specs.States.{Done, Outcome, found, stop}
use Rattle.term_bank.specs.declared.sort.Node.{Node}
use Rattle.term_bank.specs.declared.sort.Sort.TheVariants.{Truth, Word}
use Rattle.term_bank.specs.declared.shape.Connective.TheVariants.{And}
use Rattle.term_bank.specs.declared.shape.Shape.{Shape}
use Rattle.term_bank.specs.declared.shape.Shape.TheVariants.{Constant, Connect, Flag, Not, Test}
use Rattle.term_bank.specs.declared.shape.WordTest.TheVariants.{Below}
use Rattle.term_bank.specs.Banks.{IsBank}
use Rattle.term_bank.specs.Terms.{IsTerm, Makes}
use Rattle.term_bank.specs.Values.{Environment, Worth, Values, Models, Grows, of_truth, outcome_of}
use Rattle.term_bank.proofs.BankLemmas.{weaken, grows_on}
use Rattle.mem_terms.specs.Truths.{Gives}
use Rattle.path_states.specs.declared.state.Number.{Number}
use Rattle.path_states.specs.States.{IsNumber, number_in}
use Rattle.path_numbers.specs.declared.tested.Tested.{Tested}
use Rattle.path_numbers.specs.Answers.{Answers, Numbered, Truthful, Worded, answer_in}
use Rattle.path_steps.specs.declared.operators.Operated.{Operated}
use Rattle.path_steps.specs.Operators.{Operates, Between, is_measured, is_near, directed, by_direction, ordering}
use Rattle.path_steps.proofs.OperatorLemmas.{operates_as, surely_number}
use Rattle.path_steps.proofs.PointerLaws.{pointer, distance, wide, moved_by, product_number, sum_number, sum_word, together_near, difference_number, bytes_number, elements_number, no_elements}

-- ---- where a pointer is moved to

pub numbered_size : (a b : List Shape) (n : Node) (size : ℕ) → Makes a b (Constant size W64) (Ok n)
    → Numbered a b (record { node = n; word = pointer }) (λ v. pos size)
numbered_size a b n size m = record {
  grows = m.grows;
  bank = m.bank;
  number = record { term = m.node };
  is = λ e v i. ap (λ (w : Worth). pos w.word) (m.value.is e v i);
}

pub target_made : (a b c d f : List Shape) (from count size_is : Number) (bytes to : Tested) (n : Node) (size : ℕ) (back : Bool)
    → Numbered a b size_is (λ v. pos size)
    → Answers b c bytes (λ v. worked o.Multiply pointer (number_in v count) (number_in v size_is))
    → Answers c d to (λ v. worked (by_direction back) pointer (number_in v from) (number_in v bytes.number))
    → Worded d f W64 n (λ v. address (number_in v to.number))
    → Worded a f W64 n (λ v. address (pos (address (number_in v from)) +ℤ directed back (number_in v count) *ℤ pos size))
target_made a b c d f from count size_is bytes to n size back hs hb ht hn = record {
  grows = grows_on hs.grows (grows_on hb.grows (grows_on ht.grows hn.grows));
  bank = hn.bank;
  term = hn.term;
  is = λ e v m.
      let md = weaken hn.grows m in let mc = weaken ht.grows md in let mb = weaken hb.grows mc in
      let x = number_in v from in
      let i = number_in v count in
      let b = number_in v bytes.number in
      let product : b ≡ wide (wide i *ℤ wide (pos size)) =
      product_number v bytes i size (hb.is e v mc ∙ ap (λ z. worked o.Multiply pointer i z) (hs.is e v mb)) in
      hn.is e v m ∙ ap address (sum_number v to back x b (ht.is e v md)) ∙ sum_word back x i b size product;
}

-- ---- whether it may be moved so far

pub always_near : (a b : List Shape) (count : Number) (size : ℕ) (n : Node) → nat_eq size 0 ≡ true → Makes a b (Flag true) (Ok n)
    → Truthful a b n (λ v. is_near size (number_in v count))
always_near a b count size n h m = record {
  grows = m.grows;
  bank = m.bank;
  term = m.node;
  is = λ e v i.
      ap (λ (w : Worth). w.truth) (m.value.is e v i)
      ∙ sym (ap (λ c. cond c true (not (nat_lt ((2 ^ 32 - 1) / size) (unsigned_abs (number_in v count))))) h);
}

pub near_made : (a b c d f : List Shape) (count : Number) (size : ℕ) (steps most far n : Node) → nat_eq size 0 ≡ false
    → Worded a b W64 steps (λ v. unsigned_abs (number_in v count)) → Makes b c (Constant ((2 ^ 32 - 1) / size) W64) (Ok most)
    → Makes c d (Test Below W64 most.index steps.index) (Ok far) → Makes d f (Not far.index) (Ok n)
    → Truthful a f n (λ v. is_near size (number_in v count))
unfolding outcome_of
near_made a b c d f count size steps most far n h hs hm hf hn = record {
  grows = grows_on hs.grows (grows_on hm.grows (grows_on hf.grows hn.grows));
  bank = hn.bank;
  term = hn.node;
  is = λ e v m.
      let md = weaken hn.grows m in let mc = weaken hf.grows md in let mb = weaken hm.grows mc in
      ap (λ (w : Worth). w.truth) (hn.value.is e v m)
      ∙ ap (λ (w : Worth). not w.truth) (hf.value.is e v md)
      ∙ ap (λ (w : Worth). not (nat_lt w.word (v steps.index).word)) (hm.value.is e v mc)
      ∙ ap (λ k. not (nat_lt ((2 ^ 32 - 1) / size) k)) (hs.is e v mb)
      ∙ sym (ap (λ c. cond c true (not (nat_lt ((2 ^ 32 - 1) / size) (unsigned_abs (number_in v count))))) h);
}

both : (x y : Bool) → cond x y false ≡ (x && y)
both true y = refl
both false y = refl

pub moves : (a b c d f g h : List Shape) (memory start end inside near allowed : Node) (at size : ℕ) (from count : Number) (back : Bool)
    (x : Operated) → Worded a b W64 start (λ v. address (number_in v from))
    → Worded b c W64 end (λ v. address (pos (address (number_in v from)) +ℤ directed back (number_in v count) *ℤ pos size))
    → Gives c d Truth (λ v. of_truth (in_one_object (v memory.index).store (v start.index).word (v end.index).word)) (Ok inside)
    → Truthful d f near (λ v. is_near size (number_in v count)) → Makes f g (Connect And near.index inside.index) (Ok allowed)
    → Operates g h (λ v. (v memory.index).store) x
    (λ v s. cond (v allowed.index).truth (found (number_in v (record { node = end; word = pointer })) s) (stop at PointerRange s))
    → Operates a h (λ v. (v memory.index).store) x (λ v s. moved at size (directed back (number_in v count)) (address (number_in v from)) s)
moves a b c d f g h memory start end inside near allowed at size from count back x hb ht hi hn hm hw =
    operates_as a g h (λ v. (v memory.index).store) x
    (λ v s. cond (v allowed.index).truth (found (number_in v (record { node = end; word = pointer })) s) (stop at PointerRange s))
    (λ v s. moved at size (directed back (number_in v count)) (address (number_in v from)) s)
    (grows_on hb.grows (grows_on ht.grows (grows_on hi.grows (grows_on hn.grows hm.grows)))) hw
    (λ e v m s k.
    let mg = weaken hw.grows m in let mf = weaken hm.grows mg in let md = weaken hn.grows mf in let mc = weaken hi.grows md in
    let mb = weaken ht.grows mc in
    let S = (v memory.index).store in
    let i = number_in v count in
    let A = address (number_in v from) in
    let E = (v end.index).word in
    let to = address (pos A +ℤ directed back i *ℤ pos size) in
    ap (λ (w : Worth). cond w.truth (found (pos E) s) (stop at PointerRange s)) (hm.value.is e v mg)
    ∙ ap (λ t. cond (cond t (v inside.index).truth false) (found (pos E) s) (stop at PointerRange s)) (hn.is e v mf)
    ∙ ap (λ (w : Worth). cond (cond (is_near size i) w.truth false) (found (pos E) s) (stop at PointerRange s)) (hi.value.is e v md)
    ∙ ap (λ q. cond (cond (is_near size i) (in_one_object S q E) false) (found (pos E) s) (stop at PointerRange s)) (hb.is e v mb)
    ∙ ap (λ q. cond (cond (is_near size i) (in_one_object S A q) false) (found (pos q) s) (stop at PointerRange s)) (ht.is e v mc)
    ∙ ap (λ q. cond q (found (pos to) s) (stop at PointerRange s)) (both (is_near size i) (in_one_object S A to))
    ∙ moved_by S at A size back i s (word_below W64 (number_in v from)) k)

-- ---- how many elements are between two pointers

pub none_between_made : (a b : List Shape) (x left right : Number) (size : ℕ) → is_measured size ≡ false
    → Numbered a b x (λ v. pos 0) → Between a b x left right size
none_between_made a b x left right size h n = record {
  grows = n.grows;
  number = n.number;
  is = λ e v m s k.
      n.is e v m
      ∙ sym (no_elements (wide (number_in v left) -ℤ wide (number_in v right)) size
      (together_near s (address (number_in v left)) (address (number_in v right)) k) h);
}

between_some : (a b c d f : List Shape) (left right bytes size_is : Number) (difference elements : Tested) (size : ℕ) → suc size < 2 ^ 32
    → Answers a b difference (λ v. worked o.Subtract pointer (number_in v left) (number_in v right))
    → Numbered b c bytes (λ v. wrapped distance (number_in v difference.number)) → Numbered c d size_is (λ v. pos (suc size))
    → Answers d f elements (λ v. worked o.Divide distance (number_in v bytes) (number_in v size_is))
    → Between a f elements.number left right (suc size)
between_some a b c d f left right bytes size_is difference elements size small hd hb hs he = record {
  grows = grows_on hd.grows (grows_on hb.grows (grows_on hs.grows he.grows));
  number = he.number;
  is = λ e v m s k.
      let md = weaken he.grows m in let mc = weaken hs.grows md in let mb = weaken hb.grows mc in
      let x = number_in v left in
      let y = number_in v right in
      let near = together_near s (address x) (address y) k in
      let between : number_in v bytes ≡ wide x -ℤ wide y =
      hb.is e v mc ∙ bytes_number x y (number_in v difference.number) near (difference_number v difference x y (hd.is e v mb)) in
      elements_number v elements (wide x -ℤ wide y) (number_in v bytes) size near small between
      (he.is e v m ∙ ap (λ z. worked o.Divide distance (number_in v bytes) z) (hs.is e v md));
}

pub between_made : (a b c d f : List Shape) (left right bytes size_is : Number) (difference elements : Tested) (size : ℕ)
    → is_measured size ≡ true → Answers a b difference (λ v. worked o.Subtract pointer (number_in v left) (number_in v right))
    → Numbered b c bytes (λ v. wrapped distance (number_in v difference.number)) → Numbered c d size_is (λ v. pos size)
    → Answers d f elements (λ v. worked o.Divide distance (number_in v bytes) (number_in v size_is))
    → Between a f elements.number left right size
between_made a b c d f left right bytes size_is difference elements zero h hd hb hs he = cc
between_made a b c d f left right bytes size_is difference elements (suc size) h hd hb hs he =
    between_some a b c d f left right bytes size_is difference elements size (grind (arith, nat_tests)) hd hb hs he

pub together_made : (a b c d : List Shape) (memory first second n : Node) (left right : Number)
    → Worded a b W64 first (λ v. address (number_in v left)) → Worded b c W64 second (λ v. address (number_in v right))
    → Gives c d Truth (λ v. of_truth (in_one_object (v memory.index).store (v first.index).word (v second.index).word)) (Ok n)
    → Truthful a d n (λ v. in_one_object (v memory.index).store (address (number_in v left)) (address (number_in v right)))
together_made a b c d memory first second n left right hf hs hg = record {
  grows = grows_on hf.grows (grows_on hs.grows hg.grows);
  bank = hg.bank;
  term = hg.node;
  is = λ e v m.
      let mc = weaken hg.grows m in
      ap (λ (w : Worth). w.truth) (hg.value.is e v m)
      ∙ ap (λ q. in_one_object (v memory.index).store q (v second.index).word) (hf.is e v (weaken hs.grows mc))
      ∙ ap (λ q. in_one_object (v memory.index).store (address (number_in v left)) q) (hs.is e v mc);
}

-- ---- operators where two pointers are of one object

where_together : (S : Store) (A B at : ℕ) (z y : ℤ) (s : Done ℕ) → s.store ≡ S → (in_one_object S A B ≡ true → z ≡ y)
    → cond (in_one_object S A B) (found z s) (stop at PointerOrder s) ≡ cond (in_one_object s.store A B) (found y s) (stop at PointerOrder s)
where_together S A B at z y s k h =
    by (in_one_object S A B) refl ∙ ap (λ q. cond (in_one_object q A B) (found y s) (stop at PointerOrder s)) (sym k)
  where
    by : (c : Bool) → in_one_object S A B ≡ c
        → cond c (found z s) (stop at PointerOrder s) ≡ cond c (found y s) (stop at PointerOrder s)
    by true e = ap (λ q. found q s) (h e)
    by false e = refl

pub are_apart : (a b c d : List Shape) (memory together : Node) (at size : ℕ) (left right number : Number) (x : Operated)
    → Truthful a b together (λ v. in_one_object (v memory.index).store (address (number_in v left)) (address (number_in v right)))
    → Between b c number left right size
    → Operates c d (λ v. (v memory.index).store) x
    (λ v s. cond (v together.index).truth (found (number_in v number) s) (stop at PointerOrder s))
    → Operates a d (λ v. (v memory.index).store) x (λ v s. apart at size (address (number_in v left)) (address (number_in v right)) s)
are_apart a b c d memory together at size left right number x ht hn hw =
    operates_as a c d (λ v. (v memory.index).store) x
    (λ v s. cond (v together.index).truth (found (number_in v number) s) (stop at PointerOrder s))
    (λ v s. apart at size (address (number_in v left)) (address (number_in v right)) s) (grows_on ht.grows hn.grows) hw
    (λ e v m s k.
    let mc = weaken hw.grows m in let mb = weaken hn.grows mc in
    ap (λ t. cond t (found (number_in v number) s) (stop at PointerOrder s)) (ht.is e v mb)
    ∙ where_together (v memory.index).store (address (number_in v left)) (address (number_in v right)) at (number_in v number) _ s k
    (λ h. hn.is e v mc (v memory.index).store h))

lesser : (a b : ℕ) → int_lt (pos a) (pos b) ≡ nat_lt a b
lesser a b = refl

least : (a b : ℕ) → not (nat_lt b a) ≡ nat_le a b
least a b = grind (arith, nat_tests)

in_order_is : (q : Relation) (x y : ℤ) → worked (ordering q) pointer x y ≡ Ok (number_of (in_order q (address x) (address y)))
unfolding wrapped
in_order_is r.Less x y = refl
in_order_is r.Greater x y = refl
in_order_is r.LessEqual x y = ap (λ c. Ok (number_of c)) (least (address x) (address y))
in_order_is r.GreaterEqual x y = ap (λ c. Ok (number_of c)) (least (address y) (address x))

pub are_ordered : (a b c d : List Shape) (memory together : Node) (at : ℕ) (q : Relation) (left right : Number) (tested : Tested) (x : Operated)
    → Truthful a b together (λ v. in_one_object (v memory.index).store (address (number_in v left)) (address (number_in v right)))
    → Answers b c tested (λ v. worked (ordering q) pointer (number_in v left) (number_in v right))
    → Operates c d (λ v. (v memory.index).store) x
    (λ v s. cond (v together.index).truth (found (number_in v tested.number) s) (stop at PointerOrder s))
    → Operates a d (λ v. (v memory.index).store) x (λ v s. ordered at q (address (number_in v left)) (address (number_in v right)) s)
are_ordered a b c d memory together at q left right tested x ht hn hw =
    operates_as a c d (λ v. (v memory.index).store) x
    (λ v s. cond (v together.index).truth (found (number_in v tested.number) s) (stop at PointerOrder s))
    (λ v s. ordered at q (address (number_in v left)) (address (number_in v right)) s) (grows_on ht.grows hn.grows) hw
    (λ e v m s k.
    let mc = weaken hw.grows m in let mb = weaken hn.grows mc in
    ap (λ t. cond t (found (number_in v tested.number) s) (stop at PointerOrder s)) (ht.is e v mb)
    ∙ where_together (v memory.index).store (address (number_in v left)) (address (number_in v right)) at (number_in v tested.number) _ s k
    (λ h. surely_number v tested _ (hn.is e v mc ∙ in_order_is q (number_in v left) (number_in v right))))

-- ---- pointers for one number

apart_not : (a b : ℕ) → (int_lt (pos a) (pos b) || int_lt (pos b) (pos a)) ≡ not (nat_eq a b)
apart_not a b = grind (arith, nat_tests)

not_not : (b : Bool) → not (not b) ≡ b
not_not true = refl
not_not false = refl

differ : (x y : ℤ) → differs pointer x y ≡ not (nat_eq (address x) (address y))
unfolding wrapped
differ x y = apart_not (address x) (address y)

pub same_number : (x y : ℤ) → number_of (not (differs pointer x y)) ≡ number_of (nat_eq (address x) (address y))
same_number x y = ap (λ c. number_of (not c)) (differ x y) ∙ ap number_of (not_not (nat_eq (address x) (address y)))

pub other_number : (x y : ℤ) → number_of (differs pointer x y) ≡ number_of (not (nat_eq (address x) (address y)))
other_number x y = ap number_of (differ x y)
