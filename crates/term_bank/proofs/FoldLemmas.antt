-- Constants, and parts that have their shape's value.
use Rattle.std.proofs.Common.{◌≡◌, ◌<◌, ◌^◌, ◌++◌, [], ℕ, List, Some, Bool, true, false, refl, sym, ap, subst, ◌∙◌, cond, append-nil}
use Rattle.std.specs.Prelude.{slice_get, not, Result, Ok, Err, IfOk}
use Rattle.std.specs.Option.{option_map}
use Rattle.plain_data.specs.Words.{bits}
use Rattle.plain_data.specs.declared.width.Width.{Width}
use Rattle.term_bank.specs.declared.sort.Sort.{Sort}
use Rattle.term_bank.specs.declared.sort.Sort.TheVariants as sort
use Rattle.term_bank.specs.declared.sort.Node.{Node}
use Rattle.term_bank.specs.declared.shape.WordOperator.{WordOperator}
use Rattle.term_bank.specs.declared.shape.WordTest.{WordTest}
use Rattle.term_bank.specs.declared.shape.Connective.{Connective}
use Rattle.term_bank.specs.declared.shape.Connective.TheVariants as connective
use Rattle.term_bank.specs.declared.shape.Extension.{Extension}
use Rattle.term_bank.specs.declared.shape.Shape.{Shape}
use Rattle.term_bank.specs.declared.shape.Shape.TheVariants.{Flag, Constant, Binary, Test, Convert, Not, Connect, Choose, NoEvents, EventsBehind}
use Rattle.term_bank.specs.Shapes.{IsNode, IsWell, word, sort_of}
use Rattle.term_bank.specs.Values.{Environment, Worth, Values, Models, Grows, IsWorth, of_word, of_truth, of_events, result_of, outcome_of, converted, connected}
use Rattle.term_bank.specs.Banks.{IsBank}
use Rattle.term_bank.specs.Folds.{IsConstant, IsSame, IsSamePart, deciding, leaving}
use Rattle.term_bank.proofs.Worth.{result_below, converted_below}
use Rattle.term_bank.proofs.BankLemmas.{weaken}
use Rattle.term_bank.proofs.BindingLemmas.{node_sorted}
use Rattle.term_bank.specs.Under.{IsOver}
use Rattle.term_bank.proofs.OverLemmas.{only_below, over_itself, over_fixed}

pub constant_found : (shapes : List Shape) (n : ℕ) (w u : Width) (x : ℕ) → IsBank shapes → IsNode shapes (word w n) → slice_get shapes n ≡ Some (Constant x u) → IsConstant shapes n w x
constant_found shapes n w u x bank node is =
    let sorts : Some (sort.Word u) ≡ Some (sort.Word w) = sym (ap (option_map sort_of) is) ∙ node.sorted in
    let same : u ≡ w = cc in
    subst (λ t. IsConstant shapes n t x) same (record { is = is; below = (bank.well n (Constant x u) is).in_width })

word_is : (shapes : List Shape) (e : Environment) (v : Values) (n : ℕ) (w : Width) (x : ℕ) → Models shapes e v → IsConstant shapes n w x → (v n).word ≡ x
word_is shapes e v n w x m h = ap (λ (y : Worth). y.word) (m.has n (Constant x w) h.is)

truth_is : (shapes : List Shape) (e : Environment) (v : Values) (n : ℕ) (b : Bool) → Models shapes e v → slice_get shapes n ≡ Some (Flag b) → (v n).truth ≡ b
truth_is shapes e v n b m h = ap (λ (y : Worth). y.truth) (m.has n (Flag b) h)

pub same_binary : (shapes : List Shape) (op : WordOperator) (w : Width) (l r a b x : ℕ) → IsConstant shapes l w a → IsConstant shapes r w b → x ≡ result_of op w a b → IsSame shapes (Binary op w l r) (Constant x w)
same_binary shapes op w l r a b x h k is = record {
  fixed = tt;
  well = record { parts_stand = tt; in_width = subst (λ y. y < 2 ^ bits w) (sym is) (result_below op w a b h.below k.below) };
  sort = refl;
  value = λ e v m. ap of_word is ∙ rw (word_is shapes e v l w a m h, word_is shapes e v r w b m k) refl;
}

pub same_test : (shapes : List Shape) (t : WordTest) (w : Width) (l r a b : ℕ) (x : Bool) → IsConstant shapes l w a → IsConstant shapes r w b → x ≡ outcome_of t w a b → IsSame shapes (Test t w l r) (Flag x)
same_test shapes t w l r a b x h k is = record {
  fixed = tt;
  well = record { parts_stand = tt; in_width = tt };
  sort = refl;
  value = λ e v m. ap of_truth is ∙ rw (word_is shapes e v l w a m h, word_is shapes e v r w b m k) refl;
}

pub same_conversion : (shapes : List Shape) (x : Extension) (from to : Width) (n a y : ℕ) → IsConstant shapes n from a → y ≡ converted x from to a → IsSame shapes (Convert x from to n) (Constant y to)
same_conversion shapes x from to n a y h is = record {
  fixed = tt;
  well = record { parts_stand = tt; in_width = subst (λ z. z < 2 ^ bits to) (sym is) (converted_below x from to a) };
  sort = refl;
  value = λ e v m. ap of_word is ∙ rw (word_is shapes e v n from a m h) refl;
}

pub same_not : (shapes : List Shape) (n : ℕ) (b x : Bool) → slice_get shapes n ≡ Some (Flag b) → x ≡ not b → IsSame shapes (Not n) (Flag x)
same_not shapes n b x h is = record {
  fixed = tt;
  well = record { parts_stand = tt; in_width = tt };
  sort = refl;
  value = λ e v m. ap of_truth is ∙ rw (truth_is shapes e v n b m h) refl;
}

twice : (b : Bool) → b ≡ not (not b)
twice true = refl
twice false = refl

pub part_not : (shapes : List Shape) (n k : ℕ) → IsBank shapes → slice_get shapes n ≡ Some (Not k) → IsSamePart shapes (Not n) (record { index = k; sort = sort.Truth })
part_not shapes n k bank is =
    let part = (bank.well n (Not k) is).each_part.0 in
    record {
      over = record { under = λ b g q flag constant has below. (only_below q b n (Not k) (g.kept n (Not k) is) below.0).1.0 };
      stands = part.stands;
      sort = refl;
      value = λ e v m.
          let inner : (v n).truth ≡ not (v k).truth = ap (λ (y : Worth). y.truth) (m.has n (Not k) is) in
          node_sorted shapes e v (record { index = k; sort = sort.Truth }) bank part.stands m ∙ ap of_truth (twice (v k).truth) ∙ ap (λ b. of_truth (not b)) (sym inner);
    }

either_arm : (c : Bool) (x : Worth) → x ≡ cond c x x
either_arm true x = refl
either_arm false x = refl

pub part_choose : (shapes : List Shape) (s : Sort) (c n k : ℕ) → IsWell shapes (Choose s c n k) → n ≡ k → IsSamePart shapes (Choose s c n k) (record { index = n; sort = s })
part_choose shapes s c n k well same = record {
  over = record { under = λ b g q flag constant has below. below.1.0 };
  stands = well.parts_stand.1.0;
  sort = refl;
  value = λ e v m. either_arm (v c).truth (v n) ∙ ap (λ i. cond (v c).truth (v n) (v i)) same;
}

-- a connective that one side decides
pub decided_left : (shapes : List Shape) (c : Connective) (l r : ℕ) (b : Bool) → slice_get shapes l ≡ Some (Flag b)
    → ((x : Bool) → b ≡ connected c b x) → IsSame shapes (Connect c l r) (Flag b)
decided_left shapes c l r b h is = record {
  fixed = tt;
  well = record { parts_stand = tt; in_width = tt };
  sort = refl;
  value = λ e v m. ap of_truth (is (v r).truth) ∙ ap (λ y. of_truth (connected c y (v r).truth)) (sym (truth_is shapes e v l b m h));
}

pub decided_right : (shapes : List Shape) (c : Connective) (l r : ℕ) (b : Bool) → slice_get shapes r ≡ Some (Flag b)
    → ((x : Bool) → b ≡ connected c x b) → IsSame shapes (Connect c l r) (Flag b)
decided_right shapes c l r b h is = record {
  fixed = tt;
  well = record { parts_stand = tt; in_width = tt };
  sort = refl;
  value = λ e v m. ap of_truth (is (v l).truth) ∙ ap (λ y. of_truth (connected c (v l).truth y)) (sym (truth_is shapes e v r b m h));
}

pub decides_left : (c : Connective) (x : Bool) → deciding c ≡ connected c (deciding c) x
decides_left connective.And x = refl
decides_left connective.Or x = refl

pub decides_right : (c : Connective) (x : Bool) → deciding c ≡ connected c x (deciding c)
decides_right connective.And true = refl
decides_right connective.And false = refl
decides_right connective.Or true = refl
decides_right connective.Or false = refl

leaves_right : (c : Connective) (x : Bool) → x ≡ connected c (leaving c) x
leaves_right connective.And x = refl
leaves_right connective.Or x = refl

leaves_left : (c : Connective) (x : Bool) → x ≡ connected c x (leaving c)
leaves_left connective.And true = refl
leaves_left connective.And false = refl
leaves_left connective.Or true = refl
leaves_left connective.Or false = refl

of_itself : (c : Connective) (x : Bool) → x ≡ connected c x x
of_itself connective.And true = refl
of_itself connective.And false = refl
of_itself connective.Or true = refl
of_itself connective.Or false = refl

-- the right side, where the left one leaves it
pub part_right : (shapes : List Shape) (c : Connective) (l r : ℕ) → IsBank shapes → IsWell shapes (Connect c l r)
    → slice_get shapes l ≡ Some (Flag (leaving c)) → IsSamePart shapes (Connect c l r) (record { index = r; sort = sort.Truth })
part_right shapes c l r bank well h = record {
  over = record { under = λ b g q flag constant has below. below.1.0 };
  stands = well.parts_stand.1.0;
  sort = refl;
  value = λ e v m.
      node_sorted shapes e v (record { index = r; sort = sort.Truth }) bank well.parts_stand.1.0 m
      ∙ ap of_truth (leaves_right c (v r).truth)
      ∙ ap (λ y. of_truth (connected c y (v r).truth)) (sym (truth_is shapes e v l (leaving c) m h));
}

pub part_left : (shapes : List Shape) (c : Connective) (l r : ℕ) → IsBank shapes → IsWell shapes (Connect c l r)
    → slice_get shapes r ≡ Some (Flag (leaving c)) → IsSamePart shapes (Connect c l r) (record { index = l; sort = sort.Truth })
part_left shapes c l r bank well h = record {
  over = record { under = λ b g q flag constant has below. below.0 };
  stands = well.parts_stand.0;
  sort = refl;
  value = λ e v m.
      node_sorted shapes e v (record { index = l; sort = sort.Truth }) bank well.parts_stand.0 m
      ∙ ap of_truth (leaves_left c (v l).truth)
      ∙ ap (λ y. of_truth (connected c (v l).truth y)) (sym (truth_is shapes e v r (leaving c) m h));
}

pub part_both : (shapes : List Shape) (c : Connective) (l r : ℕ) → IsBank shapes → IsWell shapes (Connect c l r) → l ≡ r
    → IsSamePart shapes (Connect c l r) (record { index = r; sort = sort.Truth })
part_both shapes c l r bank well same = record {
  over = record { under = λ b g q flag constant has below. below.1.0 };
  stands = well.parts_stand.1.0;
  sort = refl;
  value = λ e v m.
      node_sorted shapes e v (record { index = r; sort = sort.Truth }) bank well.parts_stand.1.0 m
      ∙ ap of_truth (of_itself c (v r).truth)
      ∙ ap (λ i. of_truth (connected c (v i).truth (v r).truth)) (sym same);
}

-- the arm that a known condition takes
pub part_taken : (shapes : List Shape) (s : Sort) (c n k : ℕ) → IsWell shapes (Choose s c n k) → slice_get shapes c ≡ Some (Flag true)
    → IsSamePart shapes (Choose s c n k) (record { index = n; sort = s })
part_taken shapes s c n k well h = record {
  over = record { under = λ b g q flag constant has below. below.1.0 };
  stands = well.parts_stand.1.0;
  sort = refl;
  value = λ e v m. ap (λ b. cond b (v n) (v k)) (sym (truth_is shapes e v c true m h));
}

pub part_left_out : (shapes : List Shape) (s : Sort) (c n k : ℕ) → IsWell shapes (Choose s c n k)
    → slice_get shapes c ≡ Some (Flag false) → IsSamePart shapes (Choose s c n k) (record { index = k; sort = s })
part_left_out shapes s c n k well h = record {
  over = record { under = λ b g q flag constant has below. below.1.1.0 };
  stands = well.parts_stand.1.1.0;
  sort = refl;
  value = λ e v m. ap (λ b. cond b (v n) (v k)) (sym (truth_is shapes e v c false m h));
}

none_is : (shapes : List Shape) (e : Environment) (v : Values) (n : ℕ) → Models shapes e v → slice_get shapes n ≡ Some NoEvents → (v n).events ≡ []
none_is shapes e v n m h = ap (λ (y : Worth). y.events) (m.has n NoEvents h)

-- events with none before them, or behind them
pub part_second : (shapes : List Shape) (xs ys : ℕ) → IsBank shapes → IsWell shapes (EventsBehind xs ys) → slice_get shapes xs ≡ Some NoEvents
    → IsSamePart shapes (EventsBehind xs ys) (record { index = ys; sort = sort.Events })
part_second shapes xs ys bank well h = record {
  over = record { under = λ b g q flag constant has below. below.1.0 };
  stands = well.parts_stand.1.0;
  sort = refl;
  value = λ e v m.
      node_sorted shapes e v (record { index = ys; sort = sort.Events }) bank well.parts_stand.1.0 m
      ∙ ap (λ l. of_events (l ++ (v ys).events)) (sym (none_is shapes e v xs m h));
}

pub part_first : (shapes : List Shape) (xs ys : ℕ) → IsBank shapes → IsWell shapes (EventsBehind xs ys) → slice_get shapes ys ≡ Some NoEvents
    → IsSamePart shapes (EventsBehind xs ys) (record { index = xs; sort = sort.Events })
part_first shapes xs ys bank well h = record {
  over = record { under = λ b g q flag constant has below. below.0 };
  stands = well.parts_stand.0;
  sort = refl;
  value = λ e v m.
      node_sorted shapes e v (record { index = xs; sort = sort.Events }) bank well.parts_stand.0 m
      ∙ ap of_events (sym (append-nil (v xs).events))
      ∙ ap (λ l. of_events ((v xs).events ++ l)) (sym (none_is shapes e v ys m h));
}

-- a node that has the value of a shape that is the same
pub worth_known : {E : Type 0} (old new : List Shape) (shape known : Shape) (r : Result Node E) → IsSame old shape known → Grows old new → IfOk r (IsWorth new known) → IfOk r (IsWorth new shape)
worth_known old new shape known (Ok n) same g h = record { is = λ e v m. h.is e v m ∙ same.value e v (weaken g m) }
worth_known old new shape known (Err e) same g h = tt

-- what stands under the answer of `insert`
pub over_inserted : {E : Type 0} (shapes : List Shape) (shape : Shape) (r : Result Node E) → IfOk r (λ n. slice_get shapes n.index ≡ Some shape) → IfOk r (IsOver shapes shape)
over_inserted shapes shape (Ok n) h = over_itself shapes shape n h
over_inserted shapes shape (Err e) h = tt

pub over_known : {E : Type 0} (old shapes : List Shape) (shape known : Shape) (r : Result Node E) → IsSame old shape known → IfOk r (λ n. slice_get shapes n.index ≡ Some known) → IfOk r (IsOver shapes shape)
over_known old shapes shape known (Ok n) same h = over_fixed shapes shape known n same.fixed h
over_known old shapes shape known (Err e) same h = tt
