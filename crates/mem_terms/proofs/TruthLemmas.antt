-- What the parts of a term say of its value.
use Rattle.std.proofs.Common.{◌≡◌, ℕ, List, Bool, true, false, cond, nat_eq, refl, ap, ◌∙◌}
use Rattle.std.specs.Prelude.{Result, Ok, Err, IfOk, not, ◌&&◌, ◌||◌, Option, Some, None}
use Rattle.std.proofs.lemmas.Nat.{and_mask}
use Rattle.plain_data.specs.declared.width.Width.TheVariants.{W64}
use Rattle.c_store.specs.declared.object.Object.{Object}
use Rattle.c_store.specs.declared.object.ObjectKind.{ObjectKind}
use Rattle.c_store.specs.declared.object.ObjectKind.TheVariants as kind
use Rattle.c_store.specs.Store.{object_of, offset_of}
use Rattle.c_store.specs.Access.{is_live, is_literal, is_heap}
use Rattle.term_bank.specs.declared.sort.Sort.{Sort}
use Rattle.term_bank.specs.declared.sort.Node.{Node}
use Rattle.term_bank.specs.declared.bank.BankFault.{BankFault}
use Rattle.term_bank.specs.declared.shape.WordOperator.TheVariants as operator
use Rattle.term_bank.specs.declared.shape.WordTest.TheVariants as test
use Rattle.term_bank.specs.declared.shape.Connective.TheVariants as connective
use Rattle.term_bank.specs.declared.shape.Shape.{Shape}
use Rattle.term_bank.specs.declared.shape.Shape.TheVariants.{Constant, Binary, Test, Not, Connect, IsLive}
use Rattle.term_bank.specs.Memories.{has_kind}
use Rattle.term_bank.specs.Shapes.{sort_of}
use Rattle.term_bank.specs.Values.{Environment, Worth, Values, Models, Grows, IsWorth, worth, of_truth, of_word, result_of, outcome_of}
use Rattle.term_bank.specs.Terms.{Makes}
use Rattle.term_bank.proofs.BankLemmas.{weaken, grows_on}
use Rattle.mem_terms.specs.Truths.{HasWorth, Gives}

-- the last call's answer, by what its shape is worth
pub gives_last : (old mid new : List Shape) (shape : Shape) (r : Result Node BankFault) (x : Values → Worth) → Grows old mid → Makes mid new shape r → ((e : Environment) (v : Values) → Models new e v → worth e v shape ≡ x v) → Gives old new (sort_of shape) x r
gives_last old mid new shape r x g m f = record { node = m.node; value = mapped r m.value; grows = grows_on g m.grows; bank = m.bank }
  where
    mapped : (r : Result Node BankFault) → IfOk r (IsWorth new shape) → IfOk r (HasWorth new x)
    mapped (Ok n) h = record { is = λ e v m. h.is e v m ∙ f e v m }
    mapped (Err e) h = tt

-- the answer of a last call that gives it
pub gives_on : (old mid new : List Shape) (s : Sort) (r : Result Node BankFault) (x y : Values → Worth) → Grows old mid → Gives mid new s x r → ((e : Environment) (v : Values) → Models new e v → x v ≡ y v) → Gives old new s y r
gives_on old mid new s r x y g h f = record { node = h.node; value = mapped r h.value; grows = grows_on g h.grows; bank = h.bank }
  where
    mapped : (r : Result Node BankFault) → IfOk r (HasWorth new x) → IfOk r (HasWorth new y)
    mapped (Ok n) k = record { is = λ e v m. k.is e v m ∙ f e v m }
    mapped (Err e) k = tt

shift_value : (a : ℕ) → result_of operator.Lshr W64 a 32 ≡ object_of a
unfolding result_of
shift_value a = refl

mask_value : (a : ℕ) → result_of operator.And W64 a 4294967295 ≡ offset_of a
unfolding result_of
mask_value a = and_mask a 32

equal_value : (a b : ℕ) → outcome_of test.Equal W64 a b ≡ nat_eq a b
unfolding outcome_of
equal_value a b = refl

pub word_at : (old new : List Shape) (x : ℕ) (node : Node) → IsWorth old (Constant x W64) node → Grows old new → (e : Environment) (v : Values) → Models new e v → (v node.index).word ≡ x
word_at old new x node h g e v m = ap (λ (y : Worth). y.word) (h.is e v (weaken g m))

pub truth_at : (old new : List Shape) (x : Values → Bool) (node : Node) → HasWorth old (λ v. of_truth (x v)) node → Grows old new → (e : Environment) (v : Values) → Models new e v → (v node.index).truth ≡ x v
truth_at old new x node h g e v m = ap (λ (y : Worth). y.truth) (h.is e v (weaken g m))

pub number_at : (old new : List Shape) (x : Values → ℕ) (node : Node) → HasWorth old (λ v. of_word (x v)) node → Grows old new → (e : Environment) (v : Values) → Models new e v → (v node.index).word ≡ x v
number_at old new x node h g e v m = ap (λ (y : Worth). y.word) (h.is e v (weaken g m))

pub shifted_number : (old mid new : List Shape) (a : ℕ) (by : Node) (r : Result Node BankFault) → Grows old mid → IsWorth mid (Constant 32 W64) by → Makes mid new (Binary operator.Lshr W64 a by.index) r → Gives old new (sort_of (Binary operator.Lshr W64 a by.index)) (λ v. of_word (object_of (v a).word)) r
shifted_number old mid new a by r g h m = gives_last old mid new _ r (λ v. of_word (object_of (v a).word)) g m (λ e v k. ap (λ n. of_word (result_of operator.Lshr W64 (v a).word n)) (word_at mid new 32 by h m.grows e v k) ∙ ap of_word (shift_value (v a).word))

pub masked_offset : (old mid new : List Shape) (a : ℕ) (mask : Node) (r : Result Node BankFault) → Grows old mid → IsWorth mid (Constant 4294967295 W64) mask → Makes mid new (Binary operator.And W64 a mask.index) r → Gives old new (sort_of (Binary operator.And W64 a mask.index)) (λ v. of_word (offset_of (v a).word)) r
masked_offset old mid new a mask r g h m = gives_last old mid new _ r (λ v. of_word (offset_of (v a).word)) g m (λ e v k. ap (λ n. of_word (result_of operator.And W64 (v a).word n)) (word_at mid new 4294967295 mask h m.grows e v k) ∙ ap of_word (mask_value (v a).word))

pub zero_tested : (old mid new : List Shape) (a : ℕ) (zero : Node) (r : Result Node BankFault) → Grows old mid → IsWorth mid (Constant 0 W64) zero → Makes mid new (Test test.Equal W64 a zero.index) r → Gives old new (sort_of (Test test.Equal W64 a zero.index)) (λ v. of_truth (nat_eq (v a).word 0)) r
zero_tested old mid new a zero r g h m = gives_last old mid new _ r (λ v. of_truth (nat_eq (v a).word 0)) g m (λ e v k. ap (λ n. of_truth (outcome_of test.Equal W64 (v a).word n)) (word_at mid new 0 zero h m.grows e v k) ∙ ap of_truth (equal_value (v a).word 0))

pub numbers_tested : (old mid new : List Shape) (x y : Values → ℕ) (a b : Node) (ma mb : List Shape) (r : Result Node BankFault) → Grows old mid → HasWorth ma (λ v. of_word (x v)) a → Grows ma mid → HasWorth mb (λ v. of_word (y v)) b → Grows mb mid → Makes mid new (Test test.Equal W64 a.index b.index) r → Gives old new (sort_of (Test test.Equal W64 a.index b.index)) (λ v. of_truth (nat_eq (x v) (y v))) r
numbers_tested old mid new x y a b ma mb r g ha ga hb gb m = gives_last old mid new _ r (λ v. of_truth (nat_eq (x v) (y v))) g m
    (λ e v k. ap of_truth (equal_value (v a.index).word (v b.index).word ∙ both (v a.index).word (x v) (v b.index).word (y v) (number_at ma new x a ha (grows_on ga m.grows) e v k) (number_at mb new y b hb (grows_on gb m.grows) e v k)))
  where
    both : (a b c d : ℕ) → a ≡ b → c ≡ d → nat_eq a c ≡ nat_eq b d
    both a b c d h k = rw (h, k) refl

or_is : (a b : Bool) → cond a true b ≡ (a || b)
or_is true b = refl
or_is false b = refl

and_is : (a b : Bool) → cond a b false ≡ (a && b)
and_is true b = refl
and_is false b = refl

pub truths_or : (old mid new : List Shape) (x y : Values → Bool) (a b : Node) (ma mb : List Shape) (r : Result Node BankFault) → Grows old mid → HasWorth ma (λ v. of_truth (x v)) a → Grows ma mid → HasWorth mb (λ v. of_truth (y v)) b → Grows mb mid → Makes mid new (Connect connective.Or a.index b.index) r → Gives old new (sort_of (Connect connective.Or a.index b.index)) (λ v. of_truth (x v || y v)) r
truths_or old mid new x y a b ma mb r g ha ga hb gb m = gives_last old mid new _ r (λ v. of_truth (x v || y v)) g m
    (λ e v k. ap of_truth (both (v a.index).truth (x v) (v b.index).truth (y v) (truth_at ma new x a ha (grows_on ga m.grows) e v k) (truth_at mb new y b hb (grows_on gb m.grows) e v k)))
  where
    both : (a b c d : Bool) → a ≡ b → c ≡ d → cond a true c ≡ (b || d)
    both a b c d h k = rw (h, k) (or_is b d)

pub truths_and : (old mid new : List Shape) (x y : Values → Bool) (a b : Node) (ma mb : List Shape) (r : Result Node BankFault) → Grows old mid → HasWorth ma (λ v. of_truth (x v)) a → Grows ma mid → HasWorth mb (λ v. of_truth (y v)) b → Grows mb mid → Makes mid new (Connect connective.And a.index b.index) r → Gives old new (sort_of (Connect connective.And a.index b.index)) (λ v. of_truth (x v && y v)) r
truths_and old mid new x y a b ma mb r g ha ga hb gb m = gives_last old mid new _ r (λ v. of_truth (x v && y v)) g m
    (λ e v k. ap of_truth (both (v a.index).truth (x v) (v b.index).truth (y v) (truth_at ma new x a ha (grows_on ga m.grows) e v k) (truth_at mb new y b hb (grows_on gb m.grows) e v k)))
  where
    both : (a b c d : Bool) → a ≡ b → c ≡ d → cond a c false ≡ (b && d)
    both a b c d h k = rw (h, k) (and_is b d)

pub truth_not : (old mid new : List Shape) (x : Values → Bool) (a : Node) (r : Result Node BankFault) → Grows old mid → HasWorth mid (λ v. of_truth (x v)) a → Makes mid new (Not a.index) r → Gives old new (sort_of (Not a.index)) (λ v. of_truth (not (x v))) r
truth_not old mid new x a r g h m = gives_last old mid new _ r (λ v. of_truth (not (x v))) g m (λ e v k. ap (λ b. of_truth (not b)) (truth_at mid new x a h m.grows e v k))

-- a kind's own tests
pub literal_kind : (o : Option Object) → has_kind kind.Literal o ≡ is_literal o
literal_kind None = refl
literal_kind (Some o) = of_kind o.kind where
  of_kind : (k : ObjectKind) → has_kind kind.Literal (Some (record { kind = k; size = o.size })) ≡ is_literal (Some (record { kind = k; size = o.size }))
  of_kind kind.Static = refl
  of_kind kind.Automatic = refl
  of_kind kind.Literal = refl
  of_kind kind.Heap = refl
  of_kind kind.Outside = refl

pub heap_kind : (o : Option Object) → has_kind kind.Heap o ≡ is_heap o
heap_kind None = refl
heap_kind (Some o) = of_kind o.kind where
  of_kind : (k : ObjectKind) → has_kind kind.Heap (Some (record { kind = k; size = o.size })) ≡ is_heap (Some (record { kind = k; size = o.size }))
  of_kind kind.Static = refl
  of_kind kind.Automatic = refl
  of_kind kind.Literal = refl
  of_kind kind.Heap = refl
  of_kind kind.Outside = refl

-- the same answer in other words
pub gives_same : (old new : List Shape) (s : Sort) (r : Result Node BankFault) (x y : Values → Worth) → Gives old new s x r → ((v : Values) → x v ≡ y v) → Gives old new s y r
gives_same old new s r x y h f = record { node = h.node; value = mapped r h.value; grows = h.grows; bank = h.bank }
  where
    mapped : (r : Result Node BankFault) → IfOk r (HasWorth new x) → IfOk r (HasWorth new y)
    mapped (Ok n) k = record { is = λ e v m. k.is e v m ∙ f v }
    mapped (Err e) k = tt

pub live_is : (shapes : List Shape) (m a n : ℕ) (node : Node) → IsWorth shapes (IsLive m a n) node → HasWorth shapes (λ v. of_truth (is_live (v m).store (v a).word (v n).word)) node
live_is shapes m a n node h = record { is = λ e v k. h.is e v k }

pub and_grouped : (a b c : Bool) → ((a && b) && c) ≡ (a && (b && c))
and_grouped true b c = refl
and_grouped false b c = refl
