-- What functions outside answer.
use Rattle.std.proofs.Common.{◌≡◌, ℕ, zero, suc, ◌+◌, pos, List, Bool, true, false, not, cond, refl, sym, ap, ◌∙◌, arith}
use Rattle.std.specs.Prelude.{Ok, nat_eq, ◌&&◌}
use Rattle.std.proofs.lemmas.Bool.Decides.{nat_tests}
use Rattle.plain_data.specs.declared.width.Width.TheVariants.{W64}
use Rattle.c_language.specs.Integers.{is_zero}
use Rattle.c_store.specs.declared.object.ObjectKind.TheVariants.{Outside}
use Rattle.c_store.specs.Store.{Store, start, make, zero_range}
use Rattle.core_tree.specs.declared.expr.OutsideAnswer.TheVariants as answer
use Rattle.core_tree.specs.declared.expr.Pointee.{Pointee}
use Rattle.core_tree.specs.declared.expr.Pointee.TheVariants as pointee
use Rattle.term_bank.specs.declared.sort.Sort.TheVariants as sort
use Rattle.term_bank.specs.declared.sort.Node.{Node}
use Rattle.term_bank.specs.declared.shape.Shape.{Shape}
use Rattle.term_bank.specs.declared.shape.Shape.TheVariants.{Constant, Choose}
use Rattle.term_bank.specs.Terms.{IsTerm, Makes}
use Rattle.term_bank.specs.Values.{Worth}
use Rattle.term_bank.proofs.BankLemmas.{weaken, grows_on}
use Rattle.term_bank.proofs.TermLemmas.{term_grown}
use Rattle.path_states.specs.declared.state.Number.{Number}
use Rattle.path_states.specs.States.{number_in}
use Rattle.path_numbers.specs.Answers.{Numbered, Truthful}
use Rattle.path_calls.specs.Outside.{AsksAt}
use Rattle.path_calls.specs.Places.{Tells, Changes}
use Rattle.path_calls.specs.Replies.{IsSizeOf, MakesObject, Replies, object_by, word_in}

-- ---- objects

pub object_bytes : (a b : List Shape) (most place k size : ℕ) (m n : Node) → IsSizeOf most (pointee.Bytes k) size
    → Changes a b place m n (λ q s. make q (record { kind = Outside; size = size }) s)
    → MakesObject a b most (pointee.Bytes k) place m n
object_bytes a b most place k size m n h i = record {
  small = rw (← h.is) h.small;
  changes = record {
    grows = i.grows;
    term = i.term;
    is = λ room within e v w r.
        i.is room within e v w r ∙ ap (λ z. make (e.base + place) (record { kind = Outside; size = z }) (v m.index).store) h.is;
  };
}

pub object_text : (a b c : List Shape) (most place size : ℕ) (m n t : Node) → IsSizeOf most pointee.Text size
    → Changes a b place m n (λ q s. make q (record { kind = Outside; size = size }) s)
    → Changes b c place n t (λ q s. zero_range (start q + most) 1 s)
    → MakesObject a c most pointee.Text place m t
object_text a b c most place size m n t h i j = record {
  small = rw (← h.is) h.small;
  changes = record {
    grows = grows_on i.grows j.grows;
    term = j.term;
    is = λ room within e v w r.
        j.is room within e v w r
        ∙ ap (λ s. zero_range (start (e.base + place) + most) 1 s) (i.is room within e v (weaken j.grows w) r)
        ∙ ap (λ z. zero_range (start (e.base + place) + most) 1 (make (e.base + place) (record { kind = Outside; size = z }) (v m.index).store)) h.is;
  };
}

-- ---- pointers

nonzero : (w : ℕ) → not (is_zero (pos w)) ≡ not (nat_eq w 0)
nonzero zero = refl
nonzero (suc n) = grind (arith, nat_tests)

word_by : (t c : Bool) (x y z : Worth) (p : ℕ) → c ≡ not t → z ≡ cond c x y → x.word ≡ p → y.word ≡ 0
    → pos z.word ≡ cond (t && true) (pos 0) (pos p)
word_by true c x y z p h e i j = ap (λ (w : Worth). pos w.word) (e ∙ ap (λ q. cond q x y) h) ∙ ap pos j
word_by false c x y z p h e i j = ap (λ (w : Worth). pos w.word) (e ∙ ap (λ q. cond q x y) h) ∙ ap pos i

memory_by : (t c : Bool) (x y z : Worth) (s : Store) → c ≡ not t → z ≡ cond c x y → x.store ≡ s
    → z.store ≡ cond (t && true) y.store s
memory_by true c x y z s h e i = ap (λ (w : Worth). w.store) (e ∙ ap (λ q. cond q x y) h)
memory_by false c x y z s h e i = ap (λ (w : Worth). w.store) (e ∙ ap (λ q. cond q x y) h) ∙ i

pub replies_null : (a b c d f g h i : List Shape) (most place : ℕ) (x : Pointee) (m made first null node memory given : Node) (word : Number)
    → MakesObject a b most x place m made → Tells b c place start first → AsksAt c d place word
    → Truthful d f given (λ v. not (is_zero (number_in v word))) → Makes f g (Constant 0 W64) (Ok null)
    → Makes g h (Choose (sort.Word W64) given.index first.index null.index) (Ok node)
    → Makes h i (Choose sort.Memory given.index made.index m.index) (Ok memory)
    → Replies a i most (answer.Pointer false x) place m (record {
      number = record { node = node; word = record { width = W64; is_signed = false } };
      memory = memory;
    })
replies_null a b c d f g h i most place x m made first null node memory given word ho hf hw hg hz hn hm =
    let gi = grows_on hn.grows hm.grows in let fi = grows_on hz.grows gi in let di = grows_on hg.grows fi in
    let ci = grows_on hw.grows di in let bi = grows_on hf.grows ci in
    record {
      grows = grows_on ho.changes.grows bi;
      number = record { term = term_grown h i (sort.Word W64) node hm.grows hn.node };
      term = hm.node;
      small = ho.small;
      value = λ room within e v k r.
          let w = word_in e (e.base + place) in
          word_by (nat_eq w 0) (v given.index).truth (v first.index) (v null.index) (v node.index) (start (e.base + place))
          (hg.is e v (weaken fi k) ∙ ap (λ z. not (is_zero z)) (hw.is room within e v (weaken di k) r) ∙ nonzero w)
          (hn.value.is e v (weaken hm.grows k)) (hf.is room within e v (weaken ci k) r)
          (ap (λ (q : Worth). q.word) (hz.value.is e v (weaken gi k)));
      store = λ room within e v k r.
          let w = word_in e (e.base + place) in
          memory_by (nat_eq w 0) (v given.index).truth (v made.index) (v m.index) (v memory.index) (object_by most x (e.base + place) (v m.index).store)
          (hg.is e v (weaken fi k) ∙ ap (λ z. not (is_zero z)) (hw.is room within e v (weaken di k) r) ∙ nonzero w)
          (hm.value.is e v k) (ho.changes.is room within e v (weaken bi k) r);
    }

never : (t : Bool) → (t && false) ≡ false
never true = refl
never false = refl

pub replies_never : (a b c : List Shape) (most place : ℕ) (x : Pointee) (m made first : Node) → MakesObject a b most x place m made
    → Tells b c place start first
    → Replies a c most (answer.Pointer true x) place m (record {
      number = record { node = first; word = record { width = W64; is_signed = false } };
      memory = made;
    })
replies_never a b c most place x m made first ho hf = record {
  grows = grows_on ho.changes.grows hf.grows;
  number = record { term = hf.term };
  term = term_grown b c sort.Memory made hf.grows ho.changes.term;
  small = ho.small;
  value = λ room within e v k r.
      ap pos (hf.is room within e v k r)
      ∙ ap (λ t. cond t (pos 0) (pos (start (e.base + place)))) (sym (never (nat_eq (word_in e (e.base + place)) 0)));
  store = λ room within e v k r.
      ho.changes.is room within e v (weaken hf.grows k) r
      ∙ ap (λ t. cond t (v m.index).store (object_by most x (e.base + place) (v m.index).store))
      (sym (never (nat_eq (word_in e (e.base + place)) 0)));
}

-- ---- nothing, and numbers

pub replies_nothing : (a b : List Shape) (most place : ℕ) (m : Node) (x : Number) → IsTerm a sort.Memory m → Numbered a b x (λ v. pos 0)
    → Replies a b most answer.Nothing place m (record { number = x; memory = m })
replies_nothing a b most place m x is h = record {
  grows = h.grows;
  number = h.number;
  term = term_grown a b sort.Memory m h.grows is;
  small = tt;
  value = λ room within e v k r. h.is e v k;
  store = λ room within e v k r. refl;
}

pub replies_number : (a b : List Shape) (most place : ℕ) (m : Node) (x : Number) → IsTerm a sort.Memory m → AsksAt a b place x
    → Replies a b most answer.Number place m (record { number = x; memory = m })
replies_number a b most place m x is h = record {
  grows = h.grows;
  number = h.number;
  term = term_grown a b sort.Memory m h.grows is;
  small = tt;
  value = λ room within e v k r. h.is room within e v k r;
  store = λ room within e v k r. refl;
}
