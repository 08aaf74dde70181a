-- Arguments as the values of parameters.
use Rattle.std.proofs.Common.{◌≡◌, ℕ, zero, suc, ◌<◌, ◌^◌, ℤ, List, [], ◌∷◌, ◌++◌, length, refl, sym, ap, subst, ◌∙◌, append-nil}
use Rattle.std.specs.Prelude.{map, slice_index, drop}
use Rattle.std.proofs.Math.Nat.{mod-eq_of_lt}
use Rattle.plain_data.specs.Words.{bits}
use Rattle.core_tree.specs.declared.types.ValueType.{ValueType}
use Rattle.core_tree.specs.declared.types.WordType.{WordType}
use Rattle.core_tree.specs.Numbers.{value_of_word, converted_to}
use Rattle.term_bank.specs.declared.binding.Binding.{Binding}
use Rattle.term_bank.specs.declared.shape.Shape.{Shape}
use Rattle.term_bank.specs.declared.sort.Sort.TheVariants.{Word}
use Rattle.term_bank.specs.declared.sort.Node.{Node}
use Rattle.term_bank.specs.Bindings.{bound}
use Rattle.term_bank.specs.Values.{Environment, Values, IsOfSort}
use Rattle.term_bank.proofs.BankLemmas.{weaken, stays, grows_on, node_grown}
use Rattle.term_bank.proofs.BindingLemmas.{node_sorted}
use Rattle.term_bank.proofs.TermLemmas.{node_of}
use Rattle.path_states.specs.declared.state.Number.{Number}
use Rattle.path_states.specs.declared.state.State.{State}
use Rattle.path_states.specs.States.{IsState, AreNumbers, number_in, numbers_in, onto}
use Rattle.path_states.proofs.Growth.{number_grown, numbers_grown, numbers_joined}
use Rattle.path_numbers.specs.Answers.{Numbered}
use Rattle.path_steps.specs.Operands.{Pops, under}
use Rattle.path_forms.specs.Calling.{taken, below}
use Rattle.summary_compose.specs.Summaries.{word_of, entry_values, given}
use Rattle.summary_compose.specs.Composing.{Takes, PassesOne, PassesFirst, Passes, read_all}
use Rattle.summary_compose.proofs.Lists.{joined}

-- ---- operands that are taken off

pub takes_none : (a : List Shape) (s : State) → IsState a s → Takes a a s s 0 []
takes_none a s h = record {
  grows = stays;
  state = h;
  numbers = tt;
  counted = refl;
  same = refl;
  are = λ e v m. refl;
  rest = λ e v m. refl;
}

numbers_more : (v : Values) (xs : List Number) (x : Number) → numbers_in v (xs ++ x ∷ []) ≡ numbers_in v xs ++ number_in v x ∷ []
numbers_more v [] x = refl
numbers_more v (y ∷ ys) x = ap (λ l. number_in v y ∷ l) (numbers_more v ys x)

pub one_longer : {A : Type 0} (xs : List A) (x : A) (n : ℕ) → length xs ≡ n → length (xs ++ x ∷ []) ≡ suc n
one_longer [] x n h = ap suc h
one_longer (y ∷ ys) x zero h = absurd (cc)
one_longer (y ∷ ys) x (suc n) h = ap suc (one_longer ys x n (cc))

pub takes_more : (a b c : List Shape) (s t u : State) (x : Number) (count n : ℕ) (xs : List Number) → count ≡ suc n → Pops a b s t x
    → Takes b c t u n xs → Takes a c s u count (xs ++ x ∷ [])
takes_more a b c s t u x count n xs long h k = rw long (more h k) where
  more : Pops a b s t x → Takes b c t u n xs → Takes a c s u (suc n) (xs ++ x ∷ [])
  more h k = record {
    grows = grows_on h.grows k.grows;
    state = k.state;
    numbers = numbers_joined c xs (x ∷ []) k.numbers (number_grown k.grows x h.number, tt);
    counted = one_longer xs x n k.counted;
    same = k.same ∙ ap (λ (q : State). record q { operands = u.operands }) h.same;
    are = λ e v m.
        let mb = weaken k.grows m in
        numbers_more v xs x ∙ ap (λ l. l ++ number_in v x ∷ []) (k.are e v m ∙ ap (λ l. taken n l) (h.rest e v mb))
        ∙ ap (λ z. taken n (under (onto v [] s.operands)) ++ z ∷ []) (h.is e v mb);
    rest = λ e v m. k.rest e v m ∙ ap (λ l. below n l) (h.rest e v (weaken k.grows m));
  }

-- ---- values of parameters

pub passes_one : (a b : List Shape) (t : ValueType) (x y : Number) → y.word ≡ word_of t
    → Numbered a b y (λ v. converted_to t (number_in v x)) → PassesOne a b t x y.node
passes_one a b t x y same h = record {
  grows = h.grows;
  node = node_of b _ y.node h.number.term;
  is = λ e v m.
      let sorted : IsOfSort y.node.sort (v y.node.index) = node_sorted b e v y.node h.bank (node_of b _ y.node h.number.term) m in
      let word_sorted : IsOfSort (Word y.word.width) (v y.node.index) = subst (λ q. IsOfSort q (v y.node.index)) h.number.term.same sorted in
      let small : (v y.node.index).word < 2 ^ bits (word_of t).width = subst (λ (q : WordType). (v y.node.index).word < 2 ^ bits q.width) same word_sorted.1 in
      ap (λ n. value_of_word (word_of t) n) (mod-eq_of_lt small)
      ∙ ap (λ (q : WordType). value_of_word q (v y.node.index).word) (sym same) ∙ h.is e v m;
}

pub passes_none : (a : List Shape) (before : List Node) → Passes a a [] [] before before
passes_none a before = record {
  grows = stays;
  more = [];
  behind = sym (append-nil before);
  long = refl;
  alike = refl;
  nodes = tt;
  are = λ e v m. refl;
}

pub passes_first : (a b : List Shape) (t : ValueType) (x : Number) (xs : List Number) (n : Node) (before now : List Node) → AreNumbers a xs
    → PassesOne a b t x n → now ≡ before ++ n ∷ [] → PassesFirst a b t x xs before now
passes_first a b t x xs n before now are h is = record { others = numbers_grown h.grows xs are; node = n; behind = is; passes = h }

pub passes_more : (a b c : List Shape) (t : ValueType) (x : Number) (ts : List ValueType) (xs : List Number) (before next now : List Node)
    → PassesFirst a b t x xs before next → Passes b c ts xs next now → Passes a c (t ∷ ts) (x ∷ xs) before now
passes_more a b c t x ts xs before next now h k = record {
  grows = grows_on h.passes.grows k.grows;
  more = h.node ∷ k.more;
  behind = k.behind ∙ ap (λ l. l ++ k.more) h.behind ∙ joined before (h.node ∷ []) k.more;
  long = ap suc k.long;
  alike = ap suc k.alike;
  nodes = (node_grown b c h.node k.grows h.passes.node, k.nodes);
  are = λ e v m. rw (h.passes.is e v (weaken k.grows m), k.are e v m) refl;
}

pub passes_all : (a b c : List Shape) (t : ValueType) (x : Number) (ts ts2 : List ValueType) (xs xs2 : List Number) (before next now : List Node)
    → xs2 ≡ x ∷ xs → ts2 ≡ t ∷ ts → PassesFirst a b t x xs before next → Passes b c ts xs next now → Passes a c ts2 xs2 before now
passes_all a b c t x ts ts2 xs xs2 before next now same alike h k = rw (same, alike) (passes_more a b c t x ts xs before next now h k)

-- ---- the parameters of the environment in which nodes are put in

next_of : (f : Node → ℕ) (ns more : List Node) (n : Node) (k : ℕ) → drop k ns ≡ n ∷ more
    → (slice_index (map f ns) k ≡ f n) × (drop (suc k) ns ≡ more)
next_of f [] more n zero h = absurd (cc)
next_of f [] more n (suc k) h = absurd (cc)
next_of f (x ∷ xs) more n zero h = let same : x ≡ n = cc in let rest : xs ≡ more = cc in (ap f same, rest)
next_of f (x ∷ xs) more n (suc k) h = next_of f xs more n k h

entries : (e : Environment) (v : Values) (put : Binding) (ts : List ValueType) (ns : List Node) (vs : List ℤ) (k : ℕ)
    → drop k put.parameters ≡ ns → length ns ≡ length ts → read_all ts ns v ≡ vs → entry_values (bound e v put) k ts ≡ vs
entries e v put [] ns vs k h long is = is
entries e v put (t ∷ ts) [] vs k h long is = absurd (cc)
entries e v put (t ∷ ts) (n ∷ ns) vs k h long is =
    let step = next_of (λ m. (v m.index).word) put.parameters ns n k h in
    rw (step.0, entries e v put ts ns (read_all ts ns v) (suc k) step.1 (cc) refl) is

pub entries_given : (e : Environment) (v : Values) (put : Binding) (ts : List ValueType) (vs : List ℤ) → length put.parameters ≡ length ts
    → read_all ts put.parameters v ≡ given ts vs → entry_values (bound e v put) 0 ts ≡ given ts vs
entries_given e v put ts vs long is = entries e v put ts put.parameters (given ts vs) 0 refl long is
