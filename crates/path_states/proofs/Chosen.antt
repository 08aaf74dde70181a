-- Numbers and states by the guard of the first.
use Rattle.std.proofs.Common.{◌≡◌, ℕ, ℤ, zero, suc, ◌<◌, ◌+◌, List, [], ◌∷◌, ◌++◌, length, take, Bool, true, false, cond}
use Rattle.std.proofs.Common.{Option, Some, None, get_or, refl, sym, ap, ◌∙◌}
use Rattle.std.specs.Prelude.{slice_get}
use Rattle.std.proofs.lemmas.List.{take_more}
use Rattle.std.proofs.lemmas.Option.{slice_get-get_or}
use Rattle.plain_data.specs.declared.run.Event.{Event}
use Rattle.c_store.specs.Store.{Store}
use Rattle.core_tree.specs.declared.types.WordType.{WordType}
use Rattle.core_tree.specs.Numbers.{value_of_word}
use Rattle.term_bank.specs.declared.sort.Sort.TheVariants.{Truth, Word, Memory, Events}
use Rattle.term_bank.specs.declared.sort.Node.{Node}
use Rattle.term_bank.specs.declared.shape.Connective.TheVariants as connective
use Rattle.term_bank.specs.declared.shape.Shape.{Shape}
use Rattle.term_bank.specs.declared.shape.Shape.TheVariants.{Not, Connect, Choose}
use Rattle.term_bank.specs.Terms.{IsTerm}
use Rattle.term_bank.specs.Values.{Worth, Grows, IsWorth}
use Rattle.term_bank.proofs.BankLemmas.{weaken, stays, grows_on}
use Rattle.term_bank.proofs.TermLemmas.{term_grown}
use Rattle.path_states.specs.declared.state.Number.{Number}
use Rattle.path_states.specs.declared.state.State.{State}
use Rattle.path_states.specs.States.{Held, IsNumber, AreNumbers, IsStateKind, number_in, maybe_number, onto, kind_in, run_in}
use Rattle.path_states.specs.Ways.{Halves}
use Rattle.path_states.specs.Merges.{AlikeNumbers, Alike, ChosenOne, ChosenMaybe, ChosenAll, Merges}
use Rattle.path_states.proofs.Growth.{numbers_grown, maybe_grown, kind_grown, numbers_joined, onto_pushed}

-- ---- numbers

value_chosen : (t : WordType) (c : Bool) (x y z : Worth) → z ≡ cond c x y
    → value_of_word t z.word ≡ cond c (value_of_word t x.word) (value_of_word t y.word)
value_chosen t true x y z h = ap (λ w. value_of_word t w.word) h
value_chosen t false x y z h = ap (λ w. value_of_word t w.word) h

pub chosen_number : (a b : List Shape) (condition : Node) (x y : Number) (n : Node) → x.word ≡ y.word → Grows a b
    → IsTerm b (Word x.word.width) n → IsWorth b (Choose (Word x.word.width) condition.index x.node.index y.node.index) n
    → ChosenOne a b condition x y (record { node = n; word = x.word })
chosen_number a b condition x y n same g term is = record {
  grows = g;
  number = record { term = term };
  is = λ e v m.
      value_chosen x.word (v condition.index).truth (v x.node.index) (v y.node.index) (v n.index) (is.is e v m)
      ∙ ap (λ t. cond (v condition.index).truth (value_of_word x.word (v x.node.index).word) (value_of_word t (v y.node.index).word)) same;
}

pub second_term : (b : List Shape) (x y : Number) → x.word ≡ y.word → IsNumber b y → IsTerm b (Word x.word.width) y.node
second_term b x y same h = rw same h.term

some_chosen : (c : Bool) (x y z : ℤ) → z ≡ cond c x y → Some z ≡ cond c (Some x) (Some y)
some_chosen true x y z h = ap (λ t. Some t) h
some_chosen false x y z h = ap (λ t. Some t) h

pub chosen_some : (a b : List Shape) (condition : Node) (x y z : Number) → ChosenOne a b condition x y z
    → ChosenMaybe a b condition (Some x) (Some y) (Some z)
chosen_some a b condition x y z h = record {
  grows = h.grows;
  number = h.number;
  is = λ e v m. some_chosen (v condition.index).truth (number_in v x) (number_in v y) (number_in v z) (h.is e v m);
}

pub none_chosen : {A : Type 0} (c : Bool) (x : A) → x ≡ cond c x x
none_chosen true x = refl
none_chosen false x = refl

pub chosen_nothing : (a : List Shape) (condition : Node) → ChosenMaybe a a condition None None None
chosen_nothing a condition = record {
  grows = stays;
  number = tt;
  is = λ e v m. none_chosen (v condition.index).truth None;
}

pub chosen_none : (a : List Shape) (condition : Node) → ChosenAll a a condition [] [] []
chosen_none a condition = record {
  grows = stays;
  numbers = tt;
  are = λ e v m. none_chosen (v condition.index).truth [];
}

cons_chosen : {A : Type 0} (c : Bool) (x y z : A) (xs ys zs : List A) → z ≡ cond c x y → zs ≡ cond c xs ys
    → z ∷ zs ≡ cond c (x ∷ xs) (y ∷ ys)
cons_chosen true x y z xs ys zs h k = rw (h, k) refl
cons_chosen false x y z xs ys zs h k = rw (h, k) refl

pub chosen_more : (a b c : List Shape) (condition : Node) (x y z : Number) (xs ys zs : List Number)
    → ChosenAll a b condition xs ys zs → ChosenOne b c condition x y z
    → ChosenAll a c condition (xs ++ x ∷ []) (ys ++ y ∷ []) (zs ++ z ∷ [])
chosen_more a b c condition x y z xs ys zs h i = record {
  grows = grows_on h.grows i.grows;
  numbers = numbers_joined c zs (z ∷ []) (numbers_grown i.grows zs h.numbers) (i.number, tt);
  are = λ e v m.
      let k = (v condition.index).truth in
      onto_pushed v [] zs z
      ∙ cons_chosen k (number_in v x) (number_in v y) (number_in v z) (onto v [] xs) (onto v [] ys) (onto v [] zs)
      (i.is e v m) (h.are e v (weaken i.grows m))
      ∙ ap (λ l. cond k l (number_in v y ∷ onto v [] ys)) (sym (onto_pushed v [] xs x))
      ∙ ap (λ l. cond k (onto v [] (xs ++ x ∷ [])) l) (sym (onto_pushed v [] ys y));
}

-- what stands at one index of both lists
pub number_of : (b : List Shape) (xs : List Number) (i : ℕ) (x : Number) → AreNumbers b xs → slice_get xs i ≡ Some x → IsNumber b x
number_of b [] i x h is = absurd (cc)
number_of b (y ∷ ys) zero x h is = let same : y ≡ x = cc in rw (← same) h.0
number_of b (y ∷ ys) (suc i) x h is = number_of b ys i x h.1 is

pub alike_length : (xs ys : List Number) → AlikeNumbers xs ys → length xs ≡ length ys
alike_length [] [] h = refl
alike_length [] (y ∷ ys) h = absurd h
alike_length (x ∷ xs) [] h = absurd h
alike_length (x ∷ xs) (y ∷ ys) h = ap (λ n. suc n) (alike_length xs ys h.1)

pub alike_at : (xs ys : List Number) (i : ℕ) (x y : Number) → AlikeNumbers xs ys → slice_get xs i ≡ Some x → slice_get ys i ≡ Some y
    → x.word ≡ y.word
alike_at [] ys i x y h j k = absurd (cc)
alike_at (p ∷ ps) [] i x y h j k = absurd h
alike_at (p ∷ ps) (q ∷ qs) zero x y h j k = let s : p ≡ x = cc in let t : q ≡ y = cc in rw (← s, ← t) h.0
alike_at (p ∷ ps) (q ∷ qs) (suc i) x y h j k = alike_at ps qs i x y h.1 j k

pub number_at : (b : List Shape) (xs : List Number) (i : ℕ) (d : Number) → AreNumbers b xs → i < length xs → IsNumber b (get_or xs i d)
number_at b xs i d h below = number_of b xs i (get_or xs i d) h (slice_get-get_or xs i d below)

pub alike_index : (xs ys : List Number) (i : ℕ) (d : Number) → AlikeNumbers xs ys → i < length xs → i < length ys
    → (get_or xs i d).word ≡ (get_or ys i d).word
alike_index xs ys i d h j k =
    alike_at xs ys i (get_or xs i d) (get_or ys i d) h (slice_get-get_or xs i d j) (slice_get-get_or ys i d k)

alike_joined : (xs ys : List Number) (x y : Number) → AlikeNumbers xs ys → x.word ≡ y.word → AlikeNumbers (xs ++ x ∷ []) (ys ++ y ∷ [])
alike_joined [] [] x y h k = (k, tt)
alike_joined [] (q ∷ qs) x y h k = absurd h
alike_joined (p ∷ ps) [] x y h k = absurd h
alike_joined (p ∷ ps) (q ∷ qs) x y h k = (h.0, alike_joined ps qs x y h.1 k)

pub alike_more : (xs ys : List Number) (i : ℕ) (d : Number) → i < length xs → i < length ys → AlikeNumbers (take i xs) (take i ys)
    → (get_or xs i d).word ≡ (get_or ys i d).word → AlikeNumbers (take (i + 1) xs) (take (i + 1) ys)
alike_more xs ys i d j k h l =
    rw (take_more xs i d j, take_more ys i d k) (alike_joined (take i xs) (take i ys) (get_or xs i d) (get_or ys i d) h l)

pub chosen_next : (a b c : List Shape) (condition : Node) (i : ℕ) (d z : Number) (xs ys zs : List Number) → i < length xs → i < length ys
    → ChosenAll a b condition (take i xs) (take i ys) zs → ChosenOne b c condition (get_or xs i d) (get_or ys i d) z
    → ChosenAll a c condition (take (i + 1) xs) (take (i + 1) ys) (zs ++ z ∷ [])
chosen_next a b c condition i d z xs ys zs j k h l =
    rw (take_more xs i d j, take_more ys i d k)
    (chosen_more a b c condition (get_or xs i d) (get_or ys i d) z (take i xs) (take i ys) zs h l)

-- ---- states

store_chosen : (c : Bool) (x y z : Worth) → z ≡ cond c x y → z.store ≡ cond c x.store y.store
store_chosen true x y z h = ap (λ (w : Worth). w.store) h
store_chosen false x y z h = ap (λ (w : Worth). w.store) h

events_chosen : (c : Bool) (x y z : Worth) → z ≡ cond c x y → z.events ≡ cond c x.events y.events
events_chosen true x y z h = ap (λ (w : Worth). w.events) h
events_chosen false x y z h = ap (λ (w : Worth). w.events) h

-- a run whose parts are each of the first or of the second is the first or the second
run_chosen : (g : Bool) (s t : Held) (value : Option ℤ) (store : Store) (events : List Event) (operands : List ℤ)
    → s.done.kind ≡ t.done.kind → s.done.out ≡ t.done.out
    → value ≡ cond g s.done.value t.done.value → store ≡ cond g s.done.store t.done.store
    → events ≡ cond g s.done.events t.done.events → operands ≡ cond g s.operands t.operands
    → record {
      operands = operands;
      done = record { kind = s.done.kind; value = value; store = store; events = events; out = s.done.out };
    } ≡ cond g s t
run_chosen true s t value store events operands k o hv hs he ho = rw (hv, hs, he, ho) refl
run_chosen false s t value store events operands k o hv hs he ho = rw (hv, hs, he, ho, k, o) refl

pub merged : (a b c d f k : List Shape) (s t : State) (guard : Node) (value : Option Number) (memory : Node)
    (operands : List Number) (events : Node) → Alike s t
    → IsStateKind a s.kind → Grows a b → IsTerm b Truth guard → IsWorth b (Connect connective.Or s.guard.index t.guard.index) guard
    → ChosenMaybe b c s.guard s.value t.value value
    → Grows c d → IsTerm d Memory memory → IsWorth d (Choose Memory s.guard.index s.memory.index t.memory.index) memory
    → ChosenAll d f s.guard s.operands t.operands operands
    → Grows f k → IsTerm k Events events → IsWorth k (Choose Events s.guard.index s.events.index t.events.index) events
    → Merges a k s t (record {
      guard = guard;
      kind = s.kind;
      value = value;
      position = s.position;
      memory = memory;
      events = events;
      operands = operands;
    })
merged a b c d f k s t guard value memory operands events alike kind gb tg ig hv gd tm im ho ge te ie =
    let gk = grows_on hv.grows (grows_on gd (grows_on ho.grows ge)) in
    let dk = grows_on ho.grows ge in
    record {
      grows = grows_on gb gk;
      state = record {
        guard = term_grown b k _ guard gk tg;
        kind = kind_grown (grows_on gb gk) s.kind kind;
        memory = term_grown d k _ memory dk tm;
        value = maybe_grown (grows_on gd dk) value hv.number;
        events = te;
        operands = numbers_grown ge operands ho.numbers;
      };
      guard = λ e v m. ap (λ (w : Worth). w.truth) (ig.is e v (weaken gk m));
      is = λ e v m.
          run_chosen (v s.guard.index).truth (run_in v s) (run_in v t) (maybe_number v value) (v memory.index).store (v events.index).events
          (onto v [] operands) (ap (kind_in v) alike.kind) alike.position
          (hv.is e v (weaken (grows_on gd dk) m))
          (store_chosen (v s.guard.index).truth (v s.memory.index) (v t.memory.index) (v memory.index) (im.is e v (weaken dk m)))
          (events_chosen (v s.guard.index).truth (v s.events.index) (v t.events.index) (v events.index) (ie.is e v m))
          (ho.are e v (weaken ge m));
    }

-- ---- guards

pub halved : (a b c d : List Shape) (guard truth other one two : Node)
    → Grows a b → IsWorth b (Not truth.index) other
    → Grows b c → IsTerm c Truth one → IsWorth c (Connect connective.And guard.index truth.index) one
    → Grows c d → IsTerm d Truth two → IsWorth d (Connect connective.And guard.index other.index) two
    → Halves a d guard truth one two
halved a b c d guard truth other one two gb io gc ty iy gd tn in_ = record {
  grows = grows_on gb (grows_on gc gd);
  yes_term = term_grown c d _ one gd ty;
  no_term = tn;
  yes_is = λ e v m. ap (λ (w : Worth). w.truth) (iy.is e v (weaken gd m));
  no_is = λ e v m.
      ap (λ (w : Worth). w.truth) (in_.is e v m)
      ∙ ap (λ (t : Bool). cond (v guard.index).truth t false) (ap (λ (w : Worth). w.truth) (io.is e v (weaken gc (weaken gd m))));
}
