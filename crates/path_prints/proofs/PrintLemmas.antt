-- The print of a state, once its format is taken.
use Rattle.std.proofs.Common.{◌≡◌, ℕ, zero, suc, ◌-◌, ℤ, pos, List, [], ◌∷◌, ◌++◌, cond, refl, sym, ap, ◌∙◌, append-nil}
use Rattle.std.specs.Prelude.{Ok}
use Rattle.plain_data.specs.declared.run.Event.{Event}
use Rattle.plain_data.specs.declared.run.Happening.TheVariants as happening
use Rattle.core_tree.specs.declared.types.ValueType.{ValueType}
use Rattle.core_tree.specs.Numbers.{int, wrapped, converted_to}
use Rattle.term_bank.specs.declared.sort.Sort.TheVariants.{Events}
use Rattle.term_bank.specs.declared.sort.Node.{Node}
use Rattle.term_bank.specs.declared.shape.Shape.{Shape}
use Rattle.term_bank.specs.declared.shape.Shape.TheVariants.{NoNumbers, NumberBehind, PrintEvent}
use Rattle.term_bank.specs.Terms.{IsTerm, Makes}
use Rattle.term_bank.specs.Values.{Worth, Values}
use Rattle.term_bank.proofs.BankLemmas.{weaken, stays, grows_on}
use Rattle.path_states.specs.declared.state.Number.{Number}
use Rattle.path_states.specs.declared.state.State.{State}
use Rattle.path_states.specs.States.{IsState, AreNumbers, done_in, onto, number_in, numbers_in}
use Rattle.path_states.specs.Ways.{Steps, Goes}
use Rattle.path_states.proofs.Growth.{state_grown, number_grown, numbers_joined, onto_pushed}
use Rattle.path_states.proofs.Paths.{goes_none, goes_more}
use Rattle.path_numbers.specs.Answers.{Numbered}
use Rattle.path_prints.specs.Prints.{Gathers, NotesPrint, print_events, print_way, PrintsEach}

-- ---- the length as an answer

pub answers_length : (a b c d : List Shape) (x y z : Number) (to : ValueType) (w : ℤ) (n : ℕ) → w ≡ pos n → Numbered a b x (λ v. w)
    → Numbered b c y (λ v. wrapped int (number_in v x)) → Numbered c d z (λ v. converted_to to (number_in v y))
    → Numbered a d z (λ v. converted_to to (wrapped int (pos n)))
answers_length a b c d x y z to w n same h i j = record {
  grows = grows_on h.grows (grows_on i.grows j.grows);
  bank = j.bank;
  number = j.number;
  is = λ e v m.
      let mc = weaken j.grows m in
      j.is e v m ∙ ap (converted_to to) (i.is e v mc ∙ ap (wrapped int) (h.is e v (weaken i.grows mc) ∙ same));
}

-- ---- the event

pub gathers_none : (a b : List Shape) (n : Node) → Makes a b NoNumbers (Ok n) → Gathers a b [] n
gathers_none a b n h = record { grows = h.grows; term = h.node; is = λ e v m. ap (λ (w : Worth). w.numbers) (h.value.is e v m) }

numbers_pushed : (v : Values) (xs : List Number) (x : Number) → numbers_in v (xs ++ x ∷ []) ≡ numbers_in v xs ++ number_in v x ∷ []
numbers_pushed v [] x = refl
numbers_pushed v (y ∷ ys) x = ap (λ l. number_in v y ∷ l) (numbers_pushed v ys x)

pub gathers_more : (a b c : List Shape) (xs : List Number) (x : Number) (n p : Node) → Gathers a b xs n
    → Makes b c (NumberBehind n.index x.word.width x.word.is_signed x.node.index) (Ok p) → Gathers a c (xs ++ x ∷ []) p
gathers_more a b c xs x n p h i = record {
  grows = grows_on h.grows i.grows;
  term = i.node;
  is = λ e v m.
      ap (λ (w : Worth). w.numbers) (i.value.is e v m)
      ∙ ap (λ l. l ++ number_in v x ∷ []) (h.is e v (weaken i.grows m))
      ∙ sym (numbers_pushed v xs x);
}

pub notes_nothing : (a : List Shape) (at from n : ℕ) (shown : List Number) (events : Node) → n ≡ 0 → IsTerm a Events events
    → NotesPrint a a at from n shown events events
notes_nothing a at from n shown events none is = record {
  grows = stays;
  term = is;
  is = λ e v m.
      sym (ap (λ k. (v events.index).events ++ print_events at from k (numbers_in v shown)) none ∙ append-nil (v events.index).events);
}

some_printed : (at from n : ℕ) (xs : List ℤ) → (n ≡ 0 → ⊥)
    → ◌≡◌ {A = List Event} (record { what = happening.Print at n xs; printed = from } ∷ []) (print_events at from n xs)
some_printed at from zero xs other = absurd (other refl)
some_printed at from (suc n) xs other = refl

pub notes_print : (a b c : List Shape) (at from n : ℕ) (shown : List Number) (events seen after : Node) → (n ≡ 0 → ⊥)
    → Gathers a b shown seen → Makes b c (PrintEvent events.index from at n seen.index) (Ok after)
    → NotesPrint a c at from n shown events after
notes_print a b c at from n shown events seen after other h i = record {
  grows = grows_on h.grows i.grows;
  term = i.node;
  is = λ e v m.
      ap (λ (w : Worth). w.events) (i.value.is e v m)
      ∙ ap (λ xs. (v events.index).events ++ record { what = happening.Print at n xs; printed = from } ∷ []) (h.is e v (weaken i.grows m))
      ∙ ap (λ l. (v events.index).events ++ l) (some_printed at from n (numbers_in v shown) other);
}

-- ---- the state with it

printed_state : (b : List Shape) (s : State) (events : Node) (last : Number) → IsState b s → IsTerm b Events events
    → AreNumbers b (last ∷ []) → IsState b (record s { events = events; operands = s.operands ++ last ∷ [] })
printed_state b s events last is h k = record {
  guard = is.guard;
  kind = is.kind;
  memory = is.memory;
  value = is.value;
  events = h;
  operands = numbers_joined b s.operands (last ∷ []) is.operands k;
}

pub ends_print : (room : ℕ) (a b c : List Shape) (s : State) (events : Node) (last : Number) (at : ℕ) (type : ValueType) (from n : ℕ)
    (shown : List Number) → IsState a s → Numbered a b last (λ v. converted_to type (wrapped int (pos n)))
    → NotesPrint b c at from n shown s.events events → n ≡ s.position - from
    → Steps room a c s (record s { events = events; operands = s.operands ++ last ∷ [] } ∷ []) (print_way at type from shown)
ends_print room a b c s events last at type from n shown is h i same =
    let ac = grows_on h.grows i.grows in
    record {
      grows = ac;
      states = (printed_state c s events last (state_grown ac s is) i.term (number_grown i.grows last h.number, tt), tt);
      stands = λ e v m r k.
          ap (λ l. cond (v s.guard.index).truth (record {
            operands = l;
            done = record (done_in v s) { events = (v events.index).events };
          } ∷ []) []) (onto_pushed v [] s.operands last)
          ∙ ap (λ l. cond (v s.guard.index).truth (record {
            operands = number_in v last ∷ onto v [] s.operands;
            done = record (done_in v s) { events = l };
          } ∷ []) []) (i.is e v m)
          ∙ ap (λ z. cond (v s.guard.index).truth (record {
            operands = z ∷ onto v [] s.operands;
            done = record (done_in v s) { events = (v s.events.index).events ++ print_events at from n (numbers_in v shown) };
          } ∷ []) []) (h.is e v (weaken i.grows m))
          ∙ ap (λ j. cond (v s.guard.index).truth (record {
            operands = converted_to type (wrapped int (pos j)) ∷ onto v [] s.operands;
            done = record (done_in v s) { events = (v s.events.index).events ++ print_events at from j (numbers_in v shown) };
          } ∷ []) []) same;
      sized = λ e v m r d k. k;
    }

pub prints_none : (room : ℕ) (a : List Shape) (at : ℕ) (type : ValueType) (from : ℕ) (shown : List Number)
    → Goes room a a [] [] (print_way at type from shown)
prints_none room a at type from shown = goes_none room a (print_way at type from shown) (λ e v m r h k. k)

-- ---- lists of states

pub prints_each_none : (a : List Shape) (at : ℕ) (type : ValueType) (from : ℕ) (shown : List Number) → PrintsEach a a at type from shown [] []
prints_each_none a at type from shown = record { goes = λ room. prints_none room a at type from shown }

pub prints_each_more : (a b c : List Shape) (at : ℕ) (type : ValueType) (from : ℕ) (shown : List Number) (ss ts us : List State) (s : State)
    → PrintsEach a b at type from shown ss ts → ((room : ℕ) → Steps room b c s us (print_way at type from shown))
    → PrintsEach a c at type from shown (ss ++ s ∷ []) (ts ++ us)
prints_each_more a b c at type from shown ss ts us s h i = record {
  goes = λ room. goes_more room a b c ss ts us s (print_way at type from shown) (h.goes room) (i room);
}
