-- Where calls begin.
use Rattle.std.proofs.Common.{◌≡◌, ℕ, zero, suc, pos, List, [], ◌∷◌, ◌++◌, Some, None, refl, sym, ap, subst, ◌∙◌}
use Rattle.std.specs.Prelude.{slice_get}
use Rattle.plain_data.specs.declared.run.Happening.TheVariants as happening
use Rattle.core_tree.specs.Callees.{value_or_zero}
use Rattle.term_bank.specs.declared.shape.Shape.{Shape}
use Rattle.term_bank.specs.Banks.{IsBank}
use Rattle.term_bank.specs.Values.{Environment, Values, Models}
use Rattle.term_bank.proofs.BankLemmas.{weaken, stays, grows_on}
use Rattle.path_states.specs.declared.state.Number.{Number}
use Rattle.path_states.specs.declared.state.State.{State}
use Rattle.path_states.specs.States.{IsState, IsNumber, AreNumbers, numbers_in, number_in, done_in, run_in, onto}
use Rattle.path_states.proofs.Growth.{state_grown, numbers_grown, number_grown, numbers_joined}
use Rattle.path_numbers.specs.Answers.{Numbered}
use Rattle.path_steps.specs.Operands.{Pops, under}
use Rattle.path_forms.specs.declared.calling.CallSite.{CallSite}
use Rattle.path_forms.specs.Calling.{taken, below}
use Rattle.path_calls.specs.Begun.{Takes, Notes, Begins}

-- ---- arguments

pub takes_none : (a : List Shape) (s : State) (n : ℕ) → n ≡ 0 → IsState a s → Takes a a s s n []
takes_none a s n none is = record {
  grows = stays;
  state = is;
  numbers = tt;
  same = refl;
  are = λ e v m. ap (λ k. taken k (onto v [] s.operands)) (sym none);
  rest = λ e v m. ap (λ k. below k (onto v [] s.operands)) (sym none);
}

numbers_pushed : (v : Values) (xs : List Number) (x : Number) → numbers_in v (xs ++ x ∷ []) ≡ numbers_in v xs ++ number_in v x ∷ []
numbers_pushed v [] x = refl
numbers_pushed v (y ∷ ys) x = ap (λ l. number_in v y ∷ l) (numbers_pushed v ys x)

pub takes_more : (a b c : List Shape) (s t u : State) (n k : ℕ) (x : Number) (xs : List Number) → k ≡ suc n → Pops a b s t x
    → Takes b c t u n xs → Takes a c s u k (xs ++ x ∷ [])
takes_more a b c s t u n k x xs more h i = record {
  grows = grows_on h.grows i.grows;
  state = i.state;
  numbers = numbers_joined c xs (x ∷ []) i.numbers (number_grown i.grows x h.number, tt);
  same = i.same ∙ ap (λ (w : State). record w { operands = u.operands }) h.same;
  are = λ e v m.
      let mb = weaken i.grows m in
      numbers_pushed v xs x
      ∙ ap (λ l. l ++ number_in v x ∷ []) (i.are e v m ∙ ap (taken n) (h.rest e v mb))
      ∙ ap (λ z. taken n (under (onto v [] s.operands)) ++ z ∷ []) (h.is e v mb)
      ∙ ap (λ j. taken j (onto v [] s.operands)) (sym more);
  rest = λ e v m.
      i.rest e v m ∙ ap (below n) (h.rest e v (weaken i.grows m)) ∙ ap (λ j. below j (onto v [] s.operands)) (sym more);
}

-- ---- where a call begins

noted_state : (a b : List Shape) (s t : State) (at : ℕ) → IsState a s → Notes a b s t at → IsState b t
noted_state a b s t at is h =
    let grown = state_grown h.happened.grows s is in
    subst (λ (u : State). IsState b u) (sym h.is) (record {
      guard = grown.guard;
      kind = grown.kind;
      memory = grown.memory;
      value = grown.value;
      events = h.happened.term;
      operands = grown.operands;
    })

pub begins : (a b c : List Shape) (s t u : State) (site : CallSite) (xs : List Number) → Takes a b s t site.count xs
    → Notes b c t u site.at → Begins a c s u site xs
begins a b c s t u site xs h i = record {
  grows = grows_on h.grows i.happened.grows;
  state = noted_state b c t u site.at h.state i;
  numbers = numbers_grown i.happened.grows xs h.numbers;
  guard = ap (λ (w : State). w.guard) i.is ∙ ap (λ (w : State). w.guard) h.same;
  position = ap (λ (w : State). w.position) i.is ∙ ap (λ (w : State). w.position) h.same;
  run = λ e v m.
      let mb = weaken i.happened.grows m in
      ap (λ (w : State). run_in v w) i.is
      ∙ ap (λ l. record { operands = onto v [] t.operands; done = record (done_in v t) { events = l } }) (i.happened.is e v m)
      ∙ ap (λ l. record {
        operands = l;
        done = record (done_in v t) {
          events = (v t.events.index).events ++ record { what = happening.Call site.at; printed = t.position } ∷ [];
        };
      }) (h.rest e v mb)
      ∙ ap (λ (w : State). record {
        operands = below site.count (onto v [] s.operands);
        done = record (done_in v w) {
          events = (v w.events.index).events ++ record { what = happening.Call site.at; printed = w.position } ∷ [];
        };
      }) h.same;
  arguments = λ e v m. h.are e v (weaken i.happened.grows m);
}

-- ---- arguments by their indices

number_at : (b : List Shape) (xs : List Number) (i : ℕ) (x : Number) → AreNumbers b xs → Some x ≡ slice_get xs i → IsNumber b x
number_at b [] i x h is = absurd (cc)
number_at b (y ∷ ys) zero x h is = let same : x ≡ y = cc in rw same h.0
number_at b (y ∷ ys) (suc i) x h is = number_at b ys i x h.1 is

value_at : (v : Values) (xs : List Number) (i : ℕ) (x : Number) → Some x ≡ slice_get xs i → number_in v x ≡ value_or_zero (numbers_in v xs) i
value_at v [] i x is = absurd (cc)
value_at v (y ∷ ys) zero x is = let same : x ≡ y = cc in ap (number_in v) same
value_at v (y ∷ ys) (suc i) x is = value_at v ys i x is

missing_at : (v : Values) (xs : List Number) (i : ℕ) → None ≡ slice_get xs i → pos 0 ≡ value_or_zero (numbers_in v xs) i
missing_at v [] i is = refl
missing_at v (y ∷ ys) zero is = absurd (cc)
missing_at v (y ∷ ys) (suc i) is = missing_at v ys i is

pub argument_found : (b : List Shape) (xs : List Number) (i : ℕ) (x : Number) → IsBank b → AreNumbers b xs → Some x ≡ slice_get xs i
    → Numbered b b x (λ v. value_or_zero (numbers_in v xs) i)
argument_found b xs i x bank are is = record {
  grows = stays;
  bank = bank;
  number = number_at b xs i x are is;
  is = λ e v m. value_at v xs i x is;
}

pub argument_missing : (a b : List Shape) (xs : List Number) (i : ℕ) (x : Number) → None ≡ slice_get xs i → Numbered a b x (λ v. pos 0)
    → Numbered a b x (λ v. value_or_zero (numbers_in v xs) i)
argument_missing a b xs i x is h = record {
  grows = h.grows;
  bank = h.bank;
  number = h.number;
  is = λ e v m. h.is e v m ∙ missing_at v xs i is;
}
