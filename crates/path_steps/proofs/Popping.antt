-- Operands taken off and put on.
use Rattle.std.proofs.Common.{◌≡◌, pos, List, [], ◌∷◌, ◌++◌, refl, sym, ap, ◌∙◌}
use Rattle.term_bank.specs.declared.shape.Shape.{Shape}
use Rattle.term_bank.proofs.BankLemmas.{stays}
use Rattle.path_states.specs.declared.state.Number.{Number}
use Rattle.path_states.specs.declared.state.State.{State}
use Rattle.path_states.specs.States.{IsNumber, AreNumbers, IsState, onto}
use Rattle.path_states.proofs.Growth.{onto_pushed, state_grown}
use Rattle.path_numbers.specs.Answers.{Numbered}
use Rattle.path_steps.specs.Operands.{Pops, top, under}

numbers_front : (b : List Shape) (xs : List Number) (x : Number) → AreNumbers b (xs ++ x ∷ []) → AreNumbers b xs × IsNumber b x
numbers_front b [] x h = (tt, h.0)
numbers_front b (y ∷ ys) x h = let k = numbers_front b ys x h.1 in ((h.0, k.0), k.1)

pub popped : (b : List Shape) (s : State) (xs : List Number) (x : Number) → IsState b s → s.operands ≡ xs ++ x ∷ []
    → Pops b b s (record s { operands = xs }) x
popped b s xs x is e =
    let k = numbers_front b xs x (rw e at is.operands) in
    record {
      grows = stays;
      state = record { guard = is.guard; kind = is.kind; memory = is.memory; value = is.value; events = is.events; operands = k.0 };
      number = k.1;
      same = refl;
      is = λ env v m. sym (ap top (ap (onto v []) e ∙ onto_pushed v [] xs x));
      rest = λ env v m. sym (ap under (ap (onto v []) e ∙ onto_pushed v [] xs x));
    }

pub popped_none : (a b : List Shape) (s : State) (xs : List Number) (x : Number) → IsState a s → s.operands ≡ [] → xs ≡ []
    → Numbered a b x (λ v. pos 0) → Pops a b s (record s { operands = xs }) x
popped_none a b s xs x is e f h =
    let grown = state_grown h.grows s is in
    record {
      grows = h.grows;
      state = record { guard = grown.guard; kind = grown.kind; memory = grown.memory; value = grown.value; events = grown.events; operands = rw f tt };
      number = h.number;
      same = refl;
      is = λ env v m. h.is env v m ∙ sym (ap top (ap (onto v []) e));
      rest = λ env v m. ap (onto v []) f ∙ sym (ap under (ap (onto v []) e));
    }
