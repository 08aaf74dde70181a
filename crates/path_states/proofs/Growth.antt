-- Banks that grow, and what stays of states in them.
use Rattle.std.proofs.Common.{◌≡◌, ℤ, List, [], ◌∷◌, ◌++◌, true, false, cond, Option, Some, None, refl, ap}
use Rattle.term_bank.specs.declared.shape.Shape.{Shape}
use Rattle.term_bank.specs.Values.{Values, Grows}
use Rattle.term_bank.proofs.TermLemmas.{term_grown}
use Rattle.path_states.specs.declared.kinds.StateKind.{StateKind}
use Rattle.path_states.specs.declared.kinds.StateKind.TheVariants.{Known, Exited}
use Rattle.path_states.specs.declared.state.Number.{Number}
use Rattle.path_states.specs.declared.state.State.{State}
use Rattle.path_states.specs.States.{IsNumber, AreNumbers, IsMaybeNumber, IsStateKind, IsState, AreStates, number_in, onto, run_in, standing}

module _ {a b : List Shape} (g : Grows a b) where
  pub number_grown : (x : Number) → IsNumber a x → IsNumber b x
  number_grown x h = record { term = term_grown a b _ x.node g h.term }

  pub numbers_grown : (xs : List Number) → AreNumbers a xs → AreNumbers b xs
  numbers_grown [] h = tt
  numbers_grown (x ∷ xs) h = (number_grown x h.0, numbers_grown xs h.1)

  pub maybe_grown : (x : Option Number) → IsMaybeNumber a x → IsMaybeNumber b x
  maybe_grown None h = tt
  maybe_grown (Some x) h = number_grown x h

  pub kind_grown : (k : StateKind) → IsStateKind a k → IsStateKind b k
  kind_grown (Known k) h = tt
  kind_grown (Exited x) h = number_grown x h

  pub state_grown : (s : State) → IsState a s → IsState b s
  state_grown s h = record {
    guard = term_grown a b _ s.guard g h.guard;
    kind = kind_grown s.kind h.kind;
    memory = term_grown a b _ s.memory g h.memory;
    value = maybe_grown s.value h.value;
    events = term_grown a b _ s.events g h.events;
    operands = numbers_grown s.operands h.operands;
  }

  pub states_grown : (ss : List State) → AreStates a ss → AreStates b ss
  states_grown [] h = tt
  states_grown (s ∷ ss) h = (state_grown s h.0, states_grown ss h.1)

-- ---- lists put together

pub states_joined : (b : List Shape) (ss ts : List State) → AreStates b ss → AreStates b ts → AreStates b (ss ++ ts)
states_joined b [] ts h k = k
states_joined b (s ∷ ss) ts h k = (h.0, states_joined b ss ts h.1 k)

pub numbers_joined : (b : List Shape) (xs ys : List Number) → AreNumbers b xs → AreNumbers b ys → AreNumbers b (xs ++ ys)
numbers_joined b [] ys h k = k
numbers_joined b (x ∷ xs) ys h k = (h.0, numbers_joined b xs ys h.1 k)

pub onto_pushed : (v : Values) (zs : List ℤ) (xs : List Number) (x : Number)
    → onto v zs (xs ++ x ∷ []) ≡ number_in v x ∷ onto v zs xs
onto_pushed v zs [] x = refl
onto_pushed v zs (y ∷ ys) x = onto_pushed v (number_in v y ∷ zs) ys x

cond_joined : {A : Type 0} (c : _) (x : A) (xs ys zs : List A) → zs ≡ xs ++ ys
    → cond c (x ∷ zs) zs ≡ cond c (x ∷ xs) xs ++ ys
cond_joined true x xs ys zs h = ap (λ l. x ∷ l) h
cond_joined false x xs ys zs h = h

pub standing_joined : (v : Values) (ss ts : List State) → standing v (ss ++ ts) ≡ standing v ss ++ standing v ts
standing_joined v [] ts = refl
standing_joined v (s ∷ ss) ts =
    cond_joined (v s.guard.index).truth (run_in v s) (standing v ss) (standing v ts) (standing v (ss ++ ts))
    (standing_joined v ss ts)
