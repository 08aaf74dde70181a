-- Calls at a state: where they begin, what they answer, and what they do as a whole.
use Rattle.std.specs.Prelude.{◌≡◌, ℕ, List, [], ◌∷◌, ◌++◌}
use Rattle.plain_data.specs.declared.run.Happening.TheVariants as happening
use Rattle.core_tree.specs.declared.expr.Callee.{Callee}
use Rattle.core_tree.specs.declared.types.ValueType.{ValueType}
use Rattle.core_tree.specs.Numbers.{converted_to}
use Rattle.term_bank.specs.declared.shape.Shape.{Shape}
use Rattle.term_bank.specs.Values.{Environment, Values, Models, Grows}
use Rattle.path_states.specs.declared.state.Number.{Number}
use Rattle.path_states.specs.declared.state.State.{State}
use Rattle.path_states.specs.declared.state.Walked.{Walked}
use Rattle.path_states.specs.States.{Held, IsState, AreNumbers, numbers_in, number_in, run_in, onto}
use Rattle.path_states.specs.Ways.{Tries, Happened}
use Rattle.path_numbers.specs.Answers.{Numbered}
use Rattle.path_forms.specs.declared.calling.CallSite.{CallSite}
use Rattle.path_forms.specs.declared.frame.Placed.{Placed}
use Rattle.path_forms.specs.Around.{Around}
use Rattle.path_forms.specs.Calling.{taken, below, call_way}

-- the last so many operands are taken off
pub record Takes (a b : List Shape) (s t : State) (n : ℕ) (xs : List Number) : Type 0 where
  pub grows : Grows a b
  pub state : IsState b t
  pub numbers : AreNumbers b xs
  pub same : t ≡ record s { operands = t.operands }
  pub are : (e : Environment) (v : Values) → Models b e v → numbers_in v xs ≡ taken n (onto v [] s.operands)
  pub rest : (e : Environment) (v : Values) → Models b e v → onto v [] t.operands ≡ below n (onto v [] s.operands)

-- that the call at a token begins is noted
pub record Notes (a b : List Shape) (s t : State) (at : ℕ) : Type 0 where
  pub is : t ≡ record s { events = t.events }
  pub happened : Happened a b s.events t.events (record { what = happening.Call at; printed = s.position })

-- a run at which a call begins: it is noted, and its arguments are off the operands
abbrev pub begun : CallSite → Held → Held
begun site h = record {
  operands = below site.count h.operands;
  done = record h.done { events = h.done.events ++ record { what = happening.Call site.at; printed = h.done.out } ∷ [] };
}

pub record Begins (a b : List Shape) (s t : State) (site : CallSite) (xs : List Number) : Type 0 where
  pub grows : Grows a b
  pub state : IsState b t
  pub numbers : AreNumbers b xs
  pub guard : t.guard ≡ s.guard
  pub position : t.position ≡ s.position
  pub run : (e : Environment) (v : Values) → Models b e v → run_in v t ≡ begun site (run_in v s)
  pub arguments : (e : Environment) (v : Values) → Models b e v → numbers_in v xs ≡ taken site.count (onto v [] s.operands)

-- the state goes on with a number, converted to a type, on its operands
pub record AnswersBy (a b : List Shape) (t : State) (to : ValueType) (x : Number) (w : Walked) : Type 0 where
  pub last : Number
  pub numbered : Numbered a b last (λ v. converted_to to (number_in v x))
  pub is : w ≡ record { going = record t { operands = t.operands ++ last ∷ [] } ∷ []; ended = [] }

-- a state becomes what the call makes of its run, whatever is around it
pub record CallsBy (room : ℕ) (a b : List Shape) (s : State) (c : Callee) (site : CallSite) (w : Walked) : Type 0 where
  pub tries : (x : Around) (frame : List Placed) → Tries room a b s w (call_way x frame c site)
