-- The operands of a run in an expression, and outcomes put on them.
use Rattle.std.specs.Prelude.{◌≡◌, ℕ, ℤ, pos, List, [], ◌∷◌, Option, Some, None, Result, Ok, Err}
use Rattle.core_tree.specs.States.{Done, Outcome}
use Rattle.term_bank.specs.declared.shape.Shape.{Shape}
use Rattle.term_bank.specs.Values.{Environment, Values, Models, Grows}
use Rattle.path_states.specs.declared.state.Number.{Number}
use Rattle.path_states.specs.declared.state.State.{State}
use Rattle.path_states.specs.States.{Held, IsNumber, IsState, number_in, onto}
use Rattle.path_states.specs.Ways.{Trial}

-- the operand on top; one that isn't there is 0
abbrev pub top : List ℤ → ℤ
top [] = pos 0
top (z ∷ zs) = z

-- the others
abbrev pub under : List ℤ → List ℤ
under [] = []
under (z ∷ zs) = zs

-- the value that was found is put on the operands
abbrev pub pushed : List ℤ → Outcome ℕ ℤ → Option (Result Held (Done ℕ))
pushed zs None = None
pushed zs (Some (Ok x)) = Some (Ok (record { operands = x.0 ∷ zs; done = x.1 }))
pushed zs (Some (Err d)) = Some (Err d)

-- what takes no operand, the one on top, the two on top
abbrev pub on_none : (Environment → Done ℕ → Outcome ℕ ℤ) → Trial
on_none f e v h = pushed h.operands (f e h.done)

abbrev pub on_one : (Environment → ℤ → Done ℕ → Outcome ℕ ℤ) → Trial
on_one f e v h = pushed (under h.operands) (f e (top h.operands) h.done)

abbrev pub on_two : (Environment → ℤ → ℤ → Done ℕ → Outcome ℕ ℤ) → Trial
on_two f e v h = pushed (under (under h.operands)) (f e (top (under h.operands)) (top h.operands) h.done)

-- an operand is taken off a state
pub record Pops (a b : List Shape) (s t : State) (x : Number) : Type 0 where
  pub grows : Grows a b
  pub state : IsState b t
  pub number : IsNumber b x
  pub same : t ≡ record s { operands = t.operands }
  pub is : (e : Environment) (v : Values) → Models b e v → number_in v x ≡ top (onto v [] s.operands)
  pub rest : (e : Environment) (v : Values) → Models b e v → onto v [] t.operands ≡ under (onto v [] s.operands)
