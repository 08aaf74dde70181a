-- Two states as one.
use Rattle.std.specs.Prelude.{◌≡◌, List, [], ◌∷◌, true, cond, Option, Some, None}
use Rattle.term_bank.specs.declared.sort.Node.{Node}
use Rattle.term_bank.specs.declared.shape.Shape.{Shape}
use Rattle.term_bank.specs.Values.{Environment, Values, Models, Grows}
use Rattle.path_states.specs.declared.state.Number.{Number}
use Rattle.path_states.specs.declared.state.State.{State}
use Rattle.path_states.specs.States.{IsNumber, IsMaybeNumber, AreNumbers, IsState, number_in, maybe_number, onto, run_in}

-- numbers of the same types
abbrev pub AlikeNumbers : List Number → List Number → Type 0
AlikeNumbers [] [] = Unit {0}
AlikeNumbers [] (y ∷ ys) = ⊥
AlikeNumbers (x ∷ xs) [] = ⊥
AlikeNumbers (x ∷ xs) (y ∷ ys) = (x.word ≡ y.word) × AlikeNumbers xs ys

abbrev pub AlikeMaybe : Option Number → Option Number → Type 0
AlikeMaybe None None = Unit {0}
AlikeMaybe None (Some y) = ⊥
AlikeMaybe (Some x) None = ⊥
AlikeMaybe (Some x) (Some y) = x.word ≡ y.word

-- states that can be one: of one kind, at one position, with values and operands of the same types
pub record Alike (s t : State) : Type 0 where
  pub kind : s.kind ≡ t.kind
  pub position : s.position ≡ t.position
  pub value : AlikeMaybe s.value t.value
  pub operands : AlikeNumbers s.operands t.operands

-- what is the first where the condition is true, and else the second
pub record ChosenOne (a b : List Shape) (condition : Node) (x y z : Number) : Type 0 where
  pub grows : Grows a b
  pub number : IsNumber b z
  pub is : (e : Environment) (v : Values) → Models b e v
      → number_in v z ≡ cond (v condition.index).truth (number_in v x) (number_in v y)

pub record ChosenMaybe (a b : List Shape) (condition : Node) (x y z : Option Number) : Type 0 where
  pub grows : Grows a b
  pub number : IsMaybeNumber b z
  pub is : (e : Environment) (v : Values) → Models b e v
      → maybe_number v z ≡ cond (v condition.index).truth (maybe_number v x) (maybe_number v y)

pub record ChosenAll (a b : List Shape) (condition : Node) (xs ys zs : List Number) : Type 0 where
  pub grows : Grows a b
  pub numbers : AreNumbers b zs
  pub are : (e : Environment) (v : Values) → Models b e v
      → onto v [] zs ≡ cond (v condition.index).truth (onto v [] xs) (onto v [] ys)

-- the state that is the first where its guard is true, and else the second
pub record Merges (a b : List Shape) (s t m : State) : Type 0 where
  pub grows : Grows a b
  pub state : IsState b m
  pub guard : (e : Environment) (v : Values) → Models b e v
      → (v m.guard.index).truth ≡ cond (v s.guard.index).truth true (v t.guard.index).truth
  pub is : (e : Environment) (v : Values) → Models b e v
      → run_in v m ≡ cond (v s.guard.index).truth (run_in v s) (run_in v t)
