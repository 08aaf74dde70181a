-- The walk of a key.
use Rattle.std.specs.Prelude.{◌≡◌, ◌+◌, ℕ, List, ◌++◌}
use Rattle.core_tree.specs.declared.program.Parameter.{Parameter}
use Rattle.core_tree.specs.declared.types.ValueType.{ValueType}
use Rattle.std.specs.Prelude.{slice_index}
use Rattle.term_bank.specs.declared.shape.Shape.{Shape}
use Rattle.term_bank.specs.Values.{Environment, Values, Models, Grows}
use Rattle.path_states.specs.declared.state.Number.{Number}
use Rattle.path_states.specs.States.{IsNumber, AreNumbers, number_in, numbers_in}
use Rattle.path_steps.specs.Memories.{IsScalar}
use Rattle.summary_compose.specs.declared.summary.Summary.{Summary}
use Rattle.summary_compose.specs.Summaries.{read_as, entry_values}
use Rattle.log_expr.specs.Tours.{Tour}
use Rattle.path_summaries.specs.Tours.{StandsFor, types_of, AreScalar}

-- the number that a parameter of this number is
pub record EntersOne (a b : List Shape) (t : ValueType) (k : ℕ) (x : Number) : Type 0 where
  pub grows : Grows a b
  pub scalar : IsScalar t
  pub number : IsNumber b x
  pub is : (e : Environment) (v : Values) → Models b e v → number_in v x ≡ read_as t (slice_index e.parameters k)

-- the types and the numbers of parameters, from the one of this number on, behind others
pub record Enters (a b : List Shape) (ps : List Parameter) (k : ℕ) (types types_now : List ValueType) (xs xs_now : List Number) : Type 0 where
  pub grows : Grows a b
  pub typed : types_now ≡ types ++ types_of ps
  pub scalars : AreScalar (types_of ps)
  pub more : List Number
  pub behind : xs_now ≡ xs ++ more
  pub numbers : AreNumbers b more
  pub are : (e : Environment) (v : Values) → Models b e v → numbers_in v more ≡ entry_values e k (types_of ps)

-- a key was walked, and with it one more
pub record Walks (t : Tour) (a b : List Shape) (f n start : ℕ) (s : Summary) (walks walks_now : ℕ) : Type 0 where
  pub grows : Grows a b
  pub stands : StandsFor t b f n start s
  pub counted : walks_now ≡ walks + 1
