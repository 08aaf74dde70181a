-- Words of the world.
use Rattle.std.specs.Prelude.{◌≡◌, ℕ, ◌+◌, ◌<◌, ◌%◌, ◌^◌, pos, List}
use Rattle.term_bank.specs.declared.shape.Shape.{Shape}
use Rattle.term_bank.specs.Values.{Environment, Values, Models, Grows}
use Rattle.path_states.specs.declared.state.Number.{Number}
use Rattle.path_states.specs.States.{IsNumber, IsRoomy, number_in}

-- the word at the place that is so many places behind the base, in environments that have room for it
pub record AsksAt (a b : List Shape) (place : ℕ) (x : Number) : Type 0 where
  pub grows : Grows a b
  pub number : IsNumber b x
  pub is : (room : ℕ) → place < room → (e : Environment) (v : Values) → Models b e v → IsRoomy room e
      → number_in v x ≡ pos (e.words (e.base + place) % 2 ^ 64)
