-- How far items and the turns of a loop have come.
use Rattle.std.specs.Prelude.{◌≡◌, ℕ, ◌+◌, List}
use Rattle.core_tree.specs.declared.code.Code.{Code}
use Rattle.core_tree.specs.States.{Arrow}
use Rattle.term_bank.specs.declared.shape.Shape.{Shape}
use Rattle.term_bank.specs.Values.{Environment, Grows}
use Rattle.path_states.specs.declared.state.State.{State}
use Rattle.path_states.specs.States.{AreStates}
use Rattle.path_arrows.specs.Arrows.{by_arrow}
use Rattle.path_forms.specs.declared.frame.Placed.{Placed}
use Rattle.path_forms.specs.Around.{Around}
use Rattle.path_rooms.specs.Rooms.{item_of, items_room}
use Rattle.path_codes.specs.Courses.{Splits, Toward}
use Rattle.path_codes.specs.Walks.{item_arrow}
use Rattle.path_forms.specs.Calling.{Stays}

-- of these items those are left that stand behind
pub record SequenceOn (x : Around) (frame : List Placed) (room : ℕ) (start : List Shape → Type 0) (all rest : List Code)
    (a b : List Shape) (ss ts : List State) (place next : ℕ) : Type 0 where
  pub begun : Stays start b
  pub states : AreStates b ts
  pub rooms : next + items_room x.measures rest ≡ place + items_room x.measures all
  pub toward : Toward room a b ss ts (item_arrow x frame next (item_of rest)) (item_arrow x frame place (item_of all))

-- of the turns, by how many are left and the place of the next, these are left to do
pub record TurnsOn (room : ℕ) (start : List Shape → Type 0) (a b : List Shape) (ss ended going : List State) (rest whole : Environment → Arrow ℕ)
    : Type 0 where
  pub begun : Stays start b
  pub over : AreStates b ended
  pub on : AreStates b going
  pub splits : Splits room a b ss ended going (by_arrow rest) (by_arrow whole)
