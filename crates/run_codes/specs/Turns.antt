-- Where the parts of a loop's turn have their places.
use Rattle.std.specs.Prelude.{◌≡◌, ◌+◌, ℕ, suc, Bool, true, false, Option, Some, option_map, Result, Ok, Err}
use Rattle.std.specs.declared.alloc.AllocError.{AllocError}
use Rattle.core_tree.specs.declared.code.Code.{Code}
use Rattle.core_tree.specs.declared.expr.Expr.{Expr}
use Rattle.core_tree.specs.States.{Output, Done, Arrow}
use Rattle.core_tree.specs.Values.{value}
use Rattle.core_tree.specs.Codes.{Item, code, maybe_evaluated}
use Rattle.core_running.specs.Below.{value_room, code_room}
use Rattle.core_running.specs.Settings.{Setting}
use Rattle.run_codes.specs.declared.turns.TurnRooms.{TurnRooms}
use Rattle.code_steps.specs.Rooms.{option_room}

-- the step of a `for`, as an item
abbrev pub step_of : Option Expr → Item Output
step_of e = maybe_evaluated (option_map value e)

-- of a `while` or `for`: the test, the body, the step
pub record MeasuresTurn (s : Setting) (test : Option Expr) (body : Code) (step : Option Expr) (x : TurnRooms) : Type 0
  where
    pub body_at : x.body_at ≡ option_room s test
    pub whole : x.whole ≡ option_room s test + (code_room s body + option_room s step)

-- One turn, with the run of those that are left by their number: the loop goes on with one less, the next turn's places
-- behind those of this one; or it is over.
abbrev pub Turns : Result Bool AllocError → (ℕ → ℕ → Arrow Output) → ℕ → ℕ → Done Output → Done Output → Type 0
Turns (Ok true) from whole base d e = (n : ℕ) → from (suc n) base d ≡ from n (base + whole) e
Turns (Ok false) from whole base d e = (n : ℕ) → from (suc n) base d ≡ Some e
Turns (Err x) from whole base d e = Unit {0}
