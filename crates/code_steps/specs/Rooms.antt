-- How many places parts of code take in a function.
use Rattle.std.specs.Prelude.{ℕ, ◌+◌, ◌*◌, List, map, Option, Some, None}
use Rattle.core_tree.specs.declared.code.Code.{Code}
use Rattle.core_tree.specs.declared.code.Setting.{Setting as Part}
use Rattle.core_tree.specs.declared.expr.Expr.{Expr}
use Rattle.core_tree.specs.States.{Output}
use Rattle.core_tree.specs.Codes.{Item, code, in_turn, setting_needs, all_needs}
use Rattle.core_running.specs.Below.{value_room}
use Rattle.core_running.specs.Settings.{Setting}

abbrev pub room_in : Setting → Item Output → ℕ
room_in s x = x.needs.room s.measures

-- an expression that may be missing
abbrev pub option_room : Setting → Option Expr → ℕ
option_room s None = 0
option_room s (Some e) = value_room s e

abbrev pub setting_room : Setting → Part → ℕ
setting_room s x = (setting_needs Output x).room s.measures

abbrev pub settings_room : Setting → List Part → ℕ
settings_room s xs = (all_needs Output xs).room s.measures

-- all turns of a loop, each of which takes so many
abbrev pub turns_room : Setting → ℕ → ℕ
turns_room s turn = (s.measures.turns + 1) * turn

-- one behind the other
abbrev pub items_room : Setting → List Code → ℕ
items_room s cs = room_in s (in_turn (map code cs))
