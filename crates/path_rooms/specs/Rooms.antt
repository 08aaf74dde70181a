-- How many places parts of code take along a log.
use Rattle.std.specs.Prelude.{ℕ, ◌+◌, ◌*◌, List, map, option_map, Option}
use Rattle.core_tree.specs.declared.code.Code.{Code}
use Rattle.core_tree.specs.declared.code.Setting.{Setting}
use Rattle.core_tree.specs.declared.expr.Expr.{Expr}
use Rattle.core_tree.specs.States.{Measures}
use Rattle.core_tree.specs.Codes.{Item, code, in_turn, setting_needs, all_needs, test_needs}
use Rattle.core_tree.specs.Values.{value, all_rooms}

abbrev pub value_room : Measures → Expr → ℕ
value_room m e = (value {O = ℕ} e).needs.room m

-- those of arguments
abbrev pub rooms_of : Measures → List Expr → ℕ
rooms_of m es = all_rooms (map (value {O = ℕ}) es) m

abbrev pub code_room : Measures → Code → ℕ
code_room m c = (code {O = ℕ} c).needs.room m

abbrev pub room_in : Measures → Item ℕ → ℕ
room_in m x = x.needs.room m

-- an expression that may be missing
abbrev pub option_room : Measures → Option Expr → ℕ
option_room m e = (test_needs {O = ℕ} (option_map value e)).room m

abbrev pub setting_room : Measures → Setting → ℕ
setting_room m x = (setting_needs ℕ x).room m

abbrev pub settings_room : Measures → List Setting → ℕ
settings_room m xs = (all_needs ℕ xs).room m

-- all turns of a loop, each of which takes so many
abbrev pub turns_room : Measures → ℕ → ℕ
turns_room m turn = (m.turns + 1) * turn

-- items one behind the other
abbrev pub item_of : List Code → Item ℕ
item_of cs = in_turn (map (code {O = ℕ}) cs)

abbrev pub items_room : Measures → List Code → ℕ
items_room m cs = room_in m (item_of cs)

abbrev pub loop_room : Measures → Option Expr → Code → Option Expr → ℕ
loop_room m test body step = turns_room m (option_room m test + (code_room m body + option_room m step))

abbrev pub repeat_room : Measures → Code → Expr → ℕ
repeat_room m body test = turns_room m (code_room m body + value_room m test)
