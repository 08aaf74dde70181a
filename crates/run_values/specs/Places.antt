-- How many places expressions take.
use Rattle.std.specs.Prelude.{ℕ, min, List, map}
use Rattle.core_tree.specs.declared.expr.Expr.{Expr}
use Rattle.core_tree.specs.States.{Output}
use Rattle.core_tree.specs.Values.{value, all_rooms}
use Rattle.core_running.specs.Settings.{Setting}

-- a number, or the greatest of 64 bits where it is greater
abbrev pub capped : ℕ → ℕ
capped n = min n 18446744073709551615

-- those of arguments
abbrev pub rooms_of : Setting → List Expr → ℕ
rooms_of s es = all_rooms (map (value {O = Output}) es) s.measures
