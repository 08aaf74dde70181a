-- How many nodes parts of the core unroll to.
use Rattle.std.specs.Prelude.{ℕ, ◌+◌, ◌*◌, min, Bool, true, false, List, map, Option, Some, None}
use Rattle.core_tree.specs.declared.code.Code.{Code}
use Rattle.core_tree.specs.declared.code.Setting.{Setting}
use Rattle.core_tree.specs.declared.expr.Expr.{Expr}
use Rattle.core_tree.specs.States.{Output, Measures}
use Rattle.core_tree.specs.Values.{value, all_sizes}
use Rattle.core_tree.specs.Codes.{code, in_turn, setting_needs, all_needs}

-- a number, or the greatest of 64 bits where it is greater
abbrev pub capped : ℕ → ℕ
capped n = min n 18446744073709551615

abbrev pub value_nodes : Measures → Expr → ℕ
value_nodes m e = (value {O = Output} e).needs.size m

abbrev pub values_nodes : Measures → List Expr → ℕ
values_nodes m es = all_sizes (map (value {O = Output}) es) m

-- an expression that may be missing
abbrev pub option_nodes : Measures → Option Expr → ℕ
option_nodes m None = 0
option_nodes m (Some e) = value_nodes m e

abbrev pub setting_nodes : Measures → Setting → ℕ
setting_nodes m x = (setting_needs Output x).size m

abbrev pub settings_nodes : Measures → List Setting → ℕ
settings_nodes m xs = (all_needs Output xs).size m

abbrev pub code_nodes : Measures → Code → ℕ
code_nodes m c = (code {O = Output} c).needs.size m

-- one behind the other
abbrev pub items_nodes : Measures → List Code → ℕ
items_nodes m cs = (in_turn (map (code {O = Output}) cs)).needs.size m

-- a loop, by how many turns it takes and how many nodes one has
abbrev pub turns_nodes : ℕ → ℕ → ℕ
turns_nodes n turn = 1 + (n + 1) * turn
