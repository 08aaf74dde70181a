-- What a chooser sees of a solver's variables.
use Rattle.std.specs.Prelude.{◌-◌, ℕ, Bool, List, length}

-- of each variable, from 0: whether it has no value, in how many conflicts it occurred, and the same with the older ones counting for less
pub record Scoreboard : Type 0 where
  pub unset : List Bool
  pub marks : List ℕ
  pub activities : List ℕ

-- the variables are 1 to this number
abbrev pub count_of : Scoreboard → ℕ
count_of s = length s.unset - 1
