-- Arguments behind others, from left to right.
use Rattle.std.specs.Prelude.{◌+◌, ℤ, List, [], ◌∷◌, ◌++◌, map}
use Rattle.core_tree.specs.declared.expr.Expr.{Expr}
use Rattle.core_tree.specs.States.{Output, Run, Level, ◌>>=◌, found}
use Rattle.core_tree.specs.Values.{Value, value}

abbrev pub values_of : List Expr → List (Value Output)
values_of es = map (value {O = Output}) es

-- the values behind those that were found so far
abbrev pub values_behind : List ℤ → List (Value Output) → Level Output → Run Output (List ℤ)
values_behind vs [] l env base d = found vs d
values_behind vs (x ∷ xs) l env base d = do
  v ← x.run l env base d
  values_behind (vs ++ v.0 ∷ []) xs l env (base + x.needs.room l.measures) v.1
