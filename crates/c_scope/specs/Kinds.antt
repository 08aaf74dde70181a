-- What names are, by a map from their bytes.
use Rattle.std.specs.Prelude.{◌≡◌, Bool, Option, cond}
use Rattle.std.specs.Str.{bytes_eq}
use Rattle.std.specs.HashMap.{get_by}
use Rattle.c_grammar.specs.Parts.{Name}
use Rattle.c_scope.specs.declared.kinds.Kinds.{Kinds}

-- what a name is, where it is declared
abbrev pub kind_at : Kinds → Name → Option Bool
kind_at kinds name = get_by (λ k. bytes_eq name k.items) kinds.by_name

-- one name is something else now
abbrev pub Changes : Name → Option Bool → Kinds → Kinds → Type 0
Changes name kind before after = (other : Name) → kind_at after other ≡ cond (bytes_eq name other) kind (kind_at before other)
