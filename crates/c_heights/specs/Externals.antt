-- The height of external declarations: that of what stands in them, without unread bodies.
use Rattle.std.specs.Prelude.{ℕ, max, List, [], ◌∷◌}
use Rattle.c_language.specs.declared.unit.Body.{Body}
use Rattle.c_language.specs.declared.unit.Body.TheVariants as body
use Rattle.c_language.specs.declared.unit.External.{External}
use Rattle.c_language.specs.declared.unit.External.TheVariants as external
use Rattle.c_grammar.specs.Grammar.{form, all_specified, highest_specifier}
use Rattle.c_grammar.specs.Units.{declaration_of, stmt_shape}

abbrev pub body_height : Body → ℕ
body_height (body.Read block) = (stmt_shape block).height
body_height (body.Unread at) = 0

abbrev pub external_height : External → ℕ
external_height (external.Function xs d b) =
    max (max (highest_specifier (all_specified xs)) (form d).height) (body_height b)
external_height (external.Declared declaration) = (declaration_of declaration).height
external_height (external.Empty at) = 0

abbrev pub highest_external : List External → ℕ
highest_external [] = 0
highest_external (x ∷ xs) = max (external_height x) (highest_external xs)
