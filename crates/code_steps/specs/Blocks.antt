-- The objects of a block, as they are kept while it runs.
use Rattle.std.specs.Prelude.{◌+◌, ◌<◌, ◌^◌, ℕ, List, [], ◌∷◌, map}
use Rattle.c_means.specs.Items.{Made}
use Rattle.core_tree.specs.declared.code.Code.{Code}
use Rattle.core_tree.specs.States.{Output}
use Rattle.core_tree.specs.Codes.{Item, code, in_turn}
use Rattle.core_running.specs.Settings.{Setting}
use Rattle.code_steps.specs.declared.objects.Birth.{Birth}

abbrev pub made : Birth → Made
made x = record { at = x.at; place = x.place; size = x.size }

abbrev pub made_all : List Birth → List Made
made_all [] = []
made_all (x ∷ xs) = made x ∷ made_all xs

-- what code gives to its block
abbrev pub objects_of : Setting → Item Output → ℕ → List Made
objects_of s x base = x.objects s.measures base

abbrev pub item_of : List Code → Item Output
item_of cs = in_turn (map (code {O = Output}) cs)
