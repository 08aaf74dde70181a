-- What initializers of objects that live throughout the run set.
use Rattle.std.specs.Prelude.{◌≡◌, List}
use Rattle.c_means.specs.Items.{Lasting}
use Rattle.core_tree.specs.declared.program.LastingSetting.{LastingSetting}
use Rattle.elaborate.specs.Means.{Numbering}
use Rattle.core_programs.specs.Programs.{AllSettings, no_calls, joined}

-- one object behind the other; no initializer calls a function
pub record AreAllSet (numbering : Numbering) (xs : List LastingSetting) (ys : List Lasting) : Type 0 where
  pub each : List (List LastingSetting)
  pub all : xs ≡ joined each
  pub set : AllSettings (no_calls numbering.place numbering.identity) each ys
