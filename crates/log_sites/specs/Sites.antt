-- The log calls of a program.
use Rattle.std.specs.Prelude.{◌≡◌, List, [], ◌∷◌, ◌++◌}
use Rattle.core_tree.specs.declared.program.Core.{Core}
use Rattle.core_marks.specs.declared.mark.Mark.{Mark}
use Rattle.core_marks.specs.declared.mark.Mark.TheVariants.{Log}
use Rattle.core_marks.specs.declared.mark.Site.{Site}
use Rattle.core_marks.specs.Order.{IsInOrder}
use Rattle.core_marks.specs.Programs.{source_marks}

abbrev pub own_sites : Mark → List Site
own_sites (Log site) = site ∷ []
own_sites _ = []

abbrev pub all_sites : List Mark → List Site
all_sites [] = []
all_sites (m ∷ ms) = own_sites m ++ all_sites ms

-- the log calls of the functions of its source that are reached, in the order of their tokens
pub record AreSitesOf (p : Core) (sites : List Site) : Type 0 where
  pub marks : List Mark
  pub in_order : IsInOrder (source_marks p) marks
  pub are : sites ≡ all_sites marks
