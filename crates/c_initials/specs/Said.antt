-- What the items of a list in braces say (C99 6.7.8), and a list within a list.
use Rattle.std.specs.Prelude.{ℕ, List, [], ◌∷◌, ◌++◌, Option, Some, None}
use Rattle.c_language.specs.declared.unit.InitializerItem.{InitializerItem, fold-InitializerItem}
use Rattle.c_language.specs.declared.tables.Tables.{Tables}
use Rattle.c_language.specs.declared.scope.Rule.TheVariants as rule
use Rattle.c_language.specs.Typing.{fault_at}
use Rattle.c_language.specs.Initials.{Frame, Fills, Filling, InitialSaid, part_at, started, stepped, high_of}
use Rattle.c_language.specs.Trees.{typed}
use Rattle.c_language.specs.Units.{initial_step, item_step}
use Rattle.c_initials.specs.Filled.{Filled}

unfoldable pub item_fills : InitializerItem → Fills
item_fills x = fold-InitializerItem InitialSaid Fills (initial_step typed) (item_step typed) x

-- where the closest braces go on behind a list for a part
pub record Goes : Type 0 where
  pub frames : List Frame
  pub high : ℕ

abbrev pub goes_on : Tables → List Frame → ℕ → Option Goes
goes_on tables [] high = None
goes_on tables (f ∷ fs) high =
    Some (record { frames = stepped tables f ∷ fs; high = high_of high (stepped tables f ∷ fs) })

-- what a list for a part begins with: that part alone, or none where none is left
abbrev pub opened : ℕ → Tables → List Frame → Filled → Filled
opened at tables [] y = record y { frames = []; faults = y.faults ++ fault_at at rule.TypeMismatch }
opened at tables (f ∷ fs) y = record y { frames = started (part_at tables f.whole f.next) ∷ []; high = 0 }

abbrev pub closed : Option Goes → Filling → Filling
closed None y = y
closed (Some g) y = record y { frames = g.frames; high = g.high }
