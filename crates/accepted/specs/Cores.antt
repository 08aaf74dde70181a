-- What a core is to its source.
use Rattle.std.specs.Prelude.{◌≡◌, List, Some}
use Rattle.plain_data.specs.declared.bounds.Bounds.{Bounds}
use Rattle.plain_data.specs.Worlds.{WorldTables}
use Rattle.c_language.specs.declared.unit.External.{External}
use Rattle.c_means.specs.declared.profile.Profile.{Profile}
use Rattle.c_means.specs.Units.{limits_of, silent, source_room, source_run, source_size, world_of}
use Rattle.core_tree.specs.declared.program.Core.{Core}
use Rattle.core_tree.specs.Programs.{machine, room_of, run_of, unrolled_size}
use Rattle.core_tree.specs.States.{plain}
use Rattle.core_programs.specs.Marked.{told_core, told_source}

-- In every world and bounds it has the source's run: what it prints, what happens, and how it ends. It takes as many
-- places, and unrolls to as many nodes.
pub record HasItsRuns (xs : List External) (profile : Profile) (p : Core) : Type 0 where
  pub run : (w : WorldTables) (b : Bounds)
      → run_of p (world_of w) (limits_of b) b.depth ≡ Some (source_run xs profile w b)
  pub room : (b : Bounds) → room_of (machine plain p silent (limits_of b) b.depth) ≡ source_room xs profile b
  pub size : (b : Bounds) → unrolled_size (machine plain p silent (limits_of b) b.depth) ≡ source_size xs profile b

-- Its functions are those of the source that are reached, in order, each with its name; and at their tokens stands what
-- stands at those of the source: sides of branches, calls, the functions that these enter by their bodies, log calls with
-- their formats and watched variables, and kinds of undefined behaviour. (Behind these the core has the functions of the
-- library that have a body.)
abbrev pub HasItsFunctions : List External → Profile → Core → Type 0
HasItsFunctions xs profile p = told_core p ≡ told_source xs profile
