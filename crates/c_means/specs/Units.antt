-- A source with its profile, a world and bounds: the machine whose run, rooms, nodes and rules are those of the
-- source.
use Rattle.std.specs.Prelude.{ℕ, List}
use Rattle.plain_data.specs.declared.bounds.Bounds.{Bounds}
use Rattle.plain_data.specs.declared.run.Run.{Run}
use Rattle.plain_data.specs.Worlds.{WorldTables, value_at}
use Rattle.c_language.specs.declared.unit.External.{External}
use Rattle.c_means.specs.Parts.{World, Limits}
use Rattle.c_means.specs.declared.breach.Breach.{Breach}
use Rattle.c_means.specs.declared.profile.Profile.{Profile}
use Rattle.c_means.specs.Checks.{breaches_of, IsAccepted}
use Rattle.c_means.specs.Prelude.{prelude_functions}
use Rattle.c_means.specs.Programs.{program_of}
use Rattle.c_means.specs.Runs.{Machine, run_of, met_of, room_of, unrolled_size}

-- each word and each initial byte that the tables don't have is 0
abbrev pub world_of : WorldTables → World
world_of w = record { word = value_at w.words; byte = value_at w.bytes }

abbrev pub limits_of : Bounds → Limits
limits_of b =
    record { turns = b.turns; heap = b.heap; outside = b.outside; texts = b.texts; arguments = b.arguments }

abbrev pub machine_of : List External → Profile → World → Limits → ℕ → Machine
machine_of xs profile world limits depth = record {
  program = program_of xs;
  prelude = prelude_functions;
  profile = profile;
  world = world;
  limits = limits;
  depth = depth;
}

abbrev pub machine_in : List External → Profile → WorldTables → Bounds → Machine
machine_in xs profile w b = machine_of xs profile (world_of w) (limits_of b) b.depth

-- ---- what is said of a source in a world

-- what it prints, what happens, and how it ends
unfoldable pub source_run : List External → Profile → WorldTables → Bounds → Run
source_run xs profile w b = run_of (machine_in xs profile w b)

-- the places that its run meets, in order
unfoldable pub source_met : List External → Profile → WorldTables → Bounds → List ℕ
source_met xs profile w b = met_of (machine_in xs profile w b)

-- ---- what is said of a source in any world: that which gives 0 stands for all

abbrev pub silent : World
silent = record { word = λ p. 0; byte = λ a. 0 }

-- how many places its runs may take
unfoldable pub source_room : List External → Profile → Bounds → ℕ
source_room xs profile b = room_of (machine_of xs profile silent (limits_of b) b.depth)

-- how many nodes it unrolls to
unfoldable pub source_size : List External → Profile → Bounds → ℕ
source_size xs profile b = unrolled_size (machine_of xs profile silent (limits_of b) b.depth)

-- one turn, one level: no rule asks for more
abbrev pub least : Limits
least = record { turns = 1; heap = 1; outside = 0; texts = 1; arguments = 1 }

-- the rules that it breaks
unfoldable pub source_breaches : List External → Profile → List Breach
source_breaches xs profile = breaches_of (machine_of xs profile silent least 1)

-- no rule is broken, and `main` is one
abbrev pub IsAcceptedSource : List External → Profile → Type 0
IsAcceptedSource xs profile = IsAccepted (machine_of xs profile silent least 1)
