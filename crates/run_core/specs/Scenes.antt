-- What the functions of a program run in, by how many levels of calls are left below them.
use Rattle.std.specs.Prelude.{◌≡◌, ◌≤◌, ℕ, zero, suc, List, [], map, None, unwrap_or, slice_get}
use Rattle.plain_data.specs.declared.bounds.Bounds.{Bounds}
use Rattle.plain_data.specs.Worlds.{WorldTables}
use Rattle.c_means.specs.Units.{world_of, limits_of}
use Rattle.core_tree.specs.declared.program.Core.{Core}
use Rattle.core_tree.specs.declared.program.Function.{Function}
use Rattle.core_tree.specs.Programs.{Machine, machine, measures_of, calls_of, room_by, body_of, body_room}
use Rattle.core_tree.specs.States.{Output, plain}
use Rattle.core_running.specs.Settings.{Setting}

abbrev pub machine_of : Core → WorldTables → Bounds → Machine Output
machine_of p w b = machine plain p (world_of w) (limits_of b) b.depth

-- what a function runs in with so many levels of calls left below it
abbrev pub setting_at : Machine Output → ℕ → Function → Setting
setting_at m n f = record {
  measures = measures_of m n f;
  world = m.world;
  limits = m.limits;
  call = calls_of m n;
}

-- before any function runs
abbrev pub bare_setting : Machine Output → Setting
bare_setting m = record {
  measures = record { turns = m.limits.turns; size = λ g. 0; room = λ g. 0 };
  world = m.world;
  limits = m.limits;
  call = None;
}

-- how many places a function takes that is called there
abbrev pub rooms_at : Machine Output → ℕ → ℕ → ℕ
rooms_at m zero g = 0
rooms_at m (suc n) g = room_by (measures_of m n) (m.body g)

-- a table of rooms, by levels left and function
abbrev pub row_at : List (List ℕ) → ℕ → ℕ → ℕ
row_at table n g = unwrap_or (slice_get (unwrap_or (slice_get table n) []) g) 0

-- up to so many levels the table has them
abbrev pub HoldsRooms : Machine Output → ℕ → List (List ℕ) → Type 0
HoldsRooms m n table = (k : ℕ) → k ≤ n → (g : ℕ) → row_at table k g ≡ rooms_at m k g

-- how many places a function takes with so many levels left below it
abbrev pub room_over : Machine Output → ℕ → Function → ℕ
room_over m n f = body_room {O = Output} (body_of f) (measures_of m n f)

abbrev pub all_rooms : Core → WorldTables → Bounds → ℕ → List ℕ
all_rooms p w b n = map (room_over (machine_of p w b) n) p.functions
