-- What a function runs in: a level of the definition that prints.
use Rattle.std.specs.Prelude.{◌≡◌, Option}
use Rattle.plain_data.specs.Worlds.{WorldTables}
use Rattle.c_means.specs.Parts.{World, Limits}
use Rattle.c_means.specs.Units.{world_of}
use Rattle.c_machine.specs.declared.machine.Machine.{Machine}
use Rattle.core_tree.specs.States.{Output, plain, Calls, Level, Measures}

pub record Setting : Type 0 where
  pub measures : Measures
  pub world : World
  pub limits : Limits
  pub call : Option (Calls Output)

abbrev pub level : Setting → Level Output
level x = record {
  measures = x.measures;
  taking = plain;
  world = x.world;
  limits = x.limits;
  call = x.call;
}

-- the machine's world is that of the setting
abbrev pub HasWorld : Setting → Machine → Type 0
HasWorld x m = x.world ≡ world_of m.world
