-- What calls by rule ask of the level in which they stand: the world, and the bounds on objects.
use Rattle.std.specs.Prelude.{ℕ, None}
use Rattle.plain_data.specs.Worlds.{WorldTables}
use Rattle.c_means.specs.Units.{world_of}
use Rattle.core_tree.specs.States.{Output, Level, plain}

-- a level with this world, these bounds on the bytes of a heap object and of a string from outside, and no calls
abbrev pub level_in : WorldTables → ℕ → ℕ → Level Output
level_in w heap outside = record {
  measures = record { turns = 0; size = λ f. 0; room = λ f. 0 };
  taking = plain;
  world = world_of w;
  limits = record { turns = 0; heap = heap; outside = outside; texts = 0; arguments = 0 };
  call = None;
}

-- one of which the world alone matters
abbrev pub level_of : WorldTables → Level Output
level_of w = level_in w 0 0
