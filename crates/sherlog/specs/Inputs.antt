-- The files that a command reads.
use Rattle.std.specs.Prelude.{◌≡◌, ◌≤◌, ◌+◌, ℕ, List, [], Option, Some, length, option_map, unwrap_or}
use Rattle.sl_io.specs.Counts.{Rose, RoseBy}
use Rattle.sl_io.specs.ShelfStates.{Files, ShelfState, Holds}
use Rattle.sl_io.specs.Gets.{HoldsMore}
use Rattle.sherlog.specs.Words.{Asked}
use Rattle.sherlog.specs.declared.request.Request.{Request}
use Rattle.sherlog.specs.declared.refusal.InputFile.{InputFile}
use Rattle.sherlog.specs.declared.refusal.InputFile.TheVariants.{Config, Source, Log, World}

-- what a request asks for
abbrev pub asked_in : Request → Asked
asked_in request = record {
  command = request.command;
  source = request.source.now;
  second = request.second.now;
  config = option_map (λ name. name.now) request.config;
  turns = request.turns;
  depth = request.depth;
  conflicts = request.conflicts;
  by_line = request.by_line;
}

abbrev pub name_of : Asked → InputFile → List ℕ
name_of asked Config = unwrap_or asked.config []
name_of asked Source = asked.source
name_of asked Log = asked.second
name_of asked World = asked.second

-- how many bytes each may have
abbrev pub limit_of : InputFile → ℕ
limit_of Config = 1048576
limit_of Source = 8388608
limit_of Log = 65536
limit_of World = 1048576

-- the bytes of this file: held under its name, where files are told, and within its limit
pub record IsInput (asked : Asked) (file : InputFile) (files : Option Files) (bytes : List ℕ) : Type 0 where
  pub held : Holds files (name_of asked file) bytes
  pub within : length bytes ≤ limit_of file

-- a get of this file failed
abbrev pub Failed : Asked → InputFile → ShelfState → ShelfState → Type 0
Failed asked file before after = Rose (before.get_faults (name_of asked file)) (after.get_faults (name_of asked file))

-- a get of this file with its limit took more bytes than that; where files are told, the file has more
pub record IsTooLong (asked : Asked) (file : InputFile) (before after : ShelfState) : Type 0 where
  pub taken : RoseBy (limit_of file + 1) before.taken after.taken
  pub counted : Rose (before.long_reads (name_of asked file) (limit_of file)) (after.long_reads (name_of asked file) (limit_of file))
  pub longer : (files : Files) → before.files ≡ Some files → HoldsMore files (name_of asked file) (limit_of file)
