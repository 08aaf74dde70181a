-- What decides where files are told, and no configuration is named.
use Rattle.std.specs.Prelude.{◌≡◌, ◌≤◌, ◌+◌, ◌*◌, ℕ, List, Some, None, Ok, false, length, ⊤}
use Rattle.plain_data.specs.declared.bounds.Bounds.{Bounds}
use Rattle.plain_data.specs.Worlds.{WorldTables}
use Rattle.c_means.specs.Units.{IsAcceptedSource, source_size}
use Rattle.c_language.specs.declared.unit.External.{External}
use Rattle.cert_text.specs.WorldTexts.{ReadsWorld}
use Rattle.config_text.specs.Configs.{default_config}
use Rattle.log_text.specs.Lines.{line_count}
use Rattle.log_text.specs.Stripping.{stripped}
use Rattle.sl_io.specs.Counts.{Rose}
use Rattle.sl_io.specs.ShelfStates.{Files, ShelfState}
use Rattle.sl_io.specs.SinkStates.{SinkState}
use Rattle.sherlog.specs.Words.{Asked}
use Rattle.sherlog.specs.Inputs.{Failed, limit_of, name_of}
use Rattle.sherlog.specs.Sources.{IsDerived}
use Rattle.sherlog.specs.Causes.{AreInForce, IsServed}
use Rattle.sherlog.specs.declared.request.Command.{Command}
use Rattle.sherlog.specs.declared.request.Command.TheVariants.{Diagnose, Replay, Sites, Match}
use Rattle.sherlog.specs.declared.refusal.InputFile.{InputFile}
use Rattle.sherlog.specs.declared.refusal.InputFile.TheVariants.{Source, Log, World}

-- this file is held with these bytes, within its limit, and no get of it failed
pub record IsAtHand (asked : Asked) (file : InputFile) (before after : ShelfState) (bytes : List ℕ) : Type 0 where
  pub files : Files
  pub told : before.files ≡ Some files
  pub held : files (name_of asked file) ≡ Some bytes
  pub within : length bytes ≤ limit_of file
  pub got : Failed asked file before after → ⊥

-- these bytes are a source that is derived and breaks no rule
pub record IsProgram (asked : Asked) (source : List ℕ) (externals : List External) : Type 0 where
  pub is_derived : IsDerived asked.source source externals
  pub kept : IsAcceptedSource externals default_config.profile

-- the source is at hand, and is no such program
pub record IsNoProgram (asked : Asked) (before after : ShelfState) : Type 0 where
  pub plain : asked.config ≡ None
  pub source : List ℕ
  pub at_hand : IsAtHand asked Source before after source
  pub no_program : (externals : List External) → IsProgram asked source externals → ⊥

-- the log is at hand and has no more lines than are followed
pub record HasShortLog (asked : Asked) (before after : ShelfState) : Type 0 where
  pub log : List ℕ
  pub at_hand : IsAtHand asked Log before after log
  pub few : line_count log ≤ 1000

-- so, nor has the program more nodes over them
pub record HasLog (asked : Asked) (before after : ShelfState) (externals : List External) : Type 0 where
  pub short : HasShortLog asked before after
  pub within : (bounds : Bounds) → AreInForce asked default_config bounds
      → source_size externals default_config.profile bounds * (line_count (stripped None false short.log) + 1) ≤ 2000000

-- the world is at hand, and the program unrolls to no more nodes than are followed
pub record HasWorld (asked : Asked) (before after : ShelfState) (externals : List External) : Type 0 where
  pub text : List ℕ
  pub at_hand : IsAtHand asked World before after text
  pub world : WorldTables
  pub read : ReadsWorld text (Ok world)
  pub within : (bounds : Bounds) → AreInForce asked default_config bounds
      → source_size externals default_config.profile bounds ≤ 2000000

abbrev pub HasSecond : Command → Asked → ShelfState → ShelfState → List External → Type 0
HasSecond Diagnose asked before after externals = HasLog asked before after externals
HasSecond Replay asked before after externals = HasWorld asked before after externals
HasSecond Sites asked before after externals = ⊤
HasSecond Match asked before after externals = HasShortLog asked before after

-- the files are at hand, the source is a program that is served, and no write failed
pub record IsAnswerable (asked : Asked) (before after : ShelfState) (old new : SinkState) : Type 0 where
  pub plain : asked.config ≡ None
  pub source : List ℕ
  pub at_hand : IsAtHand asked Source before after source
  pub externals : List External
  pub program : IsProgram asked source externals
  pub served : IsServed asked.command externals default_config.profile
  pub second : HasSecond asked.command asked before after externals
  pub wrote : Rose old.faults new.faults → ⊥
