-- Why a command line is not answered.
use Rattle.std.specs.Prelude.{◌≡◌, ◌≢◌, ◌≤◌, ◌<◌, ◌+◌, ◌*◌, ◌⊎◌, ℕ, Bool, true, false, List, Option, Some, None, Result, Ok, Err, ⊤}
use Rattle.plain_data.specs.declared.bounds.Bounds.{Bounds}
use Rattle.plain_data.specs.Worlds.{WorldTables}
use Rattle.c_language.specs.declared.token.Spot.{Spot}
use Rattle.c_means.specs.declared.profile.Profile.{Profile}
use Rattle.c_means.specs.Units.{IsAcceptedSource, source_size}
use Rattle.c_language.specs.declared.unit.External.{External}
use Rattle.cert_text.specs.WorldTexts.{ReadsWorld}
use Rattle.cert_text.specs.declared.fault.CertFault.{CertFault}
use Rattle.cert_text.specs.declared.fault.CertFault.TheVariants as cert
use Rattle.config_text.specs.Configs.{Reads, default_config}
use Rattle.config_text.specs.declared.config.Config.{Config as ConfigType}
use Rattle.config_text.specs.declared.config.ConfigFault.{ConfigFault}
use Rattle.unread_forms.specs.Forms.{HasUnread}
use Rattle.log_text.specs.declared.prefix.Prefix.{Prefix}
use Rattle.log_text.specs.Lines.{line_count}
use Rattle.log_text.specs.Patterns.{IsReadIn, prefix_pattern}
use Rattle.log_text.specs.Stripping.{stripped}
use Rattle.regex.specs.Patterns.{Re}
use Rattle.sl_io.specs.ShelfStates.{Files, ShelfState}
use Rattle.sherlog.specs.Words.{Asked}
use Rattle.sherlog.specs.Inputs.{IsInput, Failed, IsTooLong}
use Rattle.sherlog.specs.Sources.{IsDerived, HasFaultIn, IsRefusedFor}
use Rattle.sherlog.specs.declared.request.Command.{Command}
use Rattle.sherlog.specs.declared.request.Command.TheVariants.{Diagnose, Replay, Sites, Match}
use Rattle.sherlog.specs.declared.refusal.InputFile.{InputFile}
use Rattle.sherlog.specs.declared.refusal.InputFile.TheVariants.{Config, Source, Log, World}
use Rattle.sherlog.specs.declared.refusal.Refusal.{Refusal}
use Rattle.sherlog.specs.declared.refusal.Refusal.TheVariants.{BadConfig, BadSource, NoMain, Broken, NotYetRead, TooManyLines, TooLarge, BadWorld, Fault, TooLong, Memory}
use Rattle.sherlog.specs.declared.refusal.SourceFault.{SourceFault}

-- ---- what commands want

-- a log is read
abbrev pub takes_log : Command → Bool
takes_log Diagnose = true
takes_log Replay = false
takes_log Sites = false
takes_log Match = true

-- ---- the configuration

-- a configuration is named, and this is read of its bytes
pub record IsTextOf (asked : Asked) (files : Option Files) (result : Result ConfigType ConfigFault) : Type 0 where
  pub named : asked.config ≢ None
  pub text : List ℕ
  pub input : IsInput asked Config files text
  pub reads : Reads text result

-- the configuration in force: that of its file, where one is named
abbrev pub IsConfigured : Asked → Option Files → Option (List ℕ) → ConfigType → Type 0
IsConfigured asked files None config = config ≡ default_config
IsConfigured asked files (Some name) config = IsTextOf asked files (Ok config)

-- ---- the source

-- the configuration is this, and of the source's bytes these externals are derived
pub record IsRead (asked : Asked) (files : Option Files) (config : ConfigType) (externals : List External) : Type 0 where
  pub configured : IsConfigured asked files asked.config config
  pub source : List ℕ
  pub input : IsInput asked Source files source
  pub is_derived : IsDerived asked.source source externals

-- so, and no rule is broken
pub record IsAccepted (asked : Asked) (files : Option Files) (config : ConfigType) (externals : List External) : Type 0 where
  pub read : IsRead asked files config externals
  pub kept : IsAcceptedSource externals config.profile

-- the source has this fault
pub record IsFaulty (asked : Asked) (files : Option Files) (fault : SourceFault) (spot : Spot) : Type 0 where
  pub config : ConfigType
  pub configured : IsConfigured asked files asked.config config
  pub source : List ℕ
  pub input : IsInput asked Source files source
  pub has_fault : HasFaultIn asked.source source fault spot

-- the source is derived, and refused for a rule
pub record BreaksRules (asked : Asked) (files : Option Files) (refusal : Refusal) : Type 0 where
  pub config : ConfigType
  pub externals : List External
  pub read : IsRead asked files config externals
  pub refused : IsRefusedFor asked.source read.source externals config.profile refusal

-- the source is accepted, and not diagnosed, which is told only where it has a form that isn't read yet; all else serves
-- each source
pub record IsUnserved (asked : Asked) (files : Option Files) : Type 0 where
  pub config : ConfigType
  pub externals : List External
  pub accepted : IsAccepted asked files config externals
  pub command : asked.command ≡ Diagnose
  pub other : HasUnread externals config.profile

-- which accepted sources are always served: of `diagnose` those without a form that isn't read yet
abbrev pub IsServed : Command → List External → Profile → Type 0
IsServed Diagnose externals profile = HasUnread externals profile → ⊥
IsServed Replay externals profile = ⊤
IsServed Sites externals profile = ⊤
IsServed Match externals profile = ⊤

-- ---- the log

-- the pattern of a configuration's prefix, where it has one
abbrev pub IsPatternOf : Option (List ℕ) → Option Re → Type 0
IsPatternOf None pattern = pattern ≡ None
IsPatternOf (Some text) pattern = (x : Prefix) × (IsReadIn text x × (pattern ≡ Some (prefix_pattern x)))

-- the source is accepted, and the log has so many lines, more than are followed
pub record HasManyLines (asked : Asked) (files : Option Files) (count : ℕ) : Type 0 where
  pub logged : takes_log asked.command ≡ true
  pub config : ConfigType
  pub externals : List External
  pub accepted : IsAccepted asked files config externals
  pub log : List ℕ
  pub input : IsInput asked Log files log
  pub is_count : count ≡ line_count log
  pub many : 1000 < count

-- what stripping leaves of a log's bytes, with a configuration's prefix
pub record IsStripped (config : ConfigType) (bytes log : List ℕ) : Type 0 where
  pub pattern : Option Re
  pub is_pattern : IsPatternOf config.prefix pattern
  pub is : log ≡ stripped pattern config.drop_unmatched bytes

-- the command reads a log, and this is it: that of its file, stripped
pub record IsLogRead (asked : Asked) (files : Option Files) (config : ConfigType) (log : List ℕ) : Type 0 where
  pub logged : takes_log asked.command ≡ true
  pub bytes : List ℕ
  pub input : IsInput asked Log files bytes
  pub few : line_count bytes ≤ 1000
  pub is_stripped : IsStripped config bytes log

-- ---- the world

abbrev pub WorldResult : Type 0
WorldResult = Result WorldTables CertFault

-- a world is asked for, the source is accepted, and this is read of the world's bytes
pub record IsWorldRead (asked : Asked) (files : Option Files) (config : ConfigType) (externals : List External) (result : WorldResult) : Type 0 where
  pub replayed : asked.command ≡ Replay
  pub accepted : IsAccepted asked files config externals
  pub text : List ℕ
  pub input : IsInput asked World files text
  pub reads : ReadsWorld text result

-- of faults of worlds: this line is the first that has no place, or the first line is of another version
abbrev pub IsFaultAt : CertFault → ℕ → Type 0
IsFaultAt (cert.BadLine bad) line = line ≡ bad
IsFaultAt cert.WrongVersion line = line ≡ 1
IsFaultAt cert.Memory line = ⊥

pub record HasBadWorld (asked : Asked) (files : Option Files) (line : ℕ) : Type 0 where
  pub config : ConfigType
  pub externals : List External
  pub fault : CertFault
  pub read : IsWorldRead asked files config externals (Err fault)
  pub is_line : IsFaultAt fault line

-- ---- the measure

-- the bounds in force: those of the command line and of the configuration
pub record AreInForce (asked : Asked) (config : ConfigType) (bounds : Bounds) : Type 0 where
  pub turns : bounds.turns ≡ asked.turns
  pub depth : bounds.depth ≡ asked.depth
  pub heap : bounds.heap ≡ config.heap
  pub outside : bounds.outside ≡ config.outside
  pub texts : bounds.texts ≡ config.texts
  pub arguments : bounds.arguments ≡ config.arguments

-- the source is accepted, the world is one, and the program unrolls to more nodes than are followed
pub record IsTooLargeToRun (asked : Asked) (files : Option Files) : Type 0 where
  pub config : ConfigType
  pub externals : List External
  pub world : WorldTables
  pub read : IsWorldRead asked files config externals (Ok world)
  pub bounds : Bounds
  pub in_force : AreInForce asked config bounds
  pub larger : 2000000 < source_size externals config.profile bounds

-- A diagnosis is asked for, the source is accepted, this is the log, and the program unrolls to more nodes than are followed, once for each line of
-- the log and once for its end.
pub record IsTooLargeToDiagnose (asked : Asked) (files : Option Files) : Type 0 where
  pub diagnosed : asked.command ≡ Diagnose
  pub config : ConfigType
  pub externals : List External
  pub accepted : IsAccepted asked files config externals
  pub log : List ℕ
  pub read : IsLogRead asked files config log
  pub bounds : Bounds
  pub in_force : AreInForce asked config bounds
  pub larger : 2000000 < source_size externals config.profile bounds * (line_count log + 1)

abbrev pub IsTooLarge : Asked → Option Files → Type 0
IsTooLarge asked files = IsTooLargeToRun asked files ⊎ IsTooLargeToDiagnose asked files

-- ---- all causes

-- the files that a command reads
abbrev pub Takes : Asked → InputFile → Type 0
Takes asked Config = asked.config ≢ None
Takes asked Source = ⊤
Takes asked Log = takes_log asked.command ≡ true
Takes asked World = asked.command ≡ Replay

abbrev pub IsAcceptedIn : Asked → Option Files → Type 0
IsAcceptedIn asked files =
    (config : ConfigType) × ((externals : List External) × IsAccepted asked files config externals)

-- what came before the get of this file: the source is got once there is a configuration, the log and the world once
-- the source was accepted
abbrev pub ComesBefore : Asked → InputFile → Option Files → Type 0
ComesBefore asked Config files = ⊤
ComesBefore asked Source files = (config : ConfigType) × IsConfigured asked files asked.config config
ComesBefore asked Log files = IsAcceptedIn asked files
ComesBefore asked World files = IsAcceptedIn asked files

abbrev pub Reaches : Asked → InputFile → Option Files → Type 0
Reaches asked file files = Takes asked file × ComesBefore asked file files

-- a get failed
abbrev pub Fails : Asked → ShelfState → ShelfState → Type 0
Fails asked before after = (file : InputFile) × (Reaches asked file before.files × Failed asked file before after)

-- why there is no output; where no memory is left, nothing is said
abbrev pub Cause : Asked → ShelfState → ShelfState → Refusal → Type 0
Cause asked before after (BadConfig fault) = IsTextOf asked before.files (Err fault)
Cause asked before after (BadSource fault spot) = IsFaulty asked before.files fault spot
Cause asked before after NoMain = BreaksRules asked before.files NoMain
Cause asked before after (Broken rule spot) = BreaksRules asked before.files (Broken rule spot)
Cause asked before after NotYetRead = IsUnserved asked before.files
Cause asked before after (TooManyLines count) = HasManyLines asked before.files count
Cause asked before after TooLarge = IsTooLarge asked before.files
Cause asked before after (BadWorld line) = HasBadWorld asked before.files line
Cause asked before after Fault = Fails asked before after
Cause asked before after (TooLong file) = Reaches asked file before.files × IsTooLong asked file before after
Cause asked before after Memory = ⊤
