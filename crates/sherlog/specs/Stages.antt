-- The steps from a command line to its output, each as what it answers and why it doesn't.
use Rattle.std.specs.Prelude.{◌≡◌, ◌≤◌, ◌<◌, ℕ, List, Bool, true, Option, Result, Ok, Err, IfOk, IfErr, ⊤}
use Rattle.plain_data.specs.declared.bounds.Bounds.{Bounds}
use Rattle.plain_data.specs.Worlds.{WorldTables}
use Rattle.c_lexer.specs.Places.{located}
use Rattle.c_language.specs.declared.token.Token.{Token}
use Rattle.c_reading.specs.declared.fault.ParseFault.{ParseFault}
use Rattle.c_reading.specs.declared.fault.ParseFault.TheVariants as parser
use Rattle.c_means.specs.declared.profile.Profile.{Profile}
use Rattle.c_language.specs.declared.unit.External.{External}
use Rattle.c_language.specs.declared.unit.Unit.{Unit}
use Rattle.c_language.specs.PlaceTables.{PlaceTable}
use Rattle.cert_text.specs.WorldTexts.{ReadsWorld}
use Rattle.cert_text.specs.declared.fault.CertFault.{CertFault}
use Rattle.cert_text.specs.declared.fault.CertFault.TheVariants as cert
use Rattle.config_text.specs.Values.{InRanges}
use Rattle.config_text.specs.declared.config.Config.{Config as ConfigType}
use Rattle.config_text.specs.declared.config.ConfigFault.{ConfigFault}
use Rattle.config_text.specs.declared.config.ConfigFault.TheVariants as config_fault
use Rattle.diagnoses.specs.declared.diagnosis.Kept.{Kept}
use Rattle.unread_forms.specs.Forms.{HasUnread}
use Rattle.log_text.specs.Lines.{line_count}
use Rattle.log_text.specs.Stripping.{stripped}
use Rattle.regex.specs.Patterns.{Re}
use Rattle.accepted.specs.declared.program.Accepted.{Accepted}
use Rattle.sl_io.specs.ShelfStates.{Files, ShelfState, CountsOn}
use Rattle.sl_io.specs.SinkStates.{SinkState}
use Rattle.source_sites.specs.declared.listing.Site.{Site}
use Rattle.sherlog.specs.Words.{Asked}
use Rattle.sherlog.specs.Inputs.{IsInput, Failed, IsTooLong}
use Rattle.sherlog.specs.Sources.{IsUnit, HasFaultIn, IsRefusedFor, start_at}
use Rattle.sherlog.specs.Causes.{AreInForce, Cause, IsAccepted, IsConfigured, IsLogRead, IsPatternOf, Takes, takes_log}
use Rattle.sherlog.specs.Answers.{Answered, AreSitesIn, IsOutput, Refused}
use Rattle.sherlog.specs.declared.getting.Parsed.{Parsed}
use Rattle.sherlog.specs.declared.refusal.InputFile.{InputFile}
use Rattle.sherlog.specs.declared.refusal.InputFile.TheVariants.{Source, World}
use Rattle.sherlog.specs.declared.refusal.Refusal.{Refusal}
use Rattle.sherlog.specs.declared.refusal.Refusal.TheVariants.{BadConfig, BadSource, NoMain, Broken, NotYetRead, TooManyLines, BadWorld, Fault, TooLong, Memory}
use Rattle.sherlog.specs.declared.refusal.SourceFault.{SourceFault}
use Rattle.sherlog.specs.declared.refusal.SourceFault.TheVariants.{Syntax, TooDeep}
use Rattle.sherlog.specs.declared.output.Output.{Output}

-- ---- files

-- why a file isn't got
abbrev pub GetCause : Asked → InputFile → ShelfState → ShelfState → Refusal → Type 0
GetCause asked file before after Fault = Failed asked file before after
GetCause asked file before after (TooLong other) = (other ≡ file) × IsTooLong asked file before after
GetCause asked file before after Memory = ⊤
GetCause asked file before after _ = ⊥

-- a file is got
pub record Fetches (asked : Asked) (file : InputFile) (before after : ShelfState) (result : Result (List ℕ) Refusal) : Type 0 where
  pub counts : CountsOn before after
  pub files : after.files ≡ before.files
  pub input : IfOk result (IsInput asked file before.files)
  pub refused : IfErr result (GetCause asked file before after)

-- ---- the configuration

abbrev pub config_refusal : ConfigFault → Refusal
config_refusal config_fault.Memory = Memory
config_refusal fault = BadConfig fault

pub record Configures (asked : Asked) (before after : ShelfState) (result : Result ConfigType Refusal) : Type 0 where
  pub counts : CountsOn before after
  pub files : after.files ≡ before.files
  pub ranges : IfOk result InRanges
  pub configured : IfOk result (IsConfigured asked before.files asked.config)
  pub refused : IfErr result (Cause asked before after)

-- ---- the source

-- a source of this name is read
abbrev pub Reads : List ℕ → List ℕ → Result Unit Refusal → Type 0
Reads name source (Ok unit) = IsUnit name source unit
Reads name source (Err (BadSource fault spot)) = HasFaultIn name source fault spot
Reads name source (Err Memory) = ⊤
Reads name source (Err _) = ⊥

-- a refusal for what is wrong with a source says this fault, with the place of this byte
abbrev pub IsToldAt : List ℕ → List ℕ → SourceFault → ℕ → Refusal → Type 0
IsToldAt name source fault at (BadSource told spot) = (told ≡ fault) × (spot ≡ located name source at)
IsToldAt name source fault at _ = ⊤

-- what the parser answered is told as it is, with the place of the token that it named
abbrev pub Tells : List ℕ → List ℕ → List Token → ParseFault → Refusal → Type 0
Tells name source tokens (parser.Syntax k) refusal = IsToldAt name source Syntax (start_at source tokens k) refusal
Tells name source tokens (parser.TooDeep k) refusal = IsToldAt name source TooDeep (start_at source tokens k) refusal
Tells name source tokens parser.Memory refusal = ⊤

-- the configuration, the source's bytes and their unit
pub record IsParsed (asked : Asked) (files : Option Files) (x : Parsed) : Type 0 where
  pub ranges : InRanges x.config
  pub configured : IsConfigured asked files asked.config x.config
  pub input : IsInput asked Source files x.bytes
  pub is_unit : IsUnit asked.source x.bytes x.unit

pub record Parses (asked : Asked) (before after : ShelfState) (result : Result Parsed Refusal) : Type 0 where
  pub counts : CountsOn before after
  pub files : after.files ≡ before.files
  pub parsed : IfOk result (IsParsed asked before.files)
  pub refused : IfErr result (Cause asked before after)

-- ---- what is diagnosed

-- an accepted source is not served, which is told only where it has a form that isn't read yet
abbrev pub IsNotServed : List External → Profile → Refusal → Type 0
IsNotServed externals profile NotYetRead = HasUnread externals profile
IsNotServed externals profile Memory = ⊤
IsNotServed externals profile _ = ⊥

-- an accepted program of what was read, and the bounds in force
pub record IsProgramOf (asked : Asked) (files : Option Files) (x : Parsed) (p : Accepted) (bounds : Bounds) : Type 0 where
  pub parsed : IsParsed asked files x
  pub externals : p.externals ≡ x.unit.externals
  pub profile : p.profile ≡ x.config.profile
  pub in_force : AreInForce asked x.config bounds

-- so is a program, with the places of the source's tokens, and how the lines of its log begin
pub record IsTraced (asked : Asked) (files : Option Files) (p : Accepted) (bounds : Bounds) (places : PlaceTable)
    (prefix : Option (List ℕ)) (drops : Bool) : Type 0 where
  pub of : Parsed
  pub program : IsProgramOf asked files of p bounds
  pub is_places : of.unit.places ≡ places
  pub is_prefix : of.config.prefix ≡ prefix
  pub is_drops : of.config.drop_unmatched ≡ drops

-- so is a program of a source with these bytes
pub record IsRunnable (asked : Asked) (files : Option Files) (p : Accepted) (bounds : Bounds) (bytes : List ℕ) : Type 0 where
  pub of : Parsed
  pub program : IsProgramOf asked files of p bounds
  pub is_bytes : of.bytes ≡ bytes

-- ---- what is listed

-- the log calls of a source that is derived, where it is accepted
pub record Lists (name bytes : List ℕ) (xs : List External) (f : Profile) (result : Result (List Site) Refusal) : Type 0 where
  pub found : IfOk result (AreSitesIn xs f)
  pub refused : IfErr result (IsRefusedFor name bytes xs f)

-- ---- the log

abbrev pub IsManyLines : List ℕ → Refusal → Type 0
IsManyLines bytes (TooManyLines count) = (count ≡ line_count bytes) × (1000 < count)
IsManyLines bytes Memory = ⊤
IsManyLines bytes _ = ⊥

-- a log's bytes are stripped, or have more lines than are followed
pub record Strips (prefix : Option (List ℕ)) (drops : Bool) (bytes : List ℕ) (result : Result (List ℕ) Refusal) : Type 0 where
  pub few : IfOk result (λ log. line_count bytes ≤ 1000)
  pub is : IfOk result (λ log. (pattern : Option Re) × (IsPatternOf prefix pattern × (log ≡ stripped pattern drops bytes)))
  pub refused : IfErr result (IsManyLines bytes)

pub record GetsLog (asked : Asked) (prefix : Option (List ℕ)) (drops : Bool) (before after : ShelfState)
    (result : Result (List ℕ) Refusal) : Type 0 where
  pub counts : CountsOn before after
  pub files : after.files ≡ before.files
  pub read : IfOk result (λ log. (config : ConfigType) → takes_log asked.command ≡ true → config.prefix ≡ prefix
      → config.drop_unmatched ≡ drops → IsLogRead asked before.files config log)
  pub refused : (config : ConfigType) (externals : List External) → takes_log asked.command ≡ true
      → IsAccepted asked before.files config externals → IfErr result (Cause asked before after)

-- ---- the world

abbrev pub world_refusal : CertFault → Refusal
world_refusal (cert.BadLine line) = BadWorld line
world_refusal cert.WrongVersion = BadWorld 1
world_refusal cert.Memory = Memory

pub record ReadsWorldFile (asked : Asked) (before after : ShelfState) (result : Result WorldTables Refusal) : Type 0 where
  pub counts : CountsOn before after
  pub files : after.files ≡ before.files
  pub read : IfOk result (λ world. (text : List ℕ) × (IsInput asked World before.files text × ReadsWorld text (Ok world)))
  pub refused : (config : ConfigType) (externals : List External) → Takes asked World
      → IsAccepted asked before.files config externals → IfErr result (Cause asked before after)

-- ---- all of it

pub record Forms (asked : Asked) (before after : ShelfState) (result : Result Output Refusal) : Type 0 where
  pub files : after.files ≡ before.files
  pub formed : IfOk result (IsOutput asked before.files)
  pub refused : IfErr result (Cause asked before after)

-- a command line is served
pub record Serves (asked : Asked) (before after : ShelfState) (old new err told : SinkState) (kept : Kept) (result : Result ℕ Refusal) : Type 0 where
  pub files : after.files ≡ before.files
  pub answered : IfOk result (λ status. Answered asked before.files status old new err told kept)
  pub refused : IfErr result (Refused asked before after old new)
  pub untold : IfErr result (λ _. told ≡ err)
