-- What a command line comes to.
use Rattle.std.specs.Prelude.{◌≡◌, ◌≤◌, ◌⊎◌, ℕ, List, [], length, Bool, true, false, cond, Option, Some, Ok}
use Rattle.std.specs.List.{list_any}
use Rattle.plain_data.specs.declared.bounds.Bounds.{Bounds}
use Rattle.plain_data.specs.Worlds.{WorldTables}
use Rattle.c_means.specs.declared.profile.Profile.{Profile}
use Rattle.c_means.specs.Units.{source_run, source_size}
use Rattle.c_language.specs.PlaceTables.{PlaceTable, places_of}
use Rattle.c_language.specs.declared.unit.External.{External}
use Rattle.accepted.specs.declared.program.Accepted.{Accepted}
use Rattle.assumptions.specs.Assumed.{assumptions_of}
use Rattle.config_text.specs.declared.config.Config.{Config as ConfigType}
use Rattle.diagnoses.specs.declared.verdict.Verdict.{Verdict}
use Rattle.diagnoses.specs.declared.verdict.Verdict.TheVariants.{Unknown}
use Rattle.diagnoses.specs.declared.diagnosis.Diagnosis.{Diagnosis}
use Rattle.diagnoses.specs.declared.diagnosis.Kept.{Kept}
use Rattle.diagnoses.specs.declared.diagnosis.Diagnosis.TheVariants.{Found, Nothing, Undecided}
use Rattle.must_facts.specs.Inquiries.{IsDiagnosed, measure_of}
use Rattle.must_facts.specs.declared.whole.Diagnosed.{Diagnosed}
use Rattle.report_text.specs.Reports.{report_of}
use Rattle.report_text.specs.declared.reports.Subject.{Subject}
use Rattle.site_text.specs.Lines.{AreMatchLines, site_lines}
use Rattle.sl_io.specs.Counts.{Rose}
use Rattle.sl_io.specs.ShelfStates.{Files, ShelfState}
use Rattle.sl_io.specs.SinkStates.{SinkState}
use Rattle.sl_io.specs.Writes.{Appended, AppendedPrefix, Told}
use Rattle.source_sites.specs.Chosen.{AreChosen}
use Rattle.source_sites.specs.declared.listing.Site.{Site}
use Rattle.sherlog.specs.Words.{Asked}
use Rattle.sherlog.specs.Inputs.{Failed, limit_of, name_of}
use Rattle.sherlog.specs.Causes.{AreInForce, Cause, IsAccepted, IsLogRead, IsWorldRead, Takes}
use Rattle.sherlog.specs.Lines.{end_line, line_of, status_of}
use Rattle.sherlog.specs.declared.request.Command.{Command}
use Rattle.sherlog.specs.declared.request.Command.TheVariants.{Diagnose, Replay, Sites, Match}
use Rattle.sherlog.specs.declared.refusal.InputFile.{InputFile}
use Rattle.sherlog.specs.declared.refusal.Refusal.{Refusal}
use Rattle.sherlog.specs.declared.refusal.Refusal.TheVariants.{Fault}
use Rattle.sherlog.specs.declared.output.Output.{Output}

-- ---- the outputs

abbrev pub is_unknown : Verdict → Bool
is_unknown (Unknown side known trail) = true
is_unknown _ = false

-- 0 where a run fits and each verdict is known, 1 where none fits, 9 where a question stayed open
abbrev pub status_of_diagnosis : Diagnosis → ℕ
status_of_diagnosis (Found findings) = cond (list_any is_unknown findings.verdicts) 9 0
status_of_diagnosis (Nothing refutation) = 1
status_of_diagnosis (Undecided trail) = 9

-- what a report is about: these places, this program and log, these bounds and facts, and what the program rests on
pub record IsAbout (asked : Asked) (table : PlaceTable) (p : Accepted) (b : Bounds) (text : List ℕ) (d : Diagnosed)
    (subject : Subject) : Type 0 where
  pub places : subject.places.now ≡ table
  pub log : subject.log.now ≡ text
  pub bounds : subject.bounds.now ≡ b
  pub conflicts : subject.conflicts ≡ asked.conflicts
  pub assumed : subject.assumptions.now ≡ assumptions_of p.externals p.profile
  pub facts : subject.facts.now ≡ d.facts.facts

-- the formula of the runs and the diagnosis over it
abbrev pub evidence_of : Diagnosed → Kept
evidence_of d = record { run = d.run; diagnosis = Some d.diagnosis }

-- the report of a diagnosis of a program and a log, which is followed within its measure
pub record IsReportOn (asked : Asked) (places : PlaceTable) (p : Accepted) (b : Bounds) (log : List ℕ) (output : Output)
    : Type 0 where
  pub within : measure_of p b log ≤ 2000000
  pub diagnosed : Diagnosed
  pub just : IsDiagnosed p b log asked.conflicts asked.by_line diagnosed
  pub subject : Subject
  pub about : IsAbout asked places p b log diagnosed subject
  pub text : output.text ≡ report_of subject diagnosed.diagnosis
  pub status : output.status ≡ status_of_diagnosis diagnosed.diagnosis
  pub end : output.end ≡ []
  pub evidence : output.evidence ≡ evidence_of diagnosed

-- the report of a diagnosis of the files, which is true of every world
pub record IsReport (asked : Asked) (files : Option Files) (output : Output) : Type 0 where
  pub config : ConfigType
  pub externals : List External
  pub accepted : IsAccepted asked files config externals
  pub log : List ℕ
  pub read : IsLogRead asked files config log
  pub bounds : Bounds
  pub in_force : AreInForce asked config bounds
  pub program : Accepted
  pub of_source : program.externals ≡ externals
  pub of_profile : program.profile ≡ config.profile
  pub places : PlaceTable
  pub is_places : places.places ≡ places_of accepted.read.is_derived.tokens.tokens
  pub is_files : places.files ≡ accepted.read.is_derived.tokens.files
  pub on : IsReportOn asked places program bounds log output

-- what the run of the source prints in the world of the file, and how it ends
pub record IsReplay (asked : Asked) (files : Option Files) (output : Output) : Type 0 where
  pub config : ConfigType
  pub externals : List External
  pub world : WorldTables
  pub read : IsWorldRead asked files config externals (Ok world)
  pub bounds : Bounds
  pub in_force : AreInForce asked config bounds
  pub within : source_size externals config.profile bounds ≤ 2000000
  pub text : output.text ≡ (source_run externals config.profile world bounds).printed
  pub end : output.end ≡ end_line asked.source read.accepted.read.source (source_run externals config.profile world bounds).finish
  pub status : output.status ≡ 0

-- the log calls of an accepted source: of those in its functions that are reached those that its core has, which are not
-- in operands of `sizeof`, in the order of their tokens
pub record AreSitesIn (xs : List External) (profile : Profile) (sites : List Site) : Type 0 where
  pub program : Accepted
  pub of_source : program.externals ≡ xs
  pub of_profile : program.profile ≡ profile
  pub are : AreChosen program sites

-- those of the source, with the places of its tokens
pub record HasSites (asked : Asked) (files : Option Files) : Type 0 where
  pub config : ConfigType
  pub externals : List External
  pub accepted : IsAccepted asked files config externals
  pub places : PlaceTable
  pub is_places : places.places ≡ places_of accepted.read.is_derived.tokens.tokens
  pub is_files : places.files ≡ accepted.read.is_derived.tokens.files
  pub sites : List Site
  pub are : AreSitesIn externals config.profile sites

-- a line for each, with its format
pub record IsListing (asked : Asked) (files : Option Files) (output : Output) : Type 0 where
  pub has : HasSites asked files
  pub text : output.text ≡ site_lines has.places has.sites
  pub end : output.end ≡ []
  pub status : output.status ≡ 0

-- a line for each of them and each line of the log in which a print of it that begins the line can end, with where
pub record IsMatching (asked : Asked) (files : Option Files) (output : Output) : Type 0 where
  pub has : HasSites asked files
  pub log : List ℕ
  pub read : IsLogRead asked files has.config log
  pub text : AreMatchLines has.places log has.sites output.text
  pub end : output.end ≡ []
  pub status : output.status ≡ 0

-- ---- answers

-- the statuses of what was answered
abbrev pub IsAnswer : ℕ → Type 0
IsAnswer status = (status ≡ 0) ⊎ ((status ≡ 1) ⊎ (status ≡ 9))

-- the statuses of refusals that have a cause
abbrev pub IsRefusal : ℕ → Type 0
IsRefusal status =
    (status ≡ 3) ⊎ ((status ≡ 4) ⊎ ((status ≡ 5) ⊎ ((status ≡ 6) ⊎ ((status ≡ 7) ⊎ ((status ≡ 8) ⊎ (status ≡ 10))))))

abbrev pub IsOutputOf : Command → Asked → Option Files → Output → Type 0
IsOutputOf Diagnose asked files output = IsReport asked files output
IsOutputOf Replay asked files output = IsReplay asked files output
IsOutputOf Sites asked files output = IsListing asked files output
IsOutputOf Match asked files output = IsMatching asked files output

abbrev pub IsOutput : Asked → Option Files → Output → Type 0
IsOutput asked files output = IsOutputOf asked.command asked files output

-- how a run ended is told on err, of what else is asked for nothing
abbrev pub EndsOf : Command → Output → SinkState → SinkState → Type 0
EndsOf Diagnose output old new = new ≡ old
EndsOf Replay output old new = Told old new output.end
EndsOf Sites output old new = new ≡ old
EndsOf Match output old new = new ≡ old

-- what is asked for was written, and its evidence is kept
pub record Answered (asked : Asked) (files : Option Files) (status : ℕ) (old new err told : SinkState) (kept : Kept) : Type 0 where
  pub output : Output
  pub just : IsOutput asked files output
  pub verdict : status ≡ output.status
  pub written : Appended old.bytes new.bytes output.text
  pub ends : EndsOf asked.command output err told
  pub keeps : kept ≡ output.evidence

-- it was written up to a fault
pub record BrokeOff (asked : Asked) (files : Option Files) (old new : SinkState) : Type 0 where
  pub output : Output
  pub just : IsOutput asked files output
  pub fault : Rose old.faults new.faults
  pub written : AppendedPrefix old.bytes new.bytes output.text

-- nothing was written, for this cause; or the output was, up to a fault
abbrev pub Refused : Asked → ShelfState → ShelfState → SinkState → SinkState → Refusal → Type 0
Refused asked before after old new Fault = (Cause asked before after Fault × (new ≡ old)) ⊎ BrokeOff asked before.files old new
Refused asked before after old new refusal = Cause asked before after refusal × (new ≡ old)

-- what is refused is told
pub record IsRefused (asked : Asked) (before after : ShelfState) (old new err told : SinkState) (status : ℕ) : Type 0 where
  pub refusal : Refusal
  pub is_status : status ≡ status_of refusal
  pub refused : Refused asked before after old new refusal
  pub line : Told err told (line_of asked refusal)

-- ---- where all goes well outside

pub record IsHeld (files : Files) (name : List ℕ) (limit : ℕ) : Type 0 where
  pub bytes : List ℕ
  pub is : files name ≡ Some bytes
  pub within : length bytes ≤ limit

-- files are told, each file of the command is held and within its limit, no get and no write failed
pub record AllIsWell (asked : Asked) (before after : ShelfState) (old new : SinkState) : Type 0 where
  pub files : Files
  pub told : before.files ≡ Some files
  pub held : (file : InputFile) → Takes asked file → IsHeld files (name_of asked file) (limit_of file)
  pub got : (file : InputFile) → Failed asked file before after → ⊥
  pub wrote : Rose old.faults new.faults → ⊥
