-- Which command lines are served, and what they ask for.
use Rattle.std.specs.Prelude.{if◌then◌else◌, ◌&&◌, Bool, not, nat_le, is_some, ℕ, List, [], ◌∷◌, Option, Some, None}
use Rattle.std.specs.Prelude.{Result, Ok, Err}
use Rattle.sl_config.specs.Words.{job_of}
use Rattle.sl_config.specs.declared.job.Command.{Command as Word}
use Rattle.sl_config.specs.declared.job.Command.TheVariants as word
use Rattle.sl_config.specs.declared.job.Job.{Job}
use Rattle.sl_config.specs.declared.job.WordsFault.{WordsFault}
use Rattle.sherlog.specs.declared.request.Command.{Command}
use Rattle.sherlog.specs.declared.request.Command.TheVariants.{Diagnose, Replay, Sites, Match}

-- the command, the names of the source, of the log or the world (empty for `sites`), and of the configuration, the bounds
-- in force, how many conflicts a question may take, and whether facts are listed by line too
pub record Asked : Type 0 where
  pub command : Command
  pub source : List ℕ
  pub second : List ℕ
  pub config : Option (List ℕ)
  pub turns : ℕ
  pub depth : ℕ
  pub conflicts : ℕ
  pub by_line : Bool

-- a report as text is asked for, and no certificate
abbrev pub is_plain : Job → Bool
is_plain job = not (is_some job.cert) && not job.json

-- (the words of a command line keep these ranges themselves)
abbrev pub is_in_range : Job → Bool
is_in_range job = nat_le 1 job.turns && nat_le job.turns 64 && nat_le 1 job.depth && nat_le job.depth 16

abbrev pub asked_over : Command → Job → List ℕ → List ℕ → Option Asked
asked_over command job source second = if is_in_range job then Some (record {
  command = command;
  source = source;
  second = second;
  config = job.config;
  turns = job.turns;
  depth = job.depth;
  conflicts = job.conflicts;
  by_line = job.by_line;
}) else None

abbrev pub asked_of_two : Command → Job → List (List ℕ) → Option Asked
asked_of_two command job (source ∷ second ∷ []) = asked_over command job source second
asked_of_two command job _ = None

abbrev pub asked_of_one : Command → Job → List (List ℕ) → Option Asked
asked_of_one command job (source ∷ []) = asked_over command job source []
asked_of_one command job _ = None

-- of the commands of a command line these are served: `diagnose` without `--json` and `--cert`, `replay`, `sites`, `match`
abbrev pub asked_by : Word → Job → Option Asked
asked_by word.Diagnose job = if is_plain job then asked_of_two Diagnose job job.places else None
asked_by word.Replay job = asked_of_two Replay job job.places
asked_by word.Sites job = asked_of_one Sites job job.places
asked_by word.Match job = asked_of_two Match job job.places
asked_by word.Check job = None
asked_by word.SelfTest job = None

abbrev pub asked_in : Job → Option Asked
asked_in job = asked_by job.command job

abbrev pub asked_where : Result Job WordsFault → Option Asked
asked_where (Ok job) = asked_in job
asked_where (Err fault) = None

-- what words ask for: none where they are no command line that is served
unfoldable pub asked_of : List (List ℕ) → Option Asked
asked_of words = asked_where (job_of words)
