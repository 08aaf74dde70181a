-- Causes of refusals over several gets.
use Rattle.std.proofs.Common.{◌≡◌, ◌≤◌, ◌+◌, ◌∙◌, ℕ, Bool, true, List, Option, Ok, Err, min, arith, subst, sym, ap, refl}
use Rattle.c_language.specs.declared.unit.External.{External}
use Rattle.config_text.specs.declared.config.Config.{Config as ConfigType}
use Rattle.log_text.specs.Stripping.{stripped}
use Rattle.sl_io.specs.ShelfStates.{Files, ShelfState, CountsOn}
use Rattle.sl_io.specs.Gets.{Gets}
use Rattle.sl_io.specs.declared.faults.GetFault.{GetFault}
use Rattle.sl_io.specs.declared.faults.GetFault.TheVariants as get
use Rattle.sherlog.specs.Words.{Asked}
use Rattle.sherlog.specs.Inputs.{IsInput, IsTooLong, name_of, limit_of}
use Rattle.sherlog.specs.Causes.{BreaksRules, Cause, HasBadWorld, HasManyLines, IsAccepted, IsConfigured, IsFaulty, IsPatternOf, IsTextOf, IsTooLarge}
use Rattle.sherlog.specs.Causes.{IsUnserved, Reaches, takes_log}
use Rattle.sherlog.specs.Stages.{Configures, Fetches, GetCause, GetsLog, IsManyLines, Parses, ReadsWorldFile, Strips}
use Rattle.sherlog.specs.declared.refusal.InputFile.{InputFile}
use Rattle.sherlog.specs.declared.refusal.InputFile.TheVariants.{Source, Log, World}
use Rattle.sherlog.specs.declared.refusal.Refusal.{Refusal}
use Rattle.sherlog.specs.declared.refusal.Refusal.TheVariants.{BadConfig, BadSource, NoMain, Broken, NotYetRead, TooManyLines, TooLarge, BadWorld, Fault, TooLong, Memory}

-- a count that rose in the later part of a call rose in the call
rose_in_all : (n most a b c : ℕ) → a ≤ b → min (b + n) most ≤ c → min (a + n) most ≤ c
rose_in_all n most a b c on rose = omega arith

-- so did the counts of a get that met too long a file
long_later : (asked : Asked) (file : InputFile) (before mid after : ShelfState) → CountsOn before mid
    → mid.files ≡ before.files → IsTooLong asked file mid after → IsTooLong asked file before after
long_later asked file before mid after counts files long = record {
  taken = rose_in_all _ _ _ _ _ counts.taken long.taken;
  counted = rose_in_all _ _ _ _ _ (counts.long_reads _ _) long.counted;
  longer = λ told is. long.longer told (files ∙ is);
}

-- the cause of a later part of a call is that of the call
pub cause_later : (asked : Asked) (before mid after : ShelfState) (refusal : Refusal) → CountsOn before mid
    → mid.files ≡ before.files → Cause asked mid after refusal → Cause asked before after refusal
cause_later asked before mid after (BadConfig fault) counts files h =
    subst (λ (fs : Option Files). IsTextOf asked fs (Err fault)) files h
cause_later asked before mid after (BadSource fault spot) counts files h =
    subst (λ (fs : Option Files). IsFaulty asked fs fault spot) files h
cause_later asked before mid after NoMain counts files h =
    subst (λ (fs : Option Files). BreaksRules asked fs NoMain) files h
cause_later asked before mid after (Broken rule spot) counts files h =
    subst (λ (fs : Option Files). BreaksRules asked fs (Broken rule spot)) files h
cause_later asked before mid after NotYetRead counts files h =
    subst (λ (fs : Option Files). IsUnserved asked fs) files h
cause_later asked before mid after (TooManyLines count) counts files h =
    subst (λ (fs : Option Files). HasManyLines asked fs count) files h
cause_later asked before mid after TooLarge counts files h =
    subst (λ (fs : Option Files). IsTooLarge asked fs) files h
cause_later asked before mid after (BadWorld line) counts files h =
    subst (λ (fs : Option Files). HasBadWorld asked fs line) files h
cause_later asked before mid after Fault counts files h =
    (h.0, (subst (λ (fs : Option Files). Reaches asked h.0 fs) files h.1.0, rose_in_all _ _ _ _ _ (counts.get_faults _) h.1.1))
cause_later asked before mid after (TooLong file) counts files h =
    (subst (λ (fs : Option Files). Reaches asked file fs) files h.0, long_later asked file before mid after counts files h.1)
cause_later asked before mid after Memory counts files h = tt

-- why a file isn't got that was to be got
pub cause_of_get : (asked : Asked) (file : InputFile) (before after : ShelfState) (refusal : Refusal)
    → Reaches asked file before.files → GetCause asked file before after refusal → Cause asked before after refusal
cause_of_get asked file before after Fault reaches h = (file, (reaches, h))
cause_of_get asked file before after (TooLong other) reaches h =
    subst (λ (f : InputFile). Reaches asked f before.files × IsTooLong asked f before after) (sym h.0) (reaches, h.1)
cause_of_get asked file before after Memory reaches h = tt
cause_of_get asked file before after (BadConfig fault) reaches h = absurd h
cause_of_get asked file before after (BadSource fault spot) reaches h = absurd h
cause_of_get asked file before after NoMain reaches h = absurd h
cause_of_get asked file before after (Broken rule spot) reaches h = absurd h
cause_of_get asked file before after NotYetRead reaches h = absurd h
cause_of_get asked file before after (TooManyLines count) reaches h = absurd h
cause_of_get asked file before after TooLarge reaches h = absurd h
cause_of_get asked file before after (BadWorld line) reaches h = absurd h

-- a get that met too long a file
pub fetched_long : (asked : Asked) (file : InputFile) (before after : ShelfState) (name : List ℕ) (limit : ℕ)
    (fault : GetFault) → name ≡ name_of asked file → limit ≡ limit_of file → Gets before after name limit (Err fault)
    → fault ≡ get.TooLong → Fetches asked file before after (Err (TooLong file))
fetched_long asked file before after name limit fault is_name is_limit gets is =
    let got = rw (is_name, is_limit) at gets in
    let long = got.long (ap Err is) in
    record {
      counts = got.counts;
      files = got.files;
      input = tt;
      refused = (refl, record { taken = long.0; counted = long.1; longer = λ told held. ((got.told told held).long (ap Err is)).0 });
    }

-- ---- steps that end with a get

later : (a b c : ℕ) → a ≤ b → b ≤ c → a ≤ c
later a b c first second = omega arith

pub counts_through : (before mid after : ShelfState) → CountsOn before mid → CountsOn mid after → CountsOn before after
counts_through before mid after first second = record {
  taken = later _ _ _ first.taken second.taken;
  get_faults = λ name. later _ _ _ (first.get_faults name) (second.get_faults name);
  put_faults = λ name. later _ _ _ (first.put_faults name) (second.put_faults name);
  long_reads = λ name limit. later _ _ _ (first.long_reads name limit) (second.long_reads name limit);
}

-- the log isn't got
pub log_not_got : (asked : Asked) (prefix : Option (List ℕ)) (drops : Bool) (before after : ShelfState) (refusal told : Refusal)
    → Fetches asked Log before after (Err refusal) → told ≡ refusal → GetsLog asked prefix drops before after (Err told)
log_not_got asked prefix drops before after refusal told h is =
    rw is (record {
      counts = h.counts;
      files = h.files;
      read = tt;
      refused = λ config externals command accepted.
          cause_of_get asked Log before after refusal (command, (config, (externals, accepted))) h.refused;
    })

not_many_lines : (asked : Asked) (before after : ShelfState) (bytes : List ℕ) (r : Refusal) → IsInput asked Log before.files bytes
    → IsManyLines bytes r → (config : ConfigType) (externals : List External) → takes_log asked.command ≡ true
    → IsAccepted asked before.files config externals → Cause asked before after r
not_many_lines asked before after bytes (TooManyLines count) input h config externals command accepted = record {
  logged = command;
  config = config;
  externals = externals;
  accepted = accepted;
  log = bytes;
  input = input;
  is_count = h.0;
  many = h.1;
}
not_many_lines asked before after bytes Memory input h config externals command accepted = tt
not_many_lines asked before after bytes (BadConfig fault) input h config externals command accepted = absurd h
not_many_lines asked before after bytes (BadSource fault spot) input h config externals command accepted = absurd h
not_many_lines asked before after bytes NoMain input h config externals command accepted = absurd h
not_many_lines asked before after bytes (Broken rule spot) input h config externals command accepted = absurd h
not_many_lines asked before after bytes NotYetRead input h config externals command accepted = absurd h
not_many_lines asked before after bytes TooLarge input h config externals command accepted = absurd h
not_many_lines asked before after bytes (BadWorld line) input h config externals command accepted = absurd h
not_many_lines asked before after bytes Fault input h config externals command accepted = absurd h
not_many_lines asked before after bytes (TooLong file) input h config externals command accepted = absurd h

-- the log is got, and not stripped
pub log_not_stripped : (asked : Asked) (prefix : Option (List ℕ)) (drops : Bool) (before after : ShelfState) (bytes : List ℕ)
    (refusal told : Refusal) → Fetches asked Log before after (Ok bytes) → Strips prefix drops bytes (Err refusal)
    → told ≡ refusal → GetsLog asked prefix drops before after (Err told)
log_not_stripped asked prefix drops before after bytes refusal told h s is =
    rw is (record {
      counts = h.counts;
      files = h.files;
      read = tt;
      refused = λ config externals command accepted.
          not_many_lines asked before after bytes refusal h.input s.refused config externals command accepted;
    })

-- the log is got and stripped
pub log_got : (asked : Asked) (prefix : Option (List ℕ)) (drops : Bool) (before after : ShelfState) (bytes log : List ℕ)
    → Fetches asked Log before after (Ok bytes) → Strips prefix drops bytes (Ok log) → GetsLog asked prefix drops before after (Ok log)
log_got asked prefix drops before after bytes log h s = record {
  counts = h.counts;
  files = h.files;
  read = λ config command e d. record {
    logged = command;
    bytes = bytes;
    input = h.input;
    few = s.few;
    is_stripped = record {
      pattern = s.is.0;
      is_pattern = subst (λ p. IsPatternOf p s.is.0) (sym e) s.is.1.0;
      is = s.is.1.1 ∙ ap (λ b. stripped s.is.0 b bytes) (sym d);
    };
  };
  refused = λ config externals command accepted. tt;
}

-- the world isn't got
pub world_not_got : (asked : Asked) (before after : ShelfState) (refusal told : Refusal)
    → Fetches asked World before after (Err refusal) → told ≡ refusal → ReadsWorldFile asked before after (Err told)
world_not_got asked before after refusal told h is =
    rw is (record {
      counts = h.counts;
      files = h.files;
      read = tt;
      refused = λ config externals takes accepted.
          cause_of_get asked World before after refusal
          (takes, (config, (externals, accepted))) h.refused;
    })

-- the source isn't got, behind the configuration
pub source_not_got : (asked : Asked) (before mid after : ShelfState) (config : ConfigType) (refusal told : Refusal)
    → Configures asked before mid (Ok config) → Fetches asked Source mid after (Err refusal) → told ≡ refusal
    → Parses asked before after (Err told)
source_not_got asked before mid after config refusal told k h is =
    rw is (record {
      counts = counts_through before mid after k.counts h.counts;
      files = h.files ∙ k.files;
      parsed = tt;
      refused = cause_later asked before mid after refusal k.counts k.files
          (cause_of_get asked Source mid after refusal
          (tt, (config, subst (λ (fs : Option Files). IsConfigured asked fs asked.config config) (sym k.files) k.configured))
          h.refused);
    })
