-- From what was got and read to the output of a command, and why there is none.
use Rattle.std.proofs.Common.{◌≡◌, ◌≤◌, ◌<◌, ◌+◌, ◌*◌, ◌∙◌, ℕ, Bool, true, List, [], Option, Some, Result, Ok, Err, IfOk, IfErr, min, arith, ap, subst, sym, refl, inl, inr}
use Rattle.plain_data.specs.declared.bounds.Bounds.{Bounds}
use Rattle.plain_data.specs.declared.run.Run.{Run}
use Rattle.plain_data.specs.Worlds.{WorldTables}
use Rattle.accepted.specs.declared.program.Accepted.{Accepted}
use Rattle.c_means.specs.declared.profile.Profile.{Profile}
use Rattle.c_means.specs.Units.{IsAcceptedSource, source_run, source_size}
use Rattle.c_language.specs.declared.unit.External.{External}
use Rattle.c_language.specs.PlaceTables.{PlaceTable}
use Rattle.cert_text.specs.WorldTexts.{ReadsWorld}
use Rattle.config_text.specs.declared.config.Config.{Config as ConfigType}
use Rattle.diagnoses.specs.declared.diagnosis.Kept.{Kept}
use Rattle.log_text.specs.Lines.{line_count}
use Rattle.must_facts.specs.Inquiries.{measure_of}
use Rattle.site_text.specs.Lines.{AreMatchLines, site_lines}
use Rattle.sl_io.specs.Counts.{Rose}
use Rattle.sl_io.specs.ShelfStates.{CountsOn, Files, ShelfState}
use Rattle.sl_io.specs.SinkStates.{SinkState}
use Rattle.sl_io.specs.Writes.{AppendedPrefix}
use Rattle.source_sites.specs.declared.listing.Site.{Site}
use Rattle.sherlog.specs.Words.{Asked}
use Rattle.sherlog.specs.Inputs.{IsInput}
use Rattle.sherlog.specs.Sources.{IsRefusedFor}
use Rattle.sherlog.specs.Causes.{AreInForce, Cause, IsAccepted, IsLogRead, IsRead, IsWorldRead, takes_log}
use Rattle.sherlog.specs.Answers.{AreSitesIn, HasSites, IsOutput, IsOutputOf, IsReportOn}
use Rattle.sherlog.specs.Lines.{end_line}
use Rattle.sherlog.specs.Stages.{Forms, GetsLog, IsNotServed, IsParsed, IsProgramOf, IsTraced, Lists, Parses, ReadsWorldFile, Serves}
use Rattle.sherlog.specs.declared.getting.Parsed.{Parsed}
use Rattle.sherlog.specs.declared.output.Output.{Output}
use Rattle.sherlog.specs.declared.request.Command.{Command}
use Rattle.sherlog.specs.declared.request.Command.TheVariants.{Diagnose, Replay, Sites, Match}
use Rattle.sherlog.specs.declared.refusal.InputFile.TheVariants.{World}
use Rattle.sherlog.specs.declared.refusal.Refusal.{Refusal}
use Rattle.sherlog.specs.declared.refusal.Refusal.TheVariants.{BadConfig, BadSource, NoMain, Broken, NotYetRead, TooManyLines, TooLarge, BadWorld, Fault, TooLong, Memory}
use Rattle.sherlog.proofs.CauseLemmas.{cause_later}

-- ---- what is read and accepted

abbrev read_of : (asked : Asked) (files : Option Files) (x : Parsed) → IsParsed asked files x
    → IsRead asked files x.config x.unit.externals
read_of asked files x h = record {
  configured = h.configured;
  source = x.bytes;
  input = h.input;
  is_derived = h.is_unit.is_derived;
}

abbrev accepted_of : (asked : Asked) (files : Option Files) (x : Parsed) → IsParsed asked files x
    → IsAcceptedSource x.unit.externals x.config.profile → IsAccepted asked files x.config x.unit.externals
accepted_of asked files x h kept = record { read = read_of asked files x h; kept = kept }

-- where nothing was got since
still_accepted : (asked : Asked) (before mid : ShelfState) (x : Parsed) → Parses asked before mid (Ok x)
    → IsAcceptedSource x.unit.externals x.config.profile → IsAccepted asked mid.files x.config x.unit.externals
still_accepted asked before mid x h kept =
    subst (λ (fs : Option Files). IsAccepted asked fs x.config x.unit.externals) (sym h.files)
    (accepted_of asked before.files x h.parsed kept)

-- what was read stays read
at_most_itself : (n : ℕ) → n ≤ n
at_most_itself n = omega arith

pub here : (asked : Asked) (s : ShelfState) (x : Parsed) → IsParsed asked s.files x → Parses asked s s (Ok x)
here asked s x h = record {
  counts = record {
    taken = at_most_itself s.taken;
    get_faults = λ name. at_most_itself (s.get_faults name);
    put_faults = λ name. at_most_itself (s.put_faults name);
    long_reads = λ name limit. at_most_itself (s.long_reads name limit);
  };
  files = refl;
  parsed = h;
  refused = tt;
}

caused_before : (asked : Asked) (before mid after : ShelfState) (r : Result Output Refusal) → CountsOn before mid
    → mid.files ≡ before.files → IfErr r (Cause asked mid after) → IfErr r (Cause asked before after)
caused_before asked before mid after (Ok output) counts files h = tt
caused_before asked before mid after (Err refusal) counts files h = cause_later asked before mid after refusal counts files h

-- what is formed of a source that was read is formed of its files
pub formed_of : (asked : Asked) (before mid after : ShelfState) (x : Parsed) (r : Result Output Refusal)
    → Parses asked before mid (Ok x) → Forms asked mid after r → Forms asked before after r
formed_of asked before mid after x r h f = record {
  files = f.files ∙ h.files;
  formed = subst (λ (fs : Option Files). IfOk r (IsOutput asked fs)) h.files f.formed;
  refused = caused_before asked before mid after r h.counts h.files f.refused;
}

-- an accepted program of what was read
pub program_of : (asked : Asked) (before mid : ShelfState) (x : Parsed) (p : Accepted) (bounds : Bounds)
    → Parses asked before mid (Ok x) → p.externals ≡ x.unit.externals → p.profile ≡ x.config.profile
    → AreInForce asked x.config bounds → IsProgramOf asked mid.files x p bounds
program_of asked before mid x p bounds h externals profile in_force = record {
  parsed = subst (λ (fs : Option Files). IsParsed asked fs x) (sym h.files) h.parsed;
  externals = externals;
  profile = profile;
  in_force = in_force;
}

pub kept_of : (asked : Asked) (files : Option Files) (x : Parsed) (p : Accepted) (bounds : Bounds)
    → IsProgramOf asked files x p bounds → IsAcceptedSource x.unit.externals x.config.profile
kept_of asked files x p bounds of = subst (λ xs. IsAcceptedSource xs x.config.profile) of.externals
    (subst (λ f. IsAcceptedSource p.externals f) of.profile p.kept)

-- ---- refused for a rule

rule_cause : (asked : Asked) (before after : ShelfState) (x : Parsed) (r : Refusal) → IsParsed asked before.files x
    → IsRefusedFor asked.source x.bytes x.unit.externals x.config.profile r
    → Cause asked before after r
rule_cause asked before after x NoMain h refused =
    record { config = x.config; externals = x.unit.externals; read = read_of asked before.files x h; refused = refused }
rule_cause asked before after x (Broken rule spot) h refused =
    record { config = x.config; externals = x.unit.externals; read = read_of asked before.files x h; refused = refused }
rule_cause asked before after x NotYetRead h refused = absurd refused
rule_cause asked before after x Memory h refused = tt
rule_cause asked before after x (BadConfig fault) h refused = absurd refused
rule_cause asked before after x (BadSource fault spot) h refused = absurd refused
rule_cause asked before after x (TooManyLines count) h refused = absurd refused
rule_cause asked before after x TooLarge h refused = absurd refused
rule_cause asked before after x (BadWorld line) h refused = absurd refused
rule_cause asked before after x Fault h refused = absurd refused
rule_cause asked before after x (TooLong file) h refused = absurd refused

pub not_formed : (asked : Asked) (before after : ShelfState) (x : Parsed) (r told : Refusal)
    → Parses asked before after (Ok x) → IsRefusedFor asked.source x.bytes x.unit.externals x.config.profile r
    → told ≡ r → Forms asked before after (Err told)
not_formed asked before after x r told h refused is =
    rw is (record {
      files = h.files;
      formed = tt;
      refused = rule_cause asked before after x r h.parsed refused;
    })

-- ---- `diagnose`

log_read : (asked : Asked) (before mid after : ShelfState) (x : Parsed) (log : List ℕ) → takes_log asked.command ≡ true
    → Parses asked before mid (Ok x) → GetsLog asked x.config.prefix x.config.drop_unmatched mid after (Ok log)
    → IsLogRead asked before.files x.config log
log_read asked before mid after x log command h got =
    subst (λ (fs : Option Files). IsLogRead asked fs x.config log) h.files (got.read x.config command refl refl)

pub log_not_read : (asked : Asked) (before mid after : ShelfState) (x : Parsed) (r told : Refusal)
    → takes_log asked.command ≡ true → Parses asked before mid (Ok x) → IsAcceptedSource x.unit.externals x.config.profile
    → GetsLog asked x.config.prefix x.config.drop_unmatched mid after (Err r) → told ≡ r → Forms asked before after (Err told)
log_not_read asked before mid after x r told command h kept log is =
    rw is (record {
      files = log.files ∙ h.files;
      formed = tt;
      refused = cause_later asked before mid after r h.counts h.files
          (log.refused x.config x.unit.externals command (still_accepted asked before mid x h kept));
    })

-- a log is got as the program's configuration has it
got_by : (asked : Asked) (files : Option Files) (p : Accepted) (bounds : Bounds) (places : PlaceTable)
    (prefix : Option (List ℕ)) (drops : Bool) (before after : ShelfState) (r : Result (List ℕ) Refusal)
    → (t : IsTraced asked files p bounds places prefix drops) → GetsLog asked prefix drops before after r
    → GetsLog asked t.of.config.prefix t.of.config.drop_unmatched before after r
got_by asked files p bounds places prefix drops before after r t log =
    subst (λ pattern. GetsLog asked pattern t.of.config.drop_unmatched before after r) (sym t.is_prefix)
    (subst (λ is. GetsLog asked prefix is before after r) (sym t.is_drops) log)

pub log_not_read_of : (asked : Asked) (before after : ShelfState) (p : Accepted) (bounds : Bounds) (places : PlaceTable)
    (prefix : Option (List ℕ)) (drops : Bool) (r told : Refusal) → asked.command ≡ Diagnose
    → IsTraced asked before.files p bounds places prefix drops → GetsLog asked prefix drops before after (Err r) → told ≡ r
    → Forms asked before after (Err told)
log_not_read_of asked before after p bounds places prefix drops r told command t log is =
    log_not_read asked before before after t.of r told (ap takes_log command) (here asked before t.of t.program.parsed)
    (kept_of asked before.files t.of p bounds t.program)
    (got_by asked before.files p bounds places prefix drops before after (Err r) t log) is

traced_log : (asked : Asked) (before after : ShelfState) (p : Accepted) (bounds : Bounds) (places : PlaceTable)
    (prefix : Option (List ℕ)) (drops : Bool) (log : List ℕ) → asked.command ≡ Diagnose
    → (t : IsTraced asked before.files p bounds places prefix drops) → GetsLog asked prefix drops before after (Ok log)
    → IsLogRead asked before.files t.of.config log
traced_log asked before after p bounds places prefix drops log command t got =
    log_read asked before before after t.of log (ap takes_log command) (here asked before t.of t.program.parsed)
    (got_by asked before.files p bounds places prefix drops before after (Ok log) t got)

pub report_formed : (asked : Asked) (before after : ShelfState) (p : Accepted) (bounds : Bounds) (places : PlaceTable)
    (prefix : Option (List ℕ)) (drops : Bool) (log : List ℕ) (output : Output) → asked.command ≡ Diagnose
    → IsTraced asked before.files p bounds places prefix drops → GetsLog asked prefix drops before after (Ok log)
    → IsReportOn asked places p bounds log output → Forms asked before after (Ok output)
report_formed asked before after p bounds places prefix drops log output command t got on = record {
  files = got.files;
  formed = subst (λ (c : Command). IsOutputOf c asked before.files output) (sym command) (record {
    config = t.of.config;
    externals = t.of.unit.externals;
    accepted = accepted_of asked before.files t.of t.program.parsed (kept_of asked before.files t.of p bounds t.program);
    log = log;
    read = traced_log asked before after p bounds places prefix drops log command t got;
    bounds = bounds;
    in_force = t.program.in_force;
    program = p;
    of_source = t.program.externals;
    of_profile = t.program.profile;
    places = t.of.unit.places;
    is_places = t.program.parsed.is_unit.places;
    is_files = t.program.parsed.is_unit.files;
    on = subst (λ table. IsReportOn asked table p bounds log output) (sym t.is_places) on;
  });
  refused = tt;
}

pub too_large_to_diagnose : (asked : Asked) (before after : ShelfState) (p : Accepted) (bounds : Bounds)
    (places : PlaceTable) (prefix : Option (List ℕ)) (drops : Bool) (log : List ℕ) → asked.command ≡ Diagnose
    → IsTraced asked before.files p bounds places prefix drops → GetsLog asked prefix drops before after (Ok log)
    → 2000000 < measure_of p bounds log → Forms asked before after (Err TooLarge)
too_large_to_diagnose asked before after p bounds places prefix drops log command t got larger = record {
  files = got.files;
  formed = tt;
  refused = inr (record {
    diagnosed = command;
    config = t.of.config;
    externals = t.of.unit.externals;
    accepted = accepted_of asked before.files t.of t.program.parsed (kept_of asked before.files t.of p bounds t.program);
    log = log;
    read = traced_log asked before after p bounds places prefix drops log command t got;
    bounds = bounds;
    in_force = t.program.in_force;
    larger = subst (λ xs. 2000000 < source_size xs t.of.config.profile bounds * (line_count log + 1)) t.program.externals
        (subst (λ f. 2000000 < source_size p.externals f bounds * (line_count log + 1)) t.program.profile larger);
  });
}

unserved_cause : (asked : Asked) (before after : ShelfState) (x : Parsed) (r : Refusal) → asked.command ≡ Diagnose
    → IsParsed asked before.files x → IsAcceptedSource x.unit.externals x.config.profile → IsNotServed x.unit.externals x.config.profile r → Cause asked before after r
unserved_cause asked before after x NotYetRead command h kept other = record {
  config = x.config;
  externals = x.unit.externals;
  accepted = accepted_of asked before.files x h kept;
  command = command;
  other = other;
}
unserved_cause asked before after x Memory command h kept other = tt
unserved_cause asked before after x NoMain command h kept other = absurd other
unserved_cause asked before after x (Broken rule spot) command h kept other = absurd other
unserved_cause asked before after x (BadConfig fault) command h kept other = absurd other
unserved_cause asked before after x (BadSource fault spot) command h kept other = absurd other
unserved_cause asked before after x (TooManyLines count) command h kept other = absurd other
unserved_cause asked before after x TooLarge command h kept other = absurd other
unserved_cause asked before after x (BadWorld line) command h kept other = absurd other
unserved_cause asked before after x Fault command h kept other = absurd other
unserved_cause asked before after x (TooLong file) command h kept other = absurd other

pub not_served : (asked : Asked) (before after : ShelfState) (p : Accepted) (bounds : Bounds) (places : PlaceTable)
    (prefix : Option (List ℕ)) (drops : Bool) (log : List ℕ) (r : Refusal) → asked.command ≡ Diagnose
    → IsTraced asked before.files p bounds places prefix drops → GetsLog asked prefix drops before after (Ok log)
    → IsNotServed p.externals p.profile r → Forms asked before after (Err r)
not_served asked before after p bounds places prefix drops log r command t got other = record {
  files = got.files;
  formed = tt;
  refused = unserved_cause asked before after t.of r command t.program.parsed
      (kept_of asked before.files t.of p bounds t.program)
      (subst (λ xs. IsNotServed xs t.of.config.profile r) t.program.externals
      (subst (λ f. IsNotServed p.externals f r) t.program.profile other));
}

-- ---- `replay`

pub world_not_read : (asked : Asked) (before mid after : ShelfState) (x : Parsed) (r told : Refusal)
    → asked.command ≡ Replay → Parses asked before mid (Ok x) → IsAcceptedSource x.unit.externals x.config.profile
    → ReadsWorldFile asked mid after (Err r) → told ≡ r → Forms asked before after (Err told)
world_not_read asked before mid after x r told command h kept world is =
    rw is (record {
      files = world.files ∙ h.files;
      formed = tt;
      refused = cause_later asked before mid after r h.counts h.files
          (world.refused x.config x.unit.externals command (still_accepted asked before mid x h kept));
    })

abbrev world_read : (asked : Asked) (before mid after : ShelfState) (x : Parsed) (world : WorldTables)
    → asked.command ≡ Replay → Parses asked before mid (Ok x) → IsAcceptedSource x.unit.externals x.config.profile
    → ReadsWorldFile asked mid after (Ok world) → IsWorldRead asked before.files x.config x.unit.externals (Ok world)
world_read asked before mid after x world command h kept w = record {
  replayed = command;
  accepted = accepted_of asked before.files x h.parsed kept;
  text = w.read.0;
  input = subst (λ (fs : Option Files). IsInput asked World fs w.read.0) h.files w.read.1.0;
  reads = w.read.1.1;
}

larger_than : (most size found : ℕ) → found ≡ min size (most + 1) → most < found → most < size
larger_than most size found is larger = omega (arith, is)

at_most : (most size found : ℕ) → found ≡ min size (most + 1) → found ≤ most → size ≤ most
at_most most size found is within = omega (arith, is)

pub too_large : (asked : Asked) (before mid after : ShelfState) (x : Parsed) (world : WorldTables) (bounds : Bounds)
    (found : ℕ) → asked.command ≡ Replay → Parses asked before mid (Ok x) → IsAcceptedSource x.unit.externals x.config.profile
    → ReadsWorldFile asked mid after (Ok world) → AreInForce asked x.config bounds
    → found ≡ min (source_size x.unit.externals x.config.profile bounds) 2000001 → 2000000 < found
    → Forms asked before after (Err TooLarge)
too_large asked before mid after x world bounds found command h kept w in_force is larger = record {
  files = w.files ∙ h.files;
  formed = tt;
  refused = inl (record {
    config = x.config;
    externals = x.unit.externals;
    world = world;
    read = world_read asked before mid after x world command h kept w;
    bounds = bounds;
    in_force = in_force;
    larger = larger_than 2000000 (source_size x.unit.externals x.config.profile bounds) found is larger;
  });
}

pub run_formed : (asked : Asked) (before mid after : ShelfState) (x : Parsed) (world : WorldTables) (bounds : Bounds)
    (found : ℕ) (run : Run) (bytes : List ℕ) (output : Output) → asked.command ≡ Replay → Parses asked before mid (Ok x)
    → IsAcceptedSource x.unit.externals x.config.profile → ReadsWorldFile asked mid after (Ok world)
    → AreInForce asked x.config bounds → found ≡ min (source_size x.unit.externals x.config.profile bounds) 2000001
    → found ≤ 2000000 → run ≡ source_run x.unit.externals x.config.profile world bounds
    → x.bytes ≡ bytes → output.text ≡ run.printed → output.end ≡ end_line asked.source bytes run.finish → output.status ≡ 0
    → Forms asked before after (Ok output)
run_formed asked before mid after x world bounds found run bytes output command h kept w in_force is within ran read text end status =
    record {
      files = w.files ∙ h.files;
      formed = subst (λ (c : Command). IsOutputOf c asked before.files output) (sym command) (record {
        config = x.config;
        externals = x.unit.externals;
        world = world;
        read = world_read asked before mid after x world command h kept w;
        bounds = bounds;
        in_force = in_force;
        within = at_most 2000000 (source_size x.unit.externals x.config.profile bounds) found is within;
        text = text ∙ ap (λ (r : Run). r.printed) ran;
        end = end ∙ ap (λ bs. end_line asked.source bs run.finish) (sym read)
            ∙ ap (λ (r : Run). end_line asked.source x.bytes r.finish) ran;
        status = status;
      });
      refused = tt;
    }

-- ---- `sites` and `match`

kept_in : (xs : List External) (f : Profile) (sites : List Site) → AreSitesIn xs f sites → IsAcceptedSource xs f
kept_in xs f sites h = subst (λ ys. IsAcceptedSource ys f) h.of_source
    (subst (λ g. IsAcceptedSource h.program.externals g) h.of_profile h.program.kept)

abbrev listing_of : (asked : Asked) (files : Option Files) (x : Parsed) (sites : List Site) → IsParsed asked files x
    → AreSitesIn x.unit.externals x.config.profile sites → HasSites asked files
listing_of asked files x sites h are = record {
  config = x.config;
  externals = x.unit.externals;
  accepted = accepted_of asked files x h (kept_in x.unit.externals x.config.profile sites are);
  places = x.unit.places;
  is_places = h.is_unit.places;
  is_files = h.is_unit.files;
  sites = sites;
  are = are;
}

pub listing_formed : (asked : Asked) (before after : ShelfState) (x : Parsed) (sites : List Site) (output : Output)
    → asked.command ≡ Sites → Parses asked before after (Ok x)
    → Lists asked.source x.bytes x.unit.externals x.config.profile (Ok sites)
    → output.text ≡ site_lines x.unit.places sites → output.end ≡ [] → output.status ≡ 0 → Forms asked before after (Ok output)
listing_formed asked before after x sites output command h list text end status = record {
  files = h.files;
  formed = subst (λ (c : Command). IsOutputOf c asked before.files output) (sym command) (record {
    has = listing_of asked before.files x sites h.parsed list.found;
    text = text;
    end = end;
    status = status;
  });
  refused = tt;
}

pub matches_formed : (asked : Asked) (before mid after : ShelfState) (x : Parsed) (sites : List Site) (log : List ℕ)
    (output : Output) → asked.command ≡ Match → Parses asked before mid (Ok x)
    → Lists asked.source x.bytes x.unit.externals x.config.profile (Ok sites)
    → GetsLog asked x.config.prefix x.config.drop_unmatched mid after (Ok log)
    → AreMatchLines x.unit.places log sites output.text → output.end ≡ [] → output.status ≡ 0
    → Forms asked before after (Ok output)
matches_formed asked before mid after x sites log output command h list got text end status = record {
  files = got.files ∙ h.files;
  formed = subst (λ (c : Command). IsOutputOf c asked before.files output) (sym command) (record {
    has = listing_of asked before.files x sites h.parsed list.found;
    log = log;
    read = log_read asked before mid after x log (ap takes_log command) h got;
    text = text;
    end = end;
    status = status;
  });
  refused = tt;
}

pub log_not_matched : (asked : Asked) (before mid after : ShelfState) (x : Parsed) (sites : List Site) (r told : Refusal)
    → asked.command ≡ Match → Parses asked before mid (Ok x)
    → Lists asked.source x.bytes x.unit.externals x.config.profile (Ok sites)
    → GetsLog asked x.config.prefix x.config.drop_unmatched mid after (Err r) → told ≡ r → Forms asked before after (Err told)
log_not_matched asked before mid after x sites r told command h list log is =
    log_not_read asked before mid after x r told (ap takes_log command) h
    (kept_in x.unit.externals x.config.profile sites list.found) log is

-- ---- the output

-- it was written up to a fault
pub broke_off : (asked : Asked) (before after : ShelfState) (old new err : SinkState) (kept : Kept) (output : Output)
    → Forms asked before after (Ok output) → Rose old.faults new.faults
    → AppendedPrefix old.bytes new.bytes output.text → Serves asked before after old new err err kept (Err Fault)
broke_off asked before after old new err kept output h fault written = record {
  files = h.files;
  answered = tt;
  refused = inr (record { output = output; just = h.formed; fault = fault; written = written });
  untold = refl;
}
