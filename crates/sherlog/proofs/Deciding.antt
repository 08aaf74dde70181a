-- Where files are told, what they hold decides.
use Rattle.std.proofs.Common.{◌≡◌, ◌≤◌, ◌<◌, ◌+◌, ◌*◌, ◌∙◌, ◌⊎◌, inl, inr, ℕ, List, [], Bool, true, false, Option, Some, None, Result, Ok, Err, length}
use Rattle.std.proofs.Common.{arith, ap, subst, refl, sym}
use Rattle.plain_data.specs.declared.bounds.Bounds.{Bounds}
use Rattle.plain_data.specs.Worlds.{WorldTables}
use Rattle.acceptance.specs.Refusals.{IsFirstBroken, judged_in}
use Rattle.c_grammar.specs.Units.{derives}
use Rattle.c_lexer.specs.Reading.{lexed}
use Rattle.c_lexer.specs.declared.fault.LexFault.{LexFault}
use Rattle.c_language.specs.declared.token.Tokens.{Tokens}
use Rattle.c_means.specs.declared.profile.Profile.{Profile}
use Rattle.c_means.specs.Checks.{breaches_of, has_main}
use Rattle.c_means.specs.Units.{IsAcceptedSource, source_size}
use Rattle.c_language.specs.declared.unit.External.{External}
use Rattle.cert_text.specs.WorldTexts.{ReadsWorld}
use Rattle.cert_text.specs.declared.fault.CertFault.{CertFault}
use Rattle.cert_text.specs.declared.fault.CertFault.TheVariants as cert
use Rattle.config_text.specs.Configs.{default_config}
use Rattle.config_text.specs.declared.config.Config.{Config as ConfigType}
use Rattle.unread_forms.specs.Forms.{HasUnread}
use Rattle.diagnoses.specs.declared.diagnosis.Kept.{Kept}
use Rattle.log_text.specs.Lines.{line_count}
use Rattle.log_text.specs.Stripping.{stripped}
use Rattle.sl_io.specs.Gets.{HoldsMore}
use Rattle.sl_io.specs.ShelfStates.{Files, ShelfState, Holds}
use Rattle.sl_io.specs.SinkStates.{SinkState}
use Rattle.sherlog.specs.Words.{Asked}
use Rattle.sherlog.specs.Inputs.{Failed, IsTooLong, limit_of, name_of}
use Rattle.sherlog.specs.Sources.{HasFault, IsDerived, IsUnparsed}
use Rattle.sherlog.specs.Causes.{AreInForce, IsAccepted, IsConfigured, IsFaultAt, IsLogRead, IsRead, IsServed, IsStripped, IsTooLarge, Reaches}
use Rattle.sherlog.specs.Causes.{takes_log}
use Rattle.sherlog.specs.Completeness.{HasLog, HasSecond, HasShortLog, HasWorld, IsAnswerable, IsAtHand, IsNoProgram, IsProgram}
use Rattle.sherlog.specs.Answers.{Answered, IsOutput, IsOutputOf, Refused}
use Rattle.sherlog.specs.Lines.{status_of}
use Rattle.sherlog.specs.declared.output.Output.{Output}
use Rattle.sherlog.specs.declared.request.Command.{Command}
use Rattle.sherlog.specs.declared.request.Command.TheVariants.{Diagnose, Replay, Sites, Match}
use Rattle.sherlog.specs.declared.refusal.InputFile.{InputFile}
use Rattle.sherlog.specs.declared.refusal.InputFile.TheVariants.{Config, Source, Log, World}
use Rattle.sherlog.specs.declared.refusal.Refusal.{Refusal}
use Rattle.sherlog.specs.declared.refusal.Refusal.TheVariants.{BadConfig, BadSource, NoMain, Broken, NotYetRead, TooManyLines, TooLarge, BadWorld, Fault, TooLong, Memory}
use Rattle.sherlog.specs.declared.refusal.SourceFault.{SourceFault}
use Rattle.sherlog.specs.declared.refusal.SourceFault.TheVariants as source

-- ---- a file that is at hand

same_bytes : (files : Option Files) (told : Files) (name one other : List ℕ) → Holds files name one → files ≡ Some told
    → told name ≡ Some other → one ≡ other
same_bytes files told name one other held is holds =
    let e = held told is in
    cc

longer : (told : Files) (name bytes : List ℕ) (limit : ℕ) → told name ≡ Some bytes → length bytes ≤ limit
    → HoldsMore told name limit → ⊥
longer told name bytes limit held within more =
    let a = more.1 in
    let same : more.0 ≡ bytes = cc in
    omega (arith, more.2, within, ap length same)

not_longer : (asked : Asked) (file : InputFile) (before after : ShelfState) (bytes : List ℕ)
    → IsAtHand asked file before after bytes → IsTooLong asked file before after → ⊥
not_longer asked file before after bytes h long =
    longer h.files (name_of asked file) bytes (limit_of file) h.held h.within (long.longer h.files h.told)

-- ---- the source is no program

none_accepted : (asked : Asked) (before after : ShelfState) (config : ConfigType) (externals : List External)
    → IsNoProgram asked before after → IsAccepted asked before.files config externals → ⊥
none_accepted asked before after config externals u a =
    let same = same_bytes before.files u.at_hand.files asked.source a.read.source u.source a.read.input.held u.at_hand.told
    u.at_hand.held in
    let plain : config ≡ default_config = rw u.plain at a.read.configured in
    u.no_program externals (record {
      is_derived = subst (λ (s : List ℕ). IsDerived asked.source s externals) same a.read.is_derived;
      kept = subst (λ (c : ConfigType). IsAcceptedSource externals c.profile) plain a.kept;
    })

none_output : (asked : Asked) (before after : ShelfState) (output : Output) (c : Command) → asked.command ≡ c
    → IsNoProgram asked before after → IsOutputOf c asked before.files output → ⊥
none_output asked before after output Diagnose is u h =
    none_accepted asked before after h.config h.externals u h.accepted
none_output asked before after output Replay is u h =
    none_accepted asked before after h.config h.externals u h.read.accepted
none_output asked before after output Sites is u h =
    none_accepted asked before after h.has.config h.has.externals u h.has.accepted
none_output asked before after output Match is u h =
    none_accepted asked before after h.has.config h.has.externals u h.has.accepted

pub none_answered : (asked : Asked) (before after : ShelfState) (status : ℕ) (old new err told : SinkState) (kept : Kept)
    → IsNoProgram asked before after → Answered asked before.files status old new err told kept → ⊥
none_answered asked before after status old new err told kept u h =
    none_output asked before after h.output asked.command refl u h.just

none_reached : (asked : Asked) (before after : ShelfState) (file : InputFile) → IsNoProgram asked before after
    → Reaches asked file before.files → (Failed asked file before after ⊎ IsTooLong asked file before after) → ⊥
none_reached asked before after Config u reaches h = reaches.0 u.plain
none_reached asked before after Source u reaches (inl failed) = u.at_hand.got failed
none_reached asked before after Source u reaches (inr long) = not_longer asked Source before after u.source u.at_hand long
none_reached asked before after Log u reaches h =
    none_accepted asked before after reaches.1.0 reaches.1.1.0 u reaches.1.1.1
none_reached asked before after World u reaches h =
    none_accepted asked before after reaches.1.0 reaches.1.1.0 u reaches.1.1.1

none_large : (asked : Asked) (before after : ShelfState) → IsNoProgram asked before after → IsTooLarge asked before.files → ⊥
none_large asked before after u (inl h) = none_accepted asked before after h.config h.externals u h.read.accepted
none_large asked before after u (inr h) = none_accepted asked before after h.config h.externals u h.accepted

pub none_status : (asked : Asked) (before after : ShelfState) (old new : SinkState) (r : Refusal)
    → IsNoProgram asked before after → Refused asked before after old new r → (status_of r ≡ 3) ⊎ (status_of r ≡ 12)
none_status asked before after old new (BadConfig f) u h = absurd (h.0.named u.plain)
none_status asked before after old new (BadSource f spot) u h = inl refl
none_status asked before after old new NoMain u h = inl refl
none_status asked before after old new (Broken rule spot) u h = inl refl
none_status asked before after old new NotYetRead u h = inl refl
none_status asked before after old new (TooManyLines count) u h =
    absurd (none_accepted asked before after h.0.config h.0.externals u h.0.accepted)
none_status asked before after old new TooLarge u h =
    absurd (none_large asked before after u h.0)
none_status asked before after old new (BadWorld line) u h =
    absurd (none_accepted asked before after h.0.config h.0.externals u h.0.read.accepted)
none_status asked before after old new Fault u (inl h) =
    absurd (none_reached asked before after h.0.0 u h.0.1.0 (inl h.0.1.1))
none_status asked before after old new Fault u (inr broken) =
    absurd (none_output asked before after broken.output asked.command refl u broken.just)
none_status asked before after old new (TooLong file) u h =
    absurd (none_reached asked before after file u h.0.0 (inr h.0.1))
none_status asked before after old new Memory u h = inr refl

-- ---- it is one, and the other file is as it is wanted

tokens_same : (x : Result Tokens LexFault) (s t : Tokens) → x ≡ Ok s → x ≡ Ok t → s ≡ t
tokens_same x s t e f = cc

err_ok : (x : Result Tokens LexFault) (f : LexFault) (t : Tokens) → x ≡ Err f → x ≡ Ok t → ⊥
err_ok x f t e g = cc

true_false : (b : Bool) → b ≡ true → b ≡ false → ⊥
true_false b e f = cc

-- a source has one unit
unit_same : (name bytes : List ℕ) (xs ys : List External) → IsDerived name bytes xs → IsDerived name bytes ys → ys ≡ xs
unit_same name bytes xs ys h k =
    h.only ys (subst (λ (t : Tokens). derives t.tokens ys) (tokens_same (lexed name bytes) k.tokens h.tokens k.spelled h.spelled)
    k.derived)

underived : (name bytes : List ℕ) (xs : List External) (at : ℕ) → IsDerived name bytes xs → IsUnparsed name bytes at → ⊥
underived name bytes xs at h u =
    u.underivable xs (subst (λ (t : Tokens). derives t.tokens xs)
    (tokens_same (lexed name bytes) h.tokens u.tokens h.spelled u.spelled) h.derived)

not_many : (one other : List ℕ) (count : ℕ) → one ≡ other → line_count other ≤ 1000 → count ≡ line_count one → 1000 < count → ⊥
not_many one other count same few is many =
    let e = ap line_count same in
    omega (arith, few, is, many, e)

smaller : (n : ℕ) → n ≤ 2000000 → 2000000 < n → ⊥
smaller n small large = omega (arith, small)

abbrev read_as : CertFault → Result WorldTables CertFault
read_as f = Err f

not_memory : (f : CertFault) (line : ℕ) → IsFaultAt f line → read_as f ≡ read_as cert.Memory → ⊥
not_memory (cert.BadLine bad) line is e = cc
not_memory cert.WrongVersion line is e = cc
not_memory cert.Memory line is e = is

read_not : (f : CertFault) (world : WorldTables) → read_as f ≡ Ok world → ⊥
read_not f world e = cc

-- and then no fault
no_fault : (name bytes : List ℕ) (xs : List External) → IsDerived name bytes xs → (f : SourceFault) (at : ℕ)
    → HasFault name bytes f at → ⊥
no_fault name bytes xs h source.BadByte at e = err_ok _ _ _ e h.spelled
no_fault name bytes xs h source.OpenText at e = err_ok _ _ _ e h.spelled
no_fault name bytes xs h source.WideNumber at e = err_ok _ _ _ e h.spelled
no_fault name bytes xs h source.BadConstant at e = err_ok _ _ _ e h.spelled
no_fault name bytes xs h source.BadDirective at e = err_ok _ _ _ e h.spelled
no_fault name bytes xs h source.Syntax at u = underived name bytes xs at h u
no_fault name bytes xs h source.TooDeep at u = underived name bytes xs at h u

-- a command that reads a log has one at hand
short_log : (asked : Asked) (before after : ShelfState) (xs : List External) (c : Command) → takes_log c ≡ true
    → HasSecond c asked before after xs → HasShortLog asked before after
short_log asked before after xs Diagnose e h = h.short
short_log asked before after xs Match e h = h
short_log asked before after xs Replay e h = cc
short_log asked before after xs Sites e h = cc

module _ (asked : Asked) (before after : ShelfState) (old new : SinkState) (a : IsAnswerable asked before after old new) where
  source_is : (bytes : List ℕ) → Holds before.files asked.source bytes → bytes ≡ a.source
  source_is bytes held = same_bytes before.files a.at_hand.files asked.source bytes a.source held a.at_hand.told a.at_hand.held

  config_is : (config : ConfigType) → IsConfigured asked before.files asked.config config → config ≡ default_config
  config_is config h = rw a.plain at h

  externals_are : (config : ConfigType) (xs : List External) → IsRead asked before.files config xs → xs ≡ a.externals
  externals_are config xs r =
      unit_same asked.source a.source a.externals xs a.program.is_derived
      (subst (λ (s : List ℕ). IsDerived asked.source s xs) (source_is r.source r.input.held) r.is_derived)

  kept_for : (config : ConfigType) (xs : List External) → IsRead asked before.files config xs
      → IsAcceptedSource xs config.profile
  kept_for config xs r =
      subst (λ (c : ConfigType). IsAcceptedSource xs c.profile) (sym (config_is config r.configured))
      (subst (λ (ys : List External). IsAcceptedSource ys default_config.profile) (sym (externals_are config xs r)) a.program.kept)

  logged : takes_log asked.command ≡ true → HasShortLog asked before after
  logged e = short_log asked before after a.externals asked.command e a.second

  measured : asked.command ≡ Diagnose → HasLog asked before after a.externals
  measured e = subst (λ (c : Command). HasSecond c asked before after a.externals) e a.second

  worlded : asked.command ≡ Replay → HasWorld asked before after a.externals
  worlded e = subst (λ (c : Command). HasSecond c asked before after a.externals) e a.second

  reached_not : (file : InputFile) → Reaches asked file before.files
      → (Failed asked file before after ⊎ IsTooLong asked file before after) → ⊥
  reached_not Config reaches h = reaches.0 a.plain
  reached_not Source reaches (inl failed) = a.at_hand.got failed
  reached_not Source reaches (inr long) = not_longer asked Source before after a.source a.at_hand long
  reached_not Log reaches (inl failed) = (logged reaches.0).at_hand.got failed
  reached_not Log reaches (inr long) =
      let h = logged reaches.0 in
      not_longer asked Log before after h.log h.at_hand long
  reached_not World reaches (inl failed) = (worlded reaches.0).at_hand.got failed
  reached_not World reaches (inr long) =
      let h = worlded reaches.0 in
      not_longer asked World before after h.text h.at_hand long

  within_bounds : (config : ConfigType) (xs : List External) (bounds : Bounds) → IsRead asked before.files config xs
      → asked.command ≡ Replay → AreInForce asked config bounds → source_size xs config.profile bounds ≤ 2000000
  within_bounds config xs bounds r command in_force =
      subst (λ (c : ConfigType). source_size xs c.profile bounds ≤ 2000000) (sym (config_is config r.configured))
      (subst (λ (ys : List External). source_size ys default_config.profile bounds ≤ 2000000) (sym (externals_are config xs r))
      ((worlded command).within bounds
      (subst (λ (c : ConfigType). AreInForce asked c bounds) (config_is config r.configured) in_force)))

  -- a log without its prefixes, where no configuration is named, is the one that is at hand
  log_is : (config : ConfigType) (log : List ℕ) (l : HasShortLog asked before after)
      → IsConfigured asked before.files asked.config config → IsLogRead asked before.files config log
      → log ≡ stripped None false l.log
  log_is config log l configured r =
      let same = same_bytes before.files l.at_hand.files asked.second r.bytes l.log r.input.held l.at_hand.told l.at_hand.held in
      let plain = subst (λ (c : ConfigType). IsStripped c r.bytes log) (config_is config configured) r.is_stripped in
      plain.is ∙ ap (λ p. stripped p false r.bytes) plain.is_pattern ∙ ap (λ b. stripped None false b) same

  within_log : (config : ConfigType) (xs : List External) (bounds : Bounds) (log : List ℕ) → asked.command ≡ Diagnose
      → IsRead asked before.files config xs → IsLogRead asked before.files config log → AreInForce asked config bounds
      → source_size xs config.profile bounds * (line_count log + 1) ≤ 2000000
  within_log config xs bounds log command r l in_force =
      subst (λ (c : ConfigType). source_size xs c.profile bounds * (line_count log + 1) ≤ 2000000) (sym (config_is config r.configured))
      (subst (λ (ys : List External). source_size ys default_config.profile bounds * (line_count log + 1) ≤ 2000000)
      (sym (externals_are config xs r))
      (subst (λ (t : List ℕ). source_size a.externals default_config.profile bounds * (line_count t + 1) ≤ 2000000)
      (sym (log_is config log (measured command).short r.configured l))
      ((measured command).within bounds
      (subst (λ (c : ConfigType). AreInForce asked c bounds) (config_is config r.configured) in_force))))

  followed : IsTooLarge asked before.files → ⊥
  followed (inl h) =
      smaller (source_size h.externals h.config.profile h.bounds)
      (within_bounds h.config h.externals h.bounds h.read.accepted.read h.read.replayed h.in_force) h.larger
  followed (inr h) =
      smaller (source_size h.externals h.config.profile h.bounds * (line_count h.log + 1))
      (within_log h.config h.externals h.bounds h.log h.diagnosed h.accepted.read h.read h.in_force) h.larger

  world_is_read : (fault : CertFault) (line : ℕ) (text : List ℕ) → asked.command ≡ Replay
      → Holds before.files asked.second text → ReadsWorld text (Err fault) → IsFaultAt fault line → ⊥
  world_is_read fault line text command held reads is =
      let h = worlded command in
      let same = same_bytes before.files h.at_hand.files asked.second text h.text held h.at_hand.told h.at_hand.held in
      let spelled = h.read.ok h.world refl in
      read_not fault h.world (reads.spelled h.world spelled.0 (same ∙ spelled.1) (not_memory fault line is))

  not_served : (config : ConfigType) (xs : List External) → IsRead asked before.files config xs → asked.command ≡ Diagnose
      → HasUnread xs config.profile → ⊥
  not_served config xs r is other =
      subst (λ (c : Command). IsServed c a.externals default_config.profile) is a.served
      (subst (λ (ys : List External). HasUnread ys default_config.profile) (externals_are config xs r)
      (subst (λ (c : ConfigType). HasUnread xs c.profile) (config_is config r.configured) other))

  pub answer_status : (r : Refusal) → Refused asked before after old new r → status_of r ≡ 12
  answer_status (BadConfig f) h = absurd (h.0.named a.plain)
  answer_status (BadSource f spot) h =
      absurd (no_fault asked.source a.source a.externals a.program.is_derived f h.0.has_fault.at
      (subst (λ (s : List ℕ). HasFault asked.source s f h.0.has_fault.at) (source_is h.0.source h.0.input.held)
      h.0.has_fault.first))
  answer_status NoMain h =
      absurd (true_false (has_main (judged_in h.0.externals h.0.config.profile))
      (kept_for h.0.config h.0.externals h.0.read).main h.0.refused)
  answer_status (Broken rule spot) h =
      absurd (rw (kept_for h.0.config h.0.externals h.0.read).kept at h.0.refused.first.first.among)
  answer_status NotYetRead h =
      absurd (not_served h.0.config h.0.externals h.0.accepted.read h.0.command h.0.other)
  answer_status (TooManyLines count) h =
      let l = logged h.0.logged in
      let same = same_bytes before.files l.at_hand.files asked.second h.0.log l.log h.0.input.held l.at_hand.told l.at_hand.held in
      absurd (not_many h.0.log l.log count same l.few h.0.is_count h.0.many)
  answer_status TooLarge h = absurd (followed h.0)
  answer_status (BadWorld line) h =
      absurd (world_is_read h.0.fault line h.0.read.text h.0.read.replayed h.0.read.input.held h.0.read.reads h.0.is_line)
  answer_status Fault (inl h) = absurd (reached_not h.0.0 h.0.1.0 (inl h.0.1.1))
  answer_status Fault (inr broken) = absurd (a.wrote broken.fault)
  answer_status (TooLong file) h = absurd (reached_not file h.0.0 (inr h.0.1))
  answer_status Memory h = refl
