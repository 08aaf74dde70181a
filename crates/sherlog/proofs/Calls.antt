-- What the status of the top call says.
use Rattle.std.proofs.Common.{◌≡◌, ◌≤◌, ◌<◌, ◌∙◌, ◌⊎◌, inl, inr, ℕ, Bool, true, false, cond, List, Option, Some, None, Ok, Err, Result, length, map, option_map, arith, ap, subst, refl, sym}
use Rattle.std.specs.Prelude.{◌≢◌}
use Rattle.std.specs.List.{list_any}
use Rattle.diagnoses.specs.declared.diagnosis.Diagnosis.{Diagnosis}
use Rattle.diagnoses.specs.declared.diagnosis.Kept.{Kept}
use Rattle.diagnoses.specs.declared.diagnosis.Diagnosis.TheVariants.{Found, Nothing, Undecided}
use Rattle.sl_config.specs.Words.{job_of}
use Rattle.sl_config.specs.declared.job.Job.{Job}
use Rattle.sl_config.specs.declared.job.WordsFault.{WordsFault}
use Rattle.sl_config.specs.declared.job.WordsFault.TheVariants as fault
use Rattle.sl_io.specs.ShelfStates.{Files, ShelfState}
use Rattle.sl_io.specs.SinkStates.{SinkState}
use Rattle.sl_io.specs.Gets.{HoldsMore}
use Rattle.sl_io.specs.Writes.{Told}
use Rattle.sherlog.specs.Words.{Asked, asked_of, asked_in, asked_where}
use Rattle.sherlog.specs.Inputs.{limit_of, name_of}
use Rattle.sherlog.specs.Inputs as inputs
use Rattle.sherlog.specs.Completeness.{IsAnswerable, IsNoProgram}
use Rattle.sherlog.specs.Answers.{AllIsWell, Answered, IsAnswer, IsHeld, IsOutputOf, IsRefusal, IsRefused, Refused, is_unknown, status_of_diagnosis}
use Rattle.sherlog.specs.Lines.{TellsAs, TellsOf, line_of, memory_line, status_of}
use Rattle.sherlog.specs.declared.output.Output.{Output}
use Rattle.sherlog.specs.declared.request.Command.{Command}
use Rattle.sherlog.specs.declared.request.Command.TheVariants.{Diagnose, Replay, Sites, Match}
use Rattle.sherlog.specs.declared.request.Request.{Request}
use Rattle.sherlog.specs.declared.refusal.InputFile.{InputFile}
use Rattle.sherlog.specs.declared.refusal.Refusal.{Refusal}
use Rattle.sherlog.specs.declared.refusal.Refusal.TheVariants.{BadConfig, BadSource, NoMain, Broken, NotYetRead, TooManyLines, TooLarge, BadWorld, Fault, TooLong, Memory}
use Rattle.sherlog.proofs.Deciding.{answer_status, none_status}

-- ---- the words

abbrev no_job : WordsFault → Result Job WordsFault
no_job x = Err x

memory_is_none : (x : WordsFault) → x ≡ fault.Usage → no_job x ≡ no_job fault.Memory → ⊥
memory_is_none x is e = cc

ok_is_none : (job : Job) → Ok job ≡ Err fault.Memory → ⊥
ok_is_none job e = cc

-- words that are no command line
pub asked_nothing : (words : List (List ℕ)) (x : WordsFault) → (no_job x ≢ no_job fault.Memory → no_job x ≡ job_of words)
    → x ≡ fault.Usage → asked_of words ≡ None
unfolding asked_of
asked_nothing words x read is = ap asked_where (sym (read (memory_is_none x is)))

-- words that are one: what they ask for
pub asked_for : (words : List (List ℕ)) (job : Job) (request : Option Request)
    → (Ok job ≢ Err fault.Memory → Ok job ≡ job_of words) → option_map inputs.asked_in request ≡ asked_in job
    → asked_of words ≡ option_map inputs.asked_in request
unfolding asked_of
asked_for words job request read is = ap asked_where (sym (read (ok_is_none job))) ∙ sym is

pub none_of : (request : Option Request) → ((x : Request) → request ≡ Some x → ⊥) → option_map inputs.asked_in request ≡ None
none_of None other = refl
none_of (Some x) other = absurd (other x refl)

pub not_asked : (asked : Asked) → Some asked ≡ None → ⊥
not_asked asked e = cc

-- ---- a refusal that was told

pub tells_as : (asked : Asked) (r : Refusal) (old new : SinkState) (result : ℕ) → (r ≡ Fault → ⊥)
    → TellsAs (status_of r) (line_of asked r) old new result → TellsOf asked r old new result
tells_as asked Fault old new result other t = absurd (other refl)
tells_as asked (BadConfig f) old new result other t = inl t
tells_as asked (BadSource f spot) old new result other t = inl t
tells_as asked NoMain old new result other t = inl t
tells_as asked (Broken rule spot) old new result other t = inl t
tells_as asked NotYetRead old new result other t = inl t
tells_as asked (TooManyLines count) old new result other t = inl t
tells_as asked TooLarge old new result other t = inl t
tells_as asked (BadWorld line) old new result other t = inl t
tells_as asked (TooLong file) old new result other t = inl t
tells_as asked Memory old new result other t = inl t

-- its line and status, or want of memory, but not of a fault
tells : (asked : Asked) (r : Refusal) (err told : SinkState) (result : ℕ) → TellsOf asked r err told result
    → TellsAs (status_of r) (line_of asked r) err told result ⊎ ((r ≡ Fault → ⊥) × TellsAs 12 memory_line err told result)
tells asked Fault err told result t = inl t
tells asked (BadConfig f) err told result (inl t) = inl t
tells asked (BadConfig f) err told result (inr t) = inr (λ e. cc, t)
tells asked (BadSource f spot) err told result (inl t) = inl t
tells asked (BadSource f spot) err told result (inr t) = inr (λ e. cc, t)
tells asked NoMain err told result (inl t) = inl t
tells asked NoMain err told result (inr t) = inr (λ e. cc, t)
tells asked (Broken rule spot) err told result (inl t) = inl t
tells asked (Broken rule spot) err told result (inr t) = inr (λ e. cc, t)
tells asked NotYetRead err told result (inl t) = inl t
tells asked NotYetRead err told result (inr t) = inr (λ e. cc, t)
tells asked (TooManyLines count) err told result (inl t) = inl t
tells asked (TooManyLines count) err told result (inr t) = inr (λ e. cc, t)
tells asked TooLarge err told result (inl t) = inl t
tells asked TooLarge err told result (inr t) = inr (λ e. cc, t)
tells asked (BadWorld line) err told result (inl t) = inl t
tells asked (BadWorld line) err told result (inr t) = inr (λ e. cc, t)
tells asked (TooLong file) err told result (inl t) = inl t
tells asked (TooLong file) err told result (inr t) = inr (λ e. cc, t)
tells asked Memory err told result (inl t) = inl t
tells asked Memory err told result (inr t) = inr (λ e. cc, t)

unwritten : (asked : Asked) (before after : ShelfState) (old new : SinkState) (r : Refusal) → (r ≡ Fault → ⊥)
    → Refused asked before after old new r → new ≡ old
unwritten asked before after old new Fault other h = absurd (other refl)
unwritten asked before after old new (BadConfig f) other h = h.1
unwritten asked before after old new (BadSource f spot) other h = h.1
unwritten asked before after old new NoMain other h = h.1
unwritten asked before after old new (Broken rule spot) other h = h.1
unwritten asked before after old new NotYetRead other h = h.1
unwritten asked before after old new (TooManyLines count) other h = h.1
unwritten asked before after old new TooLarge other h = h.1
unwritten asked before after old new (BadWorld line) other h = h.1
unwritten asked before after old new (TooLong file) other h = h.1
unwritten asked before after old new Memory other h = h.1

is_memory : (r : Refusal) → 12 ≡ status_of r → r ≡ Memory
is_memory Memory e = refl
is_memory Fault e = absurd (omega (arith, e))
is_memory (BadConfig f) e = absurd (omega (arith, e))
is_memory (BadSource f spot) e = absurd (omega (arith, e))
is_memory NoMain e = absurd (omega (arith, e))
is_memory (Broken rule spot) e = absurd (omega (arith, e))
is_memory NotYetRead e = absurd (omega (arith, e))
is_memory (TooManyLines count) e = absurd (omega (arith, e))
is_memory TooLarge e = absurd (omega (arith, e))
is_memory (BadWorld line) e = absurd (omega (arith, e))
is_memory (TooLong file) e = absurd (omega (arith, e))

-- ---- where all goes well outside

well_fault : (asked : Asked) (before after : ShelfState) (old new : SinkState) → AllIsWell asked before after old new
    → Refused asked before after old new Fault → ⊥
well_fault asked before after old new well (inl h) = well.got h.0.0 h.0.1.1
well_fault asked before after old new well (inr broken) = well.wrote broken.fault

longer : (files : Files) (name : List ℕ) (limit : ℕ) → IsHeld files name limit → HoldsMore files name limit → ⊥
longer files name limit held more =
    let a = more.1 in
    let b = held.is in
    let same : more.0 ≡ held.bytes = cc in
    omega (arith, more.2, held.within, ap length same)

well_long : (asked : Asked) (before after : ShelfState) (old new : SinkState) (file : InputFile)
    → AllIsWell asked before after old new → Refused asked before after old new (TooLong file) → ⊥
well_long asked before after old new file well h =
    longer well.files (name_of asked file) (limit_of file) (well.held file h.0.0.0) (h.0.1.longer well.files well.told)

well_status : (asked : Asked) (before after : ShelfState) (old new : SinkState) (r : Refusal)
    → AllIsWell asked before after old new → Refused asked before after old new r
    → (6 ≡ status_of r → ⊥) × (7 ≡ status_of r → ⊥)
well_status asked before after old new Fault well h = (λ e. well_fault asked before after old new well h, λ e. omega (arith, e))
well_status asked before after old new (TooLong file) well h =
    (λ e. omega (arith, e), λ e. well_long asked before after old new file well h)
well_status asked before after old new (BadConfig f) well h = (λ e. omega (arith, e), λ e. omega (arith, e))
well_status asked before after old new (BadSource f spot) well h = (λ e. omega (arith, e), λ e. omega (arith, e))
well_status asked before after old new NoMain well h = (λ e. omega (arith, e), λ e. omega (arith, e))
well_status asked before after old new (Broken rule spot) well h = (λ e. omega (arith, e), λ e. omega (arith, e))
well_status asked before after old new NotYetRead well h = (λ e. omega (arith, e), λ e. omega (arith, e))
well_status asked before after old new (TooManyLines count) well h = (λ e. omega (arith, e), λ e. omega (arith, e))
well_status asked before after old new TooLarge well h = (λ e. omega (arith, e), λ e. omega (arith, e))
well_status asked before after old new (BadWorld line) well h = (λ e. omega (arith, e), λ e. omega (arith, e))
well_status asked before after old new Memory well h = (λ e. omega (arith, e), λ e. omega (arith, e))

-- ---- all that is said of a refusal

pub record Refusals (asked : Asked) (before after : ShelfState) (old new err told : SinkState) (result : ℕ) : Type 0 where
  pub refused : IsRefusal result → IsRefused asked before after old new err told result
  pub kinds : IsRefusal result ⊎ (result ≡ 12)
  pub memory : result ≡ 12 → new ≡ old
  pub memory_line : result ≡ 12 → Told err told memory_line
  pub decided : AllIsWell asked before after old new → (result ≡ 6 → ⊥) × (result ≡ 7 → ⊥)
  pub no_program : IsNoProgram asked before after → (result ≡ 3) ⊎ (result ≡ 12)
  pub complete : IsAnswerable asked before after old new → result ≡ 12

by_status : (result status : ℕ) → result ≡ status → (status ≡ 3) ⊎ (status ≡ 12) → (result ≡ 3) ⊎ (result ≡ 12)
by_status result status e (inl f) = inl (e ∙ f)
by_status result status e (inr f) = inr (e ∙ f)

pub whole : (result : ℕ) → result ≡ 12 → IsAnswer result ⊎ (result ≡ 12)
whole result h = inr h

not_memory : (result : ℕ) → result ≡ 12 → IsRefusal result → ⊥
not_memory result is (inl e) = omega (arith, is, e)
not_memory result is (inr (inl e)) = omega (arith, is, e)
not_memory result is (inr (inr (inl e))) = omega (arith, is, e)
not_memory result is (inr (inr (inr (inl e)))) = omega (arith, is, e)
not_memory result is (inr (inr (inr (inr (inl e))))) = omega (arith, is, e)
not_memory result is (inr (inr (inr (inr (inr (inl e)))))) = omega (arith, is, e)
not_memory result is (inr (inr (inr (inr (inr (inr e)))))) = omega (arith, is, e)

-- the status of a refusal, or of a want of memory
pub status_kinds : (r : Refusal) → IsRefusal (status_of r) ⊎ (status_of r ≡ 12)
status_kinds (BadConfig f) = inl (inr (inr (inl refl)))
status_kinds (BadSource f spot) = inl (inl refl)
status_kinds NoMain = inl (inl refl)
status_kinds (Broken rule spot) = inl (inl refl)
status_kinds NotYetRead = inl (inl refl)
status_kinds (TooManyLines count) = inl (inr (inl refl))
status_kinds TooLarge = inl (inr (inr (inr (inr (inr (inl refl))))))
status_kinds (BadWorld line) = inl (inr (inr (inr (inr (inr (inr refl))))))
status_kinds Fault = inl (inr (inr (inr (inl refl))))
status_kinds (TooLong file) = inl (inr (inr (inr (inr (inl refl)))))
status_kinds Memory = inr refl

pub told_kinds : (asked : Asked) (r : Refusal) (old new : SinkState) (result : ℕ)
    → TellsAs (status_of r) (line_of asked r) old new result ⊎ ((r ≡ Fault → ⊥) × TellsAs 12 memory_line old new result)
    → IsRefusal result ⊎ (result ≡ 12)
told_kinds asked r old new result (inl t) =
    subst (λ n. IsRefusal n ⊎ (n ≡ 12)) (sym t.is_status) (status_kinds r)
told_kinds asked r old new result (inr t) = inr t.1.is_status

told_of : (asked : Asked) (before after : ShelfState) (old new err told : SinkState) (r : Refusal) (result : ℕ)
    → Refused asked before after old new r
    → TellsAs (status_of r) (line_of asked r) err told result ⊎ ((r ≡ Fault → ⊥) × TellsAs 12 memory_line err told result)
    → Refusals asked before after old new err told result
told_of asked before after old new err told r result h (inl t) = record {
  kinds = told_kinds asked r err told result (inl t);
  refused = λ is. record { refusal = r; is_status = t.is_status; refused = h; line = t.told };
  memory = λ e.
      let is = is_memory r (sym e ∙ t.is_status) in
      unwritten asked before after old new r (λ f. fault_memory (sym f ∙ is)) h;
  memory_line = λ e.
      let is = is_memory r (sym e ∙ t.is_status) in
      rw (ap (line_of asked) is) at t.told;
  decided = λ well.
      let p = well_status asked before after old new r well h in
      (λ e. p.0 (sym e ∙ t.is_status), λ e. p.1 (sym e ∙ t.is_status));
  no_program = λ u. by_status result (status_of r) t.is_status (none_status asked before after old new r u h);
  complete = λ a. t.is_status ∙ answer_status asked before after old new a r h;
}
  where
    fault_memory : Fault ≡ Memory → ⊥
    fault_memory e = cc
told_of asked before after old new err told r result h (inr t) = record {
  kinds = told_kinds asked r err told result (inr t);
  refused = λ is. absurd (not_memory result t.1.is_status is);
  memory = λ e. unwritten asked before after old new r t.0 h;
  memory_line = λ e. t.1.told;
  decided = λ well. (λ e. not_six result t.1.is_status e, λ e. not_seven result t.1.is_status e);
  no_program = λ u. inr t.1.is_status;
  complete = λ a. t.1.is_status;
}
  where
    not_six : (n : ℕ) → n ≡ 12 → n ≡ 6 → ⊥
    not_six n e f = omega (arith, e, f)

    not_seven : (n : ℕ) → n ≡ 12 → n ≡ 7 → ⊥
    not_seven n e f = omega (arith, e, f)

pub refusals_of : (asked : Asked) (before after : ShelfState) (old new err mid told : SinkState) (r : Refusal) (result : ℕ)
    → Refused asked before after old new r → mid ≡ err → TellsOf asked r mid told result
    → Refusals asked before after old new err told result
refusals_of asked before after old new err mid told r result h same t =
    told_of asked before after old new err told r result h (tells asked r err told result (rw same at t))

-- ---- an answer

diagnosis_answer : (d : Diagnosis) → IsAnswer (status_of_diagnosis d)
diagnosis_answer (Found findings) = found_answer (list_any is_unknown findings.verdicts)
  where
    found_answer : (b : Bool) → IsAnswer (cond b 9 0)
    found_answer true = inr (inr refl)
    found_answer false = inl refl
diagnosis_answer (Nothing refutation) = inr (inl refl)
diagnosis_answer (Undecided trail) = inr (inr refl)

output_answer : (c : Command) (asked : Asked) (files : Option Files) (output : Output) → IsOutputOf c asked files output
    → IsAnswer output.status
output_answer Diagnose asked files output h =
    subst IsAnswer (sym h.on.status) (diagnosis_answer h.on.diagnosed.diagnosis)
output_answer Replay asked files output h = subst IsAnswer (sym h.status) (inl refl)
output_answer Sites asked files output h = subst IsAnswer (sym h.status) (inl refl)
output_answer Match asked files output h = subst IsAnswer (sym h.status) (inl refl)

pub answer_of : (asked : Asked) (files : Option Files) (status : ℕ) (old new err told : SinkState) (kept : Kept)
    → Answered asked files status old new err told kept → IsAnswer status
answer_of asked files status old new err told kept h =
    subst IsAnswer (sym h.verdict) (output_answer asked.command asked files h.output h.just)

refusal_bounds : (status : ℕ) → IsRefusal status → (3 ≤ status) × (status ≡ 9 → ⊥)
refusal_bounds status (inl e) = (omega (arith, e), λ f. omega (arith, e, f))
refusal_bounds status (inr (inl e)) = (omega (arith, e), λ f. omega (arith, e, f))
refusal_bounds status (inr (inr (inl e))) = (omega (arith, e), λ f. omega (arith, e, f))
refusal_bounds status (inr (inr (inr (inl e)))) = (omega (arith, e), λ f. omega (arith, e, f))
refusal_bounds status (inr (inr (inr (inr (inl e))))) = (omega (arith, e), λ f. omega (arith, e, f))
refusal_bounds status (inr (inr (inr (inr (inr (inl e)))))) = (omega (arith, e), λ f. omega (arith, e, f))
refusal_bounds status (inr (inr (inr (inr (inr (inr e)))))) = (omega (arith, e), λ f. omega (arith, e, f))

pub not_refused : (status : ℕ) → IsAnswer status → IsRefusal status → ⊥
not_refused status (inl e) r = let b = refusal_bounds status r in omega (arith, e, b.0)
not_refused status (inr (inl e)) r = let b = refusal_bounds status r in omega (arith, e, b.0)
not_refused status (inr (inr e)) r = (refusal_bounds status r).1 e

pub not_status : (status other : ℕ) → IsAnswer status → 1 < other → (other ≡ 9 → ⊥) → status ≡ other → ⊥
not_status status other (inl e) more nine is = omega (arith, e, more, is)
not_status status other (inr (inl e)) more nine is = omega (arith, e, more, is)
not_status status other (inr (inr e)) more nine is = nine (sym is ∙ e)

pub no_usage : (status : ℕ) → IsAnswer status → status ≡ 2 → ⊥
no_usage status h is = not_status status 2 h (omega arith) (λ e. omega (arith, e)) is

pub no_want : (status : ℕ) → IsAnswer status → status ≡ 12 → ⊥
no_want status h is = not_status status 12 h (omega arith) (λ e. omega (arith, e)) is

pub no_fault : (status : ℕ) → IsAnswer status → (status ≡ 6 → ⊥) × (status ≡ 7 → ⊥)
no_fault status h = (
  λ is. not_status status 6 h (omega arith) (λ e. omega (arith, e)) is,
  λ is. not_status status 7 h (omega arith) (λ e. omega (arith, e)) is,
)
