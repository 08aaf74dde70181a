-- Runs in which the texts of log calls are formed by quick digits: the run of every machine is the same. So a row that
-- prints a large number computes.
use Rattle.std.proofs.Common.{◌≡◌, ℕ, zero, suc, ◌+◌, ◌-◌, ℤ, List, Option, Some, None, refl, sym, ap, ◌∙◌}
use Rattle.std.proofs.Math.Path.{fun_ext}
use Rattle.std.specs.Prelude.{drop}
use Rattle.plain_data.specs.declared.run.Run.{Run}
use Rattle.c_store.specs.Store.{Store, initial}
use Rattle.c_language.specs.declared.scope.Entry.{Entry}
use Rattle.c_means.specs.Parts.{State, Env, Level, Site, Calls, entered}
use Rattle.printf_text.specs.declared.piece.Arg.{Arg}
use Rattle.printf_text.specs.declared.piece.Piece.{Piece}
use Rattle.c_means.specs.declared.profile.LogText.{LogText}
use Rattle.c_means.specs.Items.{running}
use Rattle.c_means.specs.Rules.{Rules, LogCall, IdentityCall, BodyCall, LibraryCall, PreludeCall, OutsideCall}
use Rattle.c_means.specs.Calls.{log_pieces, before_format, spoken, arguments_of, text_with, prints_if, meets}
use Rattle.c_means.specs.Calls.{pointers_in}
use Rattle.c_means.specs.Programs.{Function, watched_lasting}
use Rattle.c_means.specs.Runs.{Machine, Below, bare, level, level_of, call_by, rule_of, by_body, behind, main_of}
use Rattle.c_means.specs.Runs.{entry_place, entry_room, main_state, main_arguments, called_main, main_run, prepared}
use Rattle.c_means.specs.Runs.{ran, run_of}
use Rattle.c_means.proofs.QuickTexts.{quick_text, same_text}

abbrev quick_text_with : List Piece → Option (List Arg) → Option (List ℕ)
quick_text_with ps None = None
quick_text_with ps (Some xs) = Some (quick_text ps xs)

same_text_with : (ps : List Piece) (xs : Option (List Arg)) → text_with ps xs ≡ quick_text_with ps xs
same_text_with ps None = refl
same_text_with ps (Some xs) = ap Some (sym (same_text ps xs))

abbrev quick_log_call : Level → List Entry → LogText → Site → Env → List ℤ → ℕ → State → State
quick_log_call l named f g env vs base d =
    let ps = log_pieces f g in
    prints_if l named g env (quick_text_with ps
    (arguments_of l ps (drop (before_format f) (spoken g.types vs)) (base + 4) d.store))
    (meets (base + 4) (pointers_in ps) d)

abbrev quick_call_by : Machine → Function → ℕ → Below → Rules Function → Calls
quick_call_by m caller turns below (LogCall text) g env vs base s count =
    quick_log_call (bare m turns) (watched_lasting m.program.scope caller) text g env vs base (entered s count)
quick_call_by m caller turns below rule g env vs base s count = call_by m caller turns below rule g env vs base s count

same_call_by : (m : Machine) (caller : Function) (turns : ℕ) (below : Below) (rule : Rules Function) →
    call_by m caller turns below rule ≡ quick_call_by m caller turns below rule
same_call_by m caller turns below (LogCall text) =
    fun_ext (λ g. fun_ext (λ env. fun_ext (λ vs. fun_ext (λ base. fun_ext (λ s. fun_ext (λ count.
    let ps = log_pieces text g in
    ap (λ t. prints_if (bare m turns) (watched_lasting m.program.scope caller) g env t
    (meets (base + 4) (pointers_in ps) (entered s count)))
    (same_text_with ps
    (arguments_of (bare m turns) ps (drop (before_format text) (spoken g.types vs)) (base + 4) s))))))))
same_call_by m caller turns below (IdentityCall i) = refl
same_call_by m caller turns below (BodyCall f) = refl
same_call_by m caller turns below (LibraryCall f) = refl
same_call_by m caller turns below (PreludeCall f) = refl
same_call_by m caller turns below OutsideCall = refl

-- ---- levels

abbrev with_calls : Calls → Level → Level
with_calls call l = record l { call = call }

abbrev quick_level : Machine → Below → Function → ℕ → Level
quick_level m below f turns = with_calls (λ g. quick_call_by m f turns below (rule_of m g) g) (level m below f turns)

same_level : (m : Machine) (below : Below) (f : Function) (turns : ℕ) →
    level m below f turns ≡ quick_level m below f turns
same_level m below f turns =
    ap (λ call. with_calls call (level m below f turns))
    (fun_ext (λ g. ap (called_at g) (same_call_by m f turns below (rule_of m g))))
  where
    called_at : Site → Calls → Env → List ℤ → ℕ → Store → ℕ → State
    called_at g call = call g

unfoldable pub quick_level_of : Machine → ℕ → Function → ℕ → Level
quick_level_of m zero f turns = quick_level m None f turns
quick_level_of m (suc n) f turns = quick_level m (Some (quick_level_of m n)) f turns

same_level_of : (m : Machine) (n : ℕ) → level_of m n ≡ quick_level_of m n
unfolding level_of quick_level_of
same_level_of m zero = fun_ext (λ f. fun_ext (λ turns. same_level m None f turns))
same_level_of m (suc n) =
    fun_ext (λ f. fun_ext (λ turns. same_level m (Some (level_of m n)) f turns
    ∙ ap (λ below. quick_level m (Some below) f turns) (same_level_of m n)))

-- ---- runs

abbrev quick_main : Machine → Function → State → State
quick_main m f d =
    let p = entry_place m.program in
    let e = main_state m f.parameters p d in
    behind e (by_body (quick_level_of m (m.depth - 1) f m.limits.turns) f (main_arguments m f.parameters p)
    (p + entry_room m f.parameters) e.store e.count)

abbrev quick_main_run : Machine → Option Function → State → State
quick_main_run m None d = d
quick_main_run m (Some f) d = running (quick_main m f) d

same_main : (m : Machine) (f : Function) (d : State) → called_main m f d ≡ quick_main m f d
same_main m f d =
    let p = entry_place m.program in
    let e = main_state m f.parameters p d in
    ap (λ levels. behind e (by_body (levels f m.limits.turns) f (main_arguments m f.parameters p)
    (p + entry_room m f.parameters) e.store e.count)) (same_level_of m (m.depth - 1))

same_main_run : (m : Machine) (f : Option Function) (d : State) → main_run m f d ≡ quick_main_run m f d
same_main_run m None d = refl
same_main_run m (Some f) d = ap (λ then. running then d) (fun_ext (same_main m f))

abbrev pub quick_run_of : Machine → Run
quick_run_of m = ran (quick_main_run m (main_of m) (prepared m (entered (initial m.world.byte) 0)))

pub same_run : (m : Machine) → run_of m ≡ quick_run_of m
same_run m = ap ran (same_main_run m (main_of m) (prepared m (entered (initial m.world.byte) 0)))
