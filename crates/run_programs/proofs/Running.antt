-- What comes next of a run that is running, and of one that isn't.
use Rattle.std.proofs.Common.{◌≡◌, true, false, Some, refl, sym, ap, ◌∙◌, arith}
use Rattle.plain_data.specs.declared.bounds.Bounds.{Bounds}
use Rattle.plain_data.specs.declared.run.Run.{Run}
use Rattle.plain_data.specs.Worlds.{WorldTables}
use Rattle.c_means.specs.declared.kind.Kind.{Kind}
use Rattle.c_means.specs.declared.kind.Kind.TheVariants as k
use Rattle.c_machine.specs.Kinds.{is_running}
use Rattle.c_means.specs.Units.{world_of, limits_of}
use Rattle.c_store.specs.Store.{initial}
use Rattle.core_tree.specs.declared.program.Core.{Core}
use Rattle.core_tree.specs.Programs.{prepared, called_main, run_of, ran, maybe_ran, nothing_left, makes_all, meets_all, sets_all, bare}
use Rattle.core_tree.specs.States.{Output, Done, plain, entered, running, where_running, onward}
use Rattle.core_running.specs.Settings.{level}
use Rattle.run_core.specs.Scenes.{machine_of, bare_setting}

pub passes : {A : Type 0} (x : Kind) (a b : A) → is_running x ≡ false → where_running x a b ≡ b
passes k.Running a b is = grind (arith, is)
passes k.Breaking a b is = refl
passes k.Continuing a b is = refl
passes k.Returning a b is = refl
passes (k.Going label) a b is = refl
passes (k.Choosing value) a b is = refl
passes k.Defaulting a b is = refl
passes (k.Ended finish) a b is = refl

pub runs : {A : Type 0} (x : Kind) (a b : A) → is_running x ≡ true → where_running x a b ≡ a
runs k.Running a b is = refl
runs k.Breaking a b is = grind (arith, is)
runs k.Continuing a b is = grind (arith, is)
runs k.Returning a b is = grind (arith, is)
runs (k.Going label) a b is = grind (arith, is)
runs (k.Choosing value) a b is = grind (arith, is)
runs k.Defaulting a b is = grind (arith, is)
runs (k.Ended finish) a b is = grind (arith, is)

-- nothing is initialised in a run that isn't running
pub begins_ended : (p : Core) (w : WorldTables) (b : Bounds) (d e f : Done Output) → e ≡ meets_all plain p.met d
    → f ≡ makes_all p.objects e → is_running f.kind ≡ false → prepared (machine_of p w b) d ≡ Some f
begins_ended p w b d e f met made is =
    let whole : f ≡ makes_all p.objects (meets_all plain p.met d) = made ∙ ap (makes_all p.objects) met in
    ap (λ x. running (sets_all p.settings (bare (machine_of p w b))) x) (sym whole)
    ∙ passes f.kind (sets_all p.settings (bare (machine_of p w b)) f) (Some f) is

pub begins : (p : Core) (w : WorldTables) (b : Bounds) (d e f g : Done Output) → e ≡ meets_all plain p.met d
    → f ≡ makes_all p.objects e → is_running f.kind ≡ true
    → sets_all p.settings (level (bare_setting (machine_of p w b))) f ≡ Some g → prepared (machine_of p w b) d ≡ Some g
begins p w b d e f g met made is sets =
    let whole : f ≡ makes_all p.objects (meets_all plain p.met d) = made ∙ ap (makes_all p.objects) met in
    ap (λ x. running (sets_all p.settings (bare (machine_of p w b))) x) (sym whole)
    ∙ runs f.kind (sets_all p.settings (bare (machine_of p w b)) f) (Some f) is ∙ sets

-- the run of a program that ended before `main`
pub over : (p : Core) (w : WorldTables) (b : Bounds) (d e : Done Output) (r : Run)
    → d ≡ entered plain (initial (world_of w).byte) nothing_left → prepared (machine_of p w b) d ≡ Some e
    → is_running e.kind ≡ false → r ≡ ran e → run_of p (world_of w) (limits_of b) b.depth ≡ Some r
over p w b d e r starts prepares is read =
    ap (λ x. maybe_ran (onward (prepared (machine_of p w b) x) (running (called_main (machine_of p w b))))) (sym starts)
    ∙ ap (λ o. maybe_ran (onward o (running (called_main (machine_of p w b))))) prepares
    ∙ ap maybe_ran (passes e.kind (called_main (machine_of p w b) e) (Some e) is) ∙ ap Some (sym read)

pub goes_on : (p : Core) (w : WorldTables) (b : Bounds) (d e : Done Output) (r : Run)
    → d ≡ entered plain (initial (world_of w).byte) nothing_left → prepared (machine_of p w b) d ≡ Some e
    → is_running e.kind ≡ true → maybe_ran (called_main (machine_of p w b) e) ≡ Some r
    → run_of p (world_of w) (limits_of b) b.depth ≡ Some r
goes_on p w b d e r starts prepares is called =
    ap (λ x. maybe_ran (onward (prepared (machine_of p w b) x) (running (called_main (machine_of p w b))))) (sym starts)
    ∙ ap (λ o. maybe_ran (onward o (running (called_main (machine_of p w b))))) prepares
    ∙ ap maybe_ran (runs e.kind (called_main (machine_of p w b) e) (Some e) is) ∙ called
