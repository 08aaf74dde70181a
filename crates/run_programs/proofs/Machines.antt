-- The machine before the program runs, around `main`, and at the end.
use Rattle.std.proofs.Common.{◌≡◌, ℕ, ℤ, List, ◌++◌, Some, sym, ap, ◌∙◌}
use Rattle.plain_data.specs.declared.run.Finish.{Finish}
use Rattle.plain_data.specs.declared.run.Run.{Run}
use Rattle.plain_data.specs.Worlds.{WorldTables}
use Rattle.c_machine.specs.declared.calls.Caller.{Caller}
use Rattle.c_machine.specs.Callers.{state_in}
use Rattle.c_means.specs.Parts.{State}
use Rattle.c_means.specs.Parts as c
use Rattle.c_memory.specs.Memories.{initial_bytes}
use Rattle.c_means.specs.Runs.{finish_of}
use Rattle.c_means.specs.Units.{world_of}
use Rattle.c_store.specs.Store.{initial}
use Rattle.core_tree.specs.Programs.{by_body, body_of, behind, ran, maybe_ran, nothing_left}
use Rattle.core_tree.specs.States.{Output, Done, plain, entered, onward}
use Rattle.core_running.specs.Settings.{level}
use Rattle.elaborate.specs.Means.{as_done}
use Rattle.run_core.specs.declared.place.Place.{Place}
use Rattle.run_programs.specs.Places.{scene_of, main_run}

pub starts : (w v : WorldTables) (a : State) → a ≡ c.entered (initial (initial_bytes v)) 0 → v ≡ w
    → as_done a ≡ entered plain (initial (world_of w).byte) nothing_left
starts w v a is same = ap as_done is ∙ ap (λ x. as_done (c.entered (initial (initial_bytes x)) 0)) same

pub reads : (a : State) (left : Caller) (f : Finish) → state_in left a.store a.count ≡ a
    → f ≡ finish_of left.kind left.value
    → record { printed = left.printed; events = left.events; finish = f } ≡ ran (as_done a)
reads a left f caller is =
    let end : Finish → Run = λ x. record { printed = left.printed; events = left.events; finish = x } in
    ap end is ∙ ap (λ s. ran (as_done s)) caller

-- `main` begins with nothing printed or noted, and what it left stands behind what was left before
pub main_runs : (p : Place) (vs : List ℤ) (base : ℕ) (a b : State) (e : Done Output) (outer : Caller) (inner : Run)
    (printed : List ℕ) → b ≡ c.entered a.store a.count → state_in outer a.store a.count ≡ a
    → ((o : Output) → as_done b ≡ entered plain (as_done b).store o
    → by_body (level (scene_of p)) (body_of p.function.now) vs base (as_done b).store o ≡ Some e)
    → inner ≡ ran e → printed ≡ outer.printed ++ inner.printed
    → main_run p vs base (as_done a) ≡ Some (record { printed = printed; events = inner.events; finish = inner.finish })
main_runs p vs base a b e outer inner printed enters caller runs is grown =
    let o : Output = (as_done a).out in
    let store : b.store ≡ a.store = ap (λ s. s.store) enters in
    let begins : as_done b ≡ entered plain b.store o = ap as_done enters ∙ ap (λ s. entered plain s o) (sym store) in
    let before : outer.printed ≡ a.printed = ap (λ s. s.printed) caller in
    let with_run : Run → Run = λ i. record {
      printed = a.printed ++ i.printed;
      events = i.events;
      finish = i.finish;
    } in
    let with_text : List ℕ → Run = λ x. record { printed = x; events = inner.events; finish = inner.finish } in
    ap (λ s. maybe_ran (onward (by_body (level (scene_of p)) (body_of p.function.now) vs base s o)
    (λ r. Some (behind plain (as_done a) r)))) (sym store)
    ∙ ap (λ y. maybe_ran (onward y (λ r. Some (behind plain (as_done a) r)))) (runs o begins)
    ∙ ap (λ i. Some (with_run i)) (sym is)
    ∙ ap (λ x. Some (with_text x)) (ap (λ y. y ++ inner.printed) (sym before) ∙ sym grown)
