-- What the functions of a program run in, and what stands before them, by where they run; and the call of `main`.
use Rattle.std.specs.Prelude.{ℕ, ℤ, pos, List, Option, Some, None}
use Rattle.plain_data.specs.declared.bounds.Bounds.{Bounds}
use Rattle.plain_data.specs.declared.run.Finish.{Finish}
use Rattle.plain_data.specs.declared.run.Finish.TheVariants as finish
use Rattle.plain_data.specs.declared.run.Run.{Run}
use Rattle.c_means.specs.Units.{limits_of, silent}
use Rattle.core_running.specs.Settings.{Setting, level}
use Rattle.core_tree.specs.declared.program.Core.{Core}
use Rattle.core_tree.specs.Programs.{Machine, machine, body_of, by_body, behind, maybe_ran}
use Rattle.core_tree.specs.States.{Output, Done, plain, onward}
use Rattle.run_core.specs.declared.place.Bare.{Bare}
use Rattle.run_core.specs.declared.place.Place.{Place}
use Rattle.run_core.specs.Scenes.{machine_of, setting_at, bare_setting}

abbrev pub scene_of : Place → Setting
scene_of p = setting_at (machine_of p.core.now p.world.now p.bounds.now) p.left p.function.now

abbrev pub bare_of : Bare → Setting
bare_of p = bare_setting (machine_of p.core.now p.world.now p.bounds.now)

-- the end that a value of `main` is: 0 where it gave none (C99 5.1.2.2.3)
abbrev pub value_end : Option ℤ → Finish
value_end (Some v) = finish.Return v
value_end None = finish.Return (pos 0)

-- the run whose `main` is the function of a place, behind what was left before
abbrev pub main_run : Place → List ℤ → ℕ → Done Output → Option Run
main_run p vs base d =
    maybe_ran (onward (by_body (level (scene_of p)) (body_of p.function.now) vs base d.store d.out)
    (λ r. Some (behind plain d r)))

-- a program within bounds, in the world that gives 0 everywhere: no room asks for the world
abbrev pub silent_machine : Core → Bounds → Machine Output
silent_machine p b = machine plain p silent (limits_of b) b.depth
