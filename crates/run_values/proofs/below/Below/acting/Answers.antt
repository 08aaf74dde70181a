use Rattle.std.proofs.Common.{map}
use Rattle.plain_data.specs.declared.run.Happening.TheVariants.{Call}
use Rattle.c_machine.specs.States.{state}
use Rattle.c_machine.specs.Worth.{worth}
use Rattle.core_tree.specs.Callees.{called}
use Rattle.core_tree.specs.States as states
use Rattle.core_running.specs.Frames.{env_of}
use Rattle.core_running.specs.Running.{done}
use Rattle.core_running.specs.Settings.{level}
use Rattle.run_values.proofs.Calls.{acted, begins}
use Rattle.run_values.proofs.below.Below.acting.Goals as goal

pub returns-clause-runs : goal.returns-clause-runs
returns-clause-runs g c =
    acted c.enter-caller.result (state c.note.new.m) (state c.enter-caller.new.self) (state c.call.new.arg10)
    (state c.resume.new.self) (states.note states.plain (Call c.args.at) (done c.args.m.now))
    (λ s o. called (level (g.L.Scene.setting c.args.self.now.scene.now)) c.args.callee.now c.args.at c.args.answer
    (env_of c.args.self.now.frame.now) (map worth c.args.values.now) c.args.base s o)
    c.resume.result c.in_ok-note.ensures.notes c.enter-caller.ensures.enters c.enter-caller.ensures.caller
    (c.requires.calls.runs _ _ _ _ _ _ _ _ _ _ c.in_ok-call.ensures (done c.note.new.m).out
    (begins (state c.note.new.m) (state c.enter-caller.new.self) c.enter-caller.ensures.enters))
    (c.resume.ensures.runs (state c.note.new.m).store (state c.note.new.m).count)
