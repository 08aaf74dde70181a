use Rattle.std.proofs.Common.{map, subst}
use Rattle.c_machine.specs.Worth.{worth}
use Rattle.core_running.specs.Frames.{env_of}
use Rattle.core_running.specs.Running.{done, RunsTo}
use Rattle.core_running.specs.Settings.{level}
use Rattle.run_values.specs.declared.calling.Passed.{Passed}
use Rattle.run_values.specs.Arguments.{values_of}
use Rattle.run_values.proofs.Calls.{arguments_from}
use Rattle.run_values.proofs.below.Below.arguments.Goals as goal

pub returns-clause-runs : goal.returns-clause-runs
returns-clause-runs g c =
    subst (λ o. RunsTo {A = Passed} (λ x. map worth x.values) c.arguments_behind.result (done c.arguments_behind.new.m) o)
    (arguments_from c.new.result (values_of c.args.items.now) (level (g.L.Scene.setting c.args.self.now.scene.now))
    (env_of c.args.self.now.frame.now) c.args.base (done c.args.m.now) c.new.ensures) c.arguments_behind.ensures.runs
