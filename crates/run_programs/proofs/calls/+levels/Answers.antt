use Rattle.std.proofs.Common.{map}
use Rattle.c_machine.specs.Worth.{worth}
use Rattle.core_running.specs.Running.{done}
use Rattle.run_programs.specs.Places.{scene_of}
use Rattle.run_programs.proofs.Levels.{goes, low_below}
use Rattle.run_programs.proofs.calls.+levels.Goals as goal

pub body_at-run_body-requires-clause-low : goal.body_at-run_body-requires-clause-low
body_at-run_body-requires-clause-low t c =
    low_below c.args.here.now.core.now c.args.here.now.world.now c.args.here.now.bounds.now c.args.here.now.left
    c.below-lower.result.left c.args.function c.args.base c.in_ok-found.found.now c.args.here.now.function.now
    (scene_of c.below-lower.result) c.below-lower.ensures.lower c.in_ok-found.ensures c.below-lower.ensures.scene
    c.requires.low

pub body_at-returns-clause-runs : goal.body_at-returns-clause-runs
body_at-returns-clause-runs t c = λ o begins.
    goes c.args.here.now.core.now c.args.here.now.world.now c.args.here.now.bounds.now c.args.here.now.left
    c.below-lower.result.left c.args.at c.args.function (map worth c.args.values.now) c.args.base
    (done c.args.m.now).store o c.in_ok-found.found.now (done c.run_body.new.m) (scene_of c.below-lower.result)
    c.below-lower.ensures.lower c.in_ok-found.ensures c.below-lower.ensures.scene
    (c.in_ok-run_body.ensures.runs o begins)
