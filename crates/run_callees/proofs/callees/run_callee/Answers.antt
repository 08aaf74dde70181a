use Rattle.std.proofs.Common.{map}
use Rattle.c_machine.specs.Worth.{worth}
use Rattle.core_running.specs.Frames.{env_of}
use Rattle.core_running.specs.Running.{done}
use Rattle.run_callees.proofs.Levels.{logged}
use Rattle.run_callees.proofs.callees.run_callee.Goals as goal

pub returns-in_ok-call_body-in-Body-clause-runs : goal.returns-in_ok-call_body-in-Body-clause-runs
returns-in_ok-call_body-in-Body-clause-runs g c = λ o begins. rw c.in-Body.is (c.in_ok-call_body-in-Body.ensures.runs o begins)

pub returns-in_ok-call-in-Log-clause-runs : goal.returns-in_ok-call-in-Log-clause-runs
returns-in_ok-call-in-Log-clause-runs g c = λ o begins.
    logged (g.L.Scene.setting c.args.here.now) c.args.m.now.world c.args.callee.now c.args.at c.args.to
    (env_of c.args.frame.now) (map worth c.args.values.now) c.args.place (done c.args.m.now).store o (done c.args.m.now)
    (done c.call.new.m) c.in-Log.pieces c.in-Log.before c.in-Log.types c.as_slice.result.now c.in-Log.watched
    c.as_slice-in-Log.result.now c.requires.world c.in-Log.is c.as_slice.ensures c.as_slice-in-Log.ensures begins
    c.in_ok-call-in-Log.ensures.runs
