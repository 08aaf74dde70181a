use Rattle.std.proofs.Common.{rules, map}
use Rattle.c_machine.specs.Worth.{worth}
use Rattle.core_running.specs.Frames.{env_of}
use Rattle.core_running.specs.Running.{done}
use Rattle.run_callees.proofs.Printing.{call_printed}
use Rattle.run_callees.proofs.logs.LogCall.call.Goals as goal

pub returns-in_ok-print-in-Some-clause-runs : goal.returns-in_ok-print-in-Some-clause-runs
returns-in_ok-print-in-Some-clause-runs c =
    call_printed c.args.m.now.world c.args.self.now.at c.args.self.now.to c.args.self.now.pieces.now
    c.args.self.now.before c.args.self.now.types.now c.args.self.now.watched.now (env_of c.args.frame.now)
    (map worth c.args.values.now) c.args.place (done c.args.m.now) (done c.shown.new.m) (done c.meet_places.new.m)
    (done c.print.new.m) c.in_ok-shown.shown c.in-Some.args c.in_ok-args.args (search rules) (search rules)
    (search rules) (search rules) (search rules) (search rules)
