use Rattle.std.proofs.Common.{map}
use Rattle.c_machine.specs.States.{state}
use Rattle.c_machine.specs.Worth.{worth}
use Rattle.core_running.specs.Running.{done}
use Rattle.run_programs.proofs.Machines.{main_runs}
use Rattle.run_programs.proofs.entry.call_function.Goals as goal

pub returns : goal.returns
returns c =
    main_runs c.args.here.now (map worth c.args.values.now) c.args.base (state c.args.m.now)
    (state c.enter-outer.new.self) (done c.run_function.new.m) c.enter-outer.result c.in_ok-inner.inner
    c.append.new.self c.enter-outer.ensures.enters c.enter-outer.ensures.caller c.in_ok-run_function.ensures.runs
    c.in_ok-inner.ensures c.in_ok-append.ensures.ok
