use Rattle.std.proofs.Common.{refl}
use Rattle.c_machine.specs.States.{state}
use Rattle.c_machine.specs.Worth.{worth}
use Rattle.run_values.proofs.States.{put_runs}
use Rattle.run_values.proofs.memory.put.Goals as goal

pub returns-clause-runs : goal.returns-clause-runs
returns-clause-runs c =
    put_runs c.args.access c.args.at c.class_of-class.result c.size_of-size.result _ c.args.address (worth c.args.value)
    c.put.result (state c.args.m.now) (state c.put.new.self) c.class_of-class.ensures c.size_of-size.ensures refl
    c.put.ensures.runs
