use Rattle.std.proofs.Common.{refl}
use Rattle.c_machine.specs.States.{state}
use Rattle.run_values.proofs.States.{load_runs}
use Rattle.run_values.proofs.memory.load.Goals as goal

pub returns-clause-runs : goal.returns-clause-runs
returns-clause-runs c =
    load_runs c.args.access c.class_of-class.result c.size_of-size.result _ c.args.address c.load.result
    (state c.args.m.now) (state c.load.new.self) c.class_of-class.ensures c.size_of-size.ensures refl c.load.ensures.runs
