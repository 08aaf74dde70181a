use Rattle.std.proofs.Common.{refl, ◌∙◌}
use Rattle.c_checks.proofs.Least.{least_from, all_faults}
use Rattle.c_checks.proofs.Loops.{ends}
use Rattle.c_checks.proofs.order.least_fault.Goals as goal

pub returns : goal.returns
returns c =
    ends (least_from c.loop-fault.least) c.args.faults.now c.loop-fault.fault-index refl c.loop-fault-test.false
    c.loop-fault.invariant
    ∙ all_faults c.args.faults.now
