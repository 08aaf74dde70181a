use Rattle.std.proofs.Common.{◌≡◌, drop}
use Rattle.c_types.specs.Causes.{first_cause}
use Rattle.c_types.proofs.constants.first_cause.Given as goal

abbrev pub invariant-loop-fault : goal.invariant-loop-fault
invariant-loop-fault l = first_cause (drop l.fault-index l.faults) ≡ first_cause l.faults
