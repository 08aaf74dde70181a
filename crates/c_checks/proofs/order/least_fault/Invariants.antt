use Rattle.std.proofs.Common.{◌≡◌, None, drop}
use Rattle.c_checks.proofs.Least.{least_from}
use Rattle.c_checks.proofs.order.least_fault.Given as goal

abbrev pub invariant-loop-fault : goal.invariant-loop-fault
invariant-loop-fault l = least_from l.least (drop l.fault-index l.faults) ≡ least_from None l.faults
