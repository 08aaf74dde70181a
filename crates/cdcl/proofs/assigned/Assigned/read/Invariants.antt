use Rattle.std.proofs.Common.{take}
use Rattle.cdcl.specs.Known.{known}
use Rattle.cdcl.proofs.Readings.{SoFar}
use Rattle.cdcl.proofs.assigned.Assigned.read.Given as goal

abbrev pub invariant-loop-literal : goal.invariant-loop-literal
invariant-loop-literal l = SoFar (known l.self.taken.items) (take l.literal-index l.clause) l.candidate
