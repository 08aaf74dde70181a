use Rattle.std.proofs.Common.{length}
use Rattle.run_callees.proofs.arguments.+arguments.Given as goal

abbrev pub decreases-arguments : goal.decreases-arguments
decreases-arguments l = length l.pieces.now
