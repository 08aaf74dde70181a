use Rattle.std.proofs.Common.{length}
use Rattle.c_declares.proofs.types.+mismatched.Given as goal

abbrev pub decreases-mismatched : goal.decreases-mismatched
decreases-mismatched l = length l.derivations.now
