use Rattle.std.proofs.Common.{length}
use Rattle.c_declares.proofs.types.+lacks_elements.Given as goal

abbrev pub decreases-lacks_elements : goal.decreases-lacks_elements
decreases-lacks_elements l = length l.derivations.now
