use Rattle.std.proofs.Common.{length}
use Rattle.path_values.proofs.below.Below.+arguments.Given as goal

abbrev pub decreases-arguments : goal.decreases-arguments
decreases-arguments g l = length l.items.now
