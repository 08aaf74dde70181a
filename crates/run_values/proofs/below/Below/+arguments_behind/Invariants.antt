use Rattle.std.proofs.Common.{length}
use Rattle.run_values.proofs.below.Below.+arguments_behind.Given as goal

abbrev pub decreases-arguments_behind : goal.decreases-arguments_behind
decreases-arguments_behind g l = length l.items.now
