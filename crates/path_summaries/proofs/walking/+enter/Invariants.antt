use Rattle.std.proofs.Common.{length}
use Rattle.path_summaries.proofs.walking.+enter.Given as goal

abbrev pub decreases-enter : goal.decreases-enter
decreases-enter l = length l.parameters.now
