use Rattle.std.proofs.Common.{length}
use Rattle.path_prints.proofs.arguments.+speak.Given as goal

abbrev pub decreases-speak : goal.decreases-speak
decreases-speak l = length l.types.now
