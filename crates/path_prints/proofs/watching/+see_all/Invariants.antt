use Rattle.std.proofs.Common.{length}
use Rattle.path_prints.proofs.watching.+see_all.Given as goal

abbrev pub decreases-see_all : goal.decreases-see_all
decreases-see_all l = length l.watched.now
