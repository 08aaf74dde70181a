use Rattle.std.proofs.Common.{length}
use Rattle.run_starts.proofs.objects.+make_all.Given as goal

abbrev pub decreases-make_all : goal.decreases-make_all
decreases-make_all l = length l.objects.now
