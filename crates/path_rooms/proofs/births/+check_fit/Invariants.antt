use Rattle.std.proofs.Common.{length}
use Rattle.path_rooms.proofs.births.+check_fit.Given as goal

abbrev pub decreases-check_fit : goal.decreases-check_fit
decreases-check_fit l = length l.objects.now
