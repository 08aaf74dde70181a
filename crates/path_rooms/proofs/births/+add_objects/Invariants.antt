use Rattle.std.proofs.Common.{length}
use Rattle.path_rooms.proofs.births.+add_objects.Given as goal

abbrev pub decreases-add_objects : goal.decreases-add_objects
decreases-add_objects g l = length l.items.now
