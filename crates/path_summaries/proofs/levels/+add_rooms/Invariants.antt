use Rattle.std.proofs.Common.{length}
use Rattle.path_summaries.proofs.levels.+add_rooms.Given as goal

abbrev pub decreases-add_rooms : goal.decreases-add_rooms
decreases-add_rooms l = length l.functions.now
