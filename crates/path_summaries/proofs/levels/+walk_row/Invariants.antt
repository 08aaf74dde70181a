use Rattle.std.proofs.Common.{length}
use Rattle.path_summaries.proofs.levels.+walk_row.Given as goal

abbrev pub decreases-walk_row : goal.decreases-walk_row
decreases-walk_row l = length l.entries.now
