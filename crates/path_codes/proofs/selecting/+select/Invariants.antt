use Rattle.std.proofs.Common.{length}
use Rattle.path_codes.proofs.selecting.+select.Given as goal

abbrev pub decreases-select : goal.decreases-select
decreases-select l = length l.cases.now
