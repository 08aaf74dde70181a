use Rattle.std.proofs.Common.{◌+◌, ◌*◌}
use Rattle.log_expr.proofs.end_tables.+tables.Given as goal

abbrev pub decreases-ends_below : goal.decreases-ends_below
decreases-ends_below l = 2 * l.here.now.left

abbrev pub decreases-call_ends : goal.decreases-call_ends
decreases-call_ends l = 2 * l.here.now.left + 1
