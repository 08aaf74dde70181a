use Rattle.std.proofs.Common.{◌+◌, ◌*◌}
use Rattle.run_programs.proofs.calls.+levels.Given as goal

abbrev pub decreases-value_at : goal.decreases-value_at
decreases-value_at l = 3 * l.here.now.left + 2

abbrev pub decreases-call_at : goal.decreases-call_at
decreases-call_at l = 3 * l.here.now.left + 1

abbrev pub decreases-body_at : goal.decreases-body_at
decreases-body_at l = 3 * l.here.now.left
