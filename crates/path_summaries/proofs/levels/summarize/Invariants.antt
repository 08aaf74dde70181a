use Rattle.std.proofs.Common.{◌-◌, ◌≤◌}
use Rattle.log_expr.specs.Tours.{tour_of}
use Rattle.path_summaries.specs.Levels.{Levels}
use Rattle.path_summaries.proofs.levels.summarize.Given as goal

abbrev pub invariant-levels : goal.invariant-levels
invariant-levels l =
    Levels (tour_of l.core l.log l.bounds l.ends) l.initial.bank l.bank l.left l.below l.initial.walks l.walks
    × (l.left ≤ l.bounds.depth)

abbrev pub decreases-levels : goal.decreases-levels
decreases-levels l = l.bounds.depth - l.left
