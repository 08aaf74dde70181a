use Rattle.std.proofs.Common.{◌-◌, ◌≤◌, length}
use Rattle.log_expr.specs.Tours.{tour_of}
use Rattle.path_summaries.specs.Levels.{FillsRows}
use Rattle.path_summaries.proofs.levels.walk_rows.Given as goal

abbrev pub invariant-starts : goal.invariant-starts
invariant-starts l =
    FillsRows (tour_of l.floor.core.now l.floor.log.now l.floor.bounds.now l.floor.ends.now) l.initial.bank l.bank l.floor.left l.start
    l.initial.table l.table l.initial.walks l.walks × (l.start ≤ length l.floor.ends.now)

abbrev pub decreases-starts : goal.decreases-starts
decreases-starts l = length l.floor.ends.now - l.start
