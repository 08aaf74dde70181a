use Rattle.std.proofs.Common.{◌-◌, ◌+◌, List, length}
use Rattle.term_bank.specs.declared.shape.Shape.{Shape}
use Rattle.log_expr.specs.Tours.{Tour}
use Rattle.path_summaries.specs.Tables.{AllStand}
use Rattle.path_summaries.proofs.table.Summaries.reach.Given as goal

abbrev pub invariant-rows : goal.invariant-rows
invariant-rows l = (t : Tour) (b : List Shape) → AllStand t b 0 l.initial.self-inside.rows.items → AllStand t b 0 l.self-inside.rows.items

abbrev pub decreases-rows : goal.decreases-rows
decreases-rows l = (l.start + 1) - length l.self-inside.rows.items
