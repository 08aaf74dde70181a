use Rattle.std.proofs.Common.{map, drop}
use Rattle.core_tree.specs.Values.{value}
use Rattle.log_expr.proofs.ValueWalks.{TrailLeads}
use Rattle.log_expr.proofs.values.+values.Given as goal

abbrev pub invariant-walk_values-loop-e : goal.invariant-walk_values-loop-e
invariant-walk_values-loop-e g l =
    TrailLeads (g.L.Stage.site l.walk.stage.now) l.fn.table l.table (map value l.es) (map value (drop l.e-index l.es)) l.fn.trail l.trail
