use Rattle.std.proofs.Common.{take}
use Rattle.log_expr.specs.Below.{Extends}
use Rattle.log_expr.specs.Flows.{Wider}
use Rattle.log_expr.specs.Logs.{CallsEnd}
use Rattle.log_expr.specs.Tables.{known_at}
use Rattle.log_expr.proofs.callees.body_ends.Given as goal

abbrev pub invariant-starts : goal.invariant-starts
invariant-starts g l = record {
  extends_ : Extends (g.L.Stage.site l.walk.stage.now).whole l.fn.table l.table;
  wider : Wider l.fn.ended l.ended;
  calls : CallsEnd (known_at l.table (g.L.Stage.site l.walk.stage.now).left) l.function (take l.start-index l.from) l.to l.ended;
}
