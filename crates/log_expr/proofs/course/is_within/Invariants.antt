use Rattle.std.proofs.Common.{take}
use Rattle.log_expr.specs.Flows.{Wider}
use Rattle.log_expr.proofs.course.is_within.Given as goal

abbrev pub invariant-some : goal.invariant-some
invariant-some l = Wider (take l.position-index l.some) l.all
