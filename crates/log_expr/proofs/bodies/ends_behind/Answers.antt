use Rattle.std.proofs.Common.{sym, subst}
use Rattle.log_expr.specs.Bodies.{IsEndOf}
use Rattle.log_expr.proofs.BodyEnds.{ends_put}
use Rattle.log_expr.proofs.bodies.ends_behind.Goals as goal

pub returns : goal.returns
returns c = subst (IsEndOf c.args.at) (sym c.into_ends.ensures)
    (ends_put c.args.at c.put_all.new.self c.put_all-2.new.self c.put_all-3.new.self c.put_all-4.new.self c.put_all-5.new.self
    c.in_ok-put_all.ensures c.in_ok-put_all-2.ensures c.in_ok-put_all-3.ensures c.in_ok-put_all-4.ensures c.in_ok-put_all-5.ensures)
