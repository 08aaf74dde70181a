use Rattle.log_expr.proofs.FlowWays.{body_ended}
use Rattle.log_expr.proofs.course.Course.end_body.Goals as goal

pub returns : goal.returns
returns c =
    body_ended c.args.self.now c.pass_continue.new.self c.take_running-running.new.self c.pass_break.new.self c.join.new.self c.at.result c.take_running-running.result
    c.in_ok-pass_continue.ensures c.take_running-running.ensures.taken c.take_running-running.ensures.left c.in_ok-pass_break.ensures c.in_ok-join.ensures.old c.in_ok-join.ensures.more
    c.at.ensures.running c.at.ensures.breaking c.at.ensures.continuing c.at.ensures.returning c.at.ensures.going c.at.ensures.choosing c.at.ensures.ended
