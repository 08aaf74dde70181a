use Rattle.std.proofs.Common.{refl}
use Rattle.log_expr.specs.Tours.{tour_of}
use Rattle.path_summaries.specs.Tours.{around_in}
use Rattle.path_summaries.proofs.level.LevelCalls.call.Goals as goal

pub returns-in_ok-walked-in-Body : goal.returns-in_ok-walked-in-Body
returns-in_ok-walked-in-Body c = rw c.in-Body.is (c.in_ok-walked-in-Body.ensures c.args.frame.now)

pub returns-in_ok-walked-in_default : goal.returns-in_ok-walked-in_default
returns-in_ok-walked-in_default c =
    let l = c.args.self.now in
    let t = tour_of l.core.now l.log.now l.bounds.now l.ends.now in
    c.in_ok-walked-in_default.ensures.tries (around_in t l.left l.function.now) c.args.frame.now
    (record { heap = refl; outside = refl })
