use Rattle.log_expr.specs.Tours.{tour_of}
use Rattle.path_summaries.proofs.Levelling.{key_put}
use Rattle.path_summaries.proofs.levels.walk_key.Goals as goal

pub returns-in_ok-put-in-Some : goal.returns-in_ok-put-in-Some
returns-in_ok-put-in-Some c =
    let l = c.args.floor.now in
    let t = tour_of l.core.now l.log.now l.bounds.now l.ends.now in
    let walks = c.in_ok-summary-in-Some.ensures in
    key_put t c.args.bank.now c.walk.new.bank l.left c.args.function c.args.start c.in_ok-summary-in-Some.summary c.args.table.now
    c.put.new.self c.args.walks.now c.walk.new.walks walks.grows walks.stands
    (λ stand. c.in_ok-put-in-Some.ensures t c.walk.new.bank stand walks.stands) walks.counted
