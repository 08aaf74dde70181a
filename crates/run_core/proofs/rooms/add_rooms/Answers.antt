use Rattle.run_core.proofs.Tables.{longer, holds_more}
use Rattle.run_core.proofs.rooms.add_rooms.Goals as goal

pub returns-clause-levels : goal.returns-clause-levels
returns-clause-levels c =
    longer c.args.left c.args.rooms.now c.push.new.self c.args.row.now c.requires.levels c.in_ok-push.ensures.ok

pub returns-clause-holds : goal.returns-clause-holds
returns-clause-holds c =
    holds_more c.args.core.now c.args.world.now c.args.bounds.now c.args.left c.args.rooms.now c.push.new.self
    c.args.row.now c.requires.levels c.requires.holds c.requires.row c.in_ok-push.ensures.ok
