use Rattle.log_expr.specs.Tours.{tour_of}
use Rattle.path_summaries.proofs.Answering.{room_found, room_missing, room_where_none}
use Rattle.path_summaries.proofs.level.room_below.Goals as goal

pub returns-then-level-eq0 : goal.returns-then-level-eq0
returns-then-level-eq0 c =
    let l = c.args.level.now in
    room_where_none (tour_of l.core.now l.log.now l.bounds.now l.ends.now) l.left c.args.function l.function.now c.if-level-eq0.true

pub returns-then-function-len : goal.returns-then-function-len
returns-then-function-len c =
    let l = c.args.level.now in
    room_missing (tour_of l.core.now l.log.now l.bounds.now l.ends.now) l.left c.args.function l.function.now
    (rw c.len.ensures at c.if-function-len.true)

pub returns : goal.returns
returns c =
    let l = c.args.level.now in
    room_found (tour_of l.core.now l.log.now l.bounds.now l.ends.now) l.left c.args.function c.in_ok-room.room l.function.now l.rooms.now
    l.rooms_hold c.if-level-eq0.false (rw c.len.ensures at c.if-function-len.false) c.in_ok-room.ensures
