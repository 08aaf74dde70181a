use Rattle.std.proofs.Common.{refl}
use Rattle.log_expr.specs.Tours.{tour_of}
use Rattle.path_summaries.proofs.Levelling.{rows_levelled}
use Rattle.path_summaries.proofs.levels.level_on.Goals as goal

pub returns : goal.returns
returns c =
    let l = c.args.floor.now in
    let t = tour_of l.core.now l.log.now l.bounds.now l.ends.now in
    let rows = rw c.new-table.ensures at c.in_ok-walk_rows.ensures in
    let rooms = rw (c.new-rooms.ensures, c.as_slice.ensures) at c.in_ok-add_rooms.ensures in
    rows_levelled t c.args.bank.now c.walk_rows.new.bank l.left c.walk_rows.new.table c.add_rooms.new.rooms l.core.now.functions
    c.args.walks.now c.walk_rows.new.walks refl rows rooms
