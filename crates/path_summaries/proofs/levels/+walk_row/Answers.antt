use Rattle.std.proofs.Common.{rules}
use Rattle.log_expr.specs.Tours.{tour_of}
use Rattle.path_summaries.proofs.Levelling.{row_more, based_on}
use Rattle.path_summaries.proofs.levels.+walk_row.Goals as goal

pub walk_row-requires : goal.walk_row-requires
walk_row-requires t c =
    let l = c.args.floor.now in (
      search rules,
      based_on (tour_of l.core.now l.log.now l.bounds.now l.ends.now) c.args.bank.now c.walk_entry.new.bank l.left l.table.now l.rooms.now
          c.in_ok-walk_entry-in-Some.ensures.fills.grows c.requires,
    )

pub returns-in_ok-walk_row-in-Some : goal.returns-in_ok-walk_row-in-Some
returns-in_ok-walk_row-in-Some t c =
    let l = c.args.floor.now in
    row_more (tour_of l.core.now l.log.now l.bounds.now l.ends.now) c.args.bank.now c.walk_entry.new.bank c.walk_row.new.bank l.left
    c.args.start c.in-Some.entry.now c.in-Some.rest.now c.args.entries.now c.args.table.now c.walk_entry.new.table c.walk_row.new.table
    c.args.walks.now c.walk_entry.new.walks c.walk_row.new.walks
    c.in-Some.ensures.cases.0 c.in_ok-walk_entry-in-Some.ensures c.in_ok-walk_row-in-Some.ensures
