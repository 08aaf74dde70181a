use Rattle.std.proofs.Common.{◌≡◌, ◌≤◌, length, subst, arith}
use Rattle.log_expr.specs.Tours.{tour_of}
use Rattle.path_summaries.specs.Levels.{FillsRows}
use Rattle.path_summaries.proofs.Levelling.{rows_more, based_on}
use Rattle.path_summaries.proofs.levels.walk_rows.Goals as goal

pub walk_row-requires : goal.walk_row-requires
walk_row-requires c =
    let l = c.args.floor.now in
    let t = tour_of l.core.now l.log.now l.bounds.now l.ends.now in
    based_on t c.args.bank.now c.starts.bank l.left l.table.now l.rooms.now c.starts.invariant.0.fills.grows c.requires

pub starts-preserved : goal.starts-preserved
starts-preserved c =
    let l = c.args.floor.now in
    let t = tour_of l.core.now l.log.now l.bounds.now l.ends.now in (
      rows_more t c.args.bank.now c.starts.bank c.walk_row.new.bank l.left c.starts.start _ c.row.result.now c.args.table.now c.starts.table
          c.walk_row.new.table c.args.walks.now c.starts.walks c.walk_row.new.walks c.row.ensures (omega arith) c.starts.invariant.0
          c.in_ok-walk_row.ensures,
      omega (arith, c.starts-test.true),
    )

pub returns : goal.returns
returns c =
    let l = c.args.floor.now in
    let t = tour_of l.core.now l.log.now l.bounds.now l.ends.now in
    let all : c.starts.start ≡ length l.ends.now = omega (arith, c.starts.invariant.1, c.starts-test.false) in
    subst (λ i. FillsRows t c.args.bank.now c.starts.bank l.left i c.args.table.now c.starts.table c.args.walks.now c.starts.walks) all
    c.starts.invariant.0
