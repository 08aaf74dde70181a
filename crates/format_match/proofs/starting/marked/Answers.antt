use Rattle.format_match.specs.Beginning.{is_marked}
use Rattle.format_match.proofs.PlainTexts.{ends_one}
use Rattle.format_match.proofs.starting.marked.Goals as goal

pub positions-preserved : goal.positions-preserved
positions-preserved c =
    let at = c.positions.at in
    record {
      below = c.in_ok-push_where.ensures.below;
      has_are = λ y. ends_one (is_marked c.args.marks.now) at y _ _ c.is_marked.result (c.positions.invariant.has_are y) c.is_marked.ensures (c.in_ok-push_where.ensures.has y);
    }
