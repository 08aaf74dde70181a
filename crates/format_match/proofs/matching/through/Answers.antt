use Rattle.format_match.proofs.Following.{Follows-more}
use Rattle.format_match.proofs.matching.through.Goals as goal

pub splits-preserved : goal.splits-preserved
splits-preserved c = Follows-more c.args.next.now c.args.piece.now c.args.log.now c.splits.yielded c.in-Some.split _ _ c.splits.invariant c.in_ok-push_piece.ensures
