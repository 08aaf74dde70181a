use Rattle.std.proofs.Common.{◌≡◌, ◌+◌, true, subst, sym, arith}
use Rattle.positions.specs.Sets.{are_before}
use Rattle.positions.proofs.Order.{before_more}
use Rattle.format_match.proofs.PlainTexts.{before_up}
use Rattle.format_match.proofs.ending.push_where.Goals as goal

pub returns-in_ok-push-clause-below : goal.returns-in_ok-push-clause-below
returns-in_ok-push-clause-below c =
    subst (λ l. are_before (c.args.at + 1) l ≡ true) (sym c.in_ok-push.ensures)
    (before_more c.args.ends.now c.args.at (c.args.at + 1) (before_up c.args.ends.now c.args.at c.requires) (omega arith))

pub returns-else-wanted-clause-below : goal.returns-else-wanted-clause-below
returns-else-wanted-clause-below c = before_up c.args.ends.now c.args.at c.requires
