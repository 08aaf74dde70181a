use Rattle.std.proofs.Common.{arith}
use Rattle.format_match.proofs.MetEnds.{Adds-nothing}
use Rattle.format_match.proofs.StarLaws.{right_past}
use Rattle.format_match.proofs.stars.push_right_width.Goals as goal

pub returns-then-slice-gt-MOST : goal.returns-then-slice-gt-MOST
returns-then-slice-gt-MOST c = Adds-nothing _ _ (right_past c.args.c.now c.args.slice.now c.args.end (omega arith))
