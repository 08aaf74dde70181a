use Rattle.std.proofs.Common.{arith}
use Rattle.format_match.proofs.MetEnds.{Adds-nothing}
use Rattle.format_match.proofs.StarLaws.{left_past}
use Rattle.format_match.proofs.stars.push_left_width.Goals as goal

pub returns-then-slice : goal.returns-then-slice
returns-then-slice c = Adds-nothing _ _ (left_past c.args.c.now c.args.slice.now c.args.end (omega arith))
