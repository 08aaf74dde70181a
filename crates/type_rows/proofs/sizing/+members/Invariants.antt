use Rattle.std.proofs.Common.{◌+◌, ◌*◌}
use Rattle.type_rows.proofs.sizing.+members.Given as goal

abbrev pub decreases-put_inner : goal.decreases-put_inner
decreases-put_inner l = 2 * l.depth + 1

abbrev pub decreases-put_members : goal.decreases-put_members
decreases-put_members l = 2 * l.depth
