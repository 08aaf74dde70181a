use Rattle.std.proofs.Common.{◌<◌}
use Rattle.format_match.proofs.Markings.{AreBelow}
use Rattle.format_match.proofs.marking.all_marks.Given as goal

abbrev pub invariant-positions : goal.invariant-positions
invariant-positions l = AreBelow (λ y. y < l.len) l._position l.marks.items
