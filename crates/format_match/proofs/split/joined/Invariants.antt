use Rattle.std.proofs.Common.{◌≡◌, take}
use Rattle.format_match.proofs.split.joined.Given as goal

abbrev pub invariant-loop-constraint : goal.invariant-loop-constraint
invariant-loop-constraint l = l.all ≡ take l.constraint-index l.constraint-items
