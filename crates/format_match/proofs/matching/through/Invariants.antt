use Rattle.format_match.specs.Ways.{Follows}
use Rattle.format_match.proofs.matching.through.Given as goal

abbrev pub invariant-splits : goal.invariant-splits
invariant-splits l = Follows l.next l.piece l.log l.yielded l.out
