use Rattle.std.proofs.Common.{◌≡◌, ◌++◌, map}
use Rattle.format_match.specs.Ways.{followed}
use Rattle.format_match.proofs.matching.push_followed.Given as goal

abbrev pub invariant-splits : goal.invariant-splits
invariant-splits l = l.out ≡ l.fn.out ++ map (followed l.before) l.yielded
