use Rattle.std.proofs.Common.{◌≡◌, take, reverse}
use Rattle.c_scope.proofs.levels.Levels.copy.Given as goal

abbrev pub invariant-loop-level : goal.invariant-loop-level
invariant-loop-level l = l.levels ≡ reverse (take l.level-index l.level-items)
