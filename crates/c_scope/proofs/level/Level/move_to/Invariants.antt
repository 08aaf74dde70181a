use Rattle.std.proofs.Common.{◌≡◌, ◌++◌, take, reverse}
use Rattle.c_scope.proofs.level.Level.move_to.Given as goal

abbrev pub invariant-loop-declared : goal.invariant-loop-declared
invariant-loop-declared l = l.file ≡ reverse (take l.declared-index l.declared-items) ++ l.fn.file
