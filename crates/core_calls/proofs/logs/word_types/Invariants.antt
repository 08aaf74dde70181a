use Rattle.std.proofs.Common.{◌≡◌, ◌++◌, drop}
use Rattle.elaborate.specs.Callees as callees
use Rattle.core_calls.proofs.logs.word_types.Given as goal

abbrev pub invariant-loop-ctype : goal.invariant-loop-ctype
invariant-loop-ctype l =
    l.all ++ callees.word_types (drop l.ctype-index l.ctypes) ≡ callees.word_types l.fn.ctypes
