use Rattle.std.proofs.Common.{◌++◌, reverse, take}
use Rattle.c_grammar.specs.Parts.{Frame}
use Rattle.c_scope.specs.Known.{Knows}
use Rattle.c_scope.proofs.known.Known.note_all.Given as goal

abbrev pub invariant-loop-declared : goal.invariant-loop-declared
invariant-loop-declared l =
    (outer : Frame) → Knows l.fn.self outer → Knows l.self (reverse (take l.declared-index l.names) ++ outer)
