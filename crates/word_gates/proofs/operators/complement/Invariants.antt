use Rattle.std.proofs.Common.{◌≡◌, map, take}
use Rattle.gates.specs.Nets.{opposite}
use Rattle.word_gates.proofs.operators.complement.Given as goal

abbrev pub invariant-bits : goal.invariant-bits
invariant-bits l = l.word ≡ map opposite (take l.index l.a)
