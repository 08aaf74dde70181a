use Rattle.std.proofs.Common.{◌≡◌, replicate}
use Rattle.word_gates.proofs.wires.repeated.Given as goal

abbrev pub invariant-bits : goal.invariant-bits
invariant-bits l = l.word ≡ replicate l._index l.bit
