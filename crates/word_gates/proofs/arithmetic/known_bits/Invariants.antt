use Rattle.std.proofs.Common.{◌≤◌}
use Rattle.word_gates.proofs.arithmetic.known_bits.Given as goal

abbrev pub invariant-bits : goal.invariant-bits
invariant-bits l = l.count ≤ l.index
