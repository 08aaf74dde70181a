use Rattle.std.proofs.Common.{◌≡◌, take}
use Rattle.cnf_core.specs.Truth.{value_of}
use Rattle.word_gates.specs.Spelling.{spelled}
use Rattle.bitvectors.proofs.decoding.number_of.Given as goal

abbrev pub invariant-bits : goal.invariant-bits
invariant-bits l = l.number ≡ spelled (value_of l.values) (take l.index l.word)
