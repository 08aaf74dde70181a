use Rattle.word_gates.specs.Spelling.{IsInputWord}
use Rattle.word_gates.proofs.words.input.Given as goal

abbrev pub invariant-bits : goal.invariant-bits
invariant-bits l = IsInputWord l.fn.gates l.gates l._index l.word
