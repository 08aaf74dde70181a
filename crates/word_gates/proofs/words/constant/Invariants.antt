use Rattle.word_gates.specs.Spelling.{IsWord}
use Rattle.std.proofs.Common.{◌%◌, ◌^◌}
use Rattle.word_gates.proofs.words.constant.Given as goal

abbrev pub invariant-bits : goal.invariant-bits
invariant-bits l = IsWord l.gates l.gates l.index (λ v. l.value % 2 ^ l.index) l.word
