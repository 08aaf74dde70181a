use Rattle.std.proofs.Common.{take}
use Rattle.word_gates.specs.Spelling.{HasTruths, each_two, truths}
use Rattle.word_gates.proofs.operators.bitwise.Given as goal

abbrev pub invariant-bits : goal.invariant-bits
invariant-bits l = HasTruths l.fn.gates l.gates l.index (λ v. each_two l.operator (truths v (take l.index l.a)) (truths v (take l.index l.b))) l.word
