use Rattle.std.proofs.Common.{cond, take}
use Rattle.gates.specs.Nets.{bit_holds}
use Rattle.word_gates.specs.Spelling.{HasTruths, truths}
use Rattle.word_gates.proofs.operators.choose.Given as goal

abbrev pub invariant-bits : goal.invariant-bits
invariant-bits l = HasTruths l.fn.gates l.gates l.index (λ v. cond (bit_holds v l.condition) (truths v (take l.index l.a)) (truths v (take l.index l.b))) l.word
