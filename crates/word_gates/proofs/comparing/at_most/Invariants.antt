use Rattle.std.proofs.Common.{take}
use Rattle.std.specs.Prelude.{nat_le}
use Rattle.gates.specs.Nets.{IsGate}
use Rattle.word_gates.specs.Spelling.{spelled}
use Rattle.word_gates.proofs.comparing.at_most.Given as goal

abbrev pub invariant-bits : goal.invariant-bits
invariant-bits l = IsGate l.fn.gates l.gates (λ v. nat_le (spelled v (take l.index l.a)) (spelled v (take l.index l.b))) l.carried
