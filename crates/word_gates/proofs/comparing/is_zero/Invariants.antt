use Rattle.std.proofs.Common.{take}
use Rattle.std.specs.Prelude.{nat_eq}
use Rattle.gates.specs.Nets.{IsGate}
use Rattle.word_gates.specs.Spelling.{spelled}
use Rattle.word_gates.proofs.comparing.is_zero.Given as goal

abbrev pub invariant-bits : goal.invariant-bits
invariant-bits l = IsGate l.fn.gates l.gates (λ v. nat_eq (spelled v (take l.index l.a)) 0) l.zero
