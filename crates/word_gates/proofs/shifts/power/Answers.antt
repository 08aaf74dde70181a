use Rattle.std.proofs.Common.{arith}
use Rattle.std.proofs.lemmas.Nat.{one_shl}
use Rattle.word_gates.proofs.shifts.power.Goals as goal

pub returns : goal.returns
returns c = one_shl c.args.stage 64 (omega arith)
