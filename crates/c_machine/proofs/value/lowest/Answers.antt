use Rattle.std.proofs.Common.{arith}
use Rattle.c_machine.proofs.Spelling.{bytes_small}
use Rattle.c_machine.proofs.value.lowest.Goals as goal

pub returns-clause-below : goal.returns-clause-below
returns-clause-below c = bytes_small c.args.bytes.now (λ i. omega (arith, c.type_inv.bytes i))
