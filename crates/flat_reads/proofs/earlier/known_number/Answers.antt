use Rattle.flat_reads.proofs.ObjectLemmas.{numbered_kind, numbered_size}
use Rattle.flat_reads.proofs.earlier.known_number.Goals as goal

pub returns-in-Kind : goal.returns-in-Kind
returns-in-Kind c = numbered_kind c.args.bank.now c.args.question _ c.in-Kind.object c.constant-in-Kind.result c.in-Kind.is c.constant-in-Kind.ensures

pub returns-in-Size : goal.returns-in-Size
returns-in-Size c = numbered_size c.args.bank.now c.args.question c.in-Size.object c.constant-in-Size.result c.in-Size.is c.constant-in-Size.ensures
