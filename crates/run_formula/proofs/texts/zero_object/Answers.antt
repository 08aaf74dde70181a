use Rattle.std.proofs.Common.{rules}
use Rattle.run_formula.proofs.Started.{ends}
use Rattle.run_formula.proofs.texts.zero_object.Goals as goal

pub zero_bytes-requires-clause-ends : goal.zero_bytes-requires-clause-ends
zero_bytes-requires-clause-ends c = rw c.start_of.ensures (ends c.args.place c.args.size c.requires.place (search rules))

pub returns : goal.returns
returns c = rw c.start_of.ensures at c.in_ok-node.ensures
