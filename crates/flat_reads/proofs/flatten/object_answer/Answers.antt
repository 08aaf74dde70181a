use Rattle.flat_reads.proofs.ObjectLemmas.{object_answered, object_askable, stands_over}
use Rattle.flat_reads.proofs.flatten.object_answer.Goals as goal

pub asked_object-asked-requires-clause-memory : goal.asked_object-asked-requires-clause-memory
asked_object-asked-requires-clause-memory c = (stands_over c.args.bank.now c.args.memory c.args.question c.requires.well).0

pub asked_object-asked-requires-clause-operands : goal.asked_object-asked-requires-clause-operands
asked_object-asked-requires-clause-operands c = (stands_over c.args.bank.now c.args.memory c.args.question c.requires.well).1

pub answer-requires-clause-askable : goal.answer-requires-clause-askable
answer-requires-clause-askable c = object_askable c.args.bank.now c.args.memory c.args.question c.asked_object-asked.result c.asked_object-asked.ensures (stands_over c.args.bank.now c.args.memory c.args.question c.requires.well).1

pub returns-clause-node : goal.returns-clause-node
returns-clause-node c = object_answered c.args.bank.now c.answer.new.bank c.args.memory c.args.question c.asked_object-asked.result c.answer.result c.answer.ensures.grows c.asked_object-asked.ensures c.answer.ensures.node
