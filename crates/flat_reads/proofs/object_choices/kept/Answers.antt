use Rattle.flat_reads.specs.Objects.{asked_of}
use Rattle.flat_reads.proofs.ObjectLemmas.{leads_kept}
use Rattle.flat_reads.proofs.object_choices.kept.Goals as goal

pub asked_object-asked-requires-clause-memory : goal.asked_object-asked-requires-clause-memory
asked_object-asked-requires-clause-memory c = c.requires.old.stands

pub returns-clause-choice : goal.returns-clause-choice
returns-clause-choice c = c.certain.ensures.choice (asked_of c.args.memory c.args.question)
    (leads_kept c.args.bank.now c.args.memory c.args.old c.args.question c.asked_object-asked.result c.requires.old c.asked_object-asked.ensures c.requires.operands)
