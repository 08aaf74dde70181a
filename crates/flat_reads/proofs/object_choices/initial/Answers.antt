use Rattle.term_bank.proofs.BankLemmas.{grows_on}
use Rattle.flat_reads.specs.Objects.{asked_of}
use Rattle.flat_reads.proofs.ObjectLemmas.{leads_none}
use Rattle.flat_reads.proofs.object_choices.initial.Goals as goal

pub returns-clause-choice : goal.returns-clause-choice
returns-clause-choice c =
    let e = c.in_ok-none.ensures in
    c.certain.ensures.choice (asked_of c.args.memory c.args.question)
    (leads_none c.args.bank.now c.told_of_none.new.bank c.args.memory c.args.question c.in_ok-none.none e.grows c.requires.memory e.node e.flat e.value)

pub returns-clause-grows : goal.returns-clause-grows
returns-clause-grows c = grows_on c.in_ok-none.ensures.grows c.certain.ensures.grows
