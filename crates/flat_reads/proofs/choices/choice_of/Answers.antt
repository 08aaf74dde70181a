use Rattle.flat_reads.proofs.choices.choice_of.Goals as goal

pub returns-clause-choice : goal.returns-clause-choice
returns-clause-choice c = c.decided.ensures c.args.question c.in_ok-choice.ensures.choice
