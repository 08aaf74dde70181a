use Rattle.flat_reads.proofs.ChoiceLemmas.{certain_choice}
use Rattle.flat_reads.proofs.choices.certain.Goals as goal

pub returns-clause-choice : goal.returns-clause-choice
returns-clause-choice c = λ question leads. let e = c.in_ok-condition.ensures in certain_choice c.args.bank.now c.add.new.self question c.args.found c.in_ok-condition.condition leads e.grows e.node e.sort e.value e.over
