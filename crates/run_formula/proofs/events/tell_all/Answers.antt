use Rattle.run_formula.proofs.Asked.{all_none}
use Rattle.run_formula.proofs.events.tell_all.Goals as goal

pub loop-number-init : goal.loop-number-init
loop-number-init c = all_none c.args.log.now c.args.question.now c.args.bank.now c.new-told.result c.new-told.ensures.empty
