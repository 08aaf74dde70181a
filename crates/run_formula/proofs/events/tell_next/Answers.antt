use Rattle.std.proofs.Common.{sym}
use Rattle.run_formula.proofs.Asked.{all_more}
use Rattle.run_formula.proofs.events.tell_next.Goals as goal

pub returns-in-Some : goal.returns-in-Some
returns-in-Some c =
    all_more c.args.log.now c.args.question.now c.args.bank.now _ c.args.told.now _ c.args.number c.in-Some.shape c.in_ok-node.node c.requires
    (sym c.in-Some.ensures.shape) c.in_ok-node.ensures c.in_ok-set_image.ensures
