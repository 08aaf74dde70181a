use Rattle.path_steps.proofs.LeafLemmas.{dropped}
use Rattle.path_steps.proofs.steps.drop_step.Goals as goal

pub returns : goal.returns
returns c =
    λ room. rw (c.in_ok-push.ensures.ok, c.settled-walked.ensures)
    (dropped room c.args.bank.now c.pop.new.bank c.args.state c.pop.new.state c.in_ok-operand.operand c.in_ok-operand.ensures)
