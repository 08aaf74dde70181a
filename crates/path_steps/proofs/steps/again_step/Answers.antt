use Rattle.path_steps.proofs.LeafLemmas.{stands_again}
use Rattle.path_steps.proofs.steps.again_step.Goals as goal

pub returns : goal.returns
returns c =
    λ room. rw (c.in_ok-walked.ensures, c.in_ok-push.ensures.ok)
    (stands_again room c.args.bank.now c.pop.new.bank c.args.state c.pop.new.state c.in_ok-operand.operand c.in_ok-operand.ensures)
