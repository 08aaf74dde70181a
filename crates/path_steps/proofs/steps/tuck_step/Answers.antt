use Rattle.path_steps.proofs.LeafLemmas.{stands_tucked}
use Rattle.path_steps.proofs.steps.tuck_step.Goals as goal

pub returns : goal.returns
returns c =
    λ room. rw (c.in_ok-walked.ensures, c.in_ok-push-2.ensures.ok, c.in_ok-push.ensures.ok)
    (stands_tucked room c.args.bank.now c.pop.new.bank c.pop-2.new.bank c.args.state c.pop.new.state c.pop-2.new.state
    c.in_ok-first.first c.in_ok-second.second c.in_ok-first.ensures c.in_ok-second.ensures)
