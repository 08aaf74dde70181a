use Rattle.path_calls.proofs.CallTrials.{exit_calls}
use Rattle.path_calls.proofs.callees.exit.Goals as goal

pub returns : goal.returns
returns c =
    let begins = rw c.in_ok-now.ensures at c.in_ok-arguments.ensures in
    exit_calls c.args.bank.now c.begin.new.bank c.argument.new.bank c.args.state.now c.begin.new.state c.args.site
    c.in_ok-arguments.arguments c.in_ok-status.status c.in_ok-walked.walked begins c.in_ok-status.ensures c.in_ok-walked.ensures
