use Rattle.path_steps.proofs.Exiting.{exit_of_fault}
use Rattle.path_steps.proofs.Trials.{with_operand}
use Rattle.path_steps.proofs.steps.answer.Goals as goal

pub settle-requires-clause-next : goal.settle-requires-clause-next
settle-requires-clause-next c =
    rw (c.in_ok-push.ensures.ok, c.in_ok-next.ensures)
    (with_operand c.args.bank.now c.args.state.now c.args.state.now.operands c.args.tested.number c.requires.state c.requires.number)

pub settle-requires-clause-first : goal.settle-requires-clause-first
settle-requires-clause-first c = rw c.exit_of-first.ensures (exit_of_fault c.args.bank.now c.args.at c.args.tested.first c.requires.first)

pub settle-requires-clause-second : goal.settle-requires-clause-second
settle-requires-clause-second c = rw c.exit_of-second.ensures (exit_of_fault c.args.bank.now c.args.at c.args.tested.second c.requires.second)

pub returns : goal.returns
returns c = rw (c.in_ok-push.ensures.ok, c.in_ok-next.ensures, c.exit_of-first.ensures, c.exit_of-second.ensures) at c.in_ok-walked.ensures
