use Rattle.path_states.proofs.Growth.{state_grown}
use Rattle.path_steps.proofs.Exiting.{settles, exit_grown}
use Rattle.path_steps.proofs.settling.settle.Goals as goal

pub leave-requires-2-clause-state : goal.leave-requires-2-clause-state
leave-requires-2-clause-state c = state_grown c.in_ok-within.ensures.grows c.args.state.now c.requires.state

pub leave-requires-2-clause-exit : goal.leave-requires-2-clause-exit
leave-requires-2-clause-exit c = exit_grown c.in_ok-within.ensures.grows c.args.second c.requires.second

pub returns : goal.returns
returns c =
    let first = rw c.new-ended.ensures at c.in_ok-within.ensures in
    rw c.in_ok-going.ensures
    (settles c.args.bank.now c.leave.new.bank c.leave-2.new.bank c.args.state.now c.args.next c.args.first c.args.second c.in_ok-within.within
    c.in_ok-guard.guard c.leave.new.ended c.leave-2.new.ended c.requires.next first c.in_ok-guard.ensures)
