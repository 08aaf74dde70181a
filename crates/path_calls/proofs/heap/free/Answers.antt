use Rattle.std.proofs.Common.{◌∙◌, sym}
use Rattle.path_states.proofs.Growth.{state_grown}
use Rattle.path_calls.proofs.HeapCalls.{free_calls}
use Rattle.path_calls.proofs.heap.free.Goals as goal

pub release-requires-clause-state : goal.release-requires-clause-state
release-requires-clause-state c = state_grown c.in_ok-pointer.ensures.grows c.begin.new.state c.in_ok-arguments.ensures.state

pub returns : goal.returns
returns c =
    let begins = rw c.in_ok-now.ensures at c.in_ok-arguments.ensures in
    free_calls c.args.bank.now c.begin.new.bank c.argument.new.bank c.release.new.bank c.args.state.now c.begin.new.state c.args.site
    c.in_ok-arguments.arguments c.in_ok-pointer.pointer c.in_ok-walked.walked (sym c.is_value_missing.ensures ∙ c.if-is_value_missing.false) begins
    c.in_ok-pointer.ensures c.in_ok-walked.ensures
