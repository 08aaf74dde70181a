use Rattle.path_states.proofs.Growth.{state_grown}
use Rattle.path_codes.proofs.Cases.{selects_popped}
use Rattle.path_codes.proofs.selecting.select_one.Goals as goal

pub select-requires-clause-state : goal.select-requires-clause-state
select-requires-clause-state c = state_grown c.in_ok-number.ensures.grows _ c.in_ok-operand.ensures.state

pub select-requires-clause-all : goal.select-requires-clause-all
select-requires-clause-all c = rw c.new-all.ensures tt

pub returns : goal.returns
returns c =
    let selected = rw c.new-all.ensures at c.in_ok-select.ensures in
    selects_popped c.args.bank.now _ _ _ c.args.at c.args.word c.args.cases.now c.args.state _ _ _ _ c.in_ok-operand.ensures c.in_ok-number.ensures selected
