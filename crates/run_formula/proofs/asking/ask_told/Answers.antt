use Rattle.std.proofs.Common.{take}
use Rattle.std.proofs.lemmas.List.{take_all}
use Rattle.term_bank.proofs.BankLemmas.{grows_on}
use Rattle.term_bank.proofs.TermLemmas.{term_grown}
use Rattle.path_states.proofs.Growth.{state_grown}
use Rattle.path_states.proofs.Paths.{item_of, more_of}
use Rattle.run_formula.proofs.Asked.{states_none, states_more, all_grown}
use Rattle.run_formula.proofs.asking.ask_told.Goals as goal

pub loop-state-init : goal.loop-state-init
loop-state-init c = states_none _ _ c.args.log.now c.args.question c.in_ok-any.any c.in_ok-any.ensures

pub says-requires : goal.says-requires
says-requires c =
    record { told = all_grown c.args.log.now c.args.question c.args.bank.now c.loop-state.bank c.args.told.now c.loop-state.invariant.grows c.requires.told }

pub connect-requires-clause-left : goal.connect-requires-clause-left
connect-requires-clause-left c =
    let item = item_of _ c.loop-state.state-index c.args.states.now c.state-item.result c.requires.states c.loop-state-test.true c.state-item.is in
    let here = state_grown (grows_on c.loop-state.invariant.grows c.in_ok-said.ensures.grows) c.state-item.result item in
    here.guard

pub connect-requires-in-loop-state-clause-left : goal.connect-requires-in-loop-state-clause-left
connect-requires-in-loop-state-clause-left c =
    term_grown _ _ _ c.loop-state.any (grows_on c.in_ok-said.ensures.grows c.in_ok-here.ensures.grows) c.loop-state.invariant.term

pub loop-state-preserved : goal.loop-state-preserved
loop-state-preserved c =
    let i = c.loop-state.state-index in
    rw (more_of c.args.states.now i c.state-item.result c.loop-state-test.true c.state-item.is)
    (states_more _ _ _ _ _ c.args.log.now c.args.question (take i c.args.states.now) c.state-item.result c.loop-state.any c.in_ok-said.said
    c.in_ok-here.here c.in_ok-any-2.any c.loop-state.invariant c.in_ok-said.ensures c.in_ok-here.ensures c.in_ok-any-2.ensures)

pub returns : goal.returns
returns c = rw (take_all c.loop-state.state-index c.args.states.now c.loop-state-test.false) at c.loop-state.invariant
