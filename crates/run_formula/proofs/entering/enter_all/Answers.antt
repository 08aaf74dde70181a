use Rattle.std.proofs.Common.{take}
use Rattle.std.proofs.lemmas.List.{take_all}
use Rattle.c_means.specs.Units.{limits_of}
use Rattle.path_states.proofs.Growth.{state_grown, states_grown}
use Rattle.path_states.proofs.Paths.{item_of, more_of}
use Rattle.run_formula.proofs.Entered.{enters_none, enters_more}
use Rattle.run_formula.proofs.entering.enter_all.Goals as goal

pub loop-state-init : goal.loop-state-init
loop-state-init c = rw c.new-all.ensures (enters_none c.args.core.now.has_arguments (limits_of c.args.bounds.now) c.args.bank.now c.args.summary.now c.args.place)

pub enter_one-requires-clause-ends : goal.enter_one-requires-clause-ends
enter_one-requires-clause-ends c = states_grown c.loop-state.invariant.grows c.args.summary.now.states c.requires.ends

pub enter_one-requires-clause-state : goal.enter_one-requires-clause-state
enter_one-requires-clause-state c =
    state_grown c.loop-state.invariant.grows c.state-item.result
    (item_of _ c.loop-state.state-index c.args.states.now c.state-item.result c.requires.states c.loop-state-test.true c.state-item.is)

pub loop-state-preserved : goal.loop-state-preserved
loop-state-preserved c =
    let i = c.loop-state.state-index in
    rw (c.in_ok-append.ensures.ok, more_of c.args.states.now i c.state-item.result c.loop-state-test.true c.state-item.is)
    (enters_more c.args.core.now.has_arguments (limits_of c.args.bounds.now) _ _ _ c.args.summary.now c.args.place (take i c.args.states.now) c.loop-state.all c.in_ok-ends.ends c.state-item.result
    c.loop-state.invariant c.in_ok-ends.ensures)

pub returns : goal.returns
returns c = rw (take_all c.loop-state.state-index c.args.states.now c.loop-state-test.false) at c.loop-state.invariant
