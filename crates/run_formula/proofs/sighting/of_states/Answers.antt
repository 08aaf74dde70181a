use Rattle.std.proofs.Common.{take}
use Rattle.std.proofs.lemmas.List.{take_all}
use Rattle.path_states.proofs.Growth.{state_grown}
use Rattle.path_states.proofs.Paths.{item_of, more_of}
use Rattle.run_formula.proofs.Sights.{all_grown, states_more, states_none}
use Rattle.run_formula.proofs.sighting.of_states.Goals as goal

pub loop-state-init : goal.loop-state-init
loop-state-init c =
    let look = c.args.look.now in
    states_none look.log.now look.watch.now look.lists.now c.args.bank.now _ c.in_ok-all.all c.in_ok-all.ensures

pub with_state-requires-clause-told : goal.with_state-requires-clause-told
with_state-requires-clause-told c =
    let look = c.args.look.now in
    all_grown look.log.now look.watch.now look.lists.now c.args.bank.now c.loop-state.bank c.args.told.now c.loop-state.invariant.grows c.requires.told

pub with_state-requires-clause-state : goal.with_state-requires-clause-state
with_state-requires-clause-state c =
    state_grown c.loop-state.invariant.grows c.state-item.result
    (item_of _ c.loop-state.state-index c.args.states.now c.state-item.result c.requires.states c.loop-state-test.true c.state-item.is)

pub loop-state-preserved : goal.loop-state-preserved
loop-state-preserved c =
    let look = c.args.look.now in
    let i = c.loop-state.state-index in
    rw (more_of c.args.states.now i c.state-item.result c.loop-state-test.true c.state-item.is)
    (states_more look.log.now look.watch.now look.lists.now c.args.bank.now c.loop-state.bank _ c.args.told.now (take i c.args.states.now)
    c.state-item.result c.loop-state.all c.in_ok-all-2.all
    (all_grown look.log.now look.watch.now look.lists.now c.args.bank.now c.loop-state.bank c.args.told.now c.loop-state.invariant.grows c.requires.told)
    c.loop-state.invariant (rw c.as_slice.ensures at c.in_ok-all-2.ensures))

pub returns : goal.returns
returns c = rw (take_all c.loop-state.state-index c.args.states.now c.loop-state-test.false) at c.loop-state.invariant
