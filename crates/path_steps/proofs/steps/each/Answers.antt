use Rattle.std.proofs.lemmas.List.{take_all}
use Rattle.path_states.proofs.Growth.{state_grown}
use Rattle.path_states.proofs.Paths.{item_of, more_of}
use Rattle.path_steps.proofs.LeafLemmas.{walks_by_none, walks_by_more}
use Rattle.path_steps.proofs.steps.each.Goals as goal

pub loop-state-init : goal.loop-state-init
loop-state-init c = rw c.settled-walked.ensures (walks_by_none c.args.bank.now c.args.leaf)

pub step-requires-clause-state : goal.step-requires-clause-state
step-requires-clause-state c =
    rw c.in_ok-copy.ensures
    (state_grown c.loop-state.invariant.grows c.state-item.result
    (item_of _ c.loop-state.state-index c.args.states.now c.state-item.result c.requires.states c.loop-state-test.true c.state-item.is))

pub loop-state-preserved : goal.loop-state-preserved
loop-state-preserved c =
    let stepped = rw c.in_ok-copy.ensures at c.in_ok-going.ensures in
    rw (
      c.in_ok-append.ensures.ok,
      c.in_ok-append-2.ensures.ok,
      more_of c.args.states.now c.loop-state.state-index c.state-item.result c.loop-state-test.true c.state-item.is,
    )
    (walks_by_more _ _ _ _ c.state-item.result c.args.leaf _ _ c.loop-state.invariant stepped)

pub returns : goal.returns
returns c = rw (take_all c.loop-state.state-index c.args.states.now c.loop-state-test.false) at c.loop-state.invariant
