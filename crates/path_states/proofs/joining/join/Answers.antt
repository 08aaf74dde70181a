use Rattle.std.proofs.lemmas.List.{take_all}
use Rattle.path_states.proofs.Growth.{state_grown}
use Rattle.path_states.proofs.Paths.{item_of, more_of}
use Rattle.path_states.proofs.Joined.{joined_more, pushed}
use Rattle.path_states.proofs.joining.join.Goals as goal

pub loop-state-init : goal.loop-state-init
loop-state-init c = λ room. rw c.new-all.ensures (pushed room _ _ tt)

pub join_one-requires-clause-states : goal.join_one-requires-clause-states
join_one-requires-clause-states c = (c.loop-state.invariant 0).states

pub join_one-requires-clause-state : goal.join_one-requires-clause-state
join_one-requires-clause-state c =
    state_grown (c.loop-state.invariant 0).grows c.state-item.result
    (item_of _ c.loop-state.state-index c.args.states.now c.state-item.result c.requires c.loop-state-test.true c.state-item.is)

pub loop-state-preserved : goal.loop-state-preserved
loop-state-preserved c =
    λ room. rw (more_of c.args.states.now c.loop-state.state-index c.state-item.result c.loop-state-test.true c.state-item.is)
    (joined_more room _ _ _ _ _ _ c.state-item.result (c.loop-state.invariant room) (c.in_ok-join_one.ensures room))

pub returns : goal.returns
returns c = λ room. rw (take_all c.loop-state.state-index c.args.states.now c.loop-state-test.false) at (c.loop-state.invariant room)
