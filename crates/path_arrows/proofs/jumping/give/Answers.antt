use Rattle.std.proofs.Common.{ℕ}
use Rattle.std.proofs.lemmas.List.{take_all}
use Rattle.path_states.proofs.Growth.{state_grown}
use Rattle.path_states.proofs.Paths.{item_of, more_of, goes_more}
use Rattle.path_arrows.specs.Arrows.{returning}
use Rattle.path_arrows.proofs.Stepped.{gives_none}
use Rattle.path_arrows.proofs.jumping.give.Goals as goal

pub loop-state-init : goal.loop-state-init
loop-state-init c = λ room. rw c.new-all.ensures (gives_none room c.args.bank.now)

pub give_one-requires : goal.give_one-requires
give_one-requires c =
    state_grown (c.loop-state.invariant 0).grows c.state-item.result
    (item_of _ c.loop-state.state-index c.args.states.now c.state-item.result c.requires c.loop-state-test.true c.state-item.is)

pub loop-state-preserved : goal.loop-state-preserved
loop-state-preserved c =
    λ room. rw (
      c.in_ok-push.ensures.ok,
      more_of c.args.states.now c.loop-state.state-index c.state-item.result c.loop-state-test.true c.state-item.is,
    )
    (goes_more room _ _ _ _ _ _ c.state-item.result returning (c.loop-state.invariant room) (c.in_ok-next.ensures room))

pub returns : goal.returns
returns c = λ room. rw (take_all c.loop-state.state-index c.args.states.now c.loop-state-test.false) at (c.loop-state.invariant room)
