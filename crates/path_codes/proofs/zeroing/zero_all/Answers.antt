use Rattle.std.proofs.lemmas.List.{take_all}
use Rattle.path_states.proofs.Growth.{state_grown}
use Rattle.path_states.proofs.Paths.{item_of, more_of}
use Rattle.path_codes.proofs.Laid.{lays_none, lays_more}
use Rattle.path_codes.proofs.zeroing.zero_all.Goals as goal

pub loop-state-init : goal.loop-state-init
loop-state-init c = rw c.new-all.ensures (lays_none c.args.bank.now c.args.size (λ _. 0))

pub zero_one-requires : goal.zero_one-requires
zero_one-requires c =
    rw c.in_ok-copy.ensures
    (state_grown c.loop-state.invariant.grows c.state-item.result
    (item_of _ c.loop-state.state-index c.args.states.now c.state-item.result c.requires c.loop-state-test.true c.state-item.is))

pub loop-state-preserved : goal.loop-state-preserved
loop-state-preserved c =
    let stepped = rw c.in_ok-copy.ensures at c.in_ok-next.ensures in
    rw (
      c.in_ok-push.ensures.ok,
      more_of c.args.states.now c.loop-state.state-index c.state-item.result c.loop-state-test.true c.state-item.is,
    )
    (lays_more _ _ _ c.args.size (λ _. 0) _ _ c.state-item.result _ c.loop-state.invariant stepped)

pub returns : goal.returns
returns c = rw (take_all c.loop-state.state-index c.args.states.now c.loop-state-test.false) at c.loop-state.invariant
