use Rattle.std.proofs.Common.{Some}
use Rattle.std.proofs.lemmas.List.{take_all}
use Rattle.core_tree.specs.States.{along, born}
use Rattle.term_bank.proofs.BankLemmas.{stays, grows_on}
use Rattle.path_states.proofs.Growth.{state_grown}
use Rattle.path_states.proofs.Paths.{item_of, more_of, goes_more}
use Rattle.path_arrows.specs.Arrows.{by_arrow}
use Rattle.path_arrows.specs.Objects.{made_at}
use Rattle.path_arrows.proofs.Living.{born_none, born_one}
use Rattle.path_arrows.proofs.objects.bear.Goals as goal

pub loop-state-init : goal.loop-state-init
loop-state-init c = record {
  grows = stays;
  goes = λ room log fit. rw c.new-all.ensures (born_none room log c.args.objects.now fit c.args.bank.now);
}

pub bear_all-requires : goal.bear_all-requires
bear_all-requires c =
    (state_grown c.loop-state.invariant.grows c.state-item.result
    (item_of _ c.loop-state.state-index c.args.states.now c.state-item.result c.requires c.loop-state-test.true c.state-item.is)).memory

pub loop-state-preserved : goal.loop-state-preserved
loop-state-preserved c = record {
  grows = grows_on c.loop-state.invariant.grows c.in_ok-memory.ensures.grows;
  goes = λ room log fit. rw (
    c.in_ok-push.ensures.ok,
    c.in_ok-next.ensures,
    c.new.ensures,
    more_of c.args.states.now c.loop-state.state-index c.state-item.result c.loop-state-test.true c.state-item.is,
  )
      (goes_more room _ _ _ _ _ _ c.state-item.result (by_arrow (λ e d. Some (born (along log) (made_at e.base c.args.objects.now) d))) (c.loop-state.invariant.goes room log fit)
      (born_one room log c.args.objects.now fit _ _ c.state-item.result _
      (state_grown c.loop-state.invariant.grows c.state-item.result
      (item_of _ c.loop-state.state-index c.args.states.now c.state-item.result c.requires c.loop-state-test.true c.state-item.is))
      c.in_ok-memory.ensures));
}

pub returns : goal.returns
returns c =
    λ room log fit. rw (take_all c.loop-state.state-index c.args.states.now c.loop-state-test.false) at (c.loop-state.invariant.goes room log fit)
