use Rattle.std.proofs.lemmas.List.{take_all}
use Rattle.path_states.proofs.Paths.{item_of, more_of}
use Rattle.path_arrows.proofs.Sorting.{sifts_none, sifts_more}
use Rattle.path_arrows.proofs.sifting.sift.Goals as goal

pub loop-state-init : goal.loop-state-init
loop-state-init c = λ a are. rw (c.new.ensures, c.new-2.ensures) (sifts_none a)

pub loop-state-preserved : goal.loop-state-preserved
loop-state-preserved c =
    λ a are. rw (
      c.in_ok-sort.ensures,
      c.in_ok-copy.ensures,
      more_of c.args.states.now c.loop-state.state-index c.state-item.result c.loop-state-test.true c.state-item.is,
    )
    (sifts_more a _ c.state-item.result _
    (item_of a c.loop-state.state-index c.args.states.now c.state-item.result are c.loop-state-test.true c.state-item.is)
    (c.loop-state.invariant a are))

pub returns : goal.returns
returns c = λ a are. rw (take_all c.loop-state.state-index c.args.states.now c.loop-state-test.false) at (c.loop-state.invariant a are)
