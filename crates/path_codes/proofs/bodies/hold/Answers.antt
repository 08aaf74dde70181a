use Rattle.std.proofs.lemmas.List.{take_all}
use Rattle.path_states.proofs.Paths.{item_of, more_of, goes_more}
use Rattle.path_codes.specs.Bodies.{holding}
use Rattle.path_codes.proofs.Functions.{holds_none, holds_one}
use Rattle.path_codes.proofs.bodies.hold.Goals as goal

pub loop-state-init : goal.loop-state-init
loop-state-init c = λ room a are numbers. rw c.new-all.ensures (holds_none room a c.args.number)

pub loop-state-preserved : goal.loop-state-preserved
loop-state-preserved c =
    λ room a are numbers. rw (
      c.in_ok-push-2.ensures.ok,
      c.in_ok-push.ensures.ok,
      c.in_ok-next.ensures,
      c.new.ensures,
      more_of c.args.states.now c.loop-state.state-index c.state-item.result c.loop-state-test.true c.state-item.is,
    )
    (goes_more room a a a _ _ _ c.state-item.result (holding c.args.number) (c.loop-state.invariant room a are numbers)
    (holds_one room a c.args.number c.state-item.result
    (item_of a c.loop-state.state-index c.args.states.now c.state-item.result are c.loop-state-test.true c.state-item.is) numbers))

pub returns : goal.returns
returns c = λ room a are numbers.
    rw (take_all c.loop-state.state-index c.args.states.now c.loop-state-test.false) at (c.loop-state.invariant room a are numbers)
