use Rattle.std.proofs.Common.{◌∷◌, take}
use Rattle.std.proofs.lemmas.List.{take_all}
use Rattle.path_states.proofs.Growth.{state_grown}
use Rattle.path_states.proofs.Paths.{item_of, more_of, walks_more}
use Rattle.path_forms.specs.Calling.{call_way}
use Rattle.path_forms.proofs.CallLemmas.{walks_alone}
use Rattle.path_forms.proofs.Started.{stays_on}
use Rattle.path_forms.proofs.called.call_some.Goals as goal

pub loop-state-init : goal.loop-state-init
loop-state-init g c =
    walks_alone c.args.room _ _ c.args.first.now _ (call_way (g.C.Calls.around c.args.scene.now) c.args.frame.now
    c.args.callee.now c.args.site)
    c.in_ok-walked.ensures

pub call-requires-in-loop-state-clause-ready : goal.call-requires-in-loop-state-clause-ready
call-requires-in-loop-state-clause-ready g c = stays_on c.requires.calls c.loop-state.invariant.going.grows

pub call-requires-in-loop-state-clause-state : goal.call-requires-in-loop-state-clause-state
call-requires-in-loop-state-clause-state g c =
    state_grown c.loop-state.invariant.going.grows c.state-item.result
    (item_of _ c.loop-state.state-index c.args.rest.now c.state-item.result c.requires.rest c.loop-state-test.true
    c.state-item.is)

pub loop-state-preserved : goal.loop-state-preserved
loop-state-preserved g c =
    rw (
      c.in_ok-append.ensures.ok,
      c.in_ok-append-2.ensures.ok,
      more_of c.args.rest.now c.loop-state.state-index c.state-item.result c.loop-state-test.true c.state-item.is,
    )
    (walks_more c.args.room _ _ _ (c.args.first.now ∷ take c.loop-state.state-index c.args.rest.now)
    c.state-item.result _ _
    (call_way (g.C.Calls.around c.args.scene.now) c.args.frame.now c.args.callee.now c.args.site)
    c.loop-state.invariant c.in_ok-going.ensures)

pub returns : goal.returns
returns g c = rw (take_all c.loop-state.state-index c.args.rest.now c.loop-state-test.false) at c.loop-state.invariant
