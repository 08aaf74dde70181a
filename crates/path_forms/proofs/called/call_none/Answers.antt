use Rattle.path_forms.specs.Calling.{call_way}
use Rattle.path_forms.proofs.CallLemmas.{walks_nowhere}
use Rattle.path_forms.proofs.Started.{stays_on}
use Rattle.path_forms.proofs.called.call_none.Goals as goal

pub call-requires-clause-ready : goal.call-requires-clause-ready
call-requires-clause-ready g c = stays_on c.requires c.in_ok-state.ensures.grows

pub call-requires-clause-state : goal.call-requires-clause-state
call-requires-clause-state g c = c.in_ok-state.ensures.state

pub returns : goal.returns
returns g c =
    rw c.settled.ensures (walks_nowhere c.args.room _ _ _ _ _ (call_way (g.C.Calls.around c.args.scene.now)
    c.args.frame.now c.args.callee.now c.args.site)
    c.in_ok-state.ensures c.in_ok-walked.ensures)
