use Rattle.path_forms.specs.Calling.{call_way}
use Rattle.path_forms.proofs.CallLemmas.{reach_calls}
use Rattle.path_forms.proofs.called.call_behind.Goals as goal

pub call_all-requires-clause-states : goal.call_all-requires-clause-states
call_all-requires-clause-states g c = rw c.as_slice.ensures c.requires.ready.going

pub returns : goal.returns
returns g c =
    let walked = rw c.as_slice.ensures at c.in_ok-next.ensures in
    rw c.in_ok-append.ensures.ok
    (reach_calls c.args.room _ _ c.args.walked _ (call_way (g.C.Calls.around c.args.scene.now) c.args.frame.now
    c.args.callee.now c.args.site) walked)
