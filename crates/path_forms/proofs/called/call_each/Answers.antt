use Rattle.path_forms.specs.Calling.{call_way}
use Rattle.path_forms.proofs.CallLemmas.{reach_joined}
use Rattle.path_forms.proofs.called.call_each.Goals as goal

pub call_behind-requires-clause-ready : goal.call_behind-requires-clause-ready
call_behind-requires-clause-ready g c = rw c.replace-now.ensures.value c.requires.ready

pub returns : goal.returns
returns g c =
    let called = rw c.replace-now.ensures.value at c.in_ok-called.ensures in
    reach_joined c.args.room _ _ _ c.args.walked.now _ _ (call_way (g.C.Calls.around c.args.scene.now)
    c.args.frame.now c.args.callee.now c.args.site)
    called c.in_ok-done.ensures
