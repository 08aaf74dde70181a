use Rattle.path_codes.proofs.Sequences.{rest_of, none_left}
use Rattle.path_codes.proofs.Stored.{settings_start, settings_next, settings_end}
use Rattle.path_codes.proofs.below.Steps.set_all.Goals as goal

pub loop-setting-init : goal.loop-setting-init
loop-setting-init g c =
    settings_start (g.C.Calls.around c.args.self.now.scene.now) c.args.frame.now c.args.self.now.room c.args.object (g.C.Calls.ready c.args.self.now.scene.now) c.args.settings.now c.args.bank.now c.args.states.now _ c.args.place c.requires.ready (c.in_ok-ran.ensures c.args.self.now.room c.args.bank.now c.requires.states)

pub set-requires-clause-ready : goal.set-requires-clause-ready
set-requires-clause-ready g c =
    c.loop-setting.invariant.begun

pub set-requires-clause-states : goal.set-requires-clause-states
set-requires-clause-states g c =
    rw c.as_slice.ensures c.loop-setting.invariant.states

pub loop-setting-preserved : goal.loop-setting-preserved
loop-setting-preserved g c =
    let walked = rw c.as_slice.ensures at c.in_ok-now.ensures in
    settings_next (g.C.Calls.around c.args.self.now.scene.now) c.args.frame.now c.args.self.now.room c.args.object (g.C.Calls.ready c.args.self.now.scene.now) c.args.settings.now _ _ c.setting-item.result c.args.bank.now _ _ c.args.states.now _ c.args.place c.loop-setting.next c.in_ok-now.field-0
    (rest_of c.args.settings.now c.loop-setting.setting-index c.setting-item.result c.loop-setting-test.true c.setting-item.is) c.loop-setting.invariant walked

pub returns : goal.returns
returns g c =
    settings_end (g.C.Calls.around c.args.self.now.scene.now) c.args.frame.now c.args.self.now.room c.args.object (g.C.Calls.ready c.args.self.now.scene.now) c.args.settings.now _ c.args.bank.now _ c.args.states.now _ c.args.place c.loop-setting.next
    (none_left c.args.settings.now c.loop-setting.setting-index c.loop-setting-test.false) c.loop-setting.invariant
