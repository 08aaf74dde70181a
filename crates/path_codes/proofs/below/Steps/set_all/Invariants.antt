use Rattle.std.proofs.Common.{drop}
use Rattle.path_codes.specs.Settings.{SettingsOn}
use Rattle.path_codes.proofs.below.Steps.set_all.Given as goal

abbrev pub invariant-loop-setting : goal.invariant-loop-setting
invariant-loop-setting g l =
    SettingsOn (g.C.Calls.around l.self.scene.now) l.frame l.self.room l.object (g.C.Calls.ready l.self.scene.now) l.settings
    (drop l.setting-index l.settings) l.fn.bank l.bank l.states l.ran l.place l.next
