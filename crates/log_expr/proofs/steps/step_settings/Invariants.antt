use Rattle.std.proofs.Common.{drop}
use Rattle.log_expr.proofs.CodeSteps.{SettingsLead}
use Rattle.log_expr.proofs.steps.step_settings.Given as goal

abbrev pub invariant-settings : goal.invariant-settings
invariant-settings g l =
    SettingsLead (g.L.Stage.site l.walk.stage.now) l.fn.table l.table l.settings (drop l.setting-index l.settings) l.fn.course l.course
