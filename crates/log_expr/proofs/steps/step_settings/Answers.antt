use Rattle.log_expr.proofs.CodeSteps.{settings_start, settings_more, settings_end}
use Rattle.log_expr.proofs.steps.step_settings.Goals as goal

pub settings-init : goal.settings-init
settings-init g c = settings_start c.args.settings.now c.args.table.now c.args.course.now

pub settings-preserved : goal.settings-preserved
settings-preserved g c = settings_more c.args.settings.now c.settings.setting-index c.settings-test.true c.setting-item.is c.settings.invariant c.in_ok-step_setting.ensures

pub returns : goal.returns
returns g c = settings_end c.args.settings.now c.settings.setting-index c.settings-test.false c.settings.invariant
