use Rattle.log_language.proofs.OnCodes.{settings_start, settings_more, settings_end}
use Rattle.log_language.proofs.codes.tell_settings.Goals as goal

pub settings-init : goal.settings-init
settings-init c = settings_start c.args.settings.now c.args.told.now

pub settings-preserved : goal.settings-preserved
settings-preserved c = settings_more c.args.settings.now c.settings.setting-index c.settings-test.true c.setting-item.is c.settings.invariant c.in_ok-tell_setting.ensures

pub returns : goal.returns
returns c = settings_end c.args.settings.now c.settings.setting-index c.settings-test.false c.settings.invariant
