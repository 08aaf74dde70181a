use Rattle.core_marks.specs.Marks.{setting_marks}
use Rattle.core_marks.proofs.Loops as loops
use Rattle.core_marks.proofs.codes.put_settings.Goals as goal

pub settings-init : goal.settings-init
settings-init c = loops.begins setting_marks c.args.settings.now c.args.out.now

pub settings-preserved : goal.settings-preserved
settings-preserved c =
    loops.goes_on setting_marks c.args.settings.now c.settings.setting-index c.setting-item.result c.args.out.now c.settings.out c.put_setting.new.out c.settings-test.true c.setting-item.is
    c.in_ok-put_setting.ensures c.settings.invariant

pub returns : goal.returns
returns c = loops.ends setting_marks c.args.settings.now c.settings.setting-index c.args.out.now c.settings.out c.settings-test.false c.settings.invariant
