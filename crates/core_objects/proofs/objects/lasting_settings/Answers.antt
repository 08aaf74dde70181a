use Rattle.std.proofs.Common.{[], ◌∷◌, ◌++◌, sym, ap, ◌∙◌}
use Rattle.core_objects.specs.Given.{lasting_setting}
use Rattle.core_objects.proofs.Settling.{set_more}
use Rattle.core_objects.proofs.objects.lasting_settings.Goals as goal

pub loop-setting-preserved : goal.loop-setting-preserved
loop-setting-preserved c =
    let place = c.args.place in
    let x = c.in-Some.setting in
    c.in_ok-push.ensures.ok ∙ ap (λ ys. ys ++ lasting_setting place x ∷ []) c.loop-setting.invariant
    ∙ sym (set_more place c.loop-setting.yielded x)
