use Rattle.std.proofs.Common.{arith, ap, drop, drop_of_length-le}
use Rattle.code_steps.specs.Rooms.{settings_room}
use Rattle.code_steps.proofs.Places.{sum_done}
use Rattle.code_steps.proofs.rooms.room_of_settings.Goals as goal

pub returns : goal.returns
returns g c =
    sum_done c.loop-setting.all
    (settings_room (g.L.Scene.setting c.args.scene.now) (drop c.loop-setting.setting-index c.args.settings.now))
    (settings_room (g.L.Scene.setting c.args.scene.now) c.args.settings.now) c.loop-setting.invariant.fits
    (ap (settings_room (g.L.Scene.setting c.args.scene.now))
    (drop_of_length-le c.args.settings.now (omega (arith, c.loop-setting-test.false)))) c.loop-setting.invariant.sum
