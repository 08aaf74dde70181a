use Rattle.std.proofs.Common.{arith, ap, drop, drop_of_length-le}
use Rattle.core_sizes.specs.Nodes.{settings_nodes}
use Rattle.core_sizes.proofs.CodeNodes.{sum_done}
use Rattle.core_sizes.proofs.codes.settings_size.Goals as goal

pub returns : goal.returns
returns g c =
    sum_done c.loop-setting.all
    (settings_nodes (g.S.Sizes.measures c.args.scene.now) (drop c.loop-setting.setting-index c.args.settings.now))
    (settings_nodes (g.S.Sizes.measures c.args.scene.now) c.args.settings.now) c.loop-setting.invariant.fits
    (ap (settings_nodes (g.S.Sizes.measures c.args.scene.now))
    (drop_of_length-le c.args.settings.now (omega (arith, c.loop-setting-test.false)))) c.loop-setting.invariant.sum
