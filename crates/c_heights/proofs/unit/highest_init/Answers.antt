use Rattle.std.proofs.Common.{arith}
use Rattle.std.proofs.lemmas.Grind.{common_steps}
use Rattle.c_heights.proofs.unit.highest_init.Goals as goal

pub loop-item-preserved : goal.loop-item-preserved
loop-item-preserved c =
    λ is_type. grind (arith, common_steps, c.loop-item.invariant is_type, c.init_height.ensures is_type)
