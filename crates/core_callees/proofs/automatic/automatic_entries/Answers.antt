use Rattle.core_callees.proofs.AutomaticLaws.{over_ends}
use Rattle.core_callees.proofs.automatic.automatic_entries.Goals as goal

pub returns : goal.returns
returns c =
    over_ends c.args.blocks.now c.loop-block.found.items c.loop-block.block-index c.loop-block-test.false
    c.loop-block.invariant
