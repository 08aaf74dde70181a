use Rattle.c_means.specs.Names.{designator_names}
use Rattle.c_names.proofs.Arms as arms
use Rattle.c_names.proofs.units.put_designators.Goals as goal

pub returns : goal.returns
returns c =
    arms.made c.join_all.result c.join_all.new.done _ _ c.join_all.ensures (arms.put_all_of designator_names c.args.items.now c.loop-item.item-index
    c.loop-item.done c.args.done.now c.loop-item-test.false c.loop-item.invariant)
