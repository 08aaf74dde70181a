use Rattle.std.proofs.Common.{◌≡◌, drop}
use Rattle.c_names.specs.Trees.{item_names}
use Rattle.c_names.specs.Working.{put_each}
use Rattle.c_names.proofs.units.+initializer.Given as goal

abbrev pub invariant-put_items-loop-item : goal.invariant-put_items-loop-item
invariant-put_items-loop-item l = put_each item_names (drop l.item-index l.items) l.done ≡ put_each item_names l.items l.fn.done
