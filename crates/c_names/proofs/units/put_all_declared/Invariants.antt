use Rattle.std.proofs.Common.{◌≡◌, drop}
use Rattle.c_means.specs.Names.{declared_names}
use Rattle.c_names.specs.Working.{put_each}
use Rattle.c_names.proofs.units.put_all_declared.Given as goal

abbrev pub invariant-loop-item : goal.invariant-loop-item
invariant-loop-item l = put_each declared_names (drop l.item-index l.items) l.done ≡ put_each declared_names l.items l.fn.done
