use Rattle.std.proofs.Common.{◌≡◌, drop}
use Rattle.std.specs.List.{list_all}
use Rattle.core_prefix.specs.Calls.{value_below}
use Rattle.core_prefix.proofs.values.+bounding.Given as goal

abbrev pub invariant-values_below-loop-item : goal.invariant-values_below-loop-item
invariant-values_below-loop-item l =
    list_all (value_below l.bound) (drop l.item-index l.items) ≡ list_all (value_below l.bound) l.items
