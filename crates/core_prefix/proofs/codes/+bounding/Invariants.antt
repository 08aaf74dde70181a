use Rattle.std.proofs.Common.{◌≡◌, drop}
use Rattle.std.specs.List.{list_all}
use Rattle.core_prefix.specs.Calls.{code_below}
use Rattle.core_prefix.proofs.codes.+bounding.Given as goal

abbrev pub invariant-items_below-loop-item : goal.invariant-items_below-loop-item
invariant-items_below-loop-item l =
    list_all (code_below l.bound) (drop l.item-index l.items) ≡ list_all (code_below l.bound) l.items
