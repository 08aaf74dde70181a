use Rattle.std.proofs.Common.{◌≡◌, ◌≤◌, ◌+◌, drop}
use Rattle.core_sizes.specs.Nodes.{capped, values_nodes}
use Rattle.core_sizes.proofs.values.+sizes.Given as goal

abbrev pub invariant-values_size-loop-item : goal.invariant-values_size-loop-item
invariant-values_size-loop-item g l =
    (l.size ≤ 18446744073709551615)
    × (capped (l.size + values_nodes (g.S.Sizes.measures l.scene) (drop l.item-index l.items)) ≡ capped
    (values_nodes (g.S.Sizes.measures l.scene) l.items))
