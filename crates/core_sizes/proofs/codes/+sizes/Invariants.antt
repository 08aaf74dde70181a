use Rattle.std.proofs.Common.{◌≡◌, ◌≤◌, ◌+◌, drop}
use Rattle.core_sizes.specs.Nodes.{capped, items_nodes}
use Rattle.core_sizes.proofs.codes.+sizes.Given as goal

abbrev pub invariant-items_size-loop-item : goal.invariant-items_size-loop-item
invariant-items_size-loop-item g l = record {
  sum : capped (l.all + items_nodes (g.S.Sizes.measures l.scene) (drop l.item-index l.items))
      ≡ capped (items_nodes (g.S.Sizes.measures l.scene) l.items);
  fits : l.all ≤ 18446744073709551615;
}
