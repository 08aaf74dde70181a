use Rattle.std.proofs.Common.{◌≡◌, ◌≤◌, ◌+◌, drop}
use Rattle.core_sizes.specs.Nodes.{capped, settings_nodes}
use Rattle.core_sizes.proofs.codes.settings_size.Given as goal

abbrev pub invariant-loop-setting : goal.invariant-loop-setting
invariant-loop-setting g l = record {
  sum : capped (l.all + settings_nodes (g.S.Sizes.measures l.scene) (drop l.setting-index l.settings))
      ≡ capped (settings_nodes (g.S.Sizes.measures l.scene) l.settings);
  fits : l.all ≤ 18446744073709551615;
}
