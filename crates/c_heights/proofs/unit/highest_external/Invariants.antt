use Rattle.std.proofs.Common.{◌≡◌, max, drop}
use Rattle.c_heights.specs.Externals.{highest_external}
use Rattle.c_heights.specs.Capped.{capped}
use Rattle.c_heights.proofs.unit.highest_external.Given as goal

abbrev pub invariant-loop-item : goal.invariant-loop-item
invariant-loop-item l =
    max l.most (capped (highest_external (drop l.item-index l.items))) ≡ capped (highest_external l.items)
