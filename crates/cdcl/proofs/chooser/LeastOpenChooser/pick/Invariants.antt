use Rattle.std.proofs.Common.{◌≤◌, ℕ}
use Rattle.cdcl.specs.Ranks.{IsUnset}
use Rattle.cdcl.proofs.chooser.LeastOpenChooser.pick.Given as goal

abbrev pub invariant-loop-index : goal.invariant-loop-index
invariant-loop-index l = (v : ℕ) → v ≤ l.index → IsUnset l.scores.unset v → ⊥
