use Rattle.std.proofs.Common.{◌≡◌, map, take}
use Rattle.cdcl.specs.Sources.{shifted_step}
use Rattle.cdcl.proofs.learning.shifted_steps.Given as goal

abbrev pub invariant-loop-index : goal.invariant-loop-index
invariant-loop-index l = l.moved ≡ map (shifted_step l.given l.listed) (take l.index l.steps)
