use Rattle.std.proofs.Common.{◌≡◌, drop, length}
use Rattle.c_names.specs.Needs.{steps}
use Rattle.c_names.proofs.needs.step_for_each.Given as goal

abbrev pub invariant-loop-word : goal.invariant-loop-word
invariant-loop-word l =
    steps l.outers (length (drop l._word-index l.words)) l.state ≡ steps l.outers (length l.words) l.fn.state
