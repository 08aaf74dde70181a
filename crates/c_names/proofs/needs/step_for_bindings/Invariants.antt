use Rattle.std.proofs.Common.{◌≡◌, ◌*◌, drop, length}
use Rattle.c_names.specs.Needs.{steps}
use Rattle.c_names.proofs.needs.step_for_bindings.Given as goal

abbrev pub invariant-loop-binding : goal.invariant-loop-binding
invariant-loop-binding l =
    steps l.outers (length (drop l._binding-index l.bindings) * length l.uses) l.state
    ≡ steps l.outers (length l.bindings * length l.uses) l.fn.state
