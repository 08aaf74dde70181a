use Rattle.std.proofs.Common.{◌∷◌, take}
use Rattle.path_states.specs.Ways.{Walks}
use Rattle.path_forms.specs.Calling.{call_way}
use Rattle.path_forms.proofs.called.call_some.Given as goal

abbrev pub invariant-loop-state : goal.invariant-loop-state
invariant-loop-state g l =
    Walks l.room l.fn.bank l.bank (l.first ∷ take l.state-index l.rest) l.walked (call_way
    (g.C.Calls.around l.scene) l.frame l.callee l.site)
