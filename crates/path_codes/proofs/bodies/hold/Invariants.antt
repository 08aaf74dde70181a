use Rattle.std.proofs.Common.{ℕ, List, [], ◌∷◌, take}
use Rattle.term_bank.specs.declared.shape.Shape.{Shape}
use Rattle.path_states.specs.States.{AreStates, AreNumbers}
use Rattle.path_states.specs.Ways.{Goes}
use Rattle.path_codes.specs.Bodies.{holding}
use Rattle.path_codes.proofs.bodies.hold.Given as goal

abbrev pub invariant-loop-state : goal.invariant-loop-state
invariant-loop-state l =
    (room : ℕ) (a : List Shape) → AreStates a l.states → AreNumbers a (l.number ∷ [])
    → Goes room a a (take l.state-index l.states) l.all (holding l.number)
