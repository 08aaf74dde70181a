use Rattle.std.proofs.Common.{ℕ, List, Some, take}
use Rattle.core_tree.specs.States.{become}
use Rattle.term_bank.specs.declared.shape.Shape.{Shape}
use Rattle.path_states.specs.States.{AreStates}
use Rattle.path_states.specs.Ways.{Goes}
use Rattle.path_arrows.specs.Arrows.{by_arrow}
use Rattle.path_arrows.proofs.jumping.jump.Given as goal

abbrev pub invariant-loop-state : goal.invariant-loop-state
invariant-loop-state l =
    (room : ℕ) (a : List Shape) → AreStates a l.states → Goes room a a (take l.state-index l.states) l.all (by_arrow (λ e d. Some (become l.kind d)))
