use Rattle.std.proofs.Common.{List, take}
use Rattle.term_bank.specs.declared.shape.Shape.{Shape}
use Rattle.path_states.specs.States.{AreStates}
use Rattle.path_arrows.specs.Arrows.{Sifts}
use Rattle.path_arrows.proofs.sifting.sift.Given as goal

abbrev pub invariant-loop-state : goal.invariant-loop-state
invariant-loop-state l = (a : List Shape) → AreStates a l.states → Sifts a (take l.state-index l.states) l.sifted
