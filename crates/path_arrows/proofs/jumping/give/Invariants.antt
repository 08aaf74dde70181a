use Rattle.std.proofs.Common.{ℕ, take}
use Rattle.path_states.specs.Ways.{Goes}
use Rattle.path_arrows.specs.Arrows.{returning}
use Rattle.path_arrows.proofs.jumping.give.Given as goal

abbrev pub invariant-loop-state : goal.invariant-loop-state
invariant-loop-state l = (room : ℕ) → Goes room l.initial.bank l.bank (take l.state-index l.states) l.all returning
