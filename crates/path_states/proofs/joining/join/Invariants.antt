use Rattle.std.proofs.Common.{ℕ, take}
use Rattle.path_states.specs.Ways.{Goes, stay}
use Rattle.path_states.proofs.joining.join.Given as goal

abbrev pub invariant-loop-state : goal.invariant-loop-state
invariant-loop-state l = (room : ℕ) → Goes room l.initial.bank l.bank (take l.state-index l.states) l.all stay
