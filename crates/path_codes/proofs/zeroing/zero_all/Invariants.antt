use Rattle.std.proofs.Common.{take}
use Rattle.path_codes.specs.Settings.{LaysAll}
use Rattle.path_codes.proofs.zeroing.zero_all.Given as goal

abbrev pub invariant-loop-state : goal.invariant-loop-state
invariant-loop-state l = LaysAll l.initial.bank l.bank l.size (λ _. 0) (take l.state-index l.states) l.all
