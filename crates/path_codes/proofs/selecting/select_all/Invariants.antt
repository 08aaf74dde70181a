use Rattle.std.proofs.Common.{take}
use Rattle.path_codes.specs.Selecting.{SelectsAll}
use Rattle.path_codes.proofs.selecting.select_all.Given as goal

abbrev pub invariant-loop-state : goal.invariant-loop-state
invariant-loop-state l = SelectsAll l.initial.bank l.bank l.at l.word l.cases (take l.state-index l.states) l.all
