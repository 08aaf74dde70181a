use Rattle.std.proofs.Common.{take}
use Rattle.run_formula.specs.Questions.{TellsStates}
use Rattle.run_formula.proofs.asking.ask_told.Given as goal

abbrev pub invariant-loop-state : goal.invariant-loop-state
invariant-loop-state l = TellsStates l.fn.bank l.bank l.log l.question (take l.state-index l.states) l.any
