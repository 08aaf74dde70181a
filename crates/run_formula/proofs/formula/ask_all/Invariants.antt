use Rattle.std.proofs.Common.{take}
use Rattle.run_formula.specs.Questions.{AsksAll}
use Rattle.run_formula.proofs.formula.ask_all.Given as goal

abbrev pub invariant-loop-fact : goal.invariant-loop-fact
invariant-loop-fact l = AsksAll l.fn.bank l.bank l.log l.states (take l.fact-index l.facts) l.nodes
