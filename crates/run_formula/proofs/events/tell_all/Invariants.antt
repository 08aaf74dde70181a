use Rattle.run_formula.specs.Questions.{TellsAll}
use Rattle.run_formula.proofs.events.tell_all.Given as goal

abbrev pub invariant-loop-number : goal.invariant-loop-number
invariant-loop-number l = TellsAll l.fn.bank l.bank l.log l.question l.told
