use Rattle.std.proofs.Common.{take}
use Rattle.path_prints.specs.Prints.{PrintsEach}
use Rattle.path_prints.proofs.printing.end_prints.Given as goal

abbrev pub invariant-loop-state : goal.invariant-loop-state
invariant-loop-state l = PrintsEach l.initial.bank l.bank l.site.at l.site.answer l.from l.seen (take l.state-index l.states) l.all
