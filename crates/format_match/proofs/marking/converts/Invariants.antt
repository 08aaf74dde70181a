use Rattle.format_match.proofs.Onwards.{IsNotLed}
use Rattle.format_match.proofs.marking.converts.Given as goal

abbrev pub invariant-lengths : goal.invariant-lengths
invariant-lengths l = IsNotLed l.c l.rest l.marks l.least l.from l.len
