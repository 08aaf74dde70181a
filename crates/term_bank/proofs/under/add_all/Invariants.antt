use Rattle.std.proofs.Common.{take}
use Rattle.term_bank.specs.Under.{Adds}
use Rattle.term_bank.proofs.under.add_all.Given as goal

abbrev pub invariant-loop-number : goal.invariant-loop-number
invariant-loop-number l = Adds l.fn.set l.set (take l.number-index l.numbers)
