use Rattle.std.proofs.Common.{take}
use Rattle.path_prints.specs.Prints.{Gathers}
use Rattle.path_prints.proofs.printing.gathered.Given as goal

abbrev pub invariant-loop-number : goal.invariant-loop-number
invariant-loop-number l = Gathers l.fn.bank l.bank (take l.number-index l.numbers) l.all
