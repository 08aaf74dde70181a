use Rattle.std.proofs.Common.{take}
use Rattle.run_formula.specs.Starts.{Begins, made_all}
use Rattle.run_formula.proofs.starts.start_memory.Given as goal

abbrev pub invariant-loop-object : goal.invariant-loop-object
invariant-loop-object l = Begins l.fn.bank l.bank l.memory (made_all (take l.object-index l.fn.objects))
