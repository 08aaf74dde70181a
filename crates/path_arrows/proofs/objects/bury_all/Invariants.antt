use Rattle.std.proofs.Common.{take}
use Rattle.path_arrows.specs.Objects.{Buries}
use Rattle.path_arrows.proofs.objects.bury_all.Given as goal

abbrev pub invariant-loop-object : goal.invariant-loop-object
invariant-loop-object l = Buries l.initial.bank l.bank l.initial.memory l.memory (take l.object-index l.objects)
