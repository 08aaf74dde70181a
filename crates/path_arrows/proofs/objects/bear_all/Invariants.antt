use Rattle.std.proofs.Common.{take}
use Rattle.path_arrows.specs.Objects.{Bears}
use Rattle.path_arrows.proofs.objects.bear_all.Given as goal

abbrev pub invariant-loop-object : goal.invariant-loop-object
invariant-loop-object l = Bears l.initial.bank l.bank l.initial.memory l.memory (take l.object-index l.objects)
