use Rattle.std.proofs.Common.{length}
use Rattle.code_steps.proofs.objects.+bear.Given as goal

abbrev pub decreases-bear : goal.decreases-bear
decreases-bear l = length l.objects.now
