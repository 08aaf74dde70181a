use Rattle.std.proofs.Common.{length}
use Rattle.code_steps.proofs.objects.+bury.Given as goal

abbrev pub decreases-bury : goal.decreases-bury
decreases-bury l = length l.objects.now
