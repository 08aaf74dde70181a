use Rattle.std.proofs.Common.{length}
use Rattle.run_codes.proofs.below.Steps.+within.Given as goal

abbrev pub decreases-within : goal.decreases-within
decreases-within g l = length l.objects.now
