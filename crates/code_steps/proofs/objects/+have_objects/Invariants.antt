use Rattle.std.proofs.Common.{length}
use Rattle.code_steps.proofs.objects.+have_objects.Given as goal

abbrev pub decreases-have_objects : goal.decreases-have_objects
decreases-have_objects l = length l.items.now
