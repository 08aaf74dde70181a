use Rattle.std.proofs.Common.{length}
use Rattle.code_steps.proofs.objects.+add_objects.Given as goal

abbrev pub decreases-add_objects : goal.decreases-add_objects
decreases-add_objects g l = length l.items.now
