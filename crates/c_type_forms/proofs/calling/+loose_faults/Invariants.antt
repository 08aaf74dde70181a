use Rattle.std.proofs.Common.{length}
use Rattle.c_type_forms.proofs.calling.+loose_faults.Given as goal

abbrev pub decreases-loose_faults : goal.decreases-loose_faults
decreases-loose_faults l = length l.arguments.now
