use Rattle.std.proofs.Common.{length}
use Rattle.c_type_forms.proofs.calling.+argument_faults.Given as goal

abbrev pub decreases-argument_faults : goal.decreases-argument_faults
decreases-argument_faults l = length l.arguments.now
