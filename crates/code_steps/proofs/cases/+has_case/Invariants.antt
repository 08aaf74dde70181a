use Rattle.std.proofs.Common.{length}
use Rattle.code_steps.proofs.cases.+has_case.Given as goal

abbrev pub decreases-has_case : goal.decreases-has_case
decreases-has_case l = length l.cases.now
