use Rattle.std.proofs.Common.{length}
use Rattle.code_steps.proofs.parameters.+pass.Given as goal

abbrev pub decreases-pass : goal.decreases-pass
decreases-pass l = length l.parameters.now
