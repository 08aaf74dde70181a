use Rattle.std.proofs.Common.{length}
use Rattle.summary_compose.proofs.arguments.+pass.Given as goal

abbrev pub decreases-pass : goal.decreases-pass
decreases-pass l = length l.numbers.now
