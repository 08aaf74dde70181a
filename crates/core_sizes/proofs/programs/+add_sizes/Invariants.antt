use Rattle.std.proofs.Common.{length}
use Rattle.core_sizes.proofs.programs.+add_sizes.Given as goal

abbrev pub decreases-add_sizes : goal.decreases-add_sizes
decreases-add_sizes l = length l.functions.now
