use Rattle.std.proofs.Common.{length}
use Rattle.c_type_scope.proofs.scope.+entry_over.Given as goal

abbrev pub decreases-entry_over : goal.decreases-entry_over
decreases-entry_over l = length l.blocks.now
