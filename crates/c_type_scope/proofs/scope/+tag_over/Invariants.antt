use Rattle.std.proofs.Common.{length}
use Rattle.c_type_scope.proofs.scope.+tag_over.Given as goal

abbrev pub decreases-tag_over : goal.decreases-tag_over
decreases-tag_over l = length l.blocks.now
