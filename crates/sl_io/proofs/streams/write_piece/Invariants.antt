use Rattle.std.proofs.Common.{length}
use Rattle.sl_io.proofs.streams.write_piece.Given as goal

abbrev pub decreases-loop-rest : goal.decreases-loop-rest
decreases-loop-rest g l = length l.rest
