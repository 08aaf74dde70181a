use Rattle.std.proofs.Common.{length}
use Rattle.core_exprs.proofs.arguments.+put_converted.Given as goal

abbrev pub decreases-put_converted : goal.decreases-put_converted
decreases-put_converted l = length l.types.now
