use Rattle.std.proofs.Common.{length}
use Rattle.c_language.proofs.tables.Tables.+is_too_large_from.Given as goal

abbrev pub decreases-is_too_large_from : goal.decreases-is_too_large_from
decreases-is_too_large_from l = length l.derivations.now
