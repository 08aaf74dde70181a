use Rattle.std.proofs.Common.{length}
use Rattle.c_language.proofs.tables.Tables.+align_from.Given as goal

abbrev pub decreases-align_from : goal.decreases-align_from
decreases-align_from l = length l.derivations.now
