use Rattle.std.proofs.Common.{length}
use Rattle.c_language.proofs.tables.Tables.+is_opaque_from.Given as goal

abbrev pub decreases-is_opaque_from : goal.decreases-is_opaque_from
decreases-is_opaque_from l = length l.derivations.now
