use Rattle.std.proofs.Common.{length}
use Rattle.c_language.proofs.class.+arrays_in.Given as goal

abbrev pub decreases-arrays_in : goal.decreases-arrays_in
decreases-arrays_in l = length l.derivations.now
