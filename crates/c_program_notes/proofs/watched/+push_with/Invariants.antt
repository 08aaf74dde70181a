use Rattle.std.proofs.Common.{length}
use Rattle.c_program_notes.proofs.watched.+push_with.Given as goal

abbrev pub decreases-push_with : goal.decreases-push_with
decreases-push_with l = length l.entries.now
