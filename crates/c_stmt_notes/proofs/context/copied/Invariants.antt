use Rattle.std.proofs.Common.{◌≡◌, ◌++◌, drop}
use Rattle.c_stmt_notes.proofs.context.copied.Given as goal

abbrev pub invariant-loop-label : goal.invariant-loop-label
invariant-loop-label l = l.all ++ drop l.label-index l.labels ≡ l.labels
