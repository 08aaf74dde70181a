use Rattle.std.proofs.Common.{◌≡◌, ◌++◌, drop}
use Rattle.c_means.specs.Expressions.{joined}
use Rattle.c_names.proofs.working.text_of.Given as goal

abbrev pub invariant-loop-piece : goal.invariant-loop-piece
invariant-loop-piece l = l.text ++ joined (drop l.piece-index l.pieces) ≡ joined l.pieces
