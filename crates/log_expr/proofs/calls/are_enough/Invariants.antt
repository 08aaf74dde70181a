use Rattle.std.proofs.Common.{◌≤◌, ◌+◌, length, drop}
use Rattle.printf_text.specs.Texts.{kinds}
use Rattle.log_expr.proofs.calls.are_enough.Given as goal

abbrev pub invariant-pieces : goal.invariant-pieces
invariant-pieces l = length (kinds l.pieces) + l.left ≤ l.count + length (kinds (drop l.piece-index l.pieces))
