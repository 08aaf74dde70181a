use Rattle.std.proofs.Common.{◌≡◌, ◌+◌, ◌≤◌, length, false}
use Rattle.c_lexer.specs.Piece.{comment_end}
use Rattle.c_lexer.proofs.piece.comment_end.Given as goal

abbrev pub invariant-loop-text : goal.invariant-loop-text
invariant-loop-text l =
    (comment_end l.after_star l.at l.text ≡ comment_end false l.initial.at l.initial.text)
    × (l.at + length l.text ≡ l.initial.at + length l.initial.text) × (l.initial.at ≤ l.at)

abbrev pub decreases-loop-text : goal.decreases-loop-text
decreases-loop-text l = length l.text
