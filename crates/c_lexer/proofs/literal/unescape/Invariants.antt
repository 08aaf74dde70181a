use Rattle.std.proofs.Common.{◌≡◌, ◌+◌, length}
use Rattle.c_lexer.specs.Literal.{unescape}
use Rattle.c_lexer.proofs.Literals.{after}
use Rattle.c_lexer.proofs.literal.unescape.Given as goal

abbrev pub invariant-loop-text : goal.invariant-loop-text
invariant-loop-text l =
    (after l.meant.items (unescape 0 l.at l.text) ≡ unescape 0 l.initial.at l.initial.text)
    × (l.at + length l.text ≡ l.initial.at + length l.initial.text)

abbrev pub decreases-loop-text : goal.decreases-loop-text
decreases-loop-text l = length l.text
