use Rattle.std.proofs.Common.{◌≡◌, ◌+◌, ◌≤◌, length, false}
use Rattle.c_lexer.specs.Literal.{closing}
use Rattle.c_lexer.proofs.literal.closing.Given as goal

abbrev pub invariant-loop-text : goal.invariant-loop-text
invariant-loop-text l =
    (closing l.quote l.escaped l.at l.text ≡ closing l.quote false l.initial.at l.initial.text)
    × (l.at + length l.text ≡ l.initial.at + length l.initial.text) × (l.initial.at ≤ l.at)

abbrev pub decreases-loop-text : goal.decreases-loop-text
decreases-loop-text l = length l.text
