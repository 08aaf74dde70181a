use Rattle.format_match.specs.Beginning.{Leads}
use Rattle.format_match.proofs.Markings.{AreBelow}
use Rattle.format_match.proofs.marking.leading_piece.Given as goal

abbrev pub invariant-positions : goal.invariant-positions
invariant-positions l = AreBelow (λ y. Leads l.piece l.log l.marks 0 y) l.from l.before.items
