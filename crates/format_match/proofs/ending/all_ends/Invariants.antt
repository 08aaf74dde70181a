use Rattle.std.proofs.Common.{take}
use Rattle.format_match.specs.Spelled.{EndsExactly}
use Rattle.format_match.proofs.ending.all_ends.Given as goal

abbrev pub invariant-pieces : goal.invariant-pieces
invariant-pieces l = EndsExactly (take l.piece-index l.pieces) l.log l.from l.ends
