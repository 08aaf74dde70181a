use Rattle.std.proofs.Common.{take}
use Rattle.format_match.specs.Spelled.{EndsExactly}
use Rattle.format_ends.specs.Reached.{reached}
use Rattle.format_ends.specs.Found.{AreParts}
use Rattle.format_ends.proofs.ending.all_ends.Given as goal

abbrev pub invariant-pieces : goal.invariant-pieces
invariant-pieces l = record {
  ends : EndsExactly (take l.index l.pieces) l.log l.from (reached l.log l.reached.text l.reached.before);
  parts : AreParts l.pieces l.log l.parts;
}
