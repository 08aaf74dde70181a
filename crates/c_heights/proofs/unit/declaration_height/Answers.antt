use Rattle.std.proofs.Common.{arith}
use Rattle.c_grammar.specs.Units.{makes_types}
use Rattle.c_heights.proofs.UnitHeights as heights
use Rattle.c_heights.proofs.unit.declaration_height.Goals as goal

pub returns : goal.returns
returns c =
    grind (arith, heights.declaration-is c.args.d.now, c.highest_init.ensures (makes_types c.args.d.now.specifiers))
