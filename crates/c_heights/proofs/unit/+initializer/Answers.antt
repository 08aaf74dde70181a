use Rattle.std.proofs.Common.{arith}
use Rattle.c_heights.proofs.UnitHeights as heights
use Rattle.c_heights.proofs.unit.+initializer.Goals as goal

pub initializer_height-returns-in-Value : goal.initializer_height-returns-in-Value
initializer_height-returns-in-Value t c = grind (arith, heights.initializer-Value _ c.in-Value.is)

pub initializer_height-returns-in-List : goal.initializer_height-returns-in-List
initializer_height-returns-in-List t c = grind (arith, heights.initializer-List _ _ _ c.in-List.is)

pub item_height-returns : goal.item_height-returns
item_height-returns t c = grind (arith, heights.item-is c.args.i.now)
