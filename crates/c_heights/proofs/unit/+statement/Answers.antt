use Rattle.std.proofs.Common.{arith}
use Rattle.c_heights.proofs.UnitHeights as heights
use Rattle.c_heights.proofs.unit.+statement.Goals as goal

pub stmt_height-returns-in-Block : goal.stmt_height-returns-in-Block
stmt_height-returns-in-Block t c = grind (arith, heights.stmt-Block _ _ c.in-Block.is)

pub stmt_height-returns-in-Declared : goal.stmt_height-returns-in-Declared
stmt_height-returns-in-Declared t c = grind (arith, heights.stmt-Declared _ c.in-Declared.is)

pub stmt_height-returns-in-Value : goal.stmt_height-returns-in-Value
stmt_height-returns-in-Value t c = grind (arith, heights.stmt-Value _ _ c.in-Value.is)

pub stmt_height-returns-in-Label : goal.stmt_height-returns-in-Label
stmt_height-returns-in-Label t c = grind (arith, heights.stmt-Label _ _ _ c.in-Label.is)

pub stmt_height-returns-in-Case : goal.stmt_height-returns-in-Case
stmt_height-returns-in-Case t c = grind (arith, heights.stmt-Case _ _ _ c.in-Case.is)

pub stmt_height-returns-in-Default : goal.stmt_height-returns-in-Default
stmt_height-returns-in-Default t c = grind (arith, heights.stmt-Default _ _ c.in-Default.is)

pub stmt_height-returns-in-If : goal.stmt_height-returns-in-If
stmt_height-returns-in-If t c = grind (arith, heights.stmt-If _ _ _ _ c.in-If.is)

pub stmt_height-returns-in-Switch : goal.stmt_height-returns-in-Switch
stmt_height-returns-in-Switch t c = grind (arith, heights.stmt-Switch _ _ _ c.in-Switch.is)

pub stmt_height-returns-in-While : goal.stmt_height-returns-in-While
stmt_height-returns-in-While t c = grind (arith, heights.stmt-While _ _ _ c.in-While.is)

pub stmt_height-returns-in-Do : goal.stmt_height-returns-in-Do
stmt_height-returns-in-Do t c = grind (arith, heights.stmt-Do _ _ _ c.in-Do.is)

pub stmt_height-returns-in-For : goal.stmt_height-returns-in-For
stmt_height-returns-in-For t c = grind (arith, heights.stmt-For _ _ _ _ _ c.in-For.is)

pub stmt_height-returns-in-Goto : goal.stmt_height-returns-in-Goto
stmt_height-returns-in-Goto t c = grind (arith, heights.stmt-Goto _ _ c.in-Goto.is)

pub stmt_height-returns-in-Continue : goal.stmt_height-returns-in-Continue
stmt_height-returns-in-Continue t c = grind (arith, heights.stmt-Continue _ c.in-Continue.is)

pub stmt_height-returns-in-Break : goal.stmt_height-returns-in-Break
stmt_height-returns-in-Break t c = grind (arith, heights.stmt-Break _ c.in-Break.is)

pub stmt_height-returns-in-Return : goal.stmt_height-returns-in-Return
stmt_height-returns-in-Return t c = grind (arith, heights.stmt-Return _ _ c.in-Return.is)
