use Rattle.std.proofs.Common.{arith}
use Rattle.core_prefix.proofs.CodeCalls as calls
use Rattle.core_prefix.proofs.codes.+bounding.Goals as goal

pub code_below-returns-in-Nothing : goal.code_below-returns-in-Nothing
code_below-returns-in-Nothing t c =
    grind (arith, calls.below-Nothing c.args.bound c.args.code.now _ c.in-Nothing.is)

pub code_below-returns-in-Value : goal.code_below-returns-in-Value
code_below-returns-in-Value t c =
    grind (arith, calls.below-Value c.args.bound c.args.code.now _ _ c.in-Value.is)

pub code_below-returns-in-Declare : goal.code_below-returns-in-Declare
code_below-returns-in-Declare t c =
    grind (arith, calls.below-Declare c.args.bound c.args.code.now _ _ _ _ c.in-Declare.is)

pub code_below-returns-in-Static : goal.code_below-returns-in-Static
code_below-returns-in-Static t c =
    grind (arith, calls.below-Static c.args.bound c.args.code.now _ _ c.in-Static.is)

pub code_below-returns-in-Block : goal.code_below-returns-in-Block
code_below-returns-in-Block t c =
    grind (arith, calls.below-Block c.args.bound c.args.code.now _ _ c.in-Block.is)

pub code_below-returns-in-Label : goal.code_below-returns-in-Label
code_below-returns-in-Label t c =
    grind (arith, calls.below-Label c.args.bound c.args.code.now _ _ c.in-Label.is)

pub code_below-returns-then-value_below : goal.code_below-returns-then-value_below
code_below-returns-then-value_below t c =
    grind (arith, calls.below-Case c.args.bound c.args.code.now _ _ _ c.in-Case.is)

pub code_below-returns-else-value_below : goal.code_below-returns-else-value_below
code_below-returns-else-value_below t c =
    grind (arith, calls.below-Case c.args.bound c.args.code.now _ _ _ c.in-Case.is)

pub code_below-returns-in-Default : goal.code_below-returns-in-Default
code_below-returns-in-Default t c =
    grind (arith, calls.below-Default c.args.bound c.args.code.now _ c.in-Default.is)

pub code_below-returns-then-code_below : goal.code_below-returns-then-code_below
code_below-returns-then-code_below t c =
    grind (arith, calls.below-If c.args.bound c.args.code.now _ _ _ _ c.in-If.is)

pub code_below-returns-else-code_below : goal.code_below-returns-else-code_below
code_below-returns-else-code_below t c =
    grind (arith, calls.below-If c.args.bound c.args.code.now _ _ _ _ c.in-If.is)

pub code_below-returns-then-value_below-3 : goal.code_below-returns-then-value_below-3
code_below-returns-then-value_below-3 t c =
    grind (arith, calls.below-Switch c.args.bound c.args.code.now _ _ _ _ _ _ c.in-Switch.is)

pub code_below-returns-else-value_below-3 : goal.code_below-returns-else-value_below-3
code_below-returns-else-value_below-3 t c =
    grind (arith, calls.below-Switch c.args.bound c.args.code.now _ _ _ _ _ _ c.in-Switch.is)

pub code_below-returns-then-option_below-2 : goal.code_below-returns-then-option_below-2
code_below-returns-then-option_below-2 t c =
    grind (arith, calls.below-Loop c.args.bound c.args.code.now _ _ _ _ c.in-Loop.is)

pub code_below-returns-else-option_below-2 : goal.code_below-returns-else-option_below-2
code_below-returns-else-option_below-2 t c =
    grind (arith, calls.below-Loop c.args.bound c.args.code.now _ _ _ _ c.in-Loop.is)

pub code_below-returns-then-value_below-4 : goal.code_below-returns-then-value_below-4
code_below-returns-then-value_below-4 t c =
    grind (arith, calls.below-Repeat c.args.bound c.args.code.now _ _ _ c.in-Repeat.is)

pub code_below-returns-else-value_below-4 : goal.code_below-returns-else-value_below-4
code_below-returns-else-value_below-4 t c =
    grind (arith, calls.below-Repeat c.args.bound c.args.code.now _ _ _ c.in-Repeat.is)

pub code_below-returns-in-Goto : goal.code_below-returns-in-Goto
code_below-returns-in-Goto t c =
    grind (arith, calls.below-Goto c.args.bound c.args.code.now _ c.in-Goto.is)

pub code_below-returns-in-Continue : goal.code_below-returns-in-Continue
code_below-returns-in-Continue t c =
    grind (arith, calls.below-Continue c.args.bound c.args.code.now c.in-Continue.is)

pub code_below-returns-in-Break : goal.code_below-returns-in-Break
code_below-returns-in-Break t c =
    grind (arith, calls.below-Break c.args.bound c.args.code.now c.in-Break.is)

pub code_below-returns-in-Return : goal.code_below-returns-in-Return
code_below-returns-in-Return t c =
    grind (arith, calls.below-Return c.args.bound c.args.code.now _ c.in-Return.is)
