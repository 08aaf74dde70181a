use Rattle.std.proofs.Common.{arith}
use Rattle.core_prefix.proofs.ExprCalls as calls
use Rattle.core_prefix.proofs.values.+bounding.Goals as goal

pub value_below-returns-in-Constant : goal.value_below-returns-in-Constant
value_below-returns-in-Constant t c =
    grind (arith, calls.below-Constant c.args.bound c.args.e.now _ c.in-Constant.is)

pub value_below-returns-in-Fixed : goal.value_below-returns-in-Fixed
value_below-returns-in-Fixed t c =
    grind (arith, calls.below-Fixed c.args.bound c.args.e.now _ c.in-Fixed.is)

pub value_below-returns-in-Local : goal.value_below-returns-in-Local
value_below-returns-in-Local t c =
    grind (arith, calls.below-Local c.args.bound c.args.e.now _ c.in-Local.is)

pub value_below-returns-in-Load : goal.value_below-returns-in-Load
value_below-returns-in-Load t c =
    grind (arith, calls.below-Load c.args.bound c.args.e.now _ _ c.in-Load.is)

pub value_below-returns-in-Target : goal.value_below-returns-in-Target
value_below-returns-in-Target t c =
    grind (arith, calls.below-Target c.args.bound c.args.e.now _ c.in-Target.is)

pub value_below-returns-in-Pointer : goal.value_below-returns-in-Pointer
value_below-returns-in-Pointer t c =
    grind (arith, calls.below-Pointer c.args.bound c.args.e.now _ c.in-Pointer.is)

pub value_below-returns-in-Offset : goal.value_below-returns-in-Offset
value_below-returns-in-Offset t c =
    grind (arith, calls.below-Offset c.args.bound c.args.e.now _ _ c.in-Offset.is)

pub value_below-returns-in-Extract : goal.value_below-returns-in-Extract
value_below-returns-in-Extract t c =
    grind (arith, calls.below-Extract c.args.bound c.args.e.now _ _ _ c.in-Extract.is)

pub value_below-returns-in-Convert : goal.value_below-returns-in-Convert
value_below-returns-in-Convert t c =
    grind (arith, calls.below-Convert c.args.bound c.args.e.now _ _ c.in-Convert.is)

pub value_below-returns-in-Cast : goal.value_below-returns-in-Cast
value_below-returns-in-Cast t c =
    grind (arith, calls.below-Cast c.args.bound c.args.e.now _ _ c.in-Cast.is)

pub value_below-returns-in-Turn : goal.value_below-returns-in-Turn
value_below-returns-in-Turn t c =
    grind (arith, calls.below-Turn c.args.bound c.args.e.now _ _ _ _ _ c.in-Turn.is)

pub value_below-returns-in-Not : goal.value_below-returns-in-Not
value_below-returns-in-Not t c =
    grind (arith, calls.below-Not c.args.bound c.args.e.now _ c.in-Not.is)

pub value_below-returns-then-value_below : goal.value_below-returns-then-value_below
value_below-returns-then-value_below t c =
    grind (arith, calls.below-Operate c.args.bound c.args.e.now _ _ _ _ _ c.in-Operate.is)

pub value_below-returns-else-value_below : goal.value_below-returns-else-value_below
value_below-returns-else-value_below t c =
    grind (arith, calls.below-Operate c.args.bound c.args.e.now _ _ _ _ _ c.in-Operate.is)

pub value_below-returns-then-value_below-2 : goal.value_below-returns-then-value_below-2
value_below-returns-then-value_below-2 t c =
    grind (arith, calls.below-And c.args.bound c.args.e.now _ _ _ c.in-And.is)

pub value_below-returns-else-value_below-2 : goal.value_below-returns-else-value_below-2
value_below-returns-else-value_below-2 t c =
    grind (arith, calls.below-And c.args.bound c.args.e.now _ _ _ c.in-And.is)

pub value_below-returns-then-value_below-3 : goal.value_below-returns-then-value_below-3
value_below-returns-then-value_below-3 t c =
    grind (arith, calls.below-Or c.args.bound c.args.e.now _ _ _ c.in-Or.is)

pub value_below-returns-else-value_below-3 : goal.value_below-returns-else-value_below-3
value_below-returns-else-value_below-3 t c =
    grind (arith, calls.below-Or c.args.bound c.args.e.now _ _ _ c.in-Or.is)

pub value_below-returns-then-value_below-5 : goal.value_below-returns-then-value_below-5
value_below-returns-then-value_below-5 t c =
    grind (arith, calls.below-Choose c.args.bound c.args.e.now _ _ _ _ c.in-Choose.is)

pub value_below-returns-else-value_below-5 : goal.value_below-returns-else-value_below-5
value_below-returns-else-value_below-5 t c =
    grind (arith, calls.below-Choose c.args.bound c.args.e.now _ _ _ _ c.in-Choose.is)

pub value_below-returns-then-value_below-6 : goal.value_below-returns-then-value_below-6
value_below-returns-then-value_below-6 t c =
    grind (arith, calls.below-Store c.args.bound c.args.e.now _ _ _ _ c.in-Store.is)

pub value_below-returns-else-value_below-6 : goal.value_below-returns-else-value_below-6
value_below-returns-else-value_below-6 t c =
    grind (arith, calls.below-Store c.args.bound c.args.e.now _ _ _ _ c.in-Store.is)

pub value_below-returns-then-value_below-7 : goal.value_below-returns-then-value_below-7
value_below-returns-then-value_below-7 t c =
    grind (arith, calls.below-Update c.args.bound c.args.e.now _ _ _ _ _ c.in-Update.is)

pub value_below-returns-else-value_below-7 : goal.value_below-returns-else-value_below-7
value_below-returns-else-value_below-7 t c =
    grind (arith, calls.below-Update c.args.bound c.args.e.now _ _ _ _ _ c.in-Update.is)

pub value_below-returns-in-Step : goal.value_below-returns-in-Step
value_below-returns-in-Step t c =
    grind (arith, calls.below-Step c.args.bound c.args.e.now _ _ _ _ _ c.in-Step.is)

pub value_below-returns-then-value_below-8 : goal.value_below-returns-then-value_below-8
value_below-returns-then-value_below-8 t c =
    grind (arith, calls.below-Comma c.args.bound c.args.e.now _ _ c.in-Comma.is)

pub value_below-returns-else-value_below-8 : goal.value_below-returns-else-value_below-8
value_below-returns-else-value_below-8 t c =
    grind (arith, calls.below-Comma c.args.bound c.args.e.now _ _ c.in-Comma.is)

pub value_below-returns-then-calls_below : goal.value_below-returns-then-calls_below
value_below-returns-then-calls_below t c =
    grind (arith, calls.below-Call c.args.bound c.args.e.now _ _ _ _ _ c.in-Call.is)

pub value_below-returns-else-calls_below : goal.value_below-returns-else-calls_below
value_below-returns-else-calls_below t c =
    grind (arith, calls.below-Call c.args.bound c.args.e.now _ _ _ _ _ c.in-Call.is)
