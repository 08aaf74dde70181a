use Rattle.bitvectors.proofs.OperatorLemmas.{equal-result, below-result, signed-below-result, add-over-result, sub-over-result, mul-over-result, div-over-result, shl-over-result}
use Rattle.bitvectors.proofs.operators.compare.Goals as goal

pub returns-in-Equal : goal.returns-in-Equal
returns-in-Equal c = equal-result c.args.gates.now _ c.args.width c.args.a.now c.args.b.now c.args.test c.equal.result c.in-Equal.is c.equal.ensures

pub returns-in-Below : goal.returns-in-Below
returns-in-Below c = below-result c.args.gates.now _ c.args.width c.args.a.now c.args.b.now c.args.test c.below.result c.in-Below.is c.below.ensures

pub returns-in-SignedBelow : goal.returns-in-SignedBelow
returns-in-SignedBelow c = signed-below-result c.args.gates.now _ c.args.width c.args.a.now c.args.b.now c.args.test c.signed_below.result c.in-SignedBelow.is c.signed_below.ensures

pub returns-in-AddOver : goal.returns-in-AddOver
returns-in-AddOver c = add-over-result c.args.gates.now _ c.args.width c.args.a.now c.args.b.now c.args.test c.add_overflows.result c.in-AddOver.is c.add_overflows.ensures

pub returns-in-SubOver : goal.returns-in-SubOver
returns-in-SubOver c = sub-over-result c.args.gates.now _ c.args.width c.args.a.now c.args.b.now c.args.test c.subtract_overflows.result c.in-SubOver.is c.subtract_overflows.ensures

pub returns-in-MulOver : goal.returns-in-MulOver
returns-in-MulOver c = mul-over-result c.args.gates.now _ c.args.width c.args.a.now c.args.b.now c.args.test c.multiply_overflows.result c.in-MulOver.is c.multiply_overflows.ensures

pub returns-in-DivOver : goal.returns-in-DivOver
returns-in-DivOver c = div-over-result c.args.gates.now _ c.args.width c.args.a.now c.args.b.now c.args.test c.divide_overflows.result c.in-DivOver.is c.divide_overflows.ensures

pub returns-in-ShlOver : goal.returns-in-ShlOver
returns-in-ShlOver c = shl-over-result c.args.gates.now _ c.args.width c.args.a.now c.args.b.now c.args.test c.shift_overflows.result c.in-ShlOver.is c.shift_overflows.ensures
