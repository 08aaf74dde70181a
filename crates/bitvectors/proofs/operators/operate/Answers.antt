use Rattle.bitvectors.proofs.OperatorLemmas.{add-result, sub-result, mul-result, sdiv-result, srem-result, and-result, or-result, xor-result, shl-result, lshr-result, ashr-result}
use Rattle.bitvectors.proofs.operators.operate.Goals as goal

pub returns-in-Add : goal.returns-in-Add
returns-in-Add c = add-result c.args.gates.now _ c.args.width c.args.a.now c.args.b.now c.args.operator c.add.result c.in-Add.is c.requires.a_width c.add.ensures

pub returns-in-Sub : goal.returns-in-Sub
returns-in-Sub c = sub-result c.args.gates.now _ c.args.width c.args.a.now c.args.b.now c.args.operator c.subtract.result c.in-Sub.is c.requires.a_width c.subtract.ensures

pub returns-in-Mul : goal.returns-in-Mul
returns-in-Mul c = mul-result c.args.gates.now _ c.args.width c.args.a.now c.args.b.now c.args.operator c.multiply.result c.in-Mul.is c.requires.a_width c.multiply.ensures

pub returns-in-Sdiv : goal.returns-in-Sdiv
returns-in-Sdiv c = sdiv-result c.args.gates.now _ c.args.width c.args.a.now c.args.b.now c.args.operator c.signed_quotient.result c.in-Sdiv.is c.signed_quotient.ensures

pub returns-in-Srem : goal.returns-in-Srem
returns-in-Srem c = srem-result c.args.gates.now _ c.args.width c.args.a.now c.args.b.now c.args.operator c.signed_remainder.result c.in-Srem.is c.signed_remainder.ensures

pub returns-in-And : goal.returns-in-And
returns-in-And c = and-result c.args.gates.now _ c.args.width c.args.a.now c.args.b.now c.args.operator c.operate_bitwise.result c.in-And.is c.requires.a_width c.operate_bitwise.ensures

pub returns-in-Or : goal.returns-in-Or
returns-in-Or c = or-result c.args.gates.now _ c.args.width c.args.a.now c.args.b.now c.args.operator c.operate_bitwise-in-Or.result c.in-Or.is c.requires.a_width c.operate_bitwise-in-Or.ensures

pub returns-in-Xor : goal.returns-in-Xor
returns-in-Xor c = xor-result c.args.gates.now _ c.args.width c.args.a.now c.args.b.now c.args.operator c.operate_bitwise-in-Xor.result c.in-Xor.is c.requires.a_width c.operate_bitwise-in-Xor.ensures

pub returns-in-Shl : goal.returns-in-Shl
returns-in-Shl c = shl-result c.args.gates.now _ c.args.width c.args.a.now c.args.b.now c.args.operator c.shift_up.result c.in-Shl.is c.shift_up.ensures

pub returns-in-Lshr : goal.returns-in-Lshr
returns-in-Lshr c = lshr-result c.args.gates.now _ c.args.width c.args.a.now c.args.b.now c.args.operator c.logical_shift.result c.in-Lshr.is c.logical_shift.ensures

pub returns-in-Ashr : goal.returns-in-Ashr
returns-in-Ashr c = ashr-result c.args.gates.now _ c.args.width c.args.a.now c.args.b.now c.args.operator c.arithmetic_shift.result c.in-Ashr.is c.arithmetic_shift.ensures
