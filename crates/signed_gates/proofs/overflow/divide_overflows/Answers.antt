use Rattle.std.proofs.Common.{refl}
use Rattle.signed_gates.proofs.NetLemmas.{divide-over-of, least-of}
use Rattle.signed_gates.proofs.overflow.divide_overflows.Goals as goal

pub returns : goal.returns
returns c = divide-over-of c.args.gates.now _ _ _ c.args.width c.args.a.now c.args.b.now c.in_ok-least.least c.in_ok-minus_one.minus_one c.as_slice.result.now c.as_slice-2.result.now c.in_ok-is_least.is_least c.in_ok-is_minus_one.is_minus_one c.in_ok-both.both _ _ c.bits-2.result c.bits-3.result c.bits-2.ensures c.bits-3.ensures (least-of c.args.width c.bits.result c.bits.ensures) refl c.in_ok-least.ensures c.in_ok-minus_one.ensures c.as_slice.ensures c.as_slice-2.ensures c.in_ok-is_least.ensures c.in_ok-is_minus_one.ensures c.in_ok-both.ensures
