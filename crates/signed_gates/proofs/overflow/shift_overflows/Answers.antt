use Rattle.signed_gates.proofs.NetLemmas.{shift-over-of, least-of}
use Rattle.signed_gates.proofs.overflow.shift_overflows.Goals as goal

pub returns : goal.returns
returns c = shift-over-of c.args.gates.now _ _ c.args.width c.args.a.now c.args.by.now c.in_ok-least.least c.as_slice.result.now c.in_ok-bound.bound c.as_slice-2.result.now c.in_ok-reaches.reaches _ c.bits-2.result c.bits-2.ensures (least-of c.args.width c.bits.result c.bits.ensures) c.in_ok-least.ensures c.as_slice.ensures c.in_ok-bound.ensures c.as_slice-2.ensures c.in_ok-reaches.ensures
