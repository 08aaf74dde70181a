use Rattle.std.proofs.Common.{ap, ◌*◌}
use Rattle.signed_gates.proofs.NetLemmas.{product-of}
use Rattle.signed_gates.proofs.overflow.multiply_magnitudes.Goals as goal

pub returns : goal.returns
returns c = product-of c.args.gates.now _ _ _ c.args.width c.args.a.now c.args.b.now c.in_ok-one.one c.in_ok-other.other c.as_slice.result.now c.as_slice-2.result.now c.in_ok-wide.wide c.in_ok-factor.factor c.as_slice-3.result.now c.as_slice-4.result.now c.in_ok-product.product _ c.requires.a_width c.requires.b_width (ap (λ n. 2 * n) c.bits.ensures) c.in_ok-one.ensures c.in_ok-other.ensures c.as_slice.ensures c.as_slice-2.ensures c.in_ok-wide.ensures c.in_ok-factor.ensures c.as_slice-3.ensures c.as_slice-4.ensures c.in_ok-product.ensures
