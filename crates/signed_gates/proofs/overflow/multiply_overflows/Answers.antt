use Rattle.signed_gates.proofs.NetLemmas.{multiply-over-of}
use Rattle.signed_gates.proofs.overflow.multiply_overflows.Goals as goal

pub returns : goal.returns
returns c = multiply-over-of c.args.gates.now _ _ _ c.args.width c.args.a.now c.args.b.now c.in_ok-product.product c.in_ok-greatest.greatest c.as_slice.result.now c.as_slice-2.result.now c.in_ok-negative.negative c.in_ok-fits.fits c.negated.result c.in_ok-product.ensures c.in_ok-negative.ensures c.in_ok-greatest.ensures c.as_slice.ensures c.as_slice-2.ensures c.in_ok-fits.ensures c.negated.ensures
