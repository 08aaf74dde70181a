use Rattle.word_gates.proofs.ProductLemmas.{product-start, product-more, product-whole}
use Rattle.word_gates.proofs.arithmetic.multiply_by_rows.Goals as goal

pub bits-init : goal.bits-init
bits-init c = product-start c.args.gates.now c.args.a.now c.args.b.now c.in_ok-product.product c.in_ok-product.ensures

pub bits-preserved : goal.bits-preserved
bits-preserved c = product-more c.args.gates.now c.bits.gates _ c.args.a.now c.args.b.now c.bits.product c.as_slice.result.now _ c.bits.index c.index-b-index.result c.requires.width c.bits-test.true c.index-b-index.is c.bits.invariant c.as_slice.ensures c.in_ok-product-2.ensures

pub returns : goal.returns
returns c = product-whole c.args.gates.now c.bits.gates c.args.a.now c.args.b.now c.bits.product c.bits.index c.requires.width c.bits-test.false c.bits.invariant
