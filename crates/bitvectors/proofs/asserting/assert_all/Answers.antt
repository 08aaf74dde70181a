use Rattle.std.proofs.Common.{◌++◌, ◌∙◌, ap, sym, append-nil, take_all}
use Rattle.bitvectors.specs.Blasts.{all_asserted}
use Rattle.bitvectors.proofs.FormulaLemmas.{asserted-more}
use Rattle.bitvectors.proofs.asserting.assert_all.Goals as goal

pub bits-init : goal.bits-init
bits-init c = sym (append-nil c.args.formula.now)

pub bits-preserved : goal.bits-preserved
bits-preserved c = asserted-more c.args.formula.now c.bits.formula _ c.args.bits.now c.bits.index c.index-bits-index.result c.bits-test.true c.index-bits-index.is c.bits.invariant c.in_ok-assert_bit.ensures

pub returns : goal.returns
returns c = c.bits.invariant ∙ ap (λ bs. c.args.formula.now ++ all_asserted bs) (take_all c.bits.index c.args.bits.now c.bits-test.false)
