use Rattle.std.proofs.Common.{◌∙◌, ◌++◌, ◌∷◌, [], sym}
use Rattle.bitvectors.proofs.FormulaLemmas.{words-more}
use Rattle.bitvectors.proofs.signals.root_bits.Goals as goal

pub roots-preserved : goal.roots-preserved
roots-preserved c = c.in_ok-push.ensures.ok ∙ (λ i. c.roots.invariant i ++ c.bits_of.ensures i ∷ []) ∙ sym (words-more c.args.signals.now c.args.roots.now c.roots.index _ c.roots-test.true)
