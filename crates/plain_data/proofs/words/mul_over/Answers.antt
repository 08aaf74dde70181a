use Rattle.std.proofs.Common.{ap, ◌∙◌, not, ◌*ℤ◌}
use Rattle.plain_data.specs.Words.{is_signed}
use Rattle.plain_data.proofs.Signed.{product_passed}
use Rattle.plain_data.proofs.words.mul_over.Goals as goal

pub returns : goal.returns
returns c =
    ap not (c.fits.ensures
    ∙ product_passed (is_signed c.args.width) c.to_signed.result c.to_signed-2.result _ _ (record { sfits = c.to_signed.type_inv }) (record { sfits = c.to_signed-2.type_inv }) c.from.ensures c.from-2.ensures
    ∙ (λ i. is_signed c.args.width (c.to_signed.ensures i *ℤ c.to_signed-2.ensures i)))
