use Rattle.std.proofs.Common.{◌∙◌}
use Rattle.c_declares.proofs.Counts.{domain_by}
use Rattle.c_declares.proofs.words.domain_of.Goals as goal

pub returns : goal.returns
returns c = c.domain_by.ensures ∙ domain_by c.args.words.now c.has_complex.result c.has_imaginary.result
    c.has_complex.ensures c.has_imaginary.ensures
