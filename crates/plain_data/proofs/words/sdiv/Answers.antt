use Rattle.std.proofs.Common.{ap, ◌∙◌}
use Rattle.plain_data.specs.Words.{word}
use Rattle.plain_data.proofs.Signed.{quotient_passed}
use Rattle.plain_data.proofs.words.sdiv.Goals as goal

pub returns-clause-value : goal.returns-clause-value
returns-clause-value c =
    c.wrap.ensures.value ∙ ap (word c.args.width) (quotient_passed c.args.width c.args.a c.args.b _ _ _ c.requires.a_in c.requires.b_in c.requires.quotient c.to_signed.ensures c.to_signed-2.ensures c.from.ensures)
