use Rattle.std.proofs.Common.{◌∙◌}
use Rattle.summary_compose.proofs.Passed.{passes_one}
use Rattle.summary_compose.proofs.arguments.pass_one.Goals as goal

pub returns : goal.returns
returns c =
    passes_one c.args.bank.now _ c.args.parameter c.args.number c.in_ok-number.number (c.are_same.ensures c.if-not-are_same.false ∙ c.word_type_of.ensures)
    c.in_ok-number.ensures
