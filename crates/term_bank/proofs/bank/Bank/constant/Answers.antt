use Rattle.std.proofs.Common.{◌∙◌, Some, ap, sym}
use Rattle.term_bank.proofs.FoldLemmas.{constant_found}
use Rattle.term_bank.proofs.bank.Bank.constant.Goals as goal

pub returns-in-Some-Constant : goal.returns-in-Some-Constant
returns-in-Some-Constant c = constant_found c.args.self.now c.args.index c.args.width c.in-Some-Constant.field-0-1 c.in-Some-Constant.bits c.in-Some-Constant.ensures.bank c.requires (sym c.in-Some-Constant.ensures.shape ∙ ap (λ t. Some t) c.in-Some-Constant.field-0-is)
