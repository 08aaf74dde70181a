use Rattle.std.proofs.Common.{◌∙◌, Some, ap, sym, subst}
use Rattle.term_bank.specs.declared.sort.Sort.TheVariants.{Truth}
use Rattle.term_bank.specs.Folds.{IsSamePart}
use Rattle.term_bank.proofs.FoldLemmas.{part_not}
use Rattle.term_bank.proofs.bank.Bank.same_part.Goals as goal

pub returns-in-Some-Not : goal.returns-in-Some-Not
returns-in-Some-Not c =
    let e = c.in-Some-Not.ensures in
    subst (λ t. IsSamePart c.args.self.now t (record { index = c.in-Some-Not.index; sort = Truth })) (sym c.in-Not.is)
    (part_not c.args.self.now c.in-Not.operand c.in-Some-Not.index e.bank (sym e.shape ∙ ap (λ t. Some t) c.in-Some-Not.field-0-is))
