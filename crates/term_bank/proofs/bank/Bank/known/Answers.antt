use Rattle.std.proofs.Common.{sym, subst}
use Rattle.term_bank.specs.declared.shape.Shape.TheVariants.{Constant}
use Rattle.term_bank.specs.Folds.{IsSame}
use Rattle.term_bank.proofs.FoldLemmas.{same_binary, same_conversion}
use Rattle.term_bank.proofs.bank.Bank.known.Goals as goal

pub returns-in_ok-bits-in-Binary : goal.returns-in_ok-bits-in-Binary
returns-in_ok-bits-in-Binary c =
    let s = c.in-Binary in
    subst (λ t. IsSame c.args.self.now t (Constant c.in_ok-bits-in-Binary.bits s.width)) (sym s.is)
    (same_binary c.args.self.now s.operator s.width s.left s.right c.in_ok-a-in-Binary.a c.in_ok-b-in-Binary.b c.in_ok-bits-in-Binary.bits c.in_ok-a-in-Binary.ensures c.in_ok-b-in-Binary.ensures c.in_ok-bits-in-Binary.ensures)

pub returns-in_ok-a-in-Convert : goal.returns-in_ok-a-in-Convert
returns-in_ok-a-in-Convert c =
    let s = c.in-Convert in
    subst (λ t. IsSame c.args.self.now t (Constant c.conversion-bits.result s.to)) (sym s.is)
    (same_conversion c.args.self.now s.extension s.from s.to s.operand c.in_ok-a-in-Convert.a c.conversion-bits.result c.in_ok-a-in-Convert.ensures c.conversion-bits.ensures.value)
