use Rattle.std.proofs.Common.{◌≡◌, sym}
use Rattle.term_bank.specs.Shapes.{IsNode}
use Rattle.term_bank.specs.Values.{IsWorth}
use Rattle.term_bank.specs.Bindings.{IsPutIn}
use Rattle.term_bank.specs.declared.sort.Sort.TheVariants.{Word}
use Rattle.term_bank.specs.declared.shape.Shape.TheVariants.{Constant, Parameter}
use Rattle.term_bank.proofs.BindingLemmas.{if_ok, put_no_parameter}
use Rattle.term_bank.proofs.bank.Bank.parameter.Goals as goal

pub returns-in-None-clause-put : goal.returns-in-None-clause-put
returns-in-None-clause-put c = λ f.
    let shapes = c.add.new.self in
    let e = c.add.ensures in
    if_ok (IsNode shapes) (λ n. n.sort ≡ Word c.args.width) (IsWorth shapes (Constant 0 c.args.width)) (IsPutIn shapes c.args.binding.now f (Parameter c.args.number c.args.width)) c.add.result e.node e.sort e.value
    (λ n is s h. put_no_parameter shapes c.args.binding.now f c.args.number c.args.width n (sym c.in-None.ensures.value) is s h)
