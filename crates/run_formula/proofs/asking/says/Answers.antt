use Rattle.run_formula.specs.declared.questions.Question.TheVariants as question
use Rattle.std.proofs.Common.{subst}
use Rattle.run_formula.specs.Questions.{AllTell}
use Rattle.run_formula.proofs.Asked.{flag_told}
use Rattle.run_formula.proofs.asking.says.Goals as goal

pub returns-in_ok-node-in-Left : goal.returns-in_ok-node-in-Left
returns-in_ok-node-in-Left c =
    rw c.in-Left.is
    (flag_told _ _ c.args.log.now question.Left c.args.state.now c.leaves.result c.in_ok-node-in-Left.node c.in_ok-node-in-Left.ensures
    (c.leaves.ensures c.args.log.now))

pub holds_on-requires : goal.holds_on-requires
holds_on-requires c =
    record { told = subst (λ q. AllTell c.args.bank.now c.args.log.now q c.args.told.now) c.in-Holds.is c.requires.told }
