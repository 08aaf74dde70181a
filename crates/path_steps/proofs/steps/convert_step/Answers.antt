use Rattle.core_tree.specs.Numbers.{converted_to}
use Rattle.path_steps.proofs.Trials.{found_by_one}
use Rattle.path_steps.proofs.steps.convert_step.Goals as goal

pub returns : goal.returns
returns c =
    λ room. rw c.in_ok-walked.ensures
    (found_by_one room c.args.bank.now c.pop.new.bank c.converted.new.bank c.args.state c.pop.new.state c.in_ok-operand.operand
    c.in_ok-number.number (λ z. converted_to c.args.to z) c.in_ok-operand.ensures c.in_ok-number.ensures)
