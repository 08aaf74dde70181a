use Rattle.c_language.specs.Integers.{is_zero, number_of}
use Rattle.path_steps.proofs.Trials.{found_by_one, numbered_zero}
use Rattle.path_steps.proofs.steps.not_step.Goals as goal

pub returns : goal.returns
returns c =
    λ room. rw c.in_ok-walked.ensures
    (found_by_one room c.args.bank.now c.pop.new.bank c.flag.new.bank c.args.state c.pop.new.state c.in_ok-operand.operand
    c.in_ok-number.number (λ z. number_of (is_zero z)) c.in_ok-operand.ensures
    (numbered_zero c.pop.new.bank c.truth.new.bank c.not.new.self c.flag.new.bank c.in_ok-operand.operand c.in_ok-number.number c.in_ok-truth.truth
    c.in_ok-zero.zero c.in_ok-truth.ensures c.in_ok-zero.ensures c.in_ok-number.ensures))
