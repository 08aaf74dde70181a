use Rattle.core_tree.specs.Numbers.{turned}
use Rattle.path_states.proofs.Growth.{state_grown}
use Rattle.path_steps.proofs.Trials.{answer_by_one}
use Rattle.path_steps.proofs.steps.turn_step.Goals as goal

pub answer-requires-clause-state : goal.answer-requires-clause-state
answer-requires-clause-state c = state_grown c.in_ok-tested.ensures.grows c.pop.new.state c.in_ok-operand.ensures.state

pub returns : goal.returns
returns c =
    λ room. answer_by_one room c.args.bank.now c.pop.new.bank c.turned.new.bank c.answer.new.bank c.args.state c.pop.new.state
    c.in_ok-operand.operand c.in_ok-tested.tested c.args.at c.in_ok-walked.walked (λ z. turned c.args.operator c.args.word z)
    c.in_ok-operand.ensures c.in_ok-tested.ensures c.in_ok-walked.ensures
