use Rattle.core_tree.specs.Memory.{operated}
use Rattle.term_bank.proofs.BankLemmas.{grows_on}
use Rattle.path_states.proofs.Growth.{state_grown, number_grown}
use Rattle.path_steps.proofs.Trials.{with_operand}
use Rattle.path_steps.proofs.OperatorLemmas.{operator_keeps, operated_by_two}
use Rattle.path_steps.proofs.steps.operate_step.Goals as goal

pub operate-requires-clause-memory : goal.operate-requires-clause-memory
operate-requires-clause-memory c = c.in_ok-left.ensures.state.memory

pub operate-requires-clause-right : goal.operate-requires-clause-right
operate-requires-clause-right c = number_grown c.in_ok-left.ensures.grows c.in_ok-right.right c.in_ok-right.ensures.number

pub settle-requires-clause-state : goal.settle-requires-clause-state
settle-requires-clause-state c = state_grown c.in_ok-operated.ensures.grows c.pop-2.new.state c.in_ok-left.ensures.state

pub settle-requires-clause-next : goal.settle-requires-clause-next
settle-requires-clause-next c =
    rw (c.in_ok-push.ensures.ok, c.in_ok-next.ensures)
    (with_operand _ c.pop-2.new.state c.pop-2.new.state.operands c.in_ok-operated.operated.number
    (state_grown c.in_ok-operated.ensures.grows c.pop-2.new.state c.in_ok-left.ensures.state) c.in_ok-operated.ensures.number)

pub returns : goal.returns
returns c =
    let settled = rw (c.in_ok-push.ensures.ok, c.in_ok-next.ensures) at c.in_ok-walked.ensures in
    λ room. operated_by_two room c.args.bank.now c.pop.new.bank c.pop-2.new.bank c.operate.new.bank c.settle.new.bank c.args.state c.pop.new.state
    c.pop-2.new.state c.in_ok-right.right c.in_ok-left.left c.in_ok-operated.operated c.in_ok-walked.walked
    (λ x y d. operated c.args.at c.args.operator x y d) (operator_keeps c.args.at c.args.operator) c.in_ok-right.ensures c.in_ok-left.ensures
    c.in_ok-operated.ensures settled
