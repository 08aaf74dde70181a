use Rattle.term_bank.proofs.BankLemmas.{grows_on}
use Rattle.term_bank.proofs.TermLemmas.{term_grown}
use Rattle.path_states.proofs.Growth.{state_grown}
use Rattle.path_steps.proofs.Exiting.{exit_grown}
use Rattle.path_steps.proofs.Trials.{with_operand}
use Rattle.path_steps.proofs.MemoryTrials.{load_tries}
use Rattle.path_steps.proofs.memory_steps.load_step.Goals as goal

pub access_exit-requires-clause-memory : goal.access_exit-requires-clause-memory
access_exit-requires-clause-memory c = term_grown _ _ _ _ c.in_ok-address.ensures.grows c.in_ok-operand.ensures.state.memory

pub read-requires-clause-memory : goal.read-requires-clause-memory
read-requires-clause-memory c =
    term_grown _ _ _ _ (grows_on c.in_ok-address.ensures.grows c.in_ok-exit.ensures.grows) c.in_ok-operand.ensures.state.memory

pub read-requires-clause-address : goal.read-requires-clause-address
read-requires-clause-address c = term_grown _ _ _ c.in_ok-address.address c.in_ok-exit.ensures.grows c.in_ok-address.ensures.term

pub settle-requires-clause-state : goal.settle-requires-clause-state
settle-requires-clause-state c =
    state_grown
    (grows_on c.in_ok-address.ensures.grows (grows_on c.in_ok-exit.ensures.grows (grows_on c.in_ok-node.ensures.grows c.in_ok-number.ensures.grows)))
    c.pop.new.state c.in_ok-operand.ensures.state

pub settle-requires-clause-next : goal.settle-requires-clause-next
settle-requires-clause-next c =
    rw (c.in_ok-push.ensures.ok, c.in_ok-next.ensures)
    (with_operand _ c.pop.new.state c.pop.new.state.operands c.in_ok-number.number
    (state_grown
    (grows_on c.in_ok-address.ensures.grows (grows_on c.in_ok-exit.ensures.grows (grows_on c.in_ok-node.ensures.grows c.in_ok-number.ensures.grows)))
    c.pop.new.state c.in_ok-operand.ensures.state) c.in_ok-number.ensures.number)

pub settle-requires-clause-first : goal.settle-requires-clause-first
settle-requires-clause-first c =
    exit_grown (grows_on c.in_ok-node.ensures.grows c.in_ok-number.ensures.grows) c.in_ok-exit.exit c.in_ok-exit.ensures.exit

pub returns : goal.returns
returns c =
    let guarded = rw c.stored_width-width.ensures at c.in_ok-exit.ensures in
    let was_read = rw c.stored_width-width.ensures at c.in_ok-node.ensures in
    let settled = rw (c.in_ok-push.ensures.ok, c.in_ok-next.ensures) at c.in_ok-walked.ensures in
    λ room. load_tries room c.args.bank.now c.pop.new.bank c.natural.new.bank c.access_exit.new.bank c.read.new.bank c.spelled.new.bank
    c.settle.new.bank c.args.state c.pop.new.state c.in_ok-operand.operand c.in_ok-address.address c.args.access c.in_ok-exit.exit
    c.in_ok-node.node c.in_ok-number.number c.in_ok-walked.walked c.requires.scalar c.in_ok-operand.ensures c.in_ok-address.ensures guarded was_read
    c.in_ok-number.ensures settled
