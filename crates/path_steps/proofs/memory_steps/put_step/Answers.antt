use Rattle.term_bank.proofs.BankLemmas.{grows_on}
use Rattle.term_bank.proofs.TermLemmas.{term_grown}
use Rattle.path_states.proofs.Growth.{state_grown, number_grown}
use Rattle.path_steps.proofs.Exiting.{exit_grown}
use Rattle.path_steps.proofs.MemoryTrials.{put_tries, with_memory}
use Rattle.path_steps.proofs.memory_steps.put_step.Goals as goal

pub access_exit-requires-clause-memory : goal.access_exit-requires-clause-memory
access_exit-requires-clause-memory c = term_grown _ _ _ _ c.in_ok-address.ensures.grows c.in_ok-operand.ensures.state.memory

pub literal_exit-requires-clause-memory : goal.literal_exit-requires-clause-memory
literal_exit-requires-clause-memory c =
    term_grown _ _ _ _ (grows_on c.in_ok-address.ensures.grows c.in_ok-exit.ensures.grows) c.in_ok-operand.ensures.state.memory

pub literal_exit-requires-clause-address : goal.literal_exit-requires-clause-address
literal_exit-requires-clause-address c = term_grown _ _ _ c.in_ok-address.address c.in_ok-exit.ensures.grows c.in_ok-address.ensures.term

pub converted-requires : goal.converted-requires
converted-requires c =
    number_grown
    (grows_on c.in_ok-operand.ensures.grows (grows_on c.in_ok-address.ensures.grows (grows_on c.in_ok-exit.ensures.grows c.in_ok-literal.ensures.grows)))
    c.in_ok-value.value c.in_ok-value.ensures.number

pub write-requires-clause-memory : goal.write-requires-clause-memory
write-requires-clause-memory c =
    term_grown _ _ _ _
    (grows_on c.in_ok-address.ensures.grows (grows_on c.in_ok-exit.ensures.grows (grows_on c.in_ok-literal.ensures.grows
    (grows_on c.in_ok-number.ensures.grows c.in_ok-word.ensures.grows))))
    c.in_ok-operand.ensures.state.memory

pub write-requires-clause-address : goal.write-requires-clause-address
write-requires-clause-address c =
    term_grown _ _ _ c.in_ok-address.address
    (grows_on c.in_ok-exit.ensures.grows (grows_on c.in_ok-literal.ensures.grows (grows_on c.in_ok-number.ensures.grows c.in_ok-word.ensures.grows)))
    c.in_ok-address.ensures.term

pub settle-requires-clause-state : goal.settle-requires-clause-state
settle-requires-clause-state c =
    state_grown
    (grows_on c.in_ok-address.ensures.grows (grows_on c.in_ok-exit.ensures.grows (grows_on c.in_ok-literal.ensures.grows
    (grows_on c.in_ok-number.ensures.grows (grows_on c.in_ok-word.ensures.grows c.in_ok-memory.ensures.grows)))))
    c.pop-2.new.state c.in_ok-operand.ensures.state

pub settle-requires-clause-next : goal.settle-requires-clause-next
settle-requires-clause-next c =
    rw (c.in_ok-push.ensures.ok, c.in_ok-next.ensures)
    (with_memory _ c.pop-2.new.state c.in_ok-number.number c.in_ok-memory.memory
    (state_grown
    (grows_on c.in_ok-address.ensures.grows (grows_on c.in_ok-exit.ensures.grows (grows_on c.in_ok-literal.ensures.grows
    (grows_on c.in_ok-number.ensures.grows (grows_on c.in_ok-word.ensures.grows c.in_ok-memory.ensures.grows)))))
    c.pop-2.new.state c.in_ok-operand.ensures.state)
    (number_grown (grows_on c.in_ok-word.ensures.grows c.in_ok-memory.ensures.grows) c.in_ok-number.number c.in_ok-number.ensures.number)
    c.in_ok-memory.ensures.node)

pub settle-requires-clause-first : goal.settle-requires-clause-first
settle-requires-clause-first c =
    exit_grown
    (grows_on c.in_ok-literal.ensures.grows (grows_on c.in_ok-number.ensures.grows (grows_on c.in_ok-word.ensures.grows c.in_ok-memory.ensures.grows)))
    c.in_ok-exit.exit c.in_ok-exit.ensures.exit

pub settle-requires-clause-second : goal.settle-requires-clause-second
settle-requires-clause-second c =
    exit_grown (grows_on c.in_ok-number.ensures.grows (grows_on c.in_ok-word.ensures.grows c.in_ok-memory.ensures.grows)) c.in_ok-literal.literal
    c.in_ok-literal.ensures.exit

pub returns : goal.returns
returns c =
    let guarded = rw c.stored_width-width.ensures at c.in_ok-exit.ensures in
    let literal = rw c.stored_width-width.ensures at c.in_ok-literal.ensures in
    let spelt = rw c.stored_width-width.ensures at c.in_ok-word.ensures in
    let written = rw c.stored_width-width.ensures at c.in_ok-memory.ensures in
    let settled = rw (c.in_ok-push.ensures.ok, c.in_ok-next.ensures) at c.in_ok-walked.ensures in
    λ room. put_tries room c.args.bank.now c.pop.new.bank c.pop-2.new.bank c.natural.new.bank c.access_exit.new.bank c.literal_exit.new.bank
    c.converted.new.bank c.in_width.new.bank c.write.new.bank c.settle.new.bank c.args.at c.args.state c.pop.new.state c.pop-2.new.state
    c.in_ok-value.value c.in_ok-operand.operand c.in_ok-address.address c.args.access c.in_ok-exit.exit c.in_ok-literal.literal
    c.in_ok-number.number c.in_ok-word.word c.in_ok-memory.memory c.in_ok-walked.walked c.requires.scalar c.in_ok-value.ensures
    c.in_ok-operand.ensures c.in_ok-address.ensures guarded literal c.in_ok-number.ensures spelt written settled
