use Rattle.term_bank.proofs.BankLemmas.{grows_on}
use Rattle.term_bank.proofs.TermLemmas.{term_grown}
use Rattle.c_means.specs.Values.{address}
use Rattle.path_states.specs.States.{number_in}
use Rattle.path_states.proofs.Growth.{state_grown}
use Rattle.path_steps.proofs.MemoryTrials.{with_memory}
use Rattle.path_calls.proofs.HeapLemmas.{release_tries}
use Rattle.path_calls.proofs.heap.release.Goals as goal

pub can_free-requires-clause-memory : goal.can_free-requires-clause-memory
can_free-requires-clause-memory c = term_grown _ _ _ _ c.in_ok-at.ensures.grows c.requires.state.memory

pub without_object-requires-clause-memory : goal.without_object-requires-clause-memory
without_object-requires-clause-memory c =
    term_grown _ _ _ _ (grows_on c.in_ok-at.ensures.grows (grows_on c.in_ok-allowed.ensures.grows c.in_ok-refused.ensures.grows))
    c.requires.state.memory

pub without_object-requires-clause-at : goal.without_object-requires-clause-at
without_object-requires-clause-at c =
    term_grown _ _ _ c.in_ok-at.at (grows_on c.in_ok-allowed.ensures.grows c.in_ok-refused.ensures.grows) c.in_ok-at.ensures.term

pub settle-requires-clause-state : goal.settle-requires-clause-state
settle-requires-clause-state c =
    state_grown
    (grows_on c.in_ok-at.ensures.grows (grows_on c.in_ok-allowed.ensures.grows
    (grows_on c.in_ok-refused.ensures.grows (grows_on c.in_ok-memory.ensures.grows c.in_ok-number.ensures.grows)))) c.args.state c.requires.state

pub settle-requires-clause-next : goal.settle-requires-clause-next
settle-requires-clause-next c =
    rw (c.in_ok-push.ensures.ok, c.in_ok-next.ensures)
    (with_memory _ c.args.state c.in_ok-number.number c.in_ok-memory.memory
    (state_grown
    (grows_on c.in_ok-at.ensures.grows (grows_on c.in_ok-allowed.ensures.grows
    (grows_on c.in_ok-refused.ensures.grows (grows_on c.in_ok-memory.ensures.grows c.in_ok-number.ensures.grows)))) c.args.state c.requires.state)
    c.in_ok-number.ensures.number (term_grown _ _ _ c.in_ok-memory.memory c.in_ok-number.ensures.grows c.in_ok-memory.ensures.term))

pub settle-requires-clause-first : goal.settle-requires-clause-first
settle-requires-clause-first c = record {
  term =
      term_grown _ _ _ c.in_ok-refused.refused (grows_on c.in_ok-memory.ensures.grows c.in_ok-number.ensures.grows) c.in_ok-refused.ensures.node;
}

pub returns : goal.returns
returns c =
    let settled = rw (c.in_ok-push.ensures.ok, c.in_ok-next.ensures) at c.in_ok-walked.ensures in
    λ room.
    release_tries room c.args.bank.now c.address.new.bank c.can_free.new.bank c.not.new.self c.without_object.new.bank c.constant.new.bank
    c.settle.new.bank c.args.state c.args.site (λ v. address (number_in v c.args.pointer)) c.in_ok-at.at c.in_ok-allowed.allowed
    c.in_ok-refused.refused c.in_ok-memory.memory c.in_ok-number.number c.in_ok-walked.walked c.in_ok-at.ensures c.in_ok-allowed.ensures
    c.in_ok-refused.ensures c.in_ok-memory.ensures c.in_ok-number.ensures settled
