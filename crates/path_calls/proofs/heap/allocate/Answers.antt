use Rattle.std.proofs.Common.{arith}
use Rattle.term_bank.proofs.BankLemmas.{grows_on}
use Rattle.term_bank.proofs.TermLemmas.{term_grown}
use Rattle.path_states.proofs.Growth.{state_grown}
use Rattle.path_steps.proofs.MemoryTrials.{with_memory}
use Rattle.path_calls.proofs.HeapLemmas.{allocate_tries}
use Rattle.path_calls.proofs.heap.allocate.Goals as goal

pub settle-requires-clause-state : goal.settle-requires-clause-state
settle-requires-clause-state c =
    state_grown (grows_on c.in_ok-object.ensures.grows c.in_ok-number.ensures.grows) c.args.state c.requires.state

pub settle-requires-clause-next : goal.settle-requires-clause-next
settle-requires-clause-next c =
    rw (c.in_ok-push.ensures.ok, c.in_ok-next.ensures)
    (with_memory _ c.args.state c.in_ok-number.number c.in_ok-object.object.memory
    (state_grown (grows_on c.in_ok-object.ensures.grows c.in_ok-number.ensures.grows) c.args.state c.requires.state) c.in_ok-number.ensures.number
    (term_grown _ _ _ c.in_ok-object.object.memory c.in_ok-number.ensures.grows c.in_ok-object.ensures.term))

pub settle-requires-clause-first : goal.settle-requires-clause-first
settle-requires-clause-first c = record {
  term =
      term_grown _ _ _ c.args.request.exceeds (grows_on c.in_ok-object.ensures.grows c.in_ok-number.ensures.grows) c.requires.exceeds;
}

pub returns : goal.returns
returns c =
    let settled = rw (c.in_ok-push.ensures.ok, c.in_ok-next.ensures) at c.in_ok-walked.ensures in
    λ a most n small requests.
    allocate_tries c.args.room most a c.args.bank.now c.allot.new.bank c.converted.new.bank c.settle.new.bank c.args.state c.args.site c.args.request n
    c.args.zeroes c.in_ok-object.object c.in_ok-number.number c.in_ok-walked.walked small
    (omega (arith, c.if-room-lt-PLACES.false, c.if-room-site.false)) requests c.in_ok-object.ensures c.in_ok-number.ensures settled
