use Rattle.term_bank.proofs.BankLemmas.{grows_on}
use Rattle.c_means.specs.Values.{address}
use Rattle.path_states.specs.States.{number_in}
use Rattle.path_states.proofs.Growth.{state_grown}
use Rattle.path_calls.proofs.HeapCalls.{heap_within, malloc_calls}
use Rattle.path_calls.proofs.heap.malloc.Goals as goal

pub allocate-requires-clause-state : goal.allocate-requires-clause-state
allocate-requires-clause-state c =
    state_grown (grows_on c.in_ok-count.ensures.grows c.in_ok-request.ensures.grows) c.begin.new.state c.in_ok-arguments.ensures.state

pub returns : goal.returns
returns c =
    let begins = rw c.in_ok-now.ensures at c.in_ok-arguments.ensures in
    let b = c.args.bounds.now in
    malloc_calls b c.args.room c.args.bank.now c.begin.new.bank c.argument.new.bank c.request_bytes.new.bank c.allocate.new.bank c.args.state.now
    c.begin.new.state c.args.site c.in_ok-arguments.arguments c.in_ok-count.count c.in_ok-request.request c.in_ok-walked.walked begins
    c.in_ok-count.ensures c.in_ok-request.ensures
    (c.in_ok-walked.ensures c.argument.new.bank b.heap (λ v. address (number_in v c.in_ok-count.count)) (heap_within b) c.in_ok-request.ensures)
