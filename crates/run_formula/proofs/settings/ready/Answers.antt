use Rattle.std.proofs.Common.{[]}
use Rattle.term_bank.proofs.BankLemmas.{grows_on}
use Rattle.term_bank.proofs.TermLemmas.{term_grown}
use Rattle.path_states.proofs.Growth.{states_grown}
use Rattle.run_formula.proofs.Readied.{binds_whole, ready_is}
use Rattle.run_formula.proofs.settings.ready.Goals as goal

pub set_all-requires : goal.set_all-requires
set_all-requires c = rw c.as_slice-2.ensures (c.in_ok-first.ensures []).states

pub put_in-requires-clause-states : goal.put_in-requires-clause-states
put_in-requires-clause-states c =
    rw c.as_slice-4.ensures
    (states_grown (grows_on c.in_ok-memory.ensures.grows c.in_ok-base.ensures.grows) c.in_ok-set.set c.in_ok-set.ensures.states)

pub put_in-requires-clause-binding : goal.put_in-requires-clause-binding
put_in-requires-clause-binding c =
    rw c.new.ensures
    (binds_whole _ c.in_ok-memory.memory c.in_ok-base.base
    (term_grown _ _ _ c.in_ok-memory.memory c.in_ok-base.ensures.grows c.in_ok-memory.ensures.term) c.in_ok-base.ensures.node)

pub returns : goal.returns
returns c =
    let a = c.args in
    let sets = rw (c.as_slice.ensures, c.as_slice-2.ensures) at c.in_ok-set.ensures in
    let begins = rw c.as_slice-3.ensures at c.in_ok-memory.ensures in
    let puts = rw (c.as_slice-4.ensures, c.new.ensures) at c.in_ok-states.ensures in
    λ rows.
    ready_is a.core.now a.log.now a.bounds.now rows _ _ _ _ _ _ c.in_ok-first.first c.in_ok-set.set c.in_ok-states.states
    c.in_ok-memory.memory c.in_ok-base.base (c.in_ok-first.ensures a.log.now) sets begins c.in_ok-base.ensures puts
