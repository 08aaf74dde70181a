use Rattle.std.proofs.Common.{rules}
use Rattle.c_means.specs.Units.{limits_of}
use Rattle.term_bank.proofs.BankLemmas.{grows_on}
use Rattle.term_bank.proofs.TermLemmas.{term_grown}
use Rattle.path_states.proofs.Growth.{states_grown}
use Rattle.run_formula.proofs.Entered.{enters_running}
use Rattle.run_formula.proofs.entering.enter_one.Goals as goal

pub give-requires : goal.give-requires
give-requires c = c.requires.state.memory

pub put_in-requires-clause-states : goal.put_in-requires-clause-states
put_in-requires-clause-states c =
    rw c.as_slice.ensures (states_grown c.in_ok-binding.ensures.grows c.args.summary.now.states c.requires.ends)

pub put_in-requires-clause-binding : goal.put_in-requires-clause-binding
put_in-requires-clause-binding c = c.in_ok-binding.ensures.stands

pub under_guard-requires-clause-guard : goal.under_guard-requires-clause-guard
under_guard-requires-clause-guard c =
    term_grown _ _ _ c.args.state.now.guard (grows_on c.in_ok-binding.ensures.grows c.in_ok-ends.ensures.grows) c.requires.state.guard

pub under_guard-requires-clause-states : goal.under_guard-requires-clause-states
under_guard-requires-clause-states c = rw c.as_slice-2.ensures c.in_ok-ends.ensures.states

pub returns : goal.returns
returns c =
    let a = c.args in
    let puts = rw c.as_slice.ensures at c.in_ok-ends.ensures in
    let guards = rw c.as_slice-2.ensures at c.in_ok-all-2.ensures in
    enters_running a.core.now.has_arguments (limits_of a.bounds.now) _ a.summary.now a.place _ _ _ c.in_ok-binding.binding a.state.now
    c.in_ok-ends.ends c.in_ok-all-2.all (search rules) (search rules) c.in_ok-binding.ensures puts guards
