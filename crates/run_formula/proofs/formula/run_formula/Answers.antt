use Rattle.term_bank.proofs.BankLemmas.{grows_on}
use Rattle.path_states.proofs.Growth.{states_grown}
use Rattle.log_expr.specs.Tours.{tour_of}
use Rattle.run_formula.proofs.Laws.{formula_is}
use Rattle.run_formula.proofs.formula.run_formula.Goals as goal

pub ask-requires-2 : goal.ask-requires-2
ask-requires-2 c =
    rw c.as_slice-2.ensures (states_grown c.in_ok-fits.ensures.grows c.in_ok-states.states c.in_ok-states.ensures.runs.states)

pub events_under-requires : goal.events_under-requires
events_under-requires c =
    rw c.as_slice-3.ensures
    (states_grown (grows_on c.in_ok-fits.ensures.grows c.in_ok-left.ensures.grows) c.in_ok-states.states c.in_ok-states.ensures.runs.states)

pub ask_all-requires : goal.ask_all-requires
ask_all-requires c =
    rw c.as_slice-5.ensures
    (states_grown (grows_on c.in_ok-fits.ensures.grows c.in_ok-left.ensures.grows) c.in_ok-states.states c.in_ok-states.ensures.runs.states)

pub returns-clause-formula : goal.returns-clause-formula
returns-clause-formula c =
    let a = c.args in
    let t = tour_of a.core.now a.log.now a.bounds.now a.ends.now in
    let runs = rw c.bytes.ensures.value at c.in_ok-states.ensures.runs in
    let fits = rw c.as_slice.ensures at c.in_ok-fits.ensures in
    let left = rw c.as_slice-2.ensures at c.in_ok-left.ensures in
    let asked = rw c.as_slice-5.ensures at c.in_ok-facts.ensures in
    formula_is t _ _ _ _ _ c.in_ok-states.states c.in_ok-fits.fits c.in_ok-left.left a.facts.now c.in_ok-facts.facts c.in_ok-watches.watches
    c.in_ok-log.log runs fits left asked c.in_ok-log.ensures

pub returns-clause-ends : goal.returns-clause-ends
returns-clause-ends c =
    states_grown
    (grows_on c.in_ok-fits.ensures.grows (grows_on c.in_ok-left.ensures.grows c.in_ok-facts.ensures.grows)) c.in_ok-states.states
    c.in_ok-states.ensures.runs.states
