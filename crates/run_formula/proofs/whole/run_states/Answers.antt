use Rattle.std.proofs.Common.{rules}
use Rattle.path_states.proofs.Growth.{states_grown}
use Rattle.log_expr.specs.Tours.{tour_of}
use Rattle.run_formula.proofs.Runs.{runs_all}
use Rattle.run_formula.proofs.whole.run_states.Goals as goal

pub enter_all-requires-clause-ends : goal.enter_all-requires-clause-ends
enter_all-requires-clause-ends c =
    let a = c.args in
    let t = tour_of a.core.now a.log.now a.bounds.now a.ends.now in
    let readies = c.in_ok-readied.ensures a.ends.now in
    let levels = c.in_ok-levels.ensures in
    states_grown readies.grows c.in-Some.summary.now.states
    (c.in-Some.ensures t c.summarize.new.bank levels.levelled.stand).states

pub enter_all-requires-clause-states : goal.enter_all-requires-clause-states
enter_all-requires-clause-states c =
    let readies = c.in_ok-readied.ensures c.args.ends.now in
    rw c.as_slice-in-Some-2.ensures readies.states

pub returns-clause-runs : goal.returns-clause-runs
returns-clause-runs c =
    let a = c.args in
    let t = tour_of a.core.now a.log.now a.bounds.now a.ends.now in
    let levels = c.in_ok-levels.ensures in
    let room = rw c.as_slice.ensures at c.in_ok-place.ensures in
    let takes = rw c.as_slice-in-Some.ensures at (c.takes_given.ensures (search rules)) in
    let enters = rw c.as_slice-in-Some-2.ensures at c.in_ok-states-in-Some.ensures in
    runs_all t _ _ _ _ c.in_ok-levels.levels c.in_ok-place.place c.in-Some.summary.now c.in_ok-readied.readied c.in_ok-states-in-Some.states
    _ _ a.bounds.now.depth_in_range.0 a.bounds.now.arguments_in_range levels room (c.in_ok-readied.ensures a.ends.now)
    (c.in-Some.ensures t c.summarize.new.bank levels.levelled.stand) takes enters
