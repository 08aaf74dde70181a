use Rattle.path_states.proofs.Growth.{state_grown, states_grown}
use Rattle.term_bank.proofs.BankLemmas.{grows_on}
use Rattle.summary_compose.proofs.Composed.{binds, composed}
use Rattle.summary_compose.proofs.composing.compose.Goals as goal

pub put_in-requires-clause-states : goal.put_in-requires-clause-states
put_in-requires-clause-states c =
    rw c.as_slice-3.ensures
    (states_grown (grows_on c.in_ok-numbers.ensures.grows (grows_on c.in_ok-pass.ensures.grows c.in_ok-base.ensures.grows))
    c.args.summary.now.states c.requires.ends)

pub put_in-requires-clause-binding : goal.put_in-requires-clause-binding
put_in-requires-clause-binding c =
    let passes = rw (c.as_slice.ensures, c.as_slice-2.ensures, c.new-parameters.ensures) at c.in_ok-pass.ensures in
    binds _ _ _ _ _ c.take_operands.new.state c.args.site.count c.args.summary.now.parameters c.in_ok-numbers.numbers c.pass.new.nodes
    c.in_ok-base.base c.args.site.place c.in_ok-numbers.ensures passes c.in_ok-base.ensures

pub resume-requires-clause-caller : goal.resume-requires-clause-caller
resume-requires-clause-caller c =
    state_grown (grows_on c.in_ok-pass.ensures.grows (grows_on c.in_ok-base.ensures.grows c.in_ok-ends.ensures.grows))
    c.take_operands.new.state c.in_ok-numbers.ensures.state

pub returns : goal.returns
returns c =
    let s = c.args.state.now in
    let passes = rw (c.as_slice.ensures, c.as_slice-2.ensures, c.new-parameters.ensures) at c.in_ok-pass.ensures in
    let takes = rw c.in_ok-caller.ensures at c.in_ok-numbers.ensures in
    let puts = rw c.as_slice-3.ensures at c.in_ok-ends.ensures in
    let resumes = rw c.as_slice-4.ensures at c.in_ok-walked.ensures in
    λ x frame room f answers.
    composed _ _ _ _ _ _ s c.take_operands.new.state c.args.site c.args.summary.now c.in_ok-numbers.numbers c.pass.new.nodes
    c.in_ok-base.base c.in_ok-ends.ends c.in_ok-walked.walked takes passes c.in_ok-base.ensures c.keeps_bank.ensures puts resumes x room f
    answers frame
