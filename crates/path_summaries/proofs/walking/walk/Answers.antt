use Rattle.term_bank.proofs.BankLemmas.{stays, grows_on}
use Rattle.path_states.proofs.Growth.{numbers_grown}
use Rattle.path_forms.proofs.Started.{stays_on}
use Rattle.log_expr.specs.Tours.{tour_of}
use Rattle.path_summaries.proofs.Walked.{walked}
use Rattle.path_summaries.proofs.walking.walk.Goals as goal

pub walk_body-requires-clause-ready : goal.walk_body-requires-clause-ready
walk_body-requires-clause-ready c =
    let enters = rw (c.new-parameters.ensures, c.new-numbers.ensures, c.as_slice.ensures) at c.in_ok-enter.ensures in
    stays_on c.requires.ready (grows_on enters.grows c.in_ok-memory.ensures.grows)

pub walk_body-requires-clause-arguments : goal.walk_body-requires-clause-arguments
walk_body-requires-clause-arguments c =
    let enters = rw (c.new-parameters.ensures, c.new-numbers.ensures, c.as_slice.ensures) at c.in_ok-enter.ensures in
    rw (c.as_slice-2.ensures, enters.behind) (numbers_grown c.in_ok-memory.ensures.grows enters.more enters.numbers)

pub returns : goal.returns
returns c =
    let l = c.args.level.now in
    let t = tour_of l.core.now l.log.now l.bounds.now l.ends.now in
    let enters = rw (c.new-parameters.ensures, c.new-numbers.ensures, c.as_slice.ensures) at c.in_ok-enter.ensures in
    let embodies = rw c.as_slice-2.ensures at c.in_ok-states.ensures in
    walked t _ _ _ _ c.args.function l.left c.args.start l.function.now c.enter.new.types c.enter.new.numbers c.in_ok-memory.memory
    c.in_ok-states.states c.in_ok-room.room _ _ (c.requires.ready _ stays).sound c.requires.function c.requires.key enters
    c.in_ok-memory.ensures c.in_ok-room.ensures embodies c.keeps_bank.ensures c.in_ok-walks.ensures
