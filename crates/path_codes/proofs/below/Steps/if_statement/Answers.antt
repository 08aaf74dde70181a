use Rattle.path_states.proofs.Growth.{states_grown, states_joined}
use Rattle.term_bank.proofs.BankLemmas.{grows_on}
use Rattle.path_codes.proofs.Statements.{walks_if}
use Rattle.path_codes.proofs.below.Steps.if_statement.Goals as goal
use Rattle.path_forms.proofs.Started.{stays_on}

pub part-requires : goal.part-requires
part-requires g c =
    rw c.as_slice.ensures c.in_ok-over.ensures.on

pub part-requires-2-clause-ready : goal.part-requires-2-clause-ready
part-requires-2-clause-ready g c =
    stays_on (stays_on c.requires.ready c.in_ok-over.ensures.grows) c.in_ok-yes.ensures.grows

pub part-requires-2-clause-states : goal.part-requires-2-clause-states
part-requires-2-clause-states g c =
    rw c.as_slice-2.ensures c.in_ok-yes.ensures.yes_states

pub part-requires-3-clause-ready : goal.part-requires-3-clause-ready
part-requires-3-clause-ready g c =
    stays_on (stays_on (stays_on c.requires.ready c.in_ok-over.ensures.grows) c.in_ok-yes.ensures.grows) c.in_ok-first.ensures.grows

pub part-requires-3-clause-states : goal.part-requires-3-clause-states
part-requires-3-clause-states g c =
    rw c.as_slice-3.ensures (states_grown c.in_ok-first.ensures.grows c.in_ok-yes.field-0.no c.in_ok-yes.ensures.no_states)

pub rejoin-requires-clause-first : goal.rejoin-requires-clause-first
rejoin-requires-clause-first g c =
    states_grown (grows_on c.in_ok-yes.ensures.grows (grows_on c.in_ok-first.ensures.grows c.in_ok-second.ensures.grows)) c.in_ok-over.field-0.over c.in_ok-over.ensures.over

pub rejoin-requires-clause-second : goal.rejoin-requires-clause-second
rejoin-requires-clause-second g c =
    rw c.in_ok-append.ensures.ok (states_joined _ c.in_ok-first.field-0.states c.in_ok-second.field-0.states
    (states_grown c.in_ok-second.ensures.grows c.in_ok-first.field-0.states c.in_ok-first.ensures.states) c.in_ok-second.ensures.states)

pub returns : goal.returns
returns g c =
    let parted = rw c.as_slice.ensures at c.in_ok-yes.ensures in
    let first = rw c.as_slice-2.ensures at c.in_ok-first.ensures in
    let second = rw c.as_slice-3.ensures at c.in_ok-second.ensures in
    let all = (rw c.in_ok-append.ensures.ok at c.in_ok-all.ensures) c.args.self.now.room in
    walks_if (g.C.Calls.around c.args.self.now.scene.now) c.args.frame.now c.args.self.now.room c.args.at c.args.condition.now c.args.positive.now c.args.negative.now c.args.bank.now _ _ _ _ _ c.args.states.now _ c.args.place
    c.in_ok-over.field-0 c.in_ok-yes.field-0 c.in_ok-first.field-0 c.in_ok-second.field-0 c.in_ok-over.ensures parted first second all
