use Rattle.term_bank.proofs.BankLemmas.{grows_on}
use Rattle.path_states.proofs.Growth.{states_grown}
use Rattle.path_codes.proofs.Cases.{walks_switch}
use Rattle.path_codes.proofs.below.Steps.switch_statement.Goals as goal
use Rattle.path_forms.proofs.Started.{stays_on}

pub select_all-requires : goal.select_all-requires
select_all-requires g c = rw c.as_slice.ensures c.in_ok-over.ensures.on

pub lived-requires-clause-ready : goal.lived-requires-clause-ready
lived-requires-clause-ready g c = stays_on (stays_on c.requires.ready c.in_ok-over.ensures.grows) c.in_ok-looking.ensures.grows

pub lived-requires-clause-states : goal.lived-requires-clause-states
lived-requires-clause-states g c = rw c.as_slice-2.ensures c.in_ok-looking.ensures.states

pub rejoin-requires-clause-first : goal.rejoin-requires-clause-first
rejoin-requires-clause-first g c =
    states_grown (grows_on c.in_ok-looking.ensures.grows c.in_ok-ran.ensures.grows) c.in_ok-over.field-0.over c.in_ok-over.ensures.over

pub rejoin-requires-clause-second : goal.rejoin-requires-clause-second
rejoin-requires-clause-second g c = ((rw c.as_slice-3.ensures at c.in_ok-there.ensures) c.args.self.now.room _ c.in_ok-ran.ensures.states).states

pub returns : goal.returns
returns g c =
    let looking = rw c.as_slice.ensures at c.in_ok-looking.ensures in
    let ran = rw c.as_slice-2.ensures at c.in_ok-ran.ensures in
    let there = (rw c.as_slice-3.ensures at c.in_ok-there.ensures) c.args.self.now.room _ ran.states in
    λ is_node.
    walks_switch (g.C.Calls.around c.args.self.now.scene.now) c.args.frame.now c.args.self.now.room c.args.at c.args.word c.args.cases.now c.args.e.now c.args.items.now is_node c.args.bank.now _ _ _ _ c.args.states.now _ _ _ c.args.place
    c.in_ok-over.field-0 c.in_ok-ran.field-0 c.in_ok-over.ensures looking ran there (c.in_ok-all.ensures c.args.self.now.room)
