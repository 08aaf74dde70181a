use Rattle.term_bank.proofs.BankLemmas.{grows_on}
use Rattle.path_codes.proofs.Sequences.{rounds_to}
use Rattle.path_codes.proofs.below.Steps.round.Goals as goal
use Rattle.path_forms.proofs.Started.{stays_on}

pub condition-requires-clause-ready : goal.condition-requires-clause-ready
condition-requires-clause-ready g c =
    stays_on c.requires.ready c.in_ok-ran.ensures.grows

pub condition-requires-clause-states : goal.condition-requires-clause-states
condition-requires-clause-states g c =
    rw c.as_slice-2.ensures ((rw c.as_slice.ensures at c.in_ok-there.ensures) c.args.self.now.room _ c.in_ok-ran.ensures.states).states

pub returns : goal.returns
returns g c =
    let there = (rw c.as_slice.ensures at c.in_ok-there.ensures) c.args.self.now.room _ c.in_ok-ran.ensures.states in
    let tested = rw c.as_slice-2.ensures at c.in_ok-tested.ensures in
    rounds_to (g.C.Calls.around c.args.self.now.scene.now) c.args.frame.now c.args.self.now.room c.args.at c.args.body.now c.args.test.now c.args.bank.now _ _ c.args.states.now _ c.args.place c.in_ok-ran.field-0 c.in_ok-tested.tested
    c.in_ok-ran.ensures there tested
