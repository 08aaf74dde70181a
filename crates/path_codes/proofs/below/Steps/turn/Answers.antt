use Rattle.term_bank.proofs.BankLemmas.{grows_on}
use Rattle.path_codes.proofs.Sequences.{turns_to}
use Rattle.path_codes.proofs.below.Steps.turn.Goals as goal
use Rattle.path_forms.proofs.Started.{stays_on}

pub part-requires-clause-ready : goal.part-requires-clause-ready
part-requires-clause-ready g c =
    stays_on c.requires.ready c.in_ok-over.ensures.grows

pub part-requires-clause-states : goal.part-requires-clause-states
part-requires-clause-states g c =
    rw c.as_slice.ensures c.in_ok-over.ensures.on

pub maybe_expression-requires-clause-ready : goal.maybe_expression-requires-clause-ready
maybe_expression-requires-clause-ready g c =
    stays_on (stays_on c.requires.ready c.in_ok-over.ensures.grows) c.in_ok-ran.ensures.grows

pub maybe_expression-requires-clause-states : goal.maybe_expression-requires-clause-states
maybe_expression-requires-clause-states g c =
    rw c.as_slice-3.ensures ((rw c.as_slice-2.ensures at c.in_ok-there.ensures) c.args.self.now.room _ c.in_ok-ran.ensures.states).states

pub returns : goal.returns
returns g c =
    let ran = rw c.as_slice.ensures at c.in_ok-ran.ensures in
    let there = (rw c.as_slice-2.ensures at c.in_ok-there.ensures) c.args.self.now.room _ c.in_ok-ran.ensures.states in
    let stepped = rw c.as_slice-3.ensures at c.in_ok-stepped.ensures in
    turns_to (g.C.Calls.around c.args.self.now.scene.now) c.args.frame.now c.args.self.now.room c.args.at c.args.test.now c.args.body.now c.args.step.now c.args.bank.now _ _ _ c.args.states.now _ c.args.place c.in_ok-over.field-0
    c.in_ok-ran.field-0 c.in_ok-stepped.field-0 c.in_ok-over.ensures ran there stepped
