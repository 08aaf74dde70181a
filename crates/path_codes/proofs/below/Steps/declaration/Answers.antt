use Rattle.term_bank.proofs.BankLemmas.{grows_on}
use Rattle.path_codes.proofs.Zeroed.{walks_declared}
use Rattle.path_codes.proofs.below.Steps.declaration.Goals as goal
use Rattle.path_forms.proofs.Started.{stays_on}

pub set_all-requires-clause-ready : goal.set_all-requires-clause-ready
set_all-requires-clause-ready g c = stays_on c.requires.ready c.in_ok-zeroed.ensures.grows

pub set_all-requires-clause-states : goal.set_all-requires-clause-states
set_all-requires-clause-states g c = rw c.as_slice.ensures c.in_ok-zeroed.ensures.states

pub returns : goal.returns
returns g c =
    let set = rw c.as_slice.ensures at c.in_ok-set.ensures in
    walks_declared (g.C.Calls.around c.args.self.now.scene.now) c.args.frame.now c.args.self.now.room c.in-Some.object c.args.at c.args.size c.args.is_zeroed c.args.settings.now c.args.bank.now _ _ c.args.states.now _ c.args.place c.in_ok-first.first
    c.in_ok-set.set c.in-Some.ensures c.in_ok-first.ensures c.in_ok-zeroed.ensures set
