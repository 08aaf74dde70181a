use Rattle.std.proofs.Common.{[]}
use Rattle.term_bank.proofs.BankLemmas.{grows_on}
use Rattle.path_codes.proofs.Statements.{walks_lived}
use Rattle.path_codes.proofs.below.Steps.lived.Goals as goal
use Rattle.path_forms.proofs.Started.{stays_on}

pub sequence-requires-clause-ready : goal.sequence-requires-clause-ready
sequence-requires-clause-ready g c =
    let born = rw c.as_slice-3.ensures at c.in_ok-born.ensures in
    let fit = rw c.as_slice.ensures at c.in_ok-check_fit.ensures in
    stays_on c.requires.ready (born c.args.self.now.room [] fit).grows

pub sequence-requires-clause-states : goal.sequence-requires-clause-states
sequence-requires-clause-states g c =
    let born = rw c.as_slice-3.ensures at c.in_ok-born.ensures in
    let fit = rw c.as_slice.ensures at c.in_ok-check_fit.ensures in
    rw c.as_slice-5.ensures (born c.args.self.now.room [] fit).states

pub bury-requires : goal.bury-requires
bury-requires g c =
    rw c.as_slice-7.ensures c.in_ok-ran.ensures.states

pub returns : goal.returns
returns g c =
    let gives = rw c.new-objects.ensures at c.in_ok-add_objects.ensures in
    let fit = rw c.as_slice.ensures at c.in_ok-check_fit.ensures in
    let inner = rw c.as_slice-2.ensures at c.in_ok-inner.ensures in
    let born = rw c.as_slice-3.ensures at c.in_ok-born.ensures in
    let ran = rw (c.as_slice-4.ensures, c.as_slice-5.ensures) at c.in_ok-ran.ensures in
    let dead = rw (c.as_slice-6.ensures, c.as_slice-7.ensures) at c.in_ok-dead.ensures in
    walks_lived (g.C.Calls.around c.args.self.now.scene.now) c.args.frame.now c.args.self.now.room c.args.items.now _ _ c.args.bank.now _ _ _ c.args.states.now _ _ c.args.place c.in_ok-ran.field-0 gives fit inner born ran dead
