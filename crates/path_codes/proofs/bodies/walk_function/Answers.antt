use Rattle.std.proofs.Common.{[], ap, length}
use Rattle.term_bank.proofs.BankLemmas.{grows_on}
use Rattle.path_states.proofs.Growth.{numbers_grown}
use Rattle.path_codes.proofs.Functions.{walks_body, body_joined}
use Rattle.path_codes.proofs.bodies.walk_function.Goals as goal
use Rattle.path_forms.proofs.Started.{stays_on}

pub pass_all-requires-clause-states : goal.pass_all-requires-clause-states
pass_all-requires-clause-states g c =
    let born = rw c.as_slice-4.ensures at c.in_ok-born.ensures in
    let fit = rw c.as_slice.ensures at c.in_ok-check_fit.ensures in
    (born c.args.room [] fit).states

pub pass_all-requires-clause-arguments : goal.pass_all-requires-clause-arguments
pass_all-requires-clause-arguments g c =
    let born = rw c.as_slice-4.ensures at c.in_ok-born.ensures in
    let fit = rw c.as_slice.ensures at c.in_ok-check_fit.ensures in
    numbers_grown (born c.args.room [] fit).grows c.args.arguments.now c.requires.arguments

pub walk_items-requires-clause-ready : goal.walk_items-requires-clause-ready
walk_items-requires-clause-ready g c =
    let born = rw c.as_slice-4.ensures at c.in_ok-born.ensures in
    let fit = rw c.as_slice.ensures at c.in_ok-check_fit.ensures in
    stays_on (stays_on c.requires.ready (born c.args.room [] fit).grows) c.in_ok-given.ensures.grows

pub walk_items-requires-clause-states : goal.walk_items-requires-clause-states
walk_items-requires-clause-states g c = rw c.as_slice-7.ensures c.in_ok-given.ensures.states

pub bury-requires : goal.bury-requires
bury-requires g c = rw c.as_slice-9.ensures c.in_ok-ran.ensures.states

pub join-requires : goal.join-requires
join-requires g c =
    let fit = rw c.as_slice.ensures at c.in_ok-check_fit.ensures in
    let dead = rw (c.as_slice-8.ensures, c.as_slice-9.ensures) at c.in_ok-dead.ensures in
    rw c.as_slice-11.ensures ((rw c.as_slice-10.ensures at c.in_ok-back.ensures) c.args.room _ (dead c.args.room fit).states).states

pub returns : goal.returns
returns g c =
    let made = rw (c.as_slice-parameters.ensures, c.new-objects.ensures) at c.in_ok-add_parameters.ensures in
    let fit = rw c.as_slice.ensures at c.in_ok-check_fit.ensures in
    let inner = rw (c.as_slice-2.ensures, c.new-none.ensures, c.as_slice-3.ensures) at c.in_ok-frame.ensures in
    let born = rw c.as_slice-4.ensures at c.in_ok-born.ensures in
    let given = rw c.as_slice-parameters.ensures at c.in_ok-given.ensures in
    let ran = rw (c.as_slice-5.ensures, c.as_slice-6.ensures, c.as_slice-7.ensures) at c.in_ok-ran.ensures in
    let dead = rw (c.as_slice-8.ensures, c.as_slice-9.ensures) at c.in_ok-dead.ensures in
    let back = (rw c.as_slice-10.ensures at c.in_ok-back.ensures) c.args.room _ (dead c.args.room fit).states in
    let all = (rw c.as_slice-11.ensures at c.in_ok-all.ensures) c.args.room in
    body_joined (g.C.Calls.around c.args.scene.now) c.args.room c.args.function.now c.args.arguments.now c.args.bank.now _ _ c.args.states.now _ _
    (walks_body (g.C.Calls.around c.args.scene.now) c.args.room c.args.function.now c.args.arguments.now _ _ _ c.args.bank.now _ _ _ _ _ c.args.states.now _ _ _ _
    c.in_ok-ran.field-0 made fit inner (ap length c.as_slice-parameters.ensures) born given ran dead back) all
