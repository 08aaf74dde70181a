use Rattle.path_codes.proofs.Functions.{passes_one}
use Rattle.path_codes.proofs.bodies.pass_one.Goals as goal

pub store-requires : goal.store-requires
store-requires c = ((rw c.as_slice.ensures at c.in_ok-held.ensures) c.args.room _ c.requires.states (c.requires.arguments.0, tt)).states

pub returns : goal.returns
returns c =
    let held = (rw c.as_slice.ensures at c.in_ok-held.ensures) c.args.room c.args.bank.now c.requires.states (c.requires.arguments.0, tt) in
    passes_one c.args.room c.args.stored c.args.argument c.args.offset c.args.more.now c.args.bank.now _ c.args.states _ _
    c.requires.arguments.1 held c.in_ok-set.ensures
