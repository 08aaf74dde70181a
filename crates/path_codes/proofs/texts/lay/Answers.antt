use Rattle.std.proofs.Common.{arith}
use Rattle.c_means.specs.Initials.{text_byte}
use Rattle.path_codes.proofs.Laid.{lays_at}
use Rattle.path_codes.proofs.texts.lay.Goals as goal

pub then_each-requires-clause-states : goal.then_each-requires-clause-states
then_each-requires-clause-states c = c.in_ok-placed.ensures.going

pub lay_all-requires : goal.lay_all-requires
lay_all-requires c = rw c.as_slice.ensures c.in_ok-there.ensures.going

pub returns : goal.returns
returns c =
    let laid = rw c.as_slice.ensures at c.in_ok-laid.ensures in
    lays_at c.args.room c.args.object c.args.bytes c.args.size (text_byte c.args.text.now) c.args.bank.now _ _ _ c.args.states.now _
    c.in_ok-placed.placed c.in_ok-there.there (omega arith) (omega arith) c.in_ok-placed.ensures c.in_ok-there.ensures laid
