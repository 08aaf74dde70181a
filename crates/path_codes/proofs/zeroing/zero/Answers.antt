use Rattle.std.proofs.Common.{arith}
use Rattle.path_codes.proofs.Zeroed.{zeroes}
use Rattle.path_codes.proofs.zeroing.zero.Goals as goal

pub zero_all-requires : goal.zero_all-requires
zero_all-requires c = rw c.as_slice.ensures c.in_ok-placed.ensures.going

pub returns : goal.returns
returns c =
    let zeroed = rw c.as_slice.ensures at c.in_ok-zeroed.ensures in
    zeroes c.args.room c.args.object c.args.size c.args.bank.now _ _ c.args.states.now _ c.in_ok-placed.placed (omega arith) (omega arith)
    c.in_ok-placed.ensures zeroed
