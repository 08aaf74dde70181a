use Rattle.std.proofs.Common.{arith}
use Rattle.path_codes.proofs.Stored.{stores_by}
use Rattle.path_codes.proofs.storing.store.Goals as goal

pub leaf-requires-clause-ready : goal.leaf-requires-clause-ready
leaf-requires-clause-ready c = record { going = c.requires }

pub leaf-requires-5-clause-leaf : goal.leaf-requires-5-clause-leaf
leaf-requires-5-clause-leaf c = (c.is_storable.ensures c.if-not-is_storable.false).scalar

pub returns : goal.returns
returns c =
    let first = rw c.new.ensures at c.in_ok-leaf.ensures in
    let passed = (rw c.as_slice.ensures at c.in_ok-passed.ensures) c.args.room _ c.in_ok-leaf-6.ensures.ready.going in
    stores_by c.args.room c.args.object c.args.bytes c.args.stored c.args.bank.now _ _ _ _ _ _ c.args.states _ _ _ _ _ _ _
    c.requires (omega arith) (c.is_storable.ensures c.if-not-is_storable.false) first c.in_ok-leaf-2.ensures c.in_ok-leaf-3.ensures
    c.in_ok-leaf-4.ensures c.in_ok-leaf-5.ensures c.in_ok-leaf-6.ensures passed
