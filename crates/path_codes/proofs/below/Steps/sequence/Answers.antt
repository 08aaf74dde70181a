use Rattle.path_codes.proofs.Sequences.{sequence_start, sequence_next, sequence_end, rest_of, none_left}
use Rattle.path_codes.proofs.below.Steps.sequence.Goals as goal

pub loop-item-init : goal.loop-item-init
loop-item-init g c =
    sequence_start (g.C.Calls.around c.args.self.now.scene.now) c.args.frame.now c.args.self.now.room (g.C.Calls.ready c.args.self.now.scene.now) c.args.items.now c.args.bank.now c.args.states.now _ c.args.place c.requires.ready (c.in_ok-ran.ensures c.args.self.now.room c.args.bank.now c.requires.states)

pub part-requires-clause-ready : goal.part-requires-clause-ready
part-requires-clause-ready g c =
    c.loop-item.invariant.begun

pub part-requires-clause-states : goal.part-requires-clause-states
part-requires-clause-states g c =
    rw c.as_slice.ensures c.loop-item.invariant.states

pub loop-item-preserved : goal.loop-item-preserved
loop-item-preserved g c =
    let walked = rw (c.get.ensures, c.as_slice.ensures) at c.in_ok-now.ensures in
    sequence_next (g.C.Calls.around c.args.self.now.scene.now) c.args.frame.now c.args.self.now.room (g.C.Calls.ready c.args.self.now.scene.now) c.args.items.now _ _ c.item-item.result c.args.bank.now _ _ c.args.states.now _ c.args.place c.loop-item.next c.in_ok-now.field-0
    (rest_of c.args.items.now c.loop-item.item-index c.item-item.result c.loop-item-test.true c.item-item.is) c.loop-item.invariant walked

pub returns : goal.returns
returns g c =
    sequence_end (g.C.Calls.around c.args.self.now.scene.now) c.args.frame.now c.args.self.now.room (g.C.Calls.ready c.args.self.now.scene.now) c.args.items.now _ c.args.bank.now _ c.args.states.now _ c.args.place c.loop-item.next
    (none_left c.args.items.now c.loop-item.item-index c.loop-item-test.false) c.loop-item.invariant
