use Rattle.std.proofs.Common.{arith}
use Rattle.core_tree.specs.States.{running}
use Rattle.path_states.proofs.Growth.{states_grown, states_joined}
use Rattle.path_codes.specs.Walks.{turns_arrow}
use Rattle.path_codes.proofs.Sequences.{turns_start, turn_next, turns_done}
use Rattle.path_codes.proofs.below.Steps.turns.Goals as goal

pub turns-init : goal.turns-init
turns-init g c =
    rw (c.new-over.ensures, c.turns-left.ensures)
    (turns_start c.args.self.now.room (g.C.Calls.ready c.args.self.now.scene.now) c.args.bank.now c.args.states.now _ (λ e. running (turns_arrow (g.C.Calls.around c.args.self.now.scene.now) c.args.frame.now c.args.at c.args.test.now c.args.body.now c.args.step.now (g.C.Calls.around c.args.self.now.scene.now).measures.turns c.args.place e)) c.requires.ready (c.in_ok-on.ensures c.args.self.now.room c.args.bank.now c.requires.states))

pub turn-requires-clause-ready : goal.turn-requires-clause-ready
turn-requires-clause-ready g c =
    c.turns.invariant.begun

pub turn-requires-clause-states : goal.turn-requires-clause-states
turn-requires-clause-states g c =
    rw c.as_slice.ensures c.turns.invariant.on

pub rejoin-requires-clause-first : goal.rejoin-requires-clause-first
rejoin-requires-clause-first g c =
    states_grown c.in_ok-ended.ensures.grows c.turns.over c.turns.invariant.over

pub rejoin-requires-clause-second : goal.rejoin-requires-clause-second
rejoin-requires-clause-second g c =
    c.in_ok-ended.ensures.over

pub turns-preserved : goal.turns-preserved
turns-preserved g c =
    let turned = rw c.as_slice.ensures at c.in_ok-ended.ensures in
    turn_next (g.C.Calls.around c.args.self.now.scene.now) c.args.frame.now c.args.self.now.room c.args.at c.args.test.now c.args.body.now c.args.step.now (g.C.Calls.ready c.args.self.now.scene.now) c.args.bank.now c.args.states.now _ _ _ _ _ _ c.turns.left c.turns.next c.in_ok-ended.field-0
    (λ e. running (turns_arrow (g.C.Calls.around c.args.self.now.scene.now) c.args.frame.now c.args.at c.args.test.now c.args.body.now c.args.step.now (g.C.Calls.around c.args.self.now.scene.now).measures.turns c.args.place e)) (omega arith) c.turns.invariant turned (c.in_ok-over.ensures c.args.self.now.room)

pub test-requires-clause-ready : goal.test-requires-clause-ready
test-requires-clause-ready g c =
    c.turns.invariant.begun

pub test-requires-clause-states : goal.test-requires-clause-states
test-requires-clause-states g c =
    rw c.as_slice-2.ensures c.turns.invariant.on

pub rejoin-requires-2-clause-first : goal.rejoin-requires-2-clause-first
rejoin-requires-2-clause-first g c =
    rw c.in_ok-append.ensures.ok (states_joined _ c.turns.over c.in_ok-last.field-0.over
    (states_grown c.in_ok-last.ensures.grows c.turns.over c.turns.invariant.over) c.in_ok-last.ensures.over)

pub rejoin-requires-2-clause-second : goal.rejoin-requires-2-clause-second
rejoin-requires-2-clause-second g c =
    ((rw c.as_slice-3.ensures at c.in_ok-gone.ensures) c.args.self.now.room _ c.in_ok-last.ensures.on).states

pub returns : goal.returns
returns g c =
    let tested = rw c.as_slice-2.ensures at c.in_ok-last.ensures in
    let gone = (rw c.as_slice-3.ensures at c.in_ok-gone.ensures) c.args.self.now.room _ c.in_ok-last.ensures.on in
    let all = (rw c.in_ok-append.ensures.ok at c.in_ok-all.ensures) c.args.self.now.room in
    turns_done (g.C.Calls.around c.args.self.now.scene.now) c.args.frame.now c.args.self.now.room c.args.at c.args.test.now c.args.body.now c.args.step.now (g.C.Calls.ready c.args.self.now.scene.now) c.args.bank.now c.args.states.now _ _ _ _ _ _ _ c.turns.left c.turns.next c.in_ok-last.field-0
    (λ e. running (turns_arrow (g.C.Calls.around c.args.self.now.scene.now) c.args.frame.now c.args.at c.args.test.now c.args.body.now c.args.step.now (g.C.Calls.around c.args.self.now.scene.now).measures.turns c.args.place e)) (omega arith) c.turns.invariant tested gone all
