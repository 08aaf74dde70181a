use Rattle.std.proofs.Common.{arith}
use Rattle.path_states.proofs.Growth.{states_grown}
use Rattle.path_codes.specs.Walks.{rounds_arrow}
use Rattle.path_codes.proofs.Sequences.{turns_start, round_next, rounds_done}
use Rattle.path_codes.proofs.below.Steps.rounds.Goals as goal

pub rounds-init : goal.rounds-init
rounds-init g c =
    rw (c.new-over.ensures, c.turns-left.ensures)
    (turns_start c.args.self.now.room (g.C.Calls.ready c.args.self.now.scene.now) c.args.bank.now c.args.states.now _ (rounds_arrow (g.C.Calls.around c.args.self.now.scene.now) c.args.frame.now c.args.at c.args.body.now c.args.test.now (g.C.Calls.around c.args.self.now.scene.now).measures.turns c.args.place) c.requires.ready (c.in_ok-on.ensures c.args.self.now.room c.args.bank.now c.requires.states))

pub round-requires-clause-ready : goal.round-requires-clause-ready
round-requires-clause-ready g c =
    c.rounds.invariant.begun

pub round-requires-clause-states : goal.round-requires-clause-states
round-requires-clause-states g c =
    rw c.as_slice.ensures c.rounds.invariant.on

pub rejoin-requires-clause-first : goal.rejoin-requires-clause-first
rejoin-requires-clause-first g c =
    states_grown c.in_ok-ended.ensures.grows c.rounds.over c.rounds.invariant.over

pub rejoin-requires-clause-second : goal.rejoin-requires-clause-second
rejoin-requires-clause-second g c =
    c.in_ok-ended.ensures.over

pub rounds-preserved : goal.rounds-preserved
rounds-preserved g c =
    let turned = rw c.as_slice.ensures at c.in_ok-ended.ensures in
    round_next (g.C.Calls.around c.args.self.now.scene.now) c.args.frame.now c.args.self.now.room c.args.at c.args.body.now c.args.test.now (g.C.Calls.ready c.args.self.now.scene.now) c.args.bank.now c.args.states.now _ _ _ _ _ _ c.rounds.left c.rounds.next c.in_ok-ended.field-0
    (rounds_arrow (g.C.Calls.around c.args.self.now.scene.now) c.args.frame.now c.args.at c.args.body.now c.args.test.now (g.C.Calls.around c.args.self.now.scene.now).measures.turns c.args.place) (omega arith) c.rounds.invariant turned (c.in_ok-over.ensures c.args.self.now.room)

pub rejoin-requires-2-clause-first : goal.rejoin-requires-2-clause-first
rejoin-requires-2-clause-first g c =
    c.rounds.invariant.over

pub rejoin-requires-2-clause-second : goal.rejoin-requires-2-clause-second
rejoin-requires-2-clause-second g c =
    ((rw c.as_slice-2.ensures at c.in_ok-gone.ensures) c.args.self.now.room _ c.rounds.invariant.on).states

pub returns : goal.returns
returns g c =
    let gone = (rw c.as_slice-2.ensures at c.in_ok-gone.ensures) c.args.self.now.room _ c.rounds.invariant.on in
    rounds_done (g.C.Calls.around c.args.self.now.scene.now) c.args.frame.now c.args.self.now.room c.args.at c.args.body.now c.args.test.now (g.C.Calls.ready c.args.self.now.scene.now) c.args.bank.now c.args.states.now _ _ _ _ _ _ c.rounds.left c.rounds.next
    (rounds_arrow (g.C.Calls.around c.args.self.now.scene.now) c.args.frame.now c.args.at c.args.body.now c.args.test.now (g.C.Calls.around c.args.self.now.scene.now).measures.turns c.args.place) (omega arith) c.rounds.invariant gone (c.in_ok-all.ensures c.args.self.now.room)
