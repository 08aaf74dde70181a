use Rattle.std.proofs.Common.{arith}
use Rattle.path_states.proofs.Growth.{state_grown}
use Rattle.path_calls.proofs.FillTrials.{fill_calls}
use Rattle.path_calls.proofs.outside_calls.filled.Goals as goal

pub answer_fill-requires-clause-place : goal.answer_fill-requires-clause-place
answer_fill-requires-clause-place c = omega (arith, c.if-room-lt-PLACES.false, c.if-room-site.false, c.ranges.room.fits)

pub settle_fill-requires-clause-state : goal.settle_fill-requires-clause-state
settle_fill-requires-clause-state c = state_grown c.in_ok-reply.ensures.grows c.begin.new.state c.in_ok-arguments.ensures.state

pub returns : goal.returns
returns c =
    let begins = rw c.in_ok-now.ensures at c.in_ok-arguments.ensures in
    fill_calls c.args.bounds.now c.args.room c.args.bank.now c.begin.new.bank c.answer_fill.new.bank c.settle_fill.new.bank c.args.state.now
    c.begin.new.state c.args.site c.in_ok-arguments.arguments c.args.answers c.args.fill c.in_ok-reply.reply c.in_ok-walked.walked
    (omega (arith, c.if-room-lt-PLACES.false, c.if-room-site.false)) begins c.in_ok-reply.ensures c.in_ok-walked.ensures
