use Rattle.std.proofs.Common.{arith}
use Rattle.path_calls.proofs.OutsideTrials.{replied}
use Rattle.path_calls.proofs.outside_calls.answered.Goals as goal

pub returns : goal.returns
returns c =
    let begins = rw c.in_ok-now.ensures at c.in_ok-arguments.ensures in
    replied c.args.bounds.now c.args.room c.args.bank.now c.begin.new.bank c.answer_outside.new.bank c.answer.new.bank c.args.state.now c.begin.new.state
    c.args.site c.in_ok-arguments.arguments c.args.answers c.in_ok-reply.reply c.in_ok-walked.walked
    (omega (arith, c.if-room-lt-PLACES.false, c.if-room-site.false)) begins c.in_ok-reply.ensures c.in_ok-walked.ensures
