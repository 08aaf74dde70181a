use Rattle.sherlog.specs.Inputs.{asked_in}
use Rattle.sherlog.proofs.Calls.{tells_as}
use Rattle.sherlog.proofs.lines.tell_refusal.Goals as goal

pub returns-in-Ok : goal.returns-in-Ok
returns-in-Ok g c =
    tells_as (asked_in c.args.request.now) c.args.refusal.now (g.E.Sink.state c.args.err.now)
    (g.E.Sink.state c.tell-in-Ok.new.out) c.status.result c.in_default.not-Fault
    (record { is_status = c.status.ensures; told = rw (c.as_slice.ensures, c.in-Ok.ensures) at c.tell-in-Ok.ensures })
