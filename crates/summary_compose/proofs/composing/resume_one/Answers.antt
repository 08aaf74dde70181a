use Rattle.path_states.proofs.Growth.{maybe_grown}
use Rattle.summary_compose.proofs.Resumed.{resumes_ended, resumes_given}
use Rattle.summary_compose.proofs.composing.resume_one.Goals as goal

pub returns-then-has_ended : goal.returns-then-has_ended
returns-then-has_ended c =
    rw (c.in_ok-walked.ensures, c.in_ok-kind.ensures)
    (resumes_ended _ _ c.args.site c.args.caller.now c.args.end.now c.in_ok-next.next c.requires.end.kind
    (c.has_ended.ensures.ended c.if-has_ended.true) c.in_ok-next.ensures)

pub give-requires-clause-value : goal.give-requires-clause-value
give-requires-clause-value c = maybe_grown c.in_ok-next.ensures.grows c.args.end.now.value c.requires.end.value

pub returns : goal.returns
returns c =
    resumes_given _ _ _ c.args.site c.args.caller.now c.args.end.now c.in_ok-next.next c.in_ok-walked-2.walked
    (c.has_ended.ensures.on c.if-has_ended.false) c.in_ok-next.ensures c.in_ok-walked-2.ensures
