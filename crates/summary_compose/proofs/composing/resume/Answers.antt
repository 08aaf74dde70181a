use Rattle.std.proofs.lemmas.List.{take_all}
use Rattle.path_states.proofs.Growth.{state_grown}
use Rattle.path_states.proofs.Paths.{item_of, more_of}
use Rattle.summary_compose.proofs.Resumed.{resumes_none, resumes_more}
use Rattle.summary_compose.proofs.composing.resume.Goals as goal

pub loop-end-init : goal.loop-end-init
loop-end-init c = rw (c.new.ensures, c.new-2.ensures) (resumes_none c.args.bank.now c.args.site c.args.caller.now)

pub resume_one-requires-clause-caller : goal.resume_one-requires-clause-caller
resume_one-requires-clause-caller c = state_grown c.loop-end.invariant.grows c.args.caller.now c.requires.caller

pub resume_one-requires-clause-end : goal.resume_one-requires-clause-end
resume_one-requires-clause-end c =
    state_grown c.loop-end.invariant.grows c.end-item.result
    (item_of _ c.loop-end.end-index c.args.ends.now c.end-item.result c.requires.ends c.loop-end-test.true c.end-item.is)

pub loop-end-preserved : goal.loop-end-preserved
loop-end-preserved c =
    rw (
      c.in_ok-append.ensures.ok,
      c.in_ok-append-2.ensures.ok,
      more_of c.args.ends.now c.loop-end.end-index c.end-item.result c.loop-end-test.true c.end-item.is,
    )
    (resumes_more _ _ _ c.args.site c.args.caller.now _ c.end-item.result _ _ c.loop-end.invariant c.in_ok-going.ensures)

pub returns : goal.returns
returns c = rw (take_all c.loop-end.end-index c.args.ends.now c.loop-end-test.false) at c.loop-end.invariant
