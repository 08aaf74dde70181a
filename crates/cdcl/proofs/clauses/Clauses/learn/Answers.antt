use Rattle.std.proofs.Common.{◌∙◌}
use Rattle.proof_check.specs.Steps.{Step}
use Rattle.cdcl.proofs.Lessons.{learnt-push, names-push, one-more, appends-step}
use Rattle.cdcl.proofs.clauses.Clauses.learn.Goals as goal

pub returns-clause-learnt : goal.returns-clause-learnt
returns-clause-learnt c =
    let step : Step = record { clause = c.deref-2.result.now; hints = c.deref-3.result.now } in
    learnt-push c.args.self.now c.args.lesson.now.clause.items c.args.lesson.now.hints.items step c.push.new.self c.requires.learnt c.requires.room c.deref-2.ensures.value
    (c.deref-3.ensures.value ∙ rw (c.deref.ensures.value, c.len.ensures) at c.in_ok-hints.ensures) c.requires.valid c.requires.apart c.requires.occurs c.in_ok-push.ensures.ok

pub returns-clause-names : goal.returns-clause-names
returns-clause-names c =
    let step : Step = record { clause = c.deref-2.result.now; hints = c.deref-3.result.now } in
    names-push c.args.self.now step c.push.new.self c.in_ok-push.ensures.ok

pub returns-clause-last : goal.returns-clause-last
returns-clause-last c =
    let step : Step = record { clause = c.deref-2.result.now; hints = c.deref-3.result.now } in
    one-more c.args.self.now step c.args.lesson.now.clause.items c.push.new.self c.deref-2.ensures.value c.in_ok-push.ensures.ok

pub returns-clause-appends : goal.returns-clause-appends
returns-clause-appends c =
    let step : Step = record { clause = c.deref-2.result.now; hints = c.deref-3.result.now } in
    appends-step c.args.self.now c.args.lesson.now.clause.items step c.push.new.self c.deref-2.ensures.value c.in_ok-push.ensures.ok c.requires.fresh
