use Rattle.std.proofs.Common.{◌∙◌, ap, length, arith, refl}
use Rattle.cdcl.proofs.Lessons.{appends-more}
use Rattle.cdcl.proofs.Spending.{Spends, spending, kept-whole, keeps-more}
use Rattle.cdcl.proofs.search.Search.run.Goals as goal

pub loop-met-preserved : goal.loop-met-preserved
loop-met-preserved g c =
    let i = c.loop-met.invariant in
    let e = c.in_ok-until_event.ensures in
    let l = c.in_ok-learn_on-in-Conflict.ensures in
    let same = ap (λ t. length t.learnt) e.clauses in
    record {
      ready = l.ready;
      guards = l.guards;
      appends = appends-more c.args.self.now.clauses c.loop-met.self.clauses c.until_event.new.self.clauses c.learn_on.new.self.clauses i.appends e.clauses l.appends;
      count = omega (arith, i.count, l.more, same);
      kept = i.kept;
      given = l.given ∙ ap (λ t. t.given) e.clauses ∙ i.given;
      assumed = l.assumed ∙ ap (λ t. t.assumed) e.clauses ∙ i.assumed;
    }

pub returns-clause-spent : goal.returns-clause-spent
returns-clause-spent g c =
    let i = c.loop-met.invariant in
    let s = c.loop-met.self in
    let p : Spends c.args.self.now.clauses.given c.in_ok-trail.trail.kept c.in_ok-trail.trail.steps c.args.conflicts = spending c.args.self.now.clauses s.clauses c.in_ok-trail.trail.kept c.in_ok-trail.trail.steps c.len-kept.result c.args.conflicts i.appends i.ready.learnt i.kept (omega (arith, i.count, c.loop-met-test.false)) c.in_ok-trail.ensures.kept c.in_ok-trail.ensures.steps in
    (p.trail, p.kept_tidy, p.steps_tidy, p.count)

pub returns-clause-kept : goal.returns-clause-kept
returns-clause-kept g c =
    let i = c.loop-met.invariant in
    let e = c.in_ok-trail.ensures in
    kept-whole c.args.self.now.clauses c.loop-met.self.clauses c.in_ok-trail.trail.kept c.in_ok-trail.trail.steps c.len-kept.result i.appends i.kept e.kept e.steps

pub returns-clause-keeps : goal.returns-clause-keeps
returns-clause-keeps g c = keeps-more c.args.self.now.clauses c.loop-met.self.clauses c.loop-met.self.clauses c.loop-met.invariant.appends refl

pub returns-in-Satisfied-clause-keeps : goal.returns-in-Satisfied-clause-keeps
returns-in-Satisfied-clause-keeps g c = keeps-more c.args.self.now.clauses c.loop-met.self.clauses c.until_event.new.self.clauses c.loop-met.invariant.appends c.in_ok-until_event.ensures.clauses

pub returns-clause-fresh : goal.returns-clause-fresh
returns-clause-fresh g c =
    let i = c.loop-met.invariant in
    let s = c.loop-met.self in
    let p : Spends c.args.self.now.clauses.given c.in_ok-trail.trail.kept c.in_ok-trail.trail.steps c.args.conflicts = spending c.args.self.now.clauses s.clauses c.in_ok-trail.trail.kept c.in_ok-trail.trail.steps c.len-kept.result c.args.conflicts i.appends i.ready.learnt i.kept (omega (arith, i.count, c.loop-met-test.false)) c.in_ok-trail.ensures.kept c.in_ok-trail.ensures.steps in
    p.fresh

pub returns-clause-few : goal.returns-clause-few
returns-clause-few g c =
    let i = c.loop-met.invariant in
    let s = c.loop-met.self in
    let p : Spends c.args.self.now.clauses.given c.in_ok-trail.trail.kept c.in_ok-trail.trail.steps c.args.conflicts = spending c.args.self.now.clauses s.clauses c.in_ok-trail.trail.kept c.in_ok-trail.trail.steps c.len-kept.result c.args.conflicts i.appends i.ready.learnt i.kept (omega (arith, i.count, c.loop-met-test.false)) c.in_ok-trail.ensures.kept c.in_ok-trail.ensures.steps in
    p.few
