use Rattle.std.proofs.Common.{arith}
use Rattle.cdcl.proofs.Resting.{rests-spent}
use Rattle.cdcl.proofs.search.Search.answer.Goals as goal

pub returns-then-conflicts-eq0-clause-spent : goal.returns-then-conflicts-eq0-clause-spent
returns-then-conflicts-eq0-clause-spent g c =
    let e = c.in_ok-trail.ensures in
    rests-spent c.args.self.now c.in_ok-trail.trail.kept c.in_ok-trail.trail.steps c.len.result c.args.conflicts c.requires c.len.ensures e.kept e.steps (omega (arith, c.if-conflicts-eq0.true))
