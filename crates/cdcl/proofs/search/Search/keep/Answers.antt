use Rattle.std.proofs.Common.{vec_len}
use Rattle.cdcl.proofs.Lessons.{trail-grown, one-fits}
use Rattle.cdcl.proofs.search.Search.keep.Goals as goal

pub returns-clause-ready : goal.returns-clause-ready
returns-clause-ready c =
    let s = c.requires.ready in
    record {
      learnt = c.in_ok-learn.ensures.learnt;
      trail = trail-grown c.args.self.now.clauses c.learn.new.self c.args.self.now.trail (c.in_ok-learn.ensures.names) s.trail;
      fits = rw (c.in_ok-learn.ensures.given) s.fits;
      learnt_fit = one-fits (vec_len c.args.self.now.trail.levels) c.args.self.now.clauses c.learn.new.self c.args.lesson.now.clause.items (c.in_ok-learn.ensures.last) s.learnt_fit c.requires.fits;
      begun = s.begun;
      assumed_fit = rw (c.in_ok-learn.ensures.assumed) s.assumed_fit;
      holds = rw c.in_ok-learn.ensures.assumed s.holds;
    }
