use Rattle.std.proofs.Common.{refl}
use Rattle.cdcl.proofs.Entries.{next-begun, next-above, extends-push}
use Rattle.cdcl.proofs.Searching.{held-more, taken}
use Rattle.cdcl.proofs.search.Search.take.Goals as goal

pub returns-clause-search : goal.returns-clause-search
returns-clause-search c = λ held s next.
    let e = c.args.entry in
    let entries = c.args.self.now.trail.entries.items in
    record {
      learnt = s.learnt;
      trail = c.in_ok-push.ensures.trail c.args.self.now.clauses s.trail next;
      fits = rw c.in_ok-push.ensures.room s.fits;
      learnt_fit = rw c.in_ok-push.ensures.room s.learnt_fit;
      assumed_fit = rw c.in_ok-push.ensures.room s.assumed_fit;
      holds = rw (c.in_ok-push.ensures.entries, c.in_ok-push.ensures.level) (λ one. held-more held c.args.self.now.clauses.assumed entries _ (extends-push entries e) (s.holds (next-above c.args.self.now.clauses c.args.self.now.trail e next one)));
      begun = rw (c.in_ok-push.ensures.entries, c.in_ok-push.ensures.level) (next-begun c.args.self.now.clauses c.args.self.now.trail e next);
    }

pub returns-clause-goes : goal.returns-clause-goes
returns-clause-goes c = λ level reason. taken c.args.self.now _ c.args.entry c.in_ok-push.ensures.entries refl c.in_ok-push.ensures.room c.in_ok-push.ensures.fewer c.in_ok-push.ensures.level refl level reason
