use Rattle.std.proofs.Common.{◌≡◌, ◌+◌, length}
use Rattle.cdcl.specs.Searches.{IsReady, Appends}
use Rattle.cdcl.specs.Guards.{Guards}
use Rattle.cdcl.proofs.search.Search.run.Given as goal

abbrev pub invariant-loop-met : goal.invariant-loop-met
invariant-loop-met g l = record {
  ready : IsReady l.self;
  guards : Guards (length l.self.clauses.given) l.self.followed l.self;
  appends : Appends l.fn.self.clauses l.self.clauses;
  count : length l.self.clauses.learnt ≡ l.kept + l._met;
  kept : l.kept ≡ length l.fn.self.clauses.learnt;
  given : l.self.clauses.given ≡ l.fn.self.clauses.given;
  assumed : l.self.clauses.assumed ≡ l.fn.self.clauses.assumed;
}
