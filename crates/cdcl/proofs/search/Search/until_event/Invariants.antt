use Rattle.std.proofs.Common.{◌≡◌, length}
use Rattle.cdcl.specs.Known.{open_count}
use Rattle.cdcl.specs.Searches.{IsReady}
use Rattle.cdcl.specs.Guards.{Guards}
use Rattle.cdcl.proofs.search.Search.until_event.Given as goal

abbrev pub invariant-decisions : goal.invariant-decisions
invariant-decisions g l = record {
  ready : IsReady l.self;
  guards : Guards (length l.self.clauses.given) l.self.followed l.self;
  same : l.self.clauses ≡ l.fn.self.clauses;
}

abbrev pub decreases-decisions : goal.decreases-decisions
decreases-decisions g l = open_count l.self.trail.taken.items
