use Rattle.std.proofs.Common.{◌≤◌, length}
use Rattle.cdcl.specs.Searches.{IsReady, Goes}
use Rattle.cdcl.specs.Guards.{Guards}
use Rattle.cdcl.proofs.search.Search.enter_given.Given as goal

abbrev pub invariant-loop-index : goal.invariant-loop-index
invariant-loop-index l = record {
  ready : IsReady l.self;
  goes : Goes l.fn.self l.self;
  within : l.index ≤ length l.self.clauses.given;
  guards : Guards l.index l.self.followed l.self;
}
