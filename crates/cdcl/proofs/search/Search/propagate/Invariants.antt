use Rattle.std.proofs.Common.{◌+◌, ◌-◌, length}
use Rattle.cdcl.specs.Known.{open_count}
use Rattle.cdcl.specs.Searches.{IsReady, Goes}
use Rattle.cdcl.specs.Guards.{Guards}
use Rattle.cdcl.proofs.search.Search.propagate.Given as goal

abbrev pub invariant-entries : goal.invariant-entries
invariant-entries l = record {
  ready : IsReady l.self;
  goes : Goes l.fn.self l.self;
  guards : Guards (length l.self.clauses.given) l.next l.self;
}

abbrev pub decreases-entries : goal.decreases-entries
decreases-entries l = open_count l.self.trail.taken.items + length l.self.trail.entries.items - l.next
