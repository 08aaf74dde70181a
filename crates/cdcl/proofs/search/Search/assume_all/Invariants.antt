use Rattle.std.proofs.Common.{◌≡◌, ◌≤◌, length}
use Rattle.cdcl.specs.Known.{open_count}
use Rattle.cdcl.specs.Searches.{IsSearch}
use Rattle.cdcl.specs.Guards.{Guards}
use Rattle.cdcl.proofs.search.Search.assume_all.Given as goal

abbrev pub invariant-loop-index : goal.invariant-loop-index
invariant-loop-index l = record {
  search : IsSearch l.index l.self;
  guards : Guards (length l.self.clauses.given) l.self.followed l.self;
  same : l.self.clauses ≡ l.fn.self.clauses;
  level : l.self.trail.level ≡ 1;
  fewer : open_count l.self.trail.taken.items ≤ open_count l.fn.self.trail.taken.items;
}
